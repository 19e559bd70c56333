-- CLEAN IFF WHOLE: a file reads to a clean end exactly if it is whole.
use mathlib.Core.Path.{◌≡◌, refl, sym, ap, subst, ◌∙◌}
use mathlib.Core.Bool.{Bool, true, false, cond}
use mathlib.Core.List.{List, [], ◌∷◌, ◌++◌, append_assoc, append-nil}
use Prim.Native.Nat.{ℕ, zero, suc, ◌+◌, ◌≤◌}
use native.Mathlib.Omega.{arith}
use lib.ListN.{length, take, drop, length-append, length-take, length-drop, take-append-drop}
use lib.Seq.{take_at, drop_at, take-add}
use borrow.Author.Tests.{le-ltb, eq-eqb}
use Rattle.std.proofs.lemmas.Bool.Decides.{nat_tests}
use Rattle.wire.specs.Wire.{part, be32_at}
use Rattle.wire.proofs.Bools.{true_or_false}
use Rattle.types.specs.Types.{is_ok}
use Rattle.types.specs.declared.ErrorCode.TheVariants as error
use Rattle.flv.specs.Files.{start_refusal, start_error, Tag, tag_bytes, body_size, tag_error, first_tag, behind_tag, Reading, stopped, with_tag, tags_of, read_file}
use Rattle.flv.specs.Grammar.{AllWhole, none, also, tags_bytes, Start, WholeFile}
use Rattle.flv.specs.Claims.{clean, CleanIff}
use Rattle.flv.proofs.Tags.{first_split, tags_step, tags_none, first_whole, tags_whole}

-- WHOLE TAGS are read, and then what is behind them
abbrev pub with_tags : List Tag → Reading → Reading
with_tags ts r = record { tags = ts ++ r.tags; error = r.error }

pub tags_back : (ts : List Tag) → AllWhole ts → (s : List ℕ) → tags_of (tags_bytes ts ++ s) ≡ with_tags ts (tags_of s)
tags_back [] a s = refl
tags_back (t ∷ ts) (also w a) s =
    ap tags_of (append_assoc (tag_bytes t) (tags_bytes ts) s) ∙ tags_whole t w (tags_bytes ts ++ s) ∙ ap (with_tag t) (tags_back ts a s)

pub tags_all : (ts : List Tag) → AllWhole ts → tags_of (tags_bytes ts) ≡ clean ts
tags_all ts a =
    ap tags_of (sym (append-nil (tags_bytes ts))) ∙ tags_back ts a [] ∙ ap (with_tags ts) (tags_none tag_error) ∙ ap clean (append-nil ts)

-- AND ONLY SUCH: the bytes are the tags that were read and a rest at which the reading stops
pub record Sound (s : List ℕ) (r : Reading) : Type 0 where
  pub rest : List ℕ
  pub split : s ≡ tags_bytes r.tags ++ rest
  pub whole : AllWhole r.tags
  pub stops : tags_of rest ≡ stopped r.error
  pub done : r.error ≡ error.Ok → rest ≡ []

sound_none : Sound [] (tags_of [])
sound_none = subst (Sound []) (sym (tags_none tag_error)) (record { rest = []; split = refl; whole = none; stops = tags_none tag_error; done = λ e. refl })

sound_upto : (k : ℕ) (s : List ℕ) → length s ≤ k → Sound s (tags_of s)
sound_upto zero [] l = sound_none
sound_upto zero (x ∷ s) l = absurd (omega arith)
sound_upto (suc k) [] l = sound_none
sound_upto (suc k) (x ∷ s) l =
    let d = length-drop (15 + body_size (take 11 (x ∷ s))) (x ∷ s) in
    go (is_ok (tag_error (first_tag (x ∷ s)))) refl (tags_step tag_error (x ∷ s) (omega arith)) (sound_upto k (behind_tag (x ∷ s)) (omega arith))
  where
    go : (b : Bool) → is_ok (tag_error (first_tag (x ∷ s))) ≡ b
        → tags_of (x ∷ s) ≡ cond (is_ok (tag_error (first_tag (x ∷ s)))) (with_tag (first_tag (x ∷ s)) (tags_of (behind_tag (x ∷ s)))) (stopped (tag_error (first_tag (x ∷ s))))
        → Sound (behind_tag (x ∷ s)) (tags_of (behind_tag (x ∷ s))) → Sound (x ∷ s) (tags_of (x ∷ s))
    go true e p h =
        let q : tags_of (x ∷ s) ≡ with_tag (first_tag (x ∷ s)) (tags_of (behind_tag (x ∷ s))) = p ∙ rw e refl in
        subst (Sound (x ∷ s)) (sym q)
        (record {
          rest = h.rest;
          split =
              sym (first_split (x ∷ s))
              ∙ ap (λ (r : List ℕ). tag_bytes (first_tag (x ∷ s)) ++ r) h.split
              ∙ sym (append_assoc (tag_bytes (first_tag (x ∷ s))) (tags_bytes (tags_of (behind_tag (x ∷ s))).tags) h.rest);
          whole = also (first_whole (x ∷ s) e) h.whole;
          stops = h.stops;
          done = h.done;
        })
    go false e p h =
        let q : tags_of (x ∷ s) ≡ stopped (tag_error (first_tag (x ∷ s))) = p ∙ rw e refl in
        subst (Sound (x ∷ s)) (sym q)
        (record { rest = x ∷ s; split = refl; whole = none; stops = q; done = λ z. true_or_false (ap is_ok z) e })

pub sound : (s : List ℕ) → Sound s (tags_of s)
sound s = sound_upto (length s) s (omega arith)

-- THE START
pub start_sound : (file : List ℕ) → is_ok (start_error file) ≡ true → (Start (take 13 file)) × (13 ≤ length file)
unfolding start_error start_refusal
start_sound file e = (
  record {
    header = take 9 file;
    pointer = part file 9 4;
    bytes = take-add 9 4 file;
    nine = grind (arith, nat_tests, length-take {A = ℕ});
    right = grind (arith, nat_tests, length-take {A = ℕ});
    four = grind (arith, nat_tests, length-take {A = ℕ});
    zero = grind (arith, nat_tests, length-take {A = ℕ});
  },
  grind (arith, nat_tests, length-take {A = ℕ}, length-drop {A = ℕ}),
)

module _ (front : List ℕ) (h : Start front) where
  pub start_long : length front ≡ 13
  start_long = ap length h.bytes ∙ length-append h.header h.pointer ∙ omega (arith, h.nine, h.four)

  pub start_complete : (s : List ℕ) → start_error (front ++ s) ≡ error.Ok
  unfolding start_error start_refusal
  start_complete s =
      let p : front ++ s ≡ h.header ++ (h.pointer ++ s) = ap (λ (f : List ℕ). f ++ s) h.bytes ∙ append_assoc h.header h.pointer s in
      let a : take 9 (front ++ s) ≡ h.header = ap (take 9) p ∙ take_at h.header (h.pointer ++ s) 9 h.nine in
      let b : part (front ++ s) 9 4 ≡ h.pointer
      = ap (λ (q : List ℕ). take 4 (drop 9 q)) p ∙ ap (take 4) (drop_at h.header (h.pointer ++ s) 9 h.nine) ∙ take_at h.pointer s 4 h.four in
      rw (
        a,
        b,
        le-ltb (length h.header) 9 (omega (arith, h.nine)),
        h.right,
        le-ltb (length h.pointer) 4 (omega (arith, h.four)),
        eq-eqb (be32_at h.pointer 0) 0 h.zero,
      ) refl

  pub read_from : (s : List ℕ) → read_file (front ++ s) ≡ tags_of s
  unfolding read_file
  read_from s = rw (start_complete s, drop_at front s 13 start_long) refl

pub clean_iff_lem : CleanIff
unfolding CleanIff read_file
clean_iff_lem file ts = (only, all)
  where
    only : read_file file ≡ clean ts → WholeFile file ts
    only e = go (is_ok (start_error file)) refl e
      where
        go : (b : Bool) → is_ok (start_error file) ≡ b → cond b (tags_of (drop 13 file)) (stopped (start_error file)) ≡ clean ts → WholeFile file ts
        go true p q =
            let h = subst (Sound (drop 13 file)) q (sound (drop 13 file)) in
            record {
              front = take 13 file;
              start = (start_sound file p).0;
              tags = h.whole;
              bytes =
                  sym (take-append-drop 13 file)
                  ∙ ap (λ (r : List ℕ). take 13 file ++ r) (h.split ∙ ap (λ (r : List ℕ). tags_bytes ts ++ r) (h.done refl) ∙ append-nil (tags_bytes ts));
            }
        go false p q = true_or_false (ap (λ (r : Reading). is_ok r.error) q) p

    all : WholeFile file ts → read_file file ≡ clean ts
    all w = ap read_file w.bytes ∙ read_from w.front w.start (tags_bytes ts) ∙ tags_all ts w.tags
