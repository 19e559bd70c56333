-- CUT IFF and CUT FILE: where the bytes end inside a tag.
use mathlib.Core.Path.{◌≡◌, refl, sym, ap, ap₂, subst, ◌∙◌}
use mathlib.Core.Bool.{Bool, cond}
use mathlib.Core.List.{List, [], ◌∷◌, ◌++◌, append-nil}
use Prim.Native.Nat.{ℕ, zero, suc, ◌+◌, ◌-◌, ◌≤◌, ◌<◌}
use native.Mathlib.Decide.{dec_lt}
use native.Mathlib.Omega.{arith}
use lib.Dec.{eqb}
use lib.ListN.{length, take, length-append, length-take, length-drop}
use lib.Seq.{take_at, take-take, take-append-le, take-append-add, length-take-le}
use borrow.Author.Tests.{ne_eqb}
use Rattle.std.proofs.lemmas.Bool.Decides.{nat_tests}
use Rattle.types.specs.declared.ErrorCode.TheVariants as error
use Rattle.flv.specs.Files.{Tag, tag_bytes, body_size, tag_refusal, tag_error, first_tag, stopped, with_tag, tags_of, read_file}
use Rattle.flv.specs.Grammar.{Whole, AllWhole, also, tags_bytes}
use Rattle.flv.specs.Claims.{CutIff, CutFile}
use Rattle.flv.proofs.Tags.{cut_short, tags_step, tags_none, tags_whole, long_here}
use Rattle.flv.proofs.Readings.{start_long, read_from}

pub cut_iff_lem : CutIff
unfolding CutIff tag_refusal
cut_iff_lem s = (λ e. grind (arith, nat_tests, length-take {A = ℕ}, length-drop {A = ℕ}), λ e. grind (arith, nat_tests, length-take {A = ℕ}, length-drop {A = ℕ}))

-- A TAG CUT SHORT
module _ (t : Tag) (w : Whole t) (m : ℕ) (l : m < length (tag_bytes t)) where
  cut_long : length (take m (tag_bytes t)) ≡ m
  cut_long = length-take-le m (tag_bytes t) (omega arith)

  cut_size : 11 ≤ m → body_size (take 11 (take m (tag_bytes t))) ≡ length t.body
  cut_size k = ap body_size (take-take 11 m (tag_bytes t) k ∙ take_at t.head (t.body ++ t.pointer) 11 w.head) ∙ sym w.body

  cut_tag : tag_error (first_tag (take m (tag_bytes t))) ≡ error.Truncated
  cut_tag = go (dec_lt m 11)
    where
      go : Dec (m < 11) → tag_error (first_tag (take m (tag_bytes t))) ≡ error.Truncated
      go (yes k) = cut_short (take m (tag_bytes t)) (omega (arith, cut_long))
      go (no k) = cut_short (take m (tag_bytes t)) (omega (arith, cut_long, cut_size (omega arith), long_here t w []))

  cut_stops : 0 < m → tags_of (take m (tag_bytes t)) ≡ stopped error.Truncated
  cut_stops k = tags_step tag_error (take m (tag_bytes t)) (omega (arith, cut_long)) ∙ rw cut_tag refl

-- TAGS CUT SHORT
record CutTags (ts : List Tag) (m : ℕ) : Type 0 where
  kept : List Tag
  lost : List Tag
  split : ts ≡ kept ++ lost
  before : length (tags_bytes kept) ≤ m
  most : (t : Tag) (us : List Tag) → lost ≡ t ∷ us → m < length (tags_bytes (kept ++ t ∷ []))
  reading : tags_of (take m (tags_bytes ts)) ≡ record { tags = kept; error = cond (eqb m (length (tags_bytes kept))) error.Ok error.Truncated }

module _ (t : Tag) (w : Whole t) (ts : List Tag) where
  -- inside the first
  cut_first : (m : ℕ) → m < length (tag_bytes t) → CutTags (t ∷ ts) m
  cut_first m l =
      record {
        kept = [];
        lost = t ∷ ts;
        split = refl;
        before = omega arith;
        most = λ u us e. omega (arith, ap length (append-nil (tag_bytes u)), first_same u us e);
        reading = ap tags_of (take-append-le m (tag_bytes t) (tags_bytes ts) (omega arith)) ∙ go m l;
      }
    where
      first_same : (u : Tag) (us : List Tag) → t ∷ ts ≡ u ∷ us → length (tag_bytes u) ≡ length (tag_bytes t)
      first_same u us e = let p : u ≡ t = cc in ap (λ (x : Tag). length (tag_bytes x)) p

      go : (m : ℕ) → m < length (tag_bytes t) → tags_of (take m (tag_bytes t)) ≡ record { tags = []; error = cond (eqb m 0) error.Ok error.Truncated }
      go zero l = tags_none tag_error
      go (suc m) l = cut_stops t w (suc m) l (omega arith) ∙ rw (ne_eqb (suc m) 0 (λ z. omega arith)) refl

  -- behind it
  cut_later : (j : ℕ) → CutTags ts j → CutTags (t ∷ ts) (length (tag_bytes t) + j)
  cut_later j h =
      record {
        kept = t ∷ h.kept;
        lost = h.lost;
        split = ap (λ (us : List Tag). t ∷ us) h.split;
        before = omega (arith, length-append (tag_bytes t) (tags_bytes h.kept), h.before);
        most = λ u us e. omega (arith, length-append (tag_bytes t) (tags_bytes (h.kept ++ u ∷ [])), h.most u us e);
        reading =
            ap tags_of (take-append-add (tag_bytes t) (tags_bytes ts) j)
            ∙ tags_whole t w (take j (tags_bytes ts))
            ∙ ap (with_tag t) h.reading
            ∙ ap (λ (b : Bool). record { tags = t ∷ h.kept; error = cond b error.Ok error.Truncated }) same;
      }
    where
      same : eqb j (length (tags_bytes h.kept)) ≡ eqb (length (tag_bytes t) + j) (length (tags_bytes (t ∷ h.kept)))
      same = grind (arith, nat_tests, length-append (tag_bytes t) (tags_bytes h.kept))

cut_tags_lem : (ts : List Tag) → AllWhole ts → (m : ℕ) → m ≤ length (tags_bytes ts) → CutTags ts m
cut_tags_lem [] a m l =
    let z : m ≡ 0 = omega arith in
    subst (CutTags []) (sym z) (record { kept = []; lost = []; split = refl; before = omega arith; most = λ t us e. absurd (let q : ◌≡◌ {A = ℕ} 0 1 = cc in omega arith); reading = tags_none tag_error })
cut_tags_lem (t ∷ ts) (also w a) m l = go (dec_lt m (length (tag_bytes t))) (cut_tags_lem ts a)
  where
    go : Dec (m < length (tag_bytes t)) → ((m : ℕ) → m ≤ length (tags_bytes ts) → CutTags ts m) → CutTags (t ∷ ts) m
    go (yes k) ih = cut_first t w ts m k
    go (no k) ih =
        let e : length (tag_bytes t) + (m - length (tag_bytes t)) ≡ m = omega arith in
        subst (CutTags (t ∷ ts)) e (cut_later t w ts (m - length (tag_bytes t)) (ih (m - length (tag_bytes t)) (omega (arith, length-append (tag_bytes t) (tags_bytes ts)))))

pub cut_file_lem : CutFile
unfolding CutFile
cut_file_lem file ts n f a b =
    let k = start_long f.front f.start in
    let e : length f.front + (n - 13) ≡ n = omega arith in
    let h = cut_tags_lem ts f.tags (n - 13) (omega (arith, ap length f.bytes, length-append f.front (tags_bytes ts))) in
    let p : take n file ≡ f.front ++ take (n - 13) (tags_bytes ts)
    = ap₂ (λ (m : ℕ) (s : List ℕ). take m s) (sym e) f.bytes ∙ take-append-add f.front (tags_bytes ts) (n - 13) in
    record {
      kept = h.kept;
      lost = h.lost;
      split = h.split;
      before = omega (arith, h.before);
      most = λ t us q. omega (arith, h.most t us q);
      reading =
          ap read_file p ∙ read_from f.front f.start (take (n - 13) (tags_bytes ts)) ∙ h.reading
          ∙ ap (λ (c : Bool). record { tags = h.kept; error = cond c error.Ok error.Truncated }) (same h.kept);
    }
  where
    same : (us : List Tag) → eqb (n - 13) (length (tags_bytes us)) ≡ eqb n (13 + length (tags_bytes us))
    same us = grind (arith, nat_tests)
