-- NO BODY BYTE DECIDES.
use mathlib.Core.Path.{◌≡◌, refl, sym, ap, ap₂, ◌∙◌}
use mathlib.Core.Bool.{Bool, true, false, cond}
use mathlib.Core.List.{List, [], ◌∷◌, ◌++◌}
use Prim.Native.Nat.{ℕ, ◌+◌, ◌≤◌}
use native.Mathlib.Omega.{arith}
use lib.ListN.{length, take, drop, length-append, length-drop}
use lib.Seq.{take_at, drop_at, take-append-le, drop-append-le}
use Rattle.std.specs.Prelude.{Option, Some, Result, Ok}
use Rattle.wire.specs.Wire.{part}
use Rattle.types.specs.Types.{is_ok}
use Rattle.types.specs.declared.ErrorCode.{ErrorCode}
use Rattle.types.specs.declared.ErrorCode.TheVariants as error
use Rattle.flv.specs.declared.reading.FlvFrame.{FlvFrame}
use Rattle.flv.specs.Files.{start_refusal, start_error, Tag, body_size, tag_refusal, tag_error, first_tag, Reading, stopped, with_tag, tags_of, is_frame, frame_type, time_of}
use Rattle.flv.specs.Claims.{answers_from, SameOutside, same, cut, tag, NoBodyByte}
use Rattle.flv.proofs.Tags.{cut_short, tags_step, tags_placed}

-- tags with the same heads, and bodies of the same lengths
data AlikeTags : List Tag → List Tag → Type 0 where
  ends : AlikeTags [] []
  alike : {t t' : Tag} {ts ts' : List Tag} → t.head ≡ t'.head → length t.body ≡ length t'.body → AlikeTags ts ts' → AlikeTags (t ∷ ts) (t' ∷ ts')

alike_same : (ts : List Tag) → AlikeTags ts ts
alike_same [] = ends
alike_same (t ∷ ts) = alike refl refl (alike_same ts)

-- give the same answers: an answer is made of a head and a length
abbrev found_by : ℕ → List ℕ → ℕ → FlvFrame
found_by at h n =
    record { frame_type = frame_type h; timestamp = time_of h; start = at + 11; length = n; next = at + (n + 15) }

abbrev answers_by : ℕ → List ℕ → ℕ → List (Result (Option FlvFrame) ErrorCode) → List (Result (Option FlvFrame) ErrorCode)
answers_by at h n r = cond (is_frame h) (Ok (Some (found_by at h n)) ∷ r) r

alike_answers : {ts ts' : List Tag} → AlikeTags ts ts' → (at : ℕ) (e : ErrorCode) → answers_from at ts e ≡ answers_from at ts' e
alike_answers ends at e = refl
alike_answers (alike {t = t} {t' = t'} {ts = ts} {ts' = ts'} h l a) at e =
    ap₂ (λ (x : List ℕ) (n : ℕ). answers_by at x n (answers_from (at + (n + 15)) ts e)) h l
    ∙ ap (answers_by at t'.head (length t'.body)) (alike_answers a (at + (length t'.body + 15)) e)

record Alike (r r' : Reading) : Type 0 where
  tags : AlikeTags r.tags r'.tags
  errors : r.error ≡ r'.error

-- ONE TAG, and what is behind it
module _ (t t' : Tag) (h : t.head ≡ t'.head) (p : t.pointer ≡ t'.pointer) (l : length t.body ≡ length t'.body) where
  same_error : tag_error t ≡ tag_error t'
  same_error = ap (λ (x : List ℕ). tag_refusal x (length t.body) t.pointer) h ∙ ap₂ (λ (n : ℕ) (x : List ℕ). tag_refusal t'.head n x) l p

  one_alike : (r r' : Reading) → Alike r r' → Alike (cond (is_ok (tag_error t)) (with_tag t r) (stopped (tag_error t))) (cond (is_ok (tag_error t')) (with_tag t' r') (stopped (tag_error t')))
  one_alike r r' a = rw (← same_error) (go (is_ok (tag_error t)))
    where
      go : (b : Bool) → Alike (cond b (with_tag t r) (stopped (tag_error t))) (cond b (with_tag t' r') (stopped (tag_error t)))
      go true = record { tags = alike h l a.tags; errors = a.errors }
      go false = record { tags = ends; errors = refl }

-- a tag cut in its body
cut_stopped : (head body : List ℕ) → length head ≡ 11 → length body ≤ body_size head → tags_of (head ++ body) ≡ stopped error.Truncated
cut_stopped head body e l =
    let n : body_size (take 11 (head ++ body)) ≡ body_size head = ap body_size (take_at head body 11 e) in
    let k : length (head ++ body) ≡ 11 + length body = length-append head body ∙ ap (λ (m : ℕ). m + length body) e in
    let c : tag_error (first_tag (head ++ body)) ≡ error.Truncated = cut_short (head ++ body) (omega arith) in
    tags_step tag_error (head ++ body) (omega arith) ∙ rw c refl

alike_read : {s s' : List ℕ} → SameOutside s s' → Alike (tags_of s) (tags_of s')
alike_read (same {s = s}) = record { tags = alike_same (tags_of s).tags; errors = refl }
alike_read (cut head body body' e l m) =
    rw (cut_stopped head body e l, cut_stopped head body' e (omega arith)) (record { tags = ends; errors = refl })
alike_read (tag {s = s} {s' = s'} head body body' pointer a b c d r) =
    let t : Tag = record { head = head; body = body; pointer = pointer } in
    let t' : Tag = record { head = head; body = body'; pointer = pointer } in
    rw (tags_placed t a b d s tag_error, tags_placed t' a c d s' tag_error) (one_alike t t' refl refl (omega arith) (tags_of s) (tags_of s') (alike_read r))

-- THE START is read off the first 13 bytes
start_front : (front s : List ℕ) → length front ≡ 13 → start_error (front ++ s) ≡ start_refusal (take 9 front) (part front 9 4)
unfolding start_error
start_front front s e =
    ap₂ start_refusal (take-append-le 9 front s (omega arith))
    (ap (take 4) (drop-append-le 9 front s (omega arith)) ∙ take-append-le 4 (drop 9 front) s (omega (arith, length-drop 9 front)))

pub no_body_byte_lem : NoBodyByte
unfolding NoBodyByte
no_body_byte_lem front s s' e o =
    let a = alike_read o in (
      start_front front s e ∙ sym (start_front front s' e),
      ap (λ (r : List ℕ). answers_from 13 (tags_of r).tags (tags_of r).error) (drop_at front s 13 e)
          ∙ alike_answers a.tags 13 (tags_of s).error
          ∙ ap (answers_from 13 (tags_of s').tags) a.errors
          ∙ sym (ap (λ (r : List ℕ). answers_from 13 (tags_of r).tags (tags_of r).error) (drop_at front s' 13 e)),
    )
