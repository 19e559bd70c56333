-- Laws of the steps, one for each exit of the functions that take them.
use mathlib.Core.Path.{◌≡◌, refl, sym, ap, ◌∙◌}
use mathlib.Core.Bool.{Bool, true, false, cond, ◌&&◌, ◌||◌, true≢false}
use mathlib.Core.List.{List}
use Prim.Native.Nat.{ℕ, ◌≤◌, ◌<◌}
use native.Mathlib.Decide.{dec_lt}
use native.Mathlib.Omega.{arith}
use lib.Dec.{ltb}
use lib.ListN.{length, drop, length-append}
use borrow.Author.Tests.{lt-ltb, le-ltb, ltb-false}
use Rattle.wire.specs.Wire.{be24_at}
use Rattle.wire.proofs.Bools.{and_right}
use Rattle.types.specs.Types.{error_number, is_ok}
use Rattle.types.specs.declared.ErrorCode.{ErrorCode}
use Rattle.types.specs.declared.ErrorCode.TheVariants as error
use Rattle.outputs.specs.Outputs.{in_front}
use Rattle.frame_sheet.specs.Lines.{refusal_line, text_answer, text_output}
use Rattle.frame_sheet.specs.declared.sheet.Layout.{Layout}
use Rattle.frame_sheet.specs.declared.sheet.SheetStep.{SheetStep}
use Rattle.frame_sheet.proofs.LineLaws.{text_room}
use Rattle.frame_sheet.proofs.Sizes.{refusal_within}
use Rattle.flv.specs.Files.{body_size, tag_refusal, is_frame}
use Rattle.tag_sheet.specs.Sheet.{is_long_frame, sheet_refusal}
use Rattle.tag_sheet.specs.Steps.{start_text, start_step, is_head_refused, body_length, pointer_length, is_passed, other_text, other_step, tag_text, tag_goes_on, frames_after, tag_step}
use Rattle.tag_sheet.specs.Claims.{LongTags}
use Rattle.tag_sheet.specs.declared.TagStep.{TagStep}

-- A LINE OF A REFUSAL fits its text
module _ (w n : ℕ) (e : ErrorCode) (s : List ℕ) where
  pub refusal_put : w < 256 → n ≤ 4294967295 → length s ≡ 284
      → (text_answer error.Ok (refusal_line w n (error_number e)) (length s) ≡ record { error = error.Ok; length = length (refusal_line w n (error_number e)) })
      × (text_output (refusal_line w n (error_number e)) s ≡ in_front (refusal_line w n (error_number e)) s)
  refusal_put a b held = text_room error.Ok (refusal_line w n (error_number e)) s (omega (arith, refusal_within w n a b e))

-- HEADS
module _ (head : List ℕ) where
  pub head_whole : 11 ≤ length head → is_long_frame head ≡ is_head_refused head
  unfolding is_head_refused
  head_whole l = simp (le-ltb (length head) 11 l)

  pub some_behind : is_head_refused head ≡ false → (be24_at head 1 ≡ body_length head) × (4 ≡ pointer_length head)
  unfolding body_length pointer_length
  some_behind r = (simp r, simp r)

-- REFUSALS
module _ (head pointer : List ℕ) (got : ℕ) where
  pub refusal_cut : length head < 11 → error.Truncated ≡ sheet_refusal head got pointer
  unfolding sheet_refusal
  refusal_cut l = simp (lt-ltb (length head) 11 l)

  pub refusal_long : 11 ≤ length head → is_long_frame head ≡ true → error.OutputTooShort ≡ sheet_refusal head got pointer
  unfolding sheet_refusal
  refusal_long l q = rw (le-ltb (length head) 11 l, q) refl

  pub refusal_tag : 11 ≤ length head → is_long_frame head ≡ false → tag_refusal head got pointer ≡ sheet_refusal head got pointer
  unfolding sheet_refusal
  refusal_tag l q = rw (le-ltb (length head) 11 l, q) refl

  -- a head that is not refused is whole
  pub fine_whole : is_ok (sheet_refusal head got pointer) ≡ true → 11 ≤ length head
  unfolding sheet_refusal
  fine_whole o = go (dec_lt (length head) 11)
    where
      go : Dec (length head < 11) → 11 ≤ length head
      go (yes l) = absurd (true≢false (sym o ∙ ap is_ok (sym (refusal_cut l))))
      go (no l) = omega arith

  pub passed_whole : is_passed head got pointer ≡ true → 11 ≤ length head
  passed_whole p = fine_whole (and_right (is_frame head) (is_ok (sheet_refusal head got pointer)) p)

-- WHAT A PROGRAM COUNTS ON: a text lies within its buffer
within : (t s s' : List ℕ) → s' ≡ in_front t s → {n : ℕ} → n ≡ length t → n ≤ length s'
within t s s' e q = omega (arith, ap length e, length-append t (drop (length t) s))

pub start_within : (layout : Layout) (header pointer : List ℕ) (answer : SheetStep) → answer ≡ start_step layout header pointer
    → (s s' : List ℕ) → s' ≡ in_front (start_text layout header pointer) s → answer.length ≤ length s'
start_within layout header pointer answer q s s' e = within (start_text layout header pointer) s s' e (ap (λ (x : SheetStep). x.length) q)

pub other_within : (layout : Layout) (before : ℕ) (head pointer : List ℕ) (got : ℕ) (answer : TagStep) → answer ≡ other_step layout before head got pointer
    → (s s' : List ℕ) → s' ≡ in_front (other_text layout before head got pointer) s → answer.length ≤ length s'
other_within layout before head pointer got answer q s s' e = within (other_text layout before head got pointer) s s' e (ap (λ (x : TagStep). x.length) q)

pub tag_within : (layout : Layout) (before : ℕ) (head body pointer : List ℕ) (answer : TagStep) → answer ≡ tag_step layout before head body pointer
    → (s s' : List ℕ) → s' ≡ in_front (tag_text layout before head body pointer) s → answer.length ≤ length s'
tag_within layout before head body pointer answer q s s' e = within (tag_text layout before head body pointer) s s' e (ap (λ (x : TagStep). x.length) q)

-- A LONG BODY is no frame's
long_other : (head : List ℕ) → 32768 < body_length head → is_frame head ≡ false
unfolding body_length is_head_refused
long_other head l = go (ltb (length head) 11) (is_frame head) (ltb 32768 (body_size head)) refl l
  where
    go : (a b c : Bool) → ltb 32768 (body_size head) ≡ c → 32768 < cond (a || (b && c)) 0 (body_size head) → b ≡ false
    go true b c e l = absurd (omega arith)
    go false true true e l = absurd (omega arith)
    go false true false e l = absurd (omega (arith, ltb-false 32768 (body_size head) e))
    go false false c e l = refl

pub long_tags_lem : LongTags
unfolding LongTags tag_text tag_goes_on frames_after
long_tags_lem layout before head body pointer l = rw (long_other head l) refl
