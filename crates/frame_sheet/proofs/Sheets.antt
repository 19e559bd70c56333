-- Laws of whole sheets: step by step, and under a larger limit.
use mathlib.Core.Path.{◌≡◌, refl, sym, ap, ◌∙◌}
use mathlib.Core.Bool.{true, false, cond}
use mathlib.Core.Option.{Option, none, some}
use mathlib.Core.List.{List, [], ◌++◌}
use Prim.Native.Nat.{ℕ, zero, suc, ◌+◌, ◌-◌, ◌≤◌, ◌<◌}
use native.Mathlib.Omega.{arith}
use Rattle.std.proofs.lemmas.Grind.{common_steps}
use borrow.Author.Tests.{lt-ltb, le-ltb, ltb-true}
use lib.Dec.{ltb}
use lib.ListN.{length}
use Rattle.wire.proofs.Bools.{and_right, and_no_right}
use Rattle.types.specs.declared.ErrorCode.{ErrorCode}
use Rattle.outputs.specs.Outputs.{in_front}
use Rattle.frame_sheet.specs.Lines.{text_answer, text_output}
use Rattle.frame_sheet.specs.Steps.{frame_text}
use Rattle.frame_sheet.specs.Sheet.{first_head, first_body, behind_first, first_text, frame_goes_on, goes_on, sheet_from, step_text, step_goes_on, step_answer}
use Rattle.frame_sheet.specs.declared.sheet.Layout.{Layout}
use Rattle.frame_sheet.specs.declared.sheet.SheetStep.{SheetStep}
use Rattle.frame_sheet.proofs.Sizes.{text_within}

-- ONE STEP, by whether the last frame is passed
module _ (layout : Layout) (before : ℕ) (head body : List ℕ) where
  pub text_there : before < layout.last → step_text layout before head body ≡ frame_text layout.width (before + 1) head body 32768
  unfolding step_text
  text_there l = simp (lt-ltb before layout.last l)

  pub text_behind : layout.last ≤ before → step_text layout before head body ≡ []
  unfolding step_text
  text_behind l = simp (le-ltb before layout.last l)

  -- the sheet goes on as the frame has it, but not behind the last
  pub goes_there : before + 1 < layout.last → step_goes_on layout before head body ≡ frame_goes_on head body
  unfolding step_goes_on
  goes_there l = grind (arith, common_steps)

  pub goes_behind : layout.last ≤ before + 1 → step_goes_on layout before head body ≡ false
  unfolding step_goes_on
  goes_behind l = and_no_right (frame_goes_on head body) (ltb (before + 1) layout.last) (le-ltb (before + 1) layout.last l)

  -- THE LIMIT: a sheet that goes on has not come to its last frame
  pub goes_below : step_goes_on layout before head body ≡ true → before + 1 < layout.last
  unfolding step_goes_on
  goes_below e = ltb-true (before + 1) layout.last (and_right (frame_goes_on head body) (ltb (before + 1) layout.last) e)

-- A TEXT HAS ROOM in 284 bytes, where the pass has 32,768
module _ (w n : ℕ) (head body : List ℕ) (room : ℕ) where
  pub answer_whole : (e : ErrorCode) (size : ℕ) → room ≡ 32768 → size ≡ 284 → w < 256 → n ≤ 4294967295
      → text_answer e (frame_text w n head body room) size ≡ record { error = e; length = length (frame_text w n head body 32768) }
  unfolding text_answer
  answer_whole e size a b h l = rw (a, le-ltb size (length (frame_text w n head body 32768)) (omega (arith, text_within w n h l head body)))

  pub output_whole : (s : List ℕ) → room ≡ 32768 → length s ≡ 284 → w < 256 → n ≤ 4294967295
      → text_output (frame_text w n head body room) s ≡ in_front (frame_text w n head body 32768) s
  unfolding text_output
  output_whole s a b h l = rw (a, le-ltb (length s) (length (frame_text w n head body 32768)) (omega (arith, text_within w n h l head body)))

pub ruleset whole_texts = (answer_whole, output_whole)

-- WHAT A PROGRAM COUNTS ON: a sheet that goes on has not come to its last frame
pub answer_below : (layout : Layout) (before : ℕ) (head body : List ℕ) (answer : SheetStep) → answer ≡ step_answer layout before head body
    → answer.goes_on ≡ true → before + 1 < layout.last
answer_below layout before head body answer q e = goes_below layout before head body (sym (ap (λ (x : SheetStep). x.goes_on) q) ∙ e)

-- FRAME BY FRAME
pub sheet_next : (w most n : ℕ) (input : List ℕ) → sheet_from w (suc most) n input ≡ first_text w n input ++ cond (goes_on input) (sheet_from w most (n + 1) (behind_first input)) []
unfolding sheet_from
sheet_next w most n input = grind (arith, common_steps)

-- STEP BY STEP
module _ (layout : Layout) where
  -- what is left to print after so many frames, none of them refused
  abbrev pub sheet_after : ℕ → List ℕ → List ℕ
  sheet_after before input = sheet_from layout.width (layout.last - before) (before + 1) input

  module _ (before : ℕ) (input : List ℕ) where
    pub sheet_last : layout.last ≤ before → sheet_after before input ≡ []
    unfolding sheet_from
    sheet_last l = let e : layout.last - before ≡ 0 = omega arith in rw e refl

    pub frame_step : before < layout.last
        → sheet_after before input ≡ first_text layout.width (before + 1) input ++ cond (goes_on input) (sheet_after (before + 1) (behind_first input)) []
    frame_step l =
        let e : layout.last - before ≡ suc (layout.last - (before + 1)) = omega arith in
        ap (λ (most : ℕ). sheet_from layout.width most (before + 1) input) e ∙ sheet_next layout.width (layout.last - (before + 1)) (before + 1) input

  -- what is left to print is what the next step prints and, if the sheet goes on, what is left to print then
  pub sheet_step : (before : ℕ) (input : List ℕ)
      → sheet_after before input
      ≡ step_text layout before (first_head input) (first_body input)
      ++ cond (step_goes_on layout before (first_head input) (first_body input)) (sheet_after (before + 1) (behind_first input)) []
  sheet_step before input = grind (arith, common_steps, frame_step, sheet_last, text_there, text_behind, goes_there, goes_behind)

-- A LARGER LIMIT. What is left of an input behind so many frames; none if the sheet ends among them
unfoldable pub behind_frames : ℕ → List ℕ → Option (List ℕ)
behind_frames zero input = some input
behind_frames (suc k) input = elim (goes_on input) [ true ↦ behind_frames k (behind_first input) | false ↦ none ]

-- the sheet of what is left, if the sheet goes on there
abbrev pub sheet_from_or : ℕ → ℕ → ℕ → Option (List ℕ) → List ℕ
sheet_from_or w most n (some input) = sheet_from w most n input
sheet_from_or w most n none = []

-- a sheet of more frames is the sheet of the first ones and, if that ended at its limit, the sheet of what is left behind them
pub sheet_split : (w k more n : ℕ) (input : List ℕ)
    → sheet_from w (k + more) n input ≡ sheet_from w k n input ++ sheet_from_or w more (n + k) (behind_frames k input)
unfolding sheet_from behind_frames
sheet_split w zero more n input = let a : 0 + more ≡ more = omega arith in let b : n + 0 ≡ n = omega arith in rw (a, b) refl
sheet_split w (suc k) more n input =
    let a : suc k + more ≡ suc (k + more) = omega arith in
    let b : n + 1 + k ≡ n + suc k = omega arith in
    let ih = sheet_split w k more (n + 1) (behind_first input) in
    rw a (grind (arith, common_steps))
