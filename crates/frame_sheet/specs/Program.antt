-- A program over the library, step by step, and the theorem that its steps print the frame sheet.
use Rattle.std.specs.Prelude.{◌≡◌, Bool, true, false, List, ◌++◌, ℕ, suc, ◌+◌, ◌≤◌, take, drop}
use Rattle.outputs.specs.Outputs.{in_front}
use Rattle.frame_sheet.specs.Steps.{body_length}
use Rattle.frame_sheet.specs.Sheet.{sheet_layout, frame_sheet, step_text, step_answer}
use Rattle.frame_sheet.specs.declared.sheet.Layout.{Layout}
use Rattle.frame_sheet.specs.declared.sheet.SheetStep.{SheetStep}

-- A READ of so many bytes from the input that is left: it gets them all, or as many as there are, and the rest is left
pub record Read (wanted : ℕ) (input got left : List ℕ) : Type 0 where
  pub gets : got ≡ take wanted input
  pub leaves : left ≡ drop wanted input

-- ONE STEP of the program after so many frames, on the input that is left: what it prints, what it leaves of the input, and whether it goes on
pub record Step (layout : Layout) (before : ℕ) (input printed left : List ℕ) (more : Bool) : Type 0 where
  -- a head is read, and behind it as much as `body_length` answers
  pub head : List ℕ
  pub behind : List ℕ
  pub body : List ℕ
  pub read_head : Read 4 input head behind
  pub read_body : Read (body_length head) behind body left
  -- what the step of the library answers to both, and what the text's buffer holds before it and behind it
  pub answer : SheetStep
  pub held : List ℕ
  pub text : List ℕ
  pub answers : answer ≡ step_answer layout before head body
  pub writes : text ≡ in_front (step_text layout before head body) held
  -- so many bytes of the text are printed, and the program goes on if the answer says so
  pub prints : printed ≡ take answer.length text
  pub goes : more ≡ answer.goes_on

-- A RUN of steps to the end, after so many frames, on the input that is left: what it prints, and how many steps it has
pub data Run (layout : Layout) : ℕ → List ℕ → List ℕ → ℕ → Type 0 where
  ends : {before : ℕ} {input printed left : List ℕ} → Step layout before input printed left false → Run layout before input printed 1
  goes : {before : ℕ} {input printed left further : List ℕ} {steps : ℕ}
      → Step layout before input printed left true
      → Run layout (before + 1) left further steps
      → Run layout before input (printed ++ further) (suc steps)

-- every run from the start of an input prints its frame sheet, in at most 999,999 steps; and there is a run
pub record SheetPrinted (input : List ℕ) : Type 0 where
  pub sheet : (printed : List ℕ) (steps : ℕ) → Run sheet_layout 0 input printed steps → printed ≡ frame_sheet input
  pub bound : (printed : List ℕ) (steps : ℕ) → Run sheet_layout 0 input printed steps → steps ≤ 999999
  pub some : (steps : ℕ) × Run sheet_layout 0 input (frame_sheet input) steps

-- THE PROGRAM PRINTS THE FRAME SHEET, whatever its input
unfoldable pub PrintsFrameSheet : Type 0
PrintsFrameSheet = (input : List ℕ) → SheetPrinted input
