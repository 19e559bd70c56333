-- A program over the library, step by step, and the theorem that its steps print the sheet of an FLV file.
use Rattle.std.specs.Prelude.{◌≡◌, Bool, true, false, List, ◌++◌, ℕ, suc, ◌+◌, ◌*◌, ◌≤◌, length, take}
use Rattle.outputs.specs.Outputs.{in_front}
use Rattle.frame_sheet.specs.Sheet.{sheet_layout}
use Rattle.frame_sheet.specs.Program.{Read}
use Rattle.frame_sheet.specs.declared.sheet.Layout.{Layout}
use Rattle.frame_sheet.specs.declared.sheet.SheetStep.{SheetStep}
use Rattle.tag_sheet.specs.Sheet.{flv_sheet}
use Rattle.tag_sheet.specs.Steps.{first_length, start_text, start_step, body_length, pointer_length, tag_text, tag_step}
use Rattle.tag_sheet.specs.declared.TagStep.{TagStep}

-- THE FIRST STEP of the program: what it prints, what it leaves of the file, and whether it goes on
pub record First (layout : Layout) (file printed left : List ℕ) (more : Bool) : Type 0 where
  -- the header is read, and behind it as much of the first back-pointer as `first_length` answers
  pub header : List ℕ
  pub behind : List ℕ
  pub pointer : List ℕ
  pub read_header : Read 9 file header behind
  pub read_pointer : Read (first_length header) behind pointer left
  -- what the library answers to the start, and what the text's buffer holds before it and behind it
  pub answer : SheetStep
  pub held : List ℕ
  pub text : List ℕ
  pub answers : answer ≡ start_step layout header pointer
  pub writes : text ≡ in_front (start_text layout header pointer) held
  -- so many bytes of the text are printed, and the program goes on if the answer says so
  pub prints : printed ≡ take answer.length text
  pub goes : more ≡ answer.goes_on

-- ONE STEP for a tag after so many frames, on the input that is left: also how many frames there are then
pub record Step (layout : Layout) (before : ℕ) (input printed left : List ℕ) (frames : ℕ) (more : Bool) : Type 0 where
  -- a head is read, and behind it as much of body and back-pointer as `body_length` and `pointer_length` answer
  pub head : List ℕ
  pub behind : List ℕ
  pub body : List ℕ
  pub rest : List ℕ
  pub pointer : List ℕ
  pub read_head : Read 11 input head behind
  pub read_body : Read (body_length head) behind body rest
  pub read_pointer : Read (pointer_length head) rest pointer left
  pub answer : TagStep
  pub held : List ℕ
  pub text : List ℕ
  pub answers : answer ≡ tag_step layout before head body pointer
  pub writes : text ≡ in_front (tag_text layout before head body pointer) held
  pub prints : printed ≡ take answer.length text
  pub counts : frames ≡ answer.frames
  pub goes : more ≡ answer.goes_on

-- A RUN of steps over tags to the end, after so many frames, on the input that is left: what it prints, and how many steps it has
pub data Run (layout : Layout) : ℕ → List ℕ → List ℕ → ℕ → Type 0 where
  ends : {before : ℕ} {input printed left : List ℕ} {frames : ℕ} → Step layout before input printed left frames false → Run layout before input printed 1
  goes : {before : ℕ} {input printed left further : List ℕ} {frames steps : ℕ}
      → Step layout before input printed left frames true
      → Run layout frames left further steps
      → Run layout before input (printed ++ further) (suc steps)

-- A RUN OVER A FILE: its first step, and a run over the tags if it goes on
pub data FileRun (layout : Layout) : List ℕ → List ℕ → ℕ → Type 0 where
  refused : {file printed left : List ℕ} → First layout file printed left false → FileRun layout file printed 0
  taken : {file printed left further : List ℕ} {steps : ℕ}
      → First layout file printed left true
      → Run layout 0 left further steps
      → FileRun layout file (printed ++ further) steps

-- every run over a file prints its sheet, in at most a step for every 15 bytes and one more; and there is a run
pub record SheetPrinted (file : List ℕ) : Type 0 where
  pub sheet : (printed : List ℕ) (steps : ℕ) → FileRun sheet_layout file printed steps → printed ≡ flv_sheet file
  pub bound : (printed : List ℕ) (steps : ℕ) → FileRun sheet_layout file printed steps → steps * 15 ≤ length file + 15
  pub some : (steps : ℕ) × FileRun sheet_layout file (flv_sheet file) steps

-- THE PROGRAM PRINTS THE SHEET OF ITS INPUT, whatever that is
unfoldable pub PrintsFlvSheet : Type 0
PrintsFlvSheet = (file : List ℕ) → SheetPrinted file
