-- THE FRAME SHEET of a whole input (docs/REQUIREMENTS.md, "The frame sheet"): from the bytes of standard input to those of standard output.
use Rattle.std.specs.Prelude.{Bool, true, false, cond, not, ◌&&◌, List, [], ◌++◌, ℕ, zero, suc, ◌+◌, eqb, ltb, length, take, drop}
use Rattle.types.specs.Types.{is_ok}
use Rattle.frame_sheet.specs.Steps.{body_length, frame_error, frame_text, frame_output}
use Rattle.frame_sheet.specs.declared.sheet.Layout.{Layout}
use Rattle.frame_sheet.specs.declared.sheet.SheetStep.{SheetStep}

-- what is read of the first frame of an input: a head of 4 bytes and the body that it asks for, both as far as the input goes; and what is left behind
abbrev pub first_head : List ℕ → List ℕ
first_head input = take 4 input

abbrev pub first_body : List ℕ → List ℕ
first_body input = take (body_length (first_head input)) (drop 4 input)

abbrev pub behind_first : List ℕ → List ℕ
behind_first input = drop (body_length (first_head input)) (drop 4 input)

-- the text of the first frame as frame n, with w columns for the number, and a buffer of 32,768 bytes
abbrev pub first_text : ℕ → ℕ → List ℕ → List ℕ
first_text w n input = frame_text w n (first_head input) (first_body input) 32768

-- there is a frame, and no clean end of the input, where a byte of its head was read
abbrev pub is_frame : List ℕ → Bool
is_frame head = not (eqb (length head) 0)

-- the sheet goes on behind a frame that is not refused
unfoldable pub frame_goes_on : List ℕ → List ℕ → Bool
frame_goes_on head body = is_frame head && is_ok (frame_error head body 32768)

abbrev pub goes_on : List ℕ → Bool
goes_on input = frame_goes_on (first_head input) (first_body input)

-- THE SHEET FROM FRAME n ON, of so many frames at most: the text of the first frame and, if the sheet goes on behind it, the sheet of what is left
unfoldable pub sheet_from : ℕ → ℕ → ℕ → List ℕ → List ℕ
sheet_from w zero n input = []
sheet_from w (suc most) n input =
    first_text w n input ++ elim (goes_on input) [ true ↦ sheet_from w most (n + 1) (behind_first input) | false ↦ [] ]

-- A SHEET IN A LAYOUT: frames from 1 to the last
abbrev pub sheet_of : Layout → List ℕ → List ℕ
sheet_of layout input = sheet_from layout.width layout.last 1 input

-- the layout of docs/REQUIREMENTS.md: six columns for the frame number; frame 999,999 is the last
abbrev pub sheet_layout : Layout
sheet_layout = record { width = 6; last = 999999 }

-- THE SHEET OF docs/REQUIREMENTS.md
unfoldable pub frame_sheet : List ℕ → List ℕ
frame_sheet input = sheet_of sheet_layout input

-- ONE STEP of a sheet, after so many frames, over what was read of the next. What it prints: nothing behind the last frame
unfoldable pub step_text : Layout → ℕ → List ℕ → List ℕ → List ℕ
step_text layout before head body = cond (ltb before layout.last) (frame_text layout.width (before + 1) head body 32768) []

-- whether the sheet goes on: not behind the last frame
unfoldable pub step_goes_on : Layout → ℕ → List ℕ → List ℕ → Bool
step_goes_on layout before head body = frame_goes_on head body && ltb (before + 1) layout.last

-- both as an answer, the text by its length
abbrev pub step_answer : Layout → ℕ → List ℕ → List ℕ → SheetStep
step_answer layout before head body =
    record { length = length (step_text layout before head body); goes_on = step_goes_on layout before head body }

-- and what the output of the pass then holds
unfoldable pub step_output : Layout → ℕ → List ℕ → List ℕ → List ℕ → List ℕ
step_output layout before head body out = cond (ltb before layout.last) (frame_output head body out) out
