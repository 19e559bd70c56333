-- The sheet of an FLV file step by step: what is printed for the start, and for a tag after so many frames, over what was read of them.
use Rattle.std.specs.Prelude.{Bool, cond, not, ◌&&◌, ◌||◌, List, [], ℕ, ◌+◌, eqb, ltb, length}
use Rattle.types.specs.Types.{error_number, is_ok}
use Rattle.frame_sheet.specs.Lines.{refusal_line}
use Rattle.frame_sheet.specs.Sheet.{step_text, step_goes_on, step_output}
use Rattle.frame_sheet.specs.declared.sheet.Layout.{Layout}
use Rattle.frame_sheet.specs.declared.sheet.SheetStep.{SheetStep}
use Rattle.flv.specs.Files.{is_header, start_refusal, body_size, is_frame}
use Rattle.tag_sheet.specs.Sheet.{is_long_frame, sheet_refusal, sheet_head}
use Rattle.tag_sheet.specs.declared.TagStep.{TagStep}

-- HOW MUCH TO READ behind a header: the first back-pointer, or nothing if the header itself is refused
unfoldable pub is_header_refused : List ℕ → Bool
is_header_refused header = ltb (length header) 9 || not (is_header header)

unfoldable pub first_length : List ℕ → ℕ
first_length header = cond (is_header_refused header) 0 4

-- THE START: its refusal, under frame 1, or nothing
unfoldable pub start_text : Layout → List ℕ → List ℕ → List ℕ
start_text layout header pointer =
    cond (is_ok (start_refusal header pointer)) [] (refusal_line layout.width 1 (error_number (start_refusal header pointer)))

abbrev pub start_step : Layout → List ℕ → List ℕ → SheetStep
start_step layout header pointer =
    record { length = length (start_text layout header pointer); goes_on = is_ok (start_refusal header pointer) }

-- HOW MUCH TO READ behind a head: body and back-pointer, or nothing if the head itself is refused
unfoldable pub is_head_refused : List ℕ → Bool
is_head_refused head = ltb (length head) 11 || is_long_frame head

unfoldable pub body_length : List ℕ → ℕ
body_length head = cond (is_head_refused head) 0 (body_size head)

unfoldable pub pointer_length : List ℕ → ℕ
pointer_length head = cond (is_head_refused head) 0 4

-- the body of a frame is passed on; of another tag only the number of bytes read counts
abbrev pub is_passed : List ℕ → ℕ → List ℕ → Bool
is_passed head got pointer = is_frame head && is_ok (sheet_refusal head got pointer)

-- A TAG THAT IS STEPPED OVER OR REFUSED, after so many frames: its refusal under the next frame's number. An empty head is the clean end, and behind the
-- last frame there is nothing to print
abbrev pub judged_text : ℕ → ℕ → List ℕ → ℕ → List ℕ → List ℕ
judged_text w n head got pointer =
    cond (eqb (length head) 0) []
    (cond (is_ok (sheet_refusal head got pointer)) [] (refusal_line w n (error_number (sheet_refusal head got pointer))))

unfoldable pub other_text : Layout → ℕ → List ℕ → ℕ → List ℕ → List ℕ
other_text layout before head got pointer = cond (ltb before layout.last) (judged_text layout.width (before + 1) head got pointer) []

unfoldable pub other_goes_on : Layout → ℕ → List ℕ → ℕ → List ℕ → Bool
other_goes_on layout before head got pointer =
    ltb before layout.last && (not (eqb (length head) 0) && is_ok (sheet_refusal head got pointer))

abbrev pub other_step : Layout → ℕ → List ℕ → ℕ → List ℕ → TagStep
other_step layout before head got pointer =
    record {
      length = length (other_text layout before head got pointer);
      frames = before;
      goes_on = other_goes_on layout before head got pointer;
    }

-- ANY TAG, with its body: a frame whose tag is not refused has the step of the frame sheet, and counts
unfoldable pub tag_text : Layout → ℕ → List ℕ → List ℕ → List ℕ → List ℕ
tag_text layout before head body pointer =
    cond (is_passed head (length body) pointer) (step_text layout before (sheet_head head) body) (other_text layout before head (length body) pointer)

unfoldable pub tag_goes_on : Layout → ℕ → List ℕ → List ℕ → List ℕ → Bool
tag_goes_on layout before head body pointer =
    cond (is_passed head (length body) pointer) (step_goes_on layout before (sheet_head head) body) (other_goes_on layout before head (length body) pointer)

unfoldable pub frames_after : Layout → ℕ → List ℕ → List ℕ → List ℕ → ℕ
frames_after layout before head body pointer = cond (is_passed head (length body) pointer && ltb before layout.last) (before + 1) before

abbrev pub tag_step : Layout → ℕ → List ℕ → List ℕ → List ℕ → TagStep
tag_step layout before head body pointer =
    record {
      length = length (tag_text layout before head body pointer);
      frames = frames_after layout before head body pointer;
      goes_on = tag_goes_on layout before head body pointer;
    }

-- and what the output of the pass then holds
unfoldable pub tag_output : Layout → ℕ → List ℕ → List ℕ → List ℕ → List ℕ → List ℕ
tag_output layout before head body pointer out =
    cond (is_passed head (length body) pointer) (step_output layout before (sheet_head head) body out) out
