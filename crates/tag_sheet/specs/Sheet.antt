-- THE SHEET OF AN FLV FILE, a sibling of the frame sheet: the frames of the file have the lines of the frame sheet, under its limits.
use Rattle.std.specs.Prelude.{Bool, true, false, cond, ◌&&◌, List, [], ◌∷◌, ◌++◌, ℕ, zero, suc, ◌+◌, ltb, length, drop}
use Rattle.wire.specs.Wire.{part}
use Rattle.types.specs.Types.{error_number, is_ok}
use Rattle.types.specs.declared.ErrorCode.{ErrorCode}
use Rattle.types.specs.declared.ErrorCode.TheVariants as error
use Rattle.frame_sheet.specs.Lines.{refusal_line}
use Rattle.frame_sheet.specs.Steps.{frame_text}
use Rattle.frame_sheet.specs.Sheet.{sheet_layout, frame_goes_on}
use Rattle.frame_sheet.specs.declared.sheet.Layout.{Layout}
use Rattle.flv.specs.Files.{start_error, body_size, tag_refusal, Tag, tags_under, is_frame, frame_type}

-- a frame that the sheet does not take: over 32,768 bytes
abbrev pub is_long_frame : List ℕ → Bool
is_long_frame head = is_frame head && ltb 32768 (body_size head)

-- THE REFUSALS OF A TAG in their order, over what was read of it: -25, the file ends in the head; -22, right behind the head, a frame over 32,768 bytes;
-- then those of a tag. Another tag may have any length
unfoldable pub sheet_refusal : List ℕ → ℕ → List ℕ → ErrorCode
sheet_refusal head got pointer =
    cond (ltb (length head) 11) error.Truncated
    (cond (is_long_frame head) error.OutputTooShort (tag_refusal head got pointer))

abbrev pub sheet_error : Tag → ErrorCode
sheet_error t = sheet_refusal t.head (length t.body) t.pointer

-- a frame's head in the input of the frame sheet: the frame type and the same 24-bit length
abbrev pub sheet_head : List ℕ → List ℕ
sheet_head head = frame_type head ∷ part head 1 3

-- the text of a frame, as frame n, and whether the sheet goes on behind it: those of the frame sheet
abbrev pub frame_tag_text : ℕ → ℕ → Tag → List ℕ
frame_tag_text w n t = frame_text w n (sheet_head t.head) t.body 32768

abbrev pub frame_tag_goes_on : Tag → Bool
frame_tag_goes_on t = frame_goes_on (sheet_head t.head) t.body

-- THE SHEET OF TAGS from frame n on, of so many frames at most, behind which the reading stopped: other tags have no line and no number, and a refusal
-- stands under the next frame's number
unfoldable pub sheet_of_tags : ℕ → ℕ → ℕ → List Tag → ErrorCode → List ℕ
sheet_of_tags w zero n ts e = []
sheet_of_tags w (suc most) n [] e = cond (is_ok e) [] (refusal_line w n (error_number e))
sheet_of_tags w (suc most) n (t ∷ ts) e =
    elim (is_frame t.head) [
      | true ↦ frame_tag_text w n t ++ elim (frame_tag_goes_on t) [ true ↦ sheet_of_tags w most (n + 1) ts e | false ↦ [] ]
      | false ↦ sheet_of_tags w (suc most) n ts e
    ]

-- the sheet of some bytes behind a file's start
abbrev pub sheet_left : ℕ → ℕ → ℕ → List ℕ → List ℕ
sheet_left w most n s = sheet_of_tags w most n (tags_under sheet_error s).tags (tags_under sheet_error s).error

-- A SHEET OF A FILE IN A LAYOUT: a fault of the start stands under frame 1
abbrev pub flv_sheet_of : Layout → List ℕ → List ℕ
flv_sheet_of layout file =
    cond (is_ok (start_error file)) (sheet_left layout.width layout.last 1 (drop 13 file))
    (refusal_line layout.width 1 (error_number (start_error file)))

-- THE SHEET OF A FILE: six columns for the frame number; frame 999,999 is the last
unfoldable pub flv_sheet : List ℕ → List ℕ
flv_sheet file = flv_sheet_of sheet_layout file
