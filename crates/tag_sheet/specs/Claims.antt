-- What is shown of the sheet of an FLV file: of a written one, and of tags whose bodies are not kept.
use Rattle.std.specs.Prelude.{◌≡◌, List, [], ◌∷◌, ◌++◌, ℕ, ◌<◌, length}
use Rattle.wire.specs.Wire.{bytes24}
use Rattle.frame_sheet.specs.Sheet.{sheet_of}
use Rattle.frame_sheet.specs.declared.sheet.Layout.{Layout}
use Rattle.flv.specs.Files.{Frame}
use Rattle.flv.specs.Claims.{AllWritable, written_file}
use Rattle.tag_sheet.specs.Sheet.{flv_sheet_of}
use Rattle.tag_sheet.specs.Steps.{body_length, other_step, tag_step}

-- frames in the input format of the frame sheet: type, 24-bit length, payload
abbrev pub sheet_input : List Frame → List ℕ
sheet_input [] = []
sheet_input (f ∷ fs) = (f.type ∷ (bytes24 (length f.body) ++ f.body)) ++ sheet_input fs

-- A BODY THAT A PROGRAM HAS NO ROOM FOR is no frame's, and of its tag only the number of bytes read counts
unfoldable pub LongTags : Type 0
LongTags =
    (layout : Layout) (before : ℕ) (head body pointer : List ℕ) → 32768 < body_length head
    → tag_step layout before head body pointer ≡ other_step layout before head (length body) pointer

-- SAME SHEET, in every layout
unfoldable pub SameSheet : Type 0
SameSheet = (layout : Layout) (fs : List Frame) → AllWritable fs → flv_sheet_of layout (written_file fs) ≡ sheet_of layout (sheet_input fs)
