-- The lines of a frame sheet, as functions of their numbers and of the width of the first column, which is 6 in the sheet of docs/REQUIREMENTS.md.
use Rattle.std.specs.Prelude.{cond, List, ◌++◌, ℕ, ltb, ℤ, length}
use Rattle.types.specs.declared.ErrorCode.{ErrorCode}
use Rattle.types.specs.declared.ErrorCode.TheVariants as error
use Rattle.outputs.specs.Outputs.{in_front}
use Rattle.frame_sheet.specs.Text.{decimal, integer, column, newline}
use Rattle.frame_sheet.specs.declared.lines.SheetLine.{SheetLine}
use Rattle.frame_sheet.specs.declared.lines.Written.{Written}

-- A LINE OF A FRAME: frame number, type, received length, header error, tracks, kind, hint
unfoldable pub sheet_line : ℕ → SheetLine → List ℕ
sheet_line w l =
    column w (decimal l.number)
    ++ (column 3 (decimal l.frame_type)
    ++ (column 9 (decimal l.length)
    ++ (column 4 (integer l.header_error)
    ++ (column 6 (decimal l.tracks)
    ++ (column 3 (decimal l.kind)
    ++ (column 3 (decimal l.hint)
    ++ newline))))))

-- A REFUSAL: frame number and the refusal's number
unfoldable pub refusal_line : ℕ → ℕ → ℤ → List ℕ
refusal_line w n refusal = column w (decimal n) ++ (column 4 (integer refusal) ++ newline)

-- A TEXT WRITTEN into a lent buffer: at its front, with the further bytes kept. A buffer shorter than the text is refused with -22 and keeps its bytes.
-- The error that is reported beside a written text is e
unfoldable pub text_answer : ErrorCode → List ℕ → ℕ → Written
text_answer e t room = cond (ltb room (length t)) (record { error = error.OutputTooShort; length = 0 }) (record { error = e; length = length t })

unfoldable pub text_output : List ℕ → List ℕ → List ℕ
text_output t out = cond (ltb (length out) (length t)) out (in_front t out)
