-- What the sheet prints for one frame of its input. What was read of a frame is its head, which is 4 bytes unless the input ends there, and its body.
use Rattle.std.specs.Prelude.{◌≡◌, cond, List, [], ℕ, ◌<◌, eqb, ltb, length, take}
use Rattle.wire.specs.Wire.{byte_at, be24_at}
use Rattle.types.specs.Types.{error_number, is_ok, is_unknown_type}
use Rattle.types.specs.declared.ErrorCode.{ErrorCode}
use Rattle.types.specs.declared.ErrorCode.TheVariants as error
use Rattle.modex.specs.Offsets.{has_bad_offset}
use Rattle.init_cache.specs.Kind.{kind_number}
use Rattle.delivery.specs.Hint.{hint_number}
use Rattle.frame.specs.Pass.{pass_report, pass_output}
use Rattle.frame.specs.declared.Report.{Report}
use Rattle.frame_sheet.specs.Lines.{sheet_line, refusal_line}
use Rattle.frame_sheet.specs.declared.lines.SheetLine.{SheetLine}

-- a head: the type byte and the 24-bit length of the body
abbrev pub head_type : List ℕ → ℕ
head_type head = byte_at head 0

abbrev pub head_length : List ℕ → ℕ
head_length head = be24_at head 1

-- THE REFUSALS OF THE INPUT in their order: -25, it ends inside the head; -21, type above 3; -22, length over 32,768; -25, it ends inside the body,
-- of which so many bytes were read
unfoldable pub input_error : List ℕ → ℕ → ErrorCode
input_error head got =
    cond (ltb (length head) 4) error.Truncated
    (cond (is_unknown_type (head_type head)) error.UnknownFrameType
    (cond (ltb 32768 (head_length head)) error.OutputTooShort
    (cond (ltb got (head_length head)) error.Truncated error.Ok)))

-- how many bytes to read behind a head: none if the head itself is refused
unfoldable pub body_length : List ℕ → ℕ
body_length head = cond (is_ok (input_error head 32768)) (head_length head) 0

-- capability mask and route flag of the sheet
abbrev pub sheet_mask : ℕ
sheet_mask = 4

abbrev pub sheet_flag : ℕ
sheet_flag = 1

-- the payload of a frame; a body that is lent longer is read as far as the head says
abbrev pub payload_of : List ℕ → List ℕ → List ℕ
payload_of head body = take (head_length head) body

-- THE LINE of frame n: its numbers, from what the whole pass reports
abbrev pub line_of : ℕ → List ℕ → Report → SheetLine
line_of n head r =
    record {
      number = n;
      frame_type = head_type head;
      length = head_length head;
      header_error = error_number r.header.error;
      tracks = r.tracks;
      kind = kind_number r.kind;
      hint = hint_number r.hint;
    }

-- what was read, passed: mask 4, route flag 1, with an output of so many bytes
abbrev pub pass_of : List ℕ → List ℕ → ℕ → Report
pass_of head body room = pass_report (head_type head) sheet_mask sheet_flag (payload_of head body) room

-- THE REFUSAL OF A FRAME: of the input, then of the whole pass. A clean end is no frame
unfoldable pub frame_error : List ℕ → List ℕ → ℕ → ErrorCode
frame_error head body room =
    cond (eqb (length head) 0) error.Ok
    (cond (is_ok (input_error head (length body))) (pass_of head body room).error (input_error head (length body)))

-- with 32,768 bytes of output the whole pass refuses a bad layer of the peeled chain, and nothing else
unfoldable pub FrameRefusals : Type 0
FrameRefusals =
    (head body : List ℕ) → 0 < length head
    → frame_error head body 32768
    ≡ cond (is_ok (input_error head (length body)))
    (cond (has_bad_offset (head_type head) sheet_mask (payload_of head body)) error.Protocol error.Ok)
    (input_error head (length body))

-- THE TEXT OF FRAME n: its line; a refused frame has the refusal's line instead, and a clean end nothing
unfoldable pub frame_text : ℕ → ℕ → List ℕ → List ℕ → ℕ → List ℕ
frame_text w n head body room =
    cond (eqb (length head) 0) []
    (cond (is_ok (frame_error head body room)) (sheet_line w (line_of n head (pass_of head body room))) (refusal_line w n (error_number (frame_error head body room))))

-- and what the output of the pass then holds
unfoldable pub frame_output : List ℕ → List ℕ → List ℕ → List ℕ
frame_output head body out =
    cond (is_ok (input_error head (length body))) (pass_output (head_type head) sheet_mask (payload_of head body) out) out
