-- The calls over FLV files in memory: reading frame by frame, and writing.
use Rattle.std.specs.Prelude.{cond, not, List, [], ◌∷◌, ◌++◌, ℕ, ◌+◌, ◌/◌, ◌%◌, eqb, ltb, length, drop, Option, Some, None, Result, Ok, Err}
use Rattle.wire.specs.Wire.{be32_at, bytes24, bytes32}
use Rattle.types.specs.Types.{is_ok}
use Rattle.types.specs.declared.ErrorCode.{ErrorCode}
use Rattle.types.specs.declared.ErrorCode.TheVariants as error
use Rattle.writers.specs.Writing.{or_short, answer_of, output_of}
use Rattle.flv.specs.declared.reading.FlvFrame.{FlvFrame}
use Rattle.flv.specs.Files.{start_error, Tag, tag_bytes, tag_error, first_tag, tags_of, is_frame, frame_type, time_of, Frame}

-- a value, or the error that refuses it
abbrev pub ok_or : {A : Type 0} → ErrorCode → A → Result A ErrorCode
ok_or e x = cond (is_ok e) (Ok x) (Err e)

-- THE START: where the first tag begins
unfoldable pub flv_start : List ℕ → Result ℕ ErrorCode
flv_start file = ok_or (start_error file) 13

-- the refusals of a back-pointer behind n bytes
unfoldable pub pointer_refusal : List ℕ → ℕ → ErrorCode
pointer_refusal pointer n = cond (ltb (length pointer) 4) error.Truncated (cond (not (eqb (be32_at pointer 0) n)) error.WrongBackPointer error.Ok)

-- the refusals of a tag behind its head
abbrev pub body_refusal : ℕ → ℕ → List ℕ → ErrorCode
body_refusal size got pointer = cond (ltb got size) error.Truncated (pointer_refusal pointer (size + 11))

-- the body's length of the tag that some bytes begin with, or the tag's refusal
unfoldable pub tag_size : List ℕ → Result ℕ ErrorCode
tag_size s = ok_or (tag_error (first_tag s)) (length (first_tag s).body)

-- no frame: an error, or the clean end
abbrev pub no_frame : ErrorCode → Result (Option FlvFrame) ErrorCode
no_frame e = ok_or e None

-- a frame's tag that begins at a place
abbrev pub found_at : ℕ → Tag → FlvFrame
found_at at t =
    record {
      frame_type = frame_type t.head;
      timestamp = time_of t.head;
      start = at + 11;
      length = length t.body;
      next = at + (length t.body + 15);
    }

-- the tag that begins at a place, taken for a frame, or its refusal
unfoldable pub frame_at : List ℕ → ℕ → Result FlvFrame ErrorCode
frame_at file at = ok_or (tag_error (first_tag (drop at file))) (found_at at (first_tag (drop at file)))

-- the first frame among tags that begin at a place, behind which the reading stopped
abbrev pub next_in : ℕ → List Tag → ErrorCode → Result (Option FlvFrame) ErrorCode
next_in at [] e = no_frame e
next_in at (t ∷ ts) e = cond (is_frame t.head) (Ok (Some (found_at at t))) (next_in (at + (length t.body + 15)) ts e)

-- THE NEXT FRAME from a place on, which is read as a tag's first byte; a place behind the end is cut off
unfoldable pub flv_next : List ℕ → ℕ → Result (Option FlvFrame) ErrorCode
flv_next file at =
    cond (ltb (length file) at) (no_frame error.Truncated)
    (next_in at (tags_of (drop at file)).tags (tags_of (drop at file)).error)

-- A FILE'S START, WRITTEN: flags `05`, and the first back-pointer
abbrev pub start_bytes : List ℕ
start_bytes = 0x46 ∷ 0x4C ∷ 0x56 ∷ 0x01 ∷ 0x05 ∷ 0 ∷ 0 ∷ 0 ∷ 9 ∷ 0 ∷ 0 ∷ 0 ∷ 0 ∷ []

-- A FRAME, WRITTEN as a tag: its head, with stream id 0, its body and the back-pointer
abbrev pub byte_of_type : ℕ → ℕ
byte_of_type type = cond (eqb type 0) 8 (cond (eqb type 1) 9 18)

abbrev pub written_head : ℕ → ℕ → ℕ → List ℕ
written_head type time size = byte_of_type type ∷ (bytes24 size ++ (bytes24 time ++ (time / 16777216 % 256 ∷ 0 ∷ 0 ∷ 0 ∷ [])))

abbrev pub written_tag : Frame → Tag
written_tag f = record { head = written_head f.type f.time (length f.body); body = f.body; pointer = bytes32 (length f.body + 11) }

-- THE FAULTS OF A FRAME that is to be written, in their order: -21, type above 2; -27, body over 16,777,215 bytes
unfoldable pub frame_fault : ℕ → ℕ → ErrorCode
frame_fault type size = cond (ltb 2 type) error.UnknownFrameType (cond (ltb 16777215 size) error.BadLength error.Ok)

-- WHAT THE WRITERS RETURN, and what the output then holds; -22 comes last
unfoldable pub start_answer : ℕ → Result ℕ ErrorCode
start_answer room = answer_of (or_short error.Ok room start_bytes) start_bytes

unfoldable pub start_output : List ℕ → List ℕ
start_output out = output_of (or_short error.Ok (length out) start_bytes) start_bytes out

abbrev pub frame_write_error : Frame → ℕ → ErrorCode
frame_write_error f room = or_short (frame_fault f.type (length f.body)) room (tag_bytes (written_tag f))

unfoldable pub frame_answer : Frame → ℕ → Result ℕ ErrorCode
frame_answer f room = answer_of (frame_write_error f room) (tag_bytes (written_tag f))

unfoldable pub frame_output : Frame → List ℕ → List ℕ
frame_output f out = output_of (frame_write_error f (length out)) (tag_bytes (written_tag f)) out

-- the frame of a call's arguments
abbrev pub given_frame : ℕ → ℕ → List ℕ → Frame
given_frame type time body = record { type = type; time = time; body = body }
