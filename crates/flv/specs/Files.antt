-- FLV files, version 1: what a file is made of, and how it is read, place by place. A back-pointer says how long what stands before it is.
use Rattle.std.specs.Prelude.{Bool, true, false, cond, not, ◌&&◌, ◌||◌, List, [], ◌∷◌, ◌++◌, ℕ, zero, suc, ◌+◌, eqb, ltb, length, take, drop}
use Rattle.wire.specs.Wire.{byte_at, part, be24_at, be32, be32_at}
use Rattle.types.specs.Types.{is_ok}
use Rattle.types.specs.declared.ErrorCode.{ErrorCode}
use Rattle.types.specs.declared.ErrorCode.TheVariants as error

-- A HEADER of nine bytes: `FLV` and version 1, which are the bytes 46 4C 56 01; flags, which are not read; and data offset 9
unfoldable pub is_header : List ℕ → Bool
is_header h = eqb (be32_at h 0) 0x464C5601 && eqb (be32_at h 5) 9

-- THE REFUSALS OF A FILE'S START in their order, over what was read of its nine bytes of header and four of back-pointer: at each of the two places -25
-- if the file ends there, then its own, -29 and -30
unfoldable pub start_refusal : List ℕ → List ℕ → ErrorCode
start_refusal header pointer =
    cond (ltb (length header) 9) error.Truncated
    (cond (not (is_header header)) error.NotFlv
    (cond (ltb (length pointer) 4) error.Truncated
    (cond (not (eqb (be32_at pointer 0) 0)) error.WrongBackPointer error.Ok)))

unfoldable pub start_error : List ℕ → ErrorCode
start_error file = start_refusal (take 9 file) (part file 9 4)

-- A TAG: a head of 11 bytes, a body, and a back-pointer of four bytes
pub record Tag : Type 0 where
  pub head : List ℕ
  pub body : List ℕ
  pub pointer : List ℕ

abbrev pub tag_bytes : Tag → List ℕ
tag_bytes t = t.head ++ (t.body ++ t.pointer)

-- a head: the type byte; the length of the body, 24 bits; the time, its low 24 bits and then its high 8; and three bytes of stream id, which are not read
abbrev pub type_byte : List ℕ → ℕ
type_byte head = byte_at head 0

abbrev pub body_size : List ℕ → ℕ
body_size head = be24_at head 1

abbrev pub time_of : List ℕ → ℕ
time_of head = be32 (byte_at head 7) (byte_at head 4) (byte_at head 5) (byte_at head 6)

-- THE REFUSALS OF A TAG in their order, over what was read of it: -25 if the file ends in the head, in the body, of which so many bytes were read, or in
-- the back-pointer; then -30 if that is not the body's length and 11
unfoldable pub tag_refusal : List ℕ → ℕ → List ℕ → ErrorCode
tag_refusal head got pointer =
    cond (ltb (length head) 11) error.Truncated
    (cond (ltb got (body_size head)) error.Truncated
    (cond (ltb (length pointer) 4) error.Truncated
    (cond (not (eqb (be32_at pointer 0) (body_size head + 11))) error.WrongBackPointer error.Ok)))

abbrev pub tag_error : Tag → ErrorCode
tag_error t = tag_refusal t.head (length t.body) t.pointer

-- what is read of the first tag of some bytes, as far as they go; and what is left then
abbrev pub first_tag : List ℕ → Tag
first_tag s = record { head = take 11 s; body = part s 11 (body_size (take 11 s)); pointer = part s (11 + body_size (take 11 s)) 4 }

abbrev pub behind_tag : List ℕ → List ℕ
behind_tag s = drop (15 + body_size (take 11 s)) s

-- what comes of a reading: the tags that were read, and why it stopped; Ok is the clean end
pub record Reading : Type 0 where
  pub tags : List Tag
  pub error : ErrorCode

abbrev pub stopped : ErrorCode → Reading
stopped e = record { tags = []; error = e }

abbrev pub with_tag : Tag → Reading → Reading
with_tag t r = record { tags = t ∷ r.tags; error = r.error }

-- THE TAGS OF SOME BYTES, one behind the other, up to the first that is refused; k bounds how many are looked for
unfoldable pub read_tags : (Tag → ErrorCode) → ℕ → List ℕ → Reading
read_tags refusal zero s = stopped error.Ok
read_tags refusal (suc k) [] = stopped error.Ok
read_tags refusal (suc k) (x ∷ s) =
    elim (is_ok (refusal (first_tag (x ∷ s)))) [
      | true ↦ with_tag (first_tag (x ∷ s)) (read_tags refusal k (behind_tag (x ∷ s)))
      | false ↦ stopped (refusal (first_tag (x ∷ s)))
    ]

-- there are no more tags than bytes
abbrev pub tags_under : (Tag → ErrorCode) → List ℕ → Reading
tags_under refusal s = read_tags refusal (length s) s

abbrev pub tags_of : List ℕ → Reading
tags_of s = tags_under tag_error s

-- A FILE READ: its start, then its tags
unfoldable pub read_file : List ℕ → Reading
read_file file = cond (is_ok (start_error file)) (tags_of (drop 13 file)) (stopped (start_error file))

-- FRAMES are the tags of type bytes 8, 9 and 18, whole bytes, which become frame types 0, 1 and 2; any other tag is stepped over
abbrev pub is_frame_byte : ℕ → Bool
is_frame_byte b = eqb b 8 || (eqb b 9 || eqb b 18)

abbrev pub frame_type_byte : ℕ → ℕ
frame_type_byte b = cond (eqb b 8) 0 (cond (eqb b 9) 1 2)

abbrev pub is_frame : List ℕ → Bool
is_frame head = is_frame_byte (type_byte head)

abbrev pub frame_type : List ℕ → ℕ
frame_type head = frame_type_byte (type_byte head)

pub record Frame : Type 0 where
  pub type : ℕ
  pub time : ℕ
  pub body : List ℕ

abbrev pub frame_of : Tag → Frame
frame_of t = record { type = frame_type t.head; time = time_of t.head; body = t.body }

abbrev pub frames_of : List Tag → List Frame
frames_of [] = []
frames_of (t ∷ ts) = cond (is_frame t.head) (frame_of t ∷ frames_of ts) (frames_of ts)
