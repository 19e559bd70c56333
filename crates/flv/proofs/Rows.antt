-- Rows by computation: what the calls answer to the smallest files that tell a reading from its rivals.
use mathlib.Core.Path.{◌≡◌, refl}
use mathlib.Core.List.{List, [], ◌∷◌, ◌++◌}
use Prim.Native.Nat.{ℕ}
use Rattle.std.specs.Prelude.{Some, None, Ok, Err}
use Rattle.types.specs.declared.ErrorCode.TheVariants as error
use Rattle.writers.specs.Writing.{or_short}
use lib.ListN.{drop}
use Rattle.flv.specs.Files.{tag_bytes, is_header, start_refusal, start_error, tag_refusal, read_tags, tags_of}
use Rattle.flv.specs.Claims.{place_behind}
use Rattle.flv.specs.Calls.{flv_start, flv_next, start_bytes, written_tag, given_frame, frame_fault, start_answer, frame_write_error}

-- an empty audio tag; the same with a wrong back-pointer; an empty tag whose type byte is that of an encrypted audio tag, right and wrong
abbrev empty : List ℕ
empty = 0x08 ∷ 0x00 ∷ 0x00 ∷ 0x00 ∷ 0x00 ∷ 0x00 ∷ 0x00 ∷ 0x00 ∷ 0x00 ∷ 0x00 ∷ 0x00 ∷ 0x00 ∷ 0x00 ∷ 0x00 ∷ 0x0B ∷ []

abbrev wrong : List ℕ
wrong = 0x08 ∷ 0x00 ∷ 0x00 ∷ 0x00 ∷ 0x00 ∷ 0x00 ∷ 0x00 ∷ 0x00 ∷ 0x00 ∷ 0x00 ∷ 0x00 ∷ 0x00 ∷ 0x00 ∷ 0x00 ∷ 0x0C ∷ []

abbrev other : List ℕ
other = 0x28 ∷ 0x00 ∷ 0x00 ∷ 0x00 ∷ 0x00 ∷ 0x00 ∷ 0x00 ∷ 0x00 ∷ 0x00 ∷ 0x00 ∷ 0x00 ∷ 0x00 ∷ 0x00 ∷ 0x00 ∷ 0x0B ∷ []

abbrev other_wrong : List ℕ
other_wrong = 0x28 ∷ 0x00 ∷ 0x00 ∷ 0x00 ∷ 0x00 ∷ 0x00 ∷ 0x00 ∷ 0x00 ∷ 0x00 ∷ 0x00 ∷ 0x00 ∷ 0x00 ∷ 0x00 ∷ 0x00 ∷ 0x00 ∷ []

-- a script tag of one byte, with the time 2,147,483,649
abbrev script : List ℕ
script = 0x12 ∷ 0x00 ∷ 0x00 ∷ 0x01 ∷ 0x00 ∷ 0x00 ∷ 0x01 ∷ 0x80 ∷ 0x00 ∷ 0x00 ∷ 0x00 ∷ 0xAA ∷ 0x00 ∷ 0x00 ∷ 0x00 ∷ 0x0C ∷ []

-- THE START
started : flv_start start_bytes ≡ Ok 13
unfolding flv_start start_error start_refusal is_header
started = refl

nothing : flv_start [] ≡ Err error.Truncated
unfolding flv_start start_error start_refusal
nothing = refl

-- THE NEXT FRAME: a time of 32 bits; behind another tag; the clean end
found : flv_next (start_bytes ++ script) 13 ≡ Ok (Some (record { frame_type = 2; timestamp = 2147483649; start = 24; length = 1; next = 29 }))
unfolding flv_next read_tags tag_refusal
found = refl

stepped_over : flv_next (start_bytes ++ (other ++ empty)) 13 ≡ Ok (Some (record { frame_type = 0; timestamp = 0; start = 39; length = 0; next = 43 }))
unfolding flv_next read_tags tag_refusal
stepped_over = refl

clean_end : (flv_next (start_bytes ++ other) 13 ≡ Ok None) × (place_behind 13 (tags_of (drop 13 (start_bytes ++ other))).tags ≡ 28)
unfolding flv_next read_tags tag_refusal
clean_end = (refl, refl)

-- a place behind the end; a wrong back-pointer, of the frame and of a tag before it; one to ten bytes behind the last tag
behind_the_end : flv_next (start_bytes ++ empty) 29 ≡ Err error.Truncated
unfolding flv_next
behind_the_end = refl

not_matched : flv_next (start_bytes ++ wrong) 13 ≡ Err error.WrongBackPointer
unfolding flv_next read_tags tag_refusal
not_matched = refl

fault_before : flv_next (start_bytes ++ (other_wrong ++ empty)) 13 ≡ Err error.WrongBackPointer
unfolding flv_next read_tags tag_refusal
fault_before = refl

trailing : flv_next (start_bytes ++ (empty ++ (0x00 ∷ []))) 28 ≡ Err error.Truncated
unfolding flv_next read_tags tag_refusal
trailing = refl

-- any place is read as a tag's first byte: at 12 a zero byte, and then a head that asks for 0x080000 bytes
inside_the_start : flv_next (start_bytes ++ empty) 12 ≡ Err error.Truncated
unfolding flv_next read_tags tag_refusal
inside_the_start = refl

-- WRITING: a script frame; the order of the refusals
written : tag_bytes (written_tag (given_frame 2 2147483649 (0xAA ∷ []))) ≡ script
written = refl

type_first : frame_fault 3 16777216 ≡ error.UnknownFrameType
unfolding frame_fault
type_first = refl

then_length : frame_fault 0 16777216 ≡ error.BadLength
unfolding frame_fault
then_length = refl

then_room : frame_write_error (given_frame 0 0 []) 14 ≡ error.OutputTooShort
unfolding frame_fault or_short
then_room = refl

type_before_room : frame_write_error (given_frame 3 0 []) 0 ≡ error.UnknownFrameType
unfolding frame_fault or_short
type_before_room = refl

start_short : start_answer 12 ≡ Err error.OutputTooShort
unfolding start_answer or_short
start_short = refl
