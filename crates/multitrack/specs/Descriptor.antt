-- The AMF0 track descriptor: a number, the track type, and a string, the track name.
use Rattle.std.specs.Prelude.{cond, not, List, ◌++◌, ℕ, ◌+◌, ◌-◌, eqb, ltb, Float, length, take, replicate}
use Rattle.std.specs.Float.{binary64}
use Rattle.std.specs.Float.Ieee.{of_bits, eq}
use Rattle.wire.specs.Wire.{byte_at, part, be16_at, be64_at}
use Rattle.types.specs.Types.{default_multitrack_type}
use Rattle.types.specs.declared.ErrorCode.{ErrorCode}
use Rattle.types.specs.declared.ErrorCode.TheVariants as error
use Rattle.types.specs.declared.MultitrackType.{MultitrackType}
use Rattle.types.specs.declared.MultitrackType.TheVariants.{Audio, Video, Metadata}
use Rattle.multitrack.specs.declared.MultitrackResult.{MultitrackResult}

-- a double: 0 Audio, 1 Video, anything else Metadata. By IEEE 754 minus zero equals zero, and a NaN equals nothing
unfoldable pub type_of_double : Float → MultitrackType
type_of_double x = cond (eq x (of_bits binary64 0)) Audio (cond (eq x (of_bits binary64 0x3FF0_0000_0000_0000)) Video Metadata)

-- the same by the bit pattern: the two zeros, one, and all others
unfoldable pub type_of_bits : ℕ → MultitrackType
type_of_bits n = cond (eqb n 0) Audio (cond (eqb n 0x8000_0000_0000_0000) Audio (cond (eqb n 0x3FF0_0000_0000_0000) Video Metadata))

-- the track type: the double in bytes 1 to 8
unfoldable pub track_type_of : List ℕ → MultitrackType
track_type_of p = type_of_double (of_bits binary64 (be64_at p 1))

-- the 16-bit length of the name, in bytes 10 and 11
abbrev pub name_length : List ℕ → ℕ
name_length p = be16_at p 10

-- the name, of which 63 bytes are kept, in a field of 64
unfoldable pub name_field : List ℕ → List ℕ
name_field name = take 63 name ++ replicate (64 - length (take 63 name)) 0

abbrev pub no_name : List ℕ
no_name = replicate 64 0

abbrev pub answer : ErrorCode → MultitrackType → List ℕ → MultitrackResult
answer e t name = record { error = e; multitrack = record { track_type = t; track_name = name } }

-- THE DESCRIPTOR: 9 bytes or Io; marker `00`; a double; `02`, a 16-bit length and the name. Shorter is Io, a wrong marker Protocol; under 12 bytes
-- is Io before `02` is looked at. A refusal leaves defaults, with the track type already set once the number was read
unfoldable pub descriptor : List ℕ → MultitrackResult
descriptor p =
    cond (ltb (length p) 9) (answer error.Io default_multitrack_type no_name)
    (cond (not (eqb (byte_at p 0) 0)) (answer error.Protocol default_multitrack_type no_name)
    (cond (ltb (length p) 12) (answer error.Io (track_type_of p) no_name)
    (cond (not (eqb (byte_at p 9) 2)) (answer error.Protocol (track_type_of p) no_name)
    (cond (ltb (length p) (12 + name_length p)) (answer error.Io (track_type_of p) no_name)
    (answer error.Ok (track_type_of p) (name_field (part p 12 (name_length p))))))))
