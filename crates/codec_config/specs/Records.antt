-- Codec configuration records: which are valid, and which bytes of a valid one are sealed. What a grammar passes over is sealed, what it reads is
-- open. "Set", "sealed" and "opaque" are terms of docs/REQUIREMENTS.md; a set is a parameter set.
use Rattle.std.specs.Prelude.{Bool, false, cond, not, ◌&&◌, ◌||◌, List, ℕ, zero, suc, ◌+◌, ◌-◌, ◌*◌, ◌/◌, ◌%◌, ◌^◌, eqb, ltb, leb, length}
use Rattle.wire.specs.Wire.{byte_at, be16}
use Rattle.wire.specs.Mask.{Mask}
use Rattle.wire.specs.Grammar.{Grammar, byte, skip, guard, end_or, non_empty, sealed_rest, open_rest, accepted, mask_of}
use Rattle.types.specs.Types.{is_audio}
use Rattle.fourcc.specs.Fourcc.{fourcc_at, same_fourcc, avc1, hvc1, mp4a, opus}
use Rattle.codec_config.specs.declared.ConfigCodec.{ConfigCodec}
use Rattle.codec_config.specs.declared.ConfigCodec.TheVariants.{Avc, Hevc, Opaque, Aac, Opus}

-- the type that a set's first byte names, its nal_unit_type: in AVC by the low five bits, in HEVC by bits 1 to 6
abbrev pub avc_names : ℕ → ℕ → Bool
avc_names type first = eqb (first % 32) type

abbrev pub hevc_names : ℕ → ℕ → Bool
hevc_names type first = eqb (first / 2 % 64) type

-- a set is a non-zero 16-bit length and that many bytes, the first of which must name a type
unfoldable pub set : (ℕ → Bool) → Grammar → Grammar
set names next = byte λ h. byte λ l. guard (ltb 0 (be16 h l)) (byte λ first. guard (names first) (skip (be16 h l - 1) next))

unfoldable pub sets : (ℕ → Bool) → ℕ → Grammar → Grammar
sets names zero next = next
sets names (suc n) next = set names (sets names n next)

-- AVC (AVCDecoderConfigurationRecord of ISO/IEC 14496-15), its last part first, since each part names what follows it:
-- nothing, or three bytes, a count and its sets of type 13, anything after
unfoldable pub avc_extension : Grammar
avc_extension = end_or (skip 3 (byte λ count. sets (avc_names 13) count sealed_rest))

-- a count byte, not 0, and its sets of type 8
unfoldable pub avc_picture_sets : Grammar
avc_picture_sets = byte λ count. guard (ltb 0 count) (sets (avc_names 8) count avc_extension)

-- byte 0 is 1; bytes 1 to 4; the low five bits of byte 5 count sets of type 7, not 0. So a record has 7 bytes or more
unfoldable pub avc : Grammar
avc = byte λ version. guard (eqb version 1) (skip 4 (byte λ b. guard (ltb 0 (b % 32)) (sets (avc_names 7) (b % 32) avc_picture_sets)))

-- HEVC (HEVCDecoderConfigurationRecord of ISO/IEC 14496-15): whether a set of the wanted type was seen, before or in an array of so many sets
unfoldable pub set_seen : Bool → ℕ → ℕ → ℕ → Bool
set_seen before wanted type count = before || (eqb type wanted && ltb 0 count)

-- so many arrays of (type in low six bits, 16-bit count, sets of that type); at least one set each of types 33 and 34; anything after
unfoldable pub hevc_arrays : ℕ → Bool → Bool → Grammar
hevc_arrays zero sps pps = guard (sps && pps) sealed_rest
hevc_arrays (suc n) sps pps =
    byte λ type. byte λ h. byte λ l. sets (hevc_names (type % 64)) (be16 h l)
    (hevc_arrays n (set_seen sps 33 (type % 64) (be16 h l)) (set_seen pps 34 (type % 64) (be16 h l)))

-- byte 0 is 1; bytes 1 to 21; byte 22 counts arrays. So a record has over 22 bytes
unfoldable pub hevc : Grammar
hevc = byte λ version. guard (eqb version 1) (skip 21 (byte λ count. hevc_arrays count false false))

-- AAC (AudioSpecificConfig of ISO/IEC 14496-3), by bits: bit 0 is the highest of byte 0; past the end a bit reads as 0
unfoldable pub bit_at : List ℕ → ℕ → ℕ
bit_at p i = byte_at p (i / 8) / 2 ^ (7 - i % 8) % 2

-- the number in n bits from bit i on
unfoldable pub bits_at : List ℕ → ℕ → ℕ → ℕ
bits_at p i zero = 0
bits_at p i (suc n) = bits_at p i n * 2 + bit_at p (i + n)

-- object type 5, and 6 more if 31: where the frequency index begins
unfoldable pub frequency_bit : List ℕ → ℕ
frequency_bit p = cond (eqb (bits_at p 0 5) 31) 11 5

-- frequency index 4, at bit i of so many bytes: not 13 or 14, and 24 more if 15; 4 channel bits, which must be there, and so all before them
unfoldable pub frequency_valid : ℕ → ℕ → ℕ → Bool
frequency_valid index i size = not (eqb index 13 || eqb index 14) && leb (i + 4 + cond (eqb index 15) 24 0 + 4) (8 * size)

-- object type not 0, and a frequency index where it begins
unfoldable pub aac : List ℕ → Bool
aac p = ltb 0 (bits_at p 0 5) && frequency_valid (bits_at p (frequency_bit p) 4) (frequency_bit p) (length p)

-- THE RULE OF EACH CODEC. Opaque: non-empty, all sealed. AAC seals nothing. Opus is Opaque, or empty
unfoldable pub record_grammar : ConfigCodec → Grammar
record_grammar Avc = avc
record_grammar Hevc = hevc
record_grammar Opaque = non_empty sealed_rest
record_grammar Aac = open_rest aac
record_grammar Opus = sealed_rest

-- A RECORD'S VERDICT, and its mask, which seals nothing in a refused record
unfoldable pub record_valid : ConfigCodec → List ℕ → Bool
record_valid codec p = accepted (record_grammar codec p)

unfoldable pub record_mask : ConfigCodec → List ℕ → Mask
record_mask codec p = mask_of (record_grammar codec p)

-- FourCC `avc1` takes the AVC rule, `hvc1` the HEVC rule, any other Opaque
unfoldable pub fourcc_codec : List ℕ → ConfigCodec
fourcc_codec f = cond (same_fourcc f avc1) Avc (cond (same_fourcc f hvc1) Hevc Opaque)

-- `ConfigCodec::from_fourcc` over a byte string: under four bytes is Opaque, further bytes are not looked at
unfoldable pub from_fourcc : List ℕ → ConfigCodec
from_fourcc s = cond (ltb (length s) 4) Opaque (fourcc_codec (fourcc_at s 0))

-- THE CODEC OF AN ENHANCED SEQUENCE START, by frame type and FourCC: in audio `mp4a` takes the AAC rule, and an empty `Opus` one is valid
unfoldable pub start_codec : ℕ → List ℕ → ConfigCodec
start_codec type f =
    cond (is_audio type && same_fourcc f mp4a) Aac
    (cond (is_audio type && same_fourcc f opus) Opus
    (fourcc_codec f))

-- a codec's number: the Rust's three in its order, then the two of audio starts
abbrev pub config_codec_number : ConfigCodec → ℕ
config_codec_number Avc = 0
config_codec_number Hevc = 1
config_codec_number Opaque = 2
config_codec_number Aac = 3
config_codec_number Opus = 4
