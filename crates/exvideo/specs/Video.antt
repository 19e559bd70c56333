-- The video tag header: VideoTagHeader of the FLV specification, and ExVideoTagHeader of Enhanced RTMP v2.
use Rattle.std.specs.Prelude.{Bool, cond, not, ◌&&◌, ◌||◌, List, ℕ, suc, ◌-◌, ◌%◌, ◌^◌, eqb, ltb, leb, ℤ, pos, negsuc, ◌-ℤ◌, length}
use Rattle.wire.specs.Wire.{byte_at, bit, high, low, be24_at}
use Rattle.types.specs.Types.{no_fourcc, default_video_header}
use Rattle.types.specs.declared.ErrorCode.TheVariants as error
use Rattle.types.specs.declared.VideoHeader.{VideoHeader}
use Rattle.fourcc.specs.Fourcc.{fourcc_at, same_fourcc, avc1, hvc1, vvc1}
use Rattle.exvideo.specs.declared.VideoHeaderResult.{VideoHeaderResult}

-- bit 7 of byte 0 says that the header is enhanced
abbrev pub is_enhanced : ℕ → Bool
is_enhanced b = bit 7 b

-- the frame type that byte 0 names: the high nibble, or 3 bits where enhanced
unfoldable pub tag_frame_type : ℕ → ℕ
tag_frame_type b = cond (is_enhanced b) (high b % 8) (high b)

-- legacy AVC: bit 7 clear and codec nibble 7
unfoldable pub is_legacy_avc : ℕ → Bool
is_legacy_avc b = not (is_enhanced b) && eqb (low b) 7

-- an enhanced command: frame type 5 with packet type other than 4 or 7
unfoldable pub is_command : ℕ → Bool
is_command b = is_enhanced b && (eqb (tag_frame_type b) 5 && not (eqb (low b) 4 || eqb (low b) 7))

-- packet type 1 with `avc1`, `hvc1` or `vvc1` has a composition time
unfoldable pub is_timed : ℕ → List ℕ → Bool
is_timed b f = eqb (low b) 1 && (same_fourcc f avc1 || (same_fourcc f hvc1 || same_fourcc f vvc1))

-- SI24: a 24-bit number below 8,388,608 is itself, any other is itself less 16,777,216
unfoldable pub signed24 : ℕ → ℤ
signed24 n = cond (ltb n 8388608) (pos n) (pos n -ℤ pos 16777216)

-- the 32-bit pattern of a signed number: two's complement
unfoldable pub pattern32 : ℤ → ℕ
pattern32 (pos n) = n
pattern32 (negsuc n) = 2 ^ 32 - suc n

-- and back: a pattern below 2,147,483,648 is itself, any other is itself less 4,294,967,296
unfoldable pub signed32 : ℕ → ℤ
signed32 n = cond (ltb n 2147483648) (pos n) (pos n -ℤ pos 4294967296)

-- three bytes are a signed 24-bit composition time, kept as its 32-bit pattern
unfoldable pub time_at : List ℕ → ℕ → ℕ
time_at p i = pattern32 (signed24 (be24_at p i))

-- a legacy header: no packet type, no FourCC
abbrev pub legacy_video : ℕ → ℕ → ℕ → VideoHeader
legacy_video b time size =
    record { is_ex_header = 0; packet_type = 0; fourcc = no_fourcc; frame_type = tag_frame_type b; composition_time = time; header_size = size }

-- an enhanced header: packet type is the low nibble
abbrev pub enhanced_video : ℕ → List ℕ → ℕ → ℕ → VideoHeader
enhanced_video b f time size =
    record { is_ex_header = 1; packet_type = low b; fourcc = f; frame_type = tag_frame_type b; composition_time = time; header_size = size }

abbrev pub accept : VideoHeader → VideoHeaderResult
accept h = record { error = error.Ok; header = h }

-- a refused header is returned as far as it was filled
abbrev pub refuse : VideoHeader → VideoHeaderResult
refuse h = record { error = error.Io; header = h }

-- bit 7 clear: size 1; codec nibble 7 and at least 5 bytes: composition time in bytes 2 to 4, size 5
unfoldable pub legacy_header : ℕ → List ℕ → VideoHeaderResult
legacy_header b p = cond (is_legacy_avc b && leb 5 (length p)) (accept (legacy_video b (time_at p 2) 5)) (accept (legacy_video b 0 1))

-- a command needs 2 bytes, size 2; otherwise 5 bytes, FourCC in 1 to 4, size 5; where timed 8 bytes, composition time in 5 to 7, size 8
unfoldable pub enhanced_header : ℕ → List ℕ → VideoHeaderResult
enhanced_header b p =
    cond (is_command b)
    (cond (ltb (length p) 2) (refuse (enhanced_video b no_fourcc 0 0)) (accept (enhanced_video b no_fourcc 0 2)))
    (cond (ltb (length p) 5) (refuse (enhanced_video b no_fourcc 0 0))
    (cond (is_timed b (fourcc_at p 1))
    (cond (ltb (length p) 8) (refuse (enhanced_video b (fourcc_at p 1) 0 5)) (accept (enhanced_video b (fourcc_at p 1) (time_at p 5) 8)))
    (accept (enhanced_video b (fourcc_at p 1) 0 5))))

-- THE VIDEO HEADER; an empty payload is refused with the default
unfoldable pub video_header : List ℕ → VideoHeaderResult
video_header p =
    cond (eqb (length p) 0) (refuse default_video_header) (cond (is_enhanced (byte_at p 0)) (enhanced_header (byte_at p 0) p) (legacy_header (byte_at p 0) p))
