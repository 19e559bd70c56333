-- What is shown of composition times: their 32-bit patterns, and in which headers they stand.
use Rattle.std.specs.Prelude.{◌≡◌, true, false, cond, List, ℕ, ◌+◌, ◌-◌, ◌*◌, ◌/◌, ◌%◌, ◌^◌, ◌≤◌, ◌<◌, eqb, ℤ, pos, ◌-ℤ◌, length}
use Rattle.std.specs.Int.Bits.{bit_and, bit_or}
use Rattle.wire.specs.Wire.{Bytes, byte_at, be24_at}
use Rattle.types.specs.Types.{is_ok}
use Rattle.types.specs.declared.ErrorCode.TheVariants as error
use Rattle.fourcc.specs.Fourcc.{fourcc_at}
use Rattle.exvideo.specs.Video.{is_enhanced, is_legacy_avc, is_command, is_timed, signed24, pattern32, signed32, video_header}
use Rattle.exvideo.specs.declared.VideoHeaderResult.{VideoHeaderResult}

-- TWO'S COMPLEMENT: what so many bits stand for, where the highest of them counts negative
abbrev pub twos_complement : ℕ → ℕ → ℤ
twos_complement bits n = pos (n % 2 ^ (bits - 1)) -ℤ pos (n / 2 ^ (bits - 1) * 2 ^ (bits - 1))

-- SIGN EXTENSION of 24 bits to 32, as the original has it: if bit 23 is set, so are bits 24 to 31
abbrev pub sign_extended : ℕ → ℕ
sign_extended n = cond (eqb (bit_and n 0x800000) 0) n (bit_or n 0xFF000000)

-- the signed number of 24 bits is the one that they stand for
unfoldable pub SignedNumber : Type 0
SignedNumber = (n : ℕ) → n < 16777216 → signed24 n ≡ twos_complement 24 n

-- and so is the signed number of 32 bits
unfoldable pub SignedPattern : Type 0
SignedPattern = (n : ℕ) → n < 2 ^ 32 → signed32 n ≡ twos_complement 32 n

-- THE PATTERN of a 24-bit number: its two cases, the same bits as before, and the signed number when it is read back
pub record PatternOf (n time : ℕ) : Type 0 where
  pub itself : n < 8388608 → time ≡ n
  pub raised : 8388608 ≤ n → time ≡ n + 4278190080
  pub extended : time ≡ sign_extended n
  pub back : twos_complement 32 time ≡ signed24 n

unfoldable pub Patterns : Type 0
Patterns = (n : ℕ) → n < 16777216 → PatternOf n (pattern32 (signed24 n))

-- HEADERS WITH A TIME: legacy AVC of 5 bytes or more
pub record LegacyTimed (p : List ℕ) : Type 0 where
  pub avc : is_legacy_avc (byte_at p 0) ≡ true
  pub long : 5 ≤ length p

-- and enhanced ones, no command, of packet type 1 with `avc1`, `hvc1` or `vvc1`, of 8 bytes or more
pub record EnhancedTimed (p : List ℕ) : Type 0 where
  pub enhanced : is_enhanced (byte_at p 0) ≡ true
  pub no_command : is_command (byte_at p 0) ≡ false
  pub timed : is_timed (byte_at p 0) (fourcc_at p 1) ≡ true
  pub long : 8 ≤ length p

-- a readable header that holds the time of a 24-bit number
abbrev pub Holds : ℕ → VideoHeaderResult → Type 0
Holds n a = (a.error ≡ error.Ok) × PatternOf n a.header.composition_time

-- THE TIME stands in bytes 2 to 4, in bytes 5 to 7, and is 0 in any other header
unfoldable pub LegacyTimes : Type 0
LegacyTimes = (p : List ℕ) → Bytes p → LegacyTimed p → Holds (be24_at p 2) (video_header p)

unfoldable pub EnhancedTimes : Type 0
EnhancedTimes = (p : List ℕ) → Bytes p → EnhancedTimed p → Holds (be24_at p 5) (video_header p)

unfoldable pub OtherTimes : Type 0
OtherTimes = (p : List ℕ) → (LegacyTimed p → ⊥) → (EnhancedTimed p → ⊥) → (video_header p).header.composition_time ≡ 0

-- A HEADER'S TIME is the pattern of a signed 24-bit number, and 0 in a header that is not readable
pub record HeaderTime (p : List ℕ) (a : VideoHeaderResult) : Type 0 where
  pub pattern : Bytes p → (n : ℕ) × ((n < 16777216) × (a.header.composition_time ≡ pattern32 (signed24 n)))
  pub unread : is_ok a.error ≡ false → a.header.composition_time ≡ 0

unfoldable pub HeaderTimes : Type 0
HeaderTimes = (p : List ℕ) → HeaderTime p (video_header p)
