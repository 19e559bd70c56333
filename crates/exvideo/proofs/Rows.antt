-- Rows by computation: composition times at both ends and on both sides of the limit, in every kind of header that has one, and headers that have none.
use mathlib.Core.Path.{◌≡◌, refl}
use mathlib.Core.List.{List, [], ◌∷◌, ◌++◌, map}
use Prim.Native.Nat.{ℕ}
use lib.IntN.{ℤ, pos, neg_ℤ}
use lib.ListN.{replicate}
use Rattle.wire.specs.Wire.{be24_at}
use Rattle.fourcc.specs.Fourcc.{fourcc_at, same_fourcc, avc1, hvc1, vvc1}
use Rattle.exvideo.specs.Video.{tag_frame_type, is_legacy_avc, is_command, is_timed, signed24, pattern32, time_at, legacy_header, enhanced_header, video_header}
use Rattle.exvideo.specs.Claims.{twos_complement, sign_extended}

-- the time that a header holds
abbrev held : List ℕ → ℕ
held p = (video_header p).header.composition_time

-- the three bytes of a time, the numbers that they stand for, and the patterns of these
threes : List (List ℕ)
threes =
    (0x00 ∷ 0x00 ∷ 0x00 ∷ []) ∷ (0x00 ∷ 0x00 ∷ 0x01 ∷ []) ∷ (0x7F ∷ 0xFF ∷ 0xFE ∷ []) ∷ (0x7F ∷ 0xFF ∷ 0xFF ∷ [])
    ∷ (0x80 ∷ 0x00 ∷ 0x00 ∷ []) ∷ (0x80 ∷ 0x00 ∷ 0x01 ∷ []) ∷ (0xFF ∷ 0xFF ∷ 0xFE ∷ []) ∷ (0xFF ∷ 0xFF ∷ 0xFF ∷ []) ∷ []

numbers : List ℤ
numbers = pos 0 ∷ pos 1 ∷ pos 8388606 ∷ pos 8388607 ∷ neg_ℤ (pos 8388608) ∷ neg_ℤ (pos 8388607) ∷ neg_ℤ (pos 2) ∷ neg_ℤ (pos 1) ∷ []

words : List ℕ
words = 0x00000000 ∷ 0x00000001 ∷ 0x007FFFFE ∷ 0x007FFFFF ∷ 0xFF800000 ∷ 0xFF800001 ∷ 0xFFFFFFFE ∷ 0xFFFFFFFF ∷ []

signed : map (λ (t : List ℕ). signed24 (be24_at t 0)) threes ≡ numbers
unfolding threes numbers signed24
signed = refl

read : map (twos_complement 32) words ≡ numbers
unfolding words numbers
read = refl

extended : map (λ (t : List ℕ). sign_extended (be24_at t 0)) threes ≡ words
unfolding threes words
extended = refl

-- in legacy AVC, and in enhanced video with each FourCC that has a time
fronts : List (List ℕ)
fronts = (0x17 ∷ 0x01 ∷ []) ∷ (0x91 ∷ avc1) ∷ (0x91 ∷ hvc1) ∷ (0x91 ∷ vvc1) ∷ []

patterns : map (λ (front : List ℕ). map (λ (t : List ℕ). held (front ++ t)) threes) fronts ≡ replicate 4 words
unfolding threes words fronts tag_frame_type is_legacy_avc is_command is_timed signed24 pattern32 time_at legacy_header enhanced_header video_header fourcc_at same_fourcc
patterns = refl

-- a byte short, refused where enhanced; another legacy codec, packet type or FourCC; a command; an empty payload
untimed :
    map held
    ((0x17 ∷ 0x01 ∷ 0x80 ∷ 0x00 ∷ []) ∷ (0x91 ∷ avc1 ++ (0x80 ∷ 0x00 ∷ [])) ∷ (0x12 ∷ 0x01 ∷ 0x80 ∷ 0x00 ∷ 0x00 ∷ []) ∷ (0x93 ∷ avc1 ++ (0x80 ∷ 0x00 ∷ 0x00 ∷ []))
    ∷ (0x91 ∷ 0x61 ∷ 0x76 ∷ 0x30 ∷ 0x31 ∷ 0x80 ∷ 0x00 ∷ 0x00 ∷ []) ∷ (0xD1 ∷ avc1 ++ (0x80 ∷ 0x00 ∷ 0x00 ∷ [])) ∷ [] ∷ [])
    ≡ replicate 7 0
unfolding tag_frame_type is_legacy_avc is_command is_timed signed24 pattern32 time_at legacy_header enhanced_header video_header fourcc_at same_fourcc
untimed = refl
