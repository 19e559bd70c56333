-- Rows by computation: values of codes, ends of the standard's scales, and levels of frames.
use mathlib.Core.Path.{◌≡◌, refl}
use mathlib.Core.List.{[], ◌∷◌, map}
use Prim.Native.Nat.{ℕ}
use lib.IntN.{pos, neg_ℤ}
use lib.ListN.{get_or}
use Rattle.std.specs.Prelude.{Ok, Err}
use Rattle.types.specs.declared.ErrorCode.TheVariants as error
use Rattle.g711.specs.Expansion.{a_magnitude, a_law, mu_magnitude, mu_law}
use Rattle.g711.specs.Level.{largest, sound_level, level_answer, level_number}
use Rattle.g711.specs.Claims.{a_decisions, mu_decisions}

-- the quietest of both signs, the loudest of both signs, code 0
a_values : map a_law (0xD5 ∷ 0x55 ∷ 0xAA ∷ 0x2A ∷ 0x00 ∷ []) ≡ pos 1 ∷ neg_ℤ (pos 1) ∷ pos 4032 ∷ neg_ℤ (pos 4032) ∷ neg_ℤ (pos 688) ∷ []
unfolding a_law a_magnitude
a_values = refl

mu_values : map mu_law (0xFF ∷ 0x7F ∷ 0x80 ∷ 0x00 ∷ 0x2A ∷ []) ≡ pos 0 ∷ pos 0 ∷ pos 8031 ∷ neg_ℤ (pos 8031) ∷ neg_ℤ (pos 1343) ∷ []
unfolding mu_law mu_magnitude
mu_values = refl

-- where the scales end: decision value 128
a_end : get_or a_decisions 128 0 ≡ 4096
unfolding a_decisions
a_end = refl

mu_end : get_or mu_decisions 128 0 ≡ 8159
unfolding mu_decisions
mu_end = refl

-- audio: a loud sample; the tag byte is none; every byte behind it is one, under any low nibble; no sample; enhanced audio and other formats
audio_levels :
    map (λ p. level_number (level_answer 0 p))
    ((0x70 ∷ 0x2A ∷ []) ∷ (0x80 ∷ 0x2A ∷ []) ∷ (0x70 ∷ 0xD5 ∷ []) ∷ (0x80 ∷ 0xFF ∷ []) ∷ (0x7F ∷ 0x00 ∷ 0x02 ∷ []) ∷ (0x87 ∷ 0x00 ∷ 0x00 ∷ 0x00 ∷ [])
    ∷ (0x70 ∷ 0x00 ∷ 0xAA ∷ 0x2A ∷ 0xD5 ∷ []) ∷ (0x80 ∷ 0x00 ∷ []) ∷ (0x70 ∷ []) ∷ [] ∷ (0x97 ∷ 0x00 ∷ []) ∷ (0x60 ∷ 0x00 ∷ []) ∷ (0xA0 ∷ 0x00 ∷ []) ∷ [])
    ≡ 4032 ∷ 1343 ∷ 1 ∷ 0 ∷ 752 ∷ 8031 ∷ 4032 ∷ 8031 ∷ 0 ∷ 0 ∷ 0 ∷ 0 ∷ 0 ∷ []
unfolding level_answer sound_level largest a_law a_magnitude mu_law mu_magnitude
audio_levels = refl

-- the other frame types have none, and above 3 there is no frame
other_types :
    map (λ (type : ℕ). level_answer type (0x70 ∷ 0x2A ∷ [])) (1 ∷ 2 ∷ 3 ∷ 4 ∷ 256 ∷ [])
    ≡ Ok 0 ∷ Ok 0 ∷ Ok 0 ∷ Err error.UnknownFrameType ∷ Err error.UnknownFrameType ∷ []
unfolding level_answer
other_types = refl
