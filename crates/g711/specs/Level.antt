-- The level of a frame: how loud its loudest sample is.
use Rattle.std.specs.Prelude.{Bool, cond, List, [], ◌∷◌, map, ℕ, max, eqb, ℤ, nat_abs, drop, Result, Ok, Err}
use Rattle.std.specs.Result.{result_unwrap_or}
use Rattle.wire.specs.Wire.{byte_at, high}
use Rattle.types.specs.Types.{is_audio, is_unknown_type}
use Rattle.types.specs.declared.ErrorCode.{ErrorCode}
use Rattle.types.specs.declared.ErrorCode.TheVariants as error
use Rattle.g711.specs.Expansion.{a_law, mu_law}

-- the largest of some numbers, 0 if there are none
unfoldable pub largest : List ℕ → ℕ
largest [] = 0
largest (n ∷ ns) = max n (largest ns)

-- the largest magnitude that a law gives to codes
abbrev pub peak : (ℕ → ℤ) → List ℕ → ℕ
peak law codes = largest (map (λ c. nat_abs (law c)) codes)

-- legacy sound formats, the high nibble of byte 0: 7 is A-law, 8 mu-law
abbrev pub is_a_law : List ℕ → Bool
is_a_law p = eqb (high (byte_at p 0)) 7

abbrev pub is_mu_law : List ℕ → Bool
is_mu_law p = eqb (high (byte_at p 0)) 8

-- one sample in each byte after the first
abbrev pub samples : List ℕ → List ℕ
samples p = drop 1 p

-- the level of an audio payload, 0 in any other format
unfoldable pub sound_level : List ℕ → ℕ
sound_level p = cond (is_a_law p) (peak a_law (samples p)) (cond (is_mu_law p) (peak mu_law (samples p)) 0)

-- THE LEVEL of a payload as it is: nothing is peeled; 0 but in audio; frame type above 3: -21
unfoldable pub level_answer : ℕ → List ℕ → Result ℕ ErrorCode
level_answer type p = cond (is_unknown_type type) (Err error.UnknownFrameType) (Ok (cond (is_audio type) (sound_level p) 0))

-- a level in numbers: 0 beside an error
abbrev pub level_number : Result ℕ ErrorCode → ℕ
level_number r = result_unwrap_or r 0
