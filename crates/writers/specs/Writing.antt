-- What a writer refuses, returns, and leaves in an output.
use Rattle.std.specs.Prelude.{Bool, false, cond, ◌||◌, List, [], ◌∷◌, ℕ, ltb, length, Result, Ok, Err}
use Rattle.types.specs.Types.{is_ok}
use Rattle.types.specs.declared.ErrorCode.{ErrorCode}
use Rattle.types.specs.declared.ErrorCode.TheVariants as error
use Rattle.outputs.specs.Outputs.{in_front}

-- one of these reasons holds
unfoldable pub any_of : List Bool → Bool
any_of [] = false
any_of (b ∷ bs) = b || any_of bs

-- the refusal of a call by what it asks for, and, where there is none, -22 for an output of so many bytes that is too short
unfoldable pub or_short : ErrorCode → ℕ → List ℕ → ErrorCode
or_short e room written = cond (is_ok e) (cond (ltb room (length written)) error.OutputTooShort error.Ok) e

-- WHAT A WRITER RETURNS: how many bytes it wrote, or the error
abbrev pub answer_of : ErrorCode → List ℕ → Result ℕ ErrorCode
answer_of e written = cond (is_ok e) (Ok (length written)) (Err e)

-- WHAT THE OUTPUT THEN HOLDS: what is written in front, its further bytes as they were; after a refusal all its bytes
abbrev pub output_of : ErrorCode → List ℕ → List ℕ → List ℕ
output_of e written out = cond (is_ok e) (in_front written out) out
