-- Demand 3 about the calls: what two whole passes return and write, and what two track requests on their results return.
use Rattle.std.specs.Prelude.{◌≡◌, false, List, ℕ, ◌+◌, ◌≤◌, ◌<◌, length}
use Rattle.wire.specs.Wire.{byte_at}
use Rattle.types.specs.declared.ErrorCode.TheVariants as error
use Rattle.modex.specs.Modex.{peeled}
use Rattle.multitrack_media.specs.Answer.{track_info, track_part}
use Rattle.frame.specs.Pass.{pass_error, pass_report, pass_output, track_answer}
use Rattle.frame.specs.Sealed.{sealed_in_result}
use Rattle.frame.specs.Demand3.{Agree}

-- the track requests on two results r and s: error, count, fields and verdict; parts of equal length, and equal outside the bytes sealed in the first
pub record RequestsAlike (type : ℕ) (r s : List ℕ) (n : ℕ) : Type 0 where
  pub answers : track_answer type r n ≡ track_answer type s n
  pub lengths : length (track_part type r n) ≡ length (track_part type s n)
  pub parts : (j : ℕ) → j < length (track_part type r n) → sealed_in_result type r ((track_info type r n).start + j) ≡ false
      → byte_at (track_part type r n) j ≡ byte_at (track_part type s n) j

-- what two outputs hold after passes that are not refused: the results, equal outside the bytes sealed in the first, and behind them what they held before
pub record OutputsAlike (type mask : ℕ) (p q out out' : List ℕ) : Type 0 where
  pub results : (i : ℕ) → i < length (peeled type mask p) → sealed_in_result type (peeled type mask p) i ≡ false
      → byte_at (pass_output type mask p out) i ≡ byte_at (pass_output type mask q out') i
  pub behind : (i : ℕ) → length (peeled type mask p) ≤ i
      → (byte_at (pass_output type mask p out) i ≡ byte_at out i) × (byte_at (pass_output type mask q out') i ≡ byte_at out' i)

pub record CallsAlike (type mask flag : ℕ) (p q out out' : List ℕ) : Type 0 where
  pub reports : pass_report type mask flag p (length out) ≡ pass_report type mask flag q (length out')
  -- refused: both outputs hold what they held before
  pub kept : (pass_error type mask p (length out) ≡ error.Ok → ⊥) → (pass_output type mask p out ≡ out) × (pass_output type mask q out' ≡ out')
  -- not refused
  pub outputs : pass_error type mask p (length out) ≡ error.Ok → OutputsAlike type mask p q out out'
  pub requests : pass_error type mask p (length out) ≡ error.Ok → (n : ℕ) → RequestsAlike type (peeled type mask p) (peeled type mask q) n

-- DEMAND 3 ABOUT THE CALLS, over all pairs of frames
unfoldable pub Demand3Calls : Type 0
Demand3Calls =
    (type mask flag : ℕ) (p q out out' : List ℕ) → Agree type mask p q out out' → CallsAlike type mask flag p q out out'
