-- What is shown of the whole pass without a copy: where the result stands, what is kept, that -22 cannot arise, and demand 3.
use Rattle.std.specs.Prelude.{◌≡◌, true, false, List, ℕ, ◌+◌, ◌<◌, length, drop}
use Rattle.wire.specs.Wire.{byte_at}
use Rattle.types.specs.declared.ErrorCode.TheVariants as error
use Rattle.modex.specs.Modex.{chain_of, peeled}
use Rattle.std.specs.Prelude.{None}
use Rattle.frame.specs.Pass.{pass_error, pass_report}
use Rattle.frame.specs.InPlace.{pass_start, pass_placed, pass_payload}
use Rattle.frame.specs.Sealed.{sealed_in_result, sealed_in_payload}
use Rattle.frame.specs.Demand3.{Agree}
use Rattle.frame.specs.Calls.{RequestsAlike}

-- -22 CANNOT ARISE
unfoldable pub AlwaysRoom : Type 0
AlwaysRoom = (type mask : ℕ) (p : List ℕ) → pass_error type mask p (length p) ≡ error.OutputTooShort → ⊥

-- THE RESULT STANDS AT THE PAYLOAD'S END: after a pass that is not refused the part from the start on is the peeled payload, which is as long as reported
pub record Stands (type mask flag : ℕ) (p : List ℕ) : Type 0 where
  pub result : drop (pass_start type mask p) (pass_payload type mask p) ≡ peeled type mask p
  pub whole : pass_start type mask p + (pass_report type mask flag p (length p)).result_length ≡ length p

unfoldable pub ResultStands : Type 0
ResultStands = (type mask flag : ℕ) (p : List ℕ) → pass_error type mask p (length p) ≡ error.Ok → Stands type mask flag p

-- EVERY OTHER BYTE IS KEPT. Refused, or nothing peeled off: the start is 0, and every byte is kept
pub record Kept (type mask : ℕ) (p : List ℕ) : Type 0 where
  pub lengths : length (pass_payload type mask p) ≡ length p
  pub others : (i : ℕ) → (i ≡ pass_start type mask p → ⊥) → byte_at (pass_payload type mask p) i ≡ byte_at p i
  pub refused : (pass_error type mask p (length p) ≡ error.Ok → ⊥) → (pass_start type mask p ≡ 0) × (pass_payload type mask p ≡ p)
  pub unpeeled : chain_of type mask p ≡ None → (pass_start type mask p ≡ 0) × (pass_payload type mask p ≡ p)

unfoldable pub OthersKept : Type 0
OthersKept = (type mask : ℕ) (p : List ℕ) → Kept type mask p

-- THE CHANGED BYTE IS NOT SEALED: sealed bytes are kept
unfoldable pub SealedKept : Type 0
SealedKept = (type mask : ℕ) (p : List ℕ) (i : ℕ) → sealed_in_payload type mask p i ≡ true → byte_at (pass_payload type mask p) i ≡ byte_at p i

-- DEMAND 3 WITHOUT A COPY, over all pairs of frames that meet its premise, each payload being its own output: two calls return the same, leave payloads that
-- are equal outside the bytes sealed in the first, and so are the results, where they stand, and the track requests on them
pub record PlacedAlike (type mask flag : ℕ) (p q : List ℕ) : Type 0 where
  pub answers : pass_placed type mask flag p ≡ pass_placed type mask flag q
  pub payloads : (i : ℕ) → i < length p → sealed_in_payload type mask p i ≡ false → byte_at (pass_payload type mask p) i ≡ byte_at (pass_payload type mask q) i
  pub results : pass_error type mask p (length p) ≡ error.Ok → (i : ℕ) → i < length (peeled type mask p) → sealed_in_result type (peeled type mask p) i ≡ false
      → byte_at (pass_payload type mask p) (pass_start type mask p + i) ≡ byte_at (pass_payload type mask q) (pass_start type mask q + i)
  pub requests : pass_error type mask p (length p) ≡ error.Ok → (n : ℕ)
      → RequestsAlike type (drop (pass_start type mask p) (pass_payload type mask p)) (drop (pass_start type mask q) (pass_payload type mask q)) n

unfoldable pub Demand3InPlace : Type 0
Demand3InPlace = (type mask flag : ℕ) (p q : List ℕ) → Agree type mask p q p q → PlacedAlike type mask flag p q
