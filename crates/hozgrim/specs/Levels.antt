-- Levels beside the whole pass: what a level depends on is sealed there, and peeling changes no level.
use Rattle.std.specs.Prelude.{◌≡◌, ◌⊎◌, true, List, [], ℕ, ◌≤◌, ◌<◌, length, Ok}
use Rattle.modex.specs.Modex.{peeled}
use Rattle.frame.specs.Sealed.{sealed_in_payload}
use Rattle.frame.specs.Demand3.{Agree}
use Rattle.g711.specs.Level.{is_a_law, is_mu_law, level_answer}

-- EVERY SAMPLE IS SEALED, under any mask: by demand 3 nothing that is reported of the frame depends on it
unfoldable pub SamplesSealed : Type 0
SamplesSealed =
    (mask : ℕ) (p : List ℕ) → (is_a_law p ≡ true) ⊎ (is_mu_law p ≡ true) → (i : ℕ) → 1 ≤ i → i < length p → sealed_in_payload 0 mask p i ≡ true

-- A LEVEL DEPENDS ON THEM: there are frames that meet the premise of demand 3, under any mask, and have different levels
unfoldable pub LevelDepends : Type 0
LevelDepends =
    (mask : ℕ) → (p : List ℕ) × (q : List ℕ) × Agree 0 mask p q [] []
    × (m : ℕ) × (n : ℕ) × (level_answer 0 p ≡ Ok m) × (level_answer 0 q ≡ Ok n) × (m ≡ n → ⊥)

-- THE LEVEL OF A RESULT is that of the payload as received
unfoldable pub LevelOfResult : Type 0
LevelOfResult = (type mask : ℕ) (p : List ℕ) → level_answer type (peeled type mask p) ≡ level_answer type p
