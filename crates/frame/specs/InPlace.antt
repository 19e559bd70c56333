-- The whole pass without a copy. The payload is lent to be changed, and is its own output.
use Rattle.std.specs.Prelude.{cond, List, ℕ, length}
use Rattle.types.specs.Types.{is_ok}
use Rattle.modex.specs.InPlace.{peeled_start, peeled_in_place}
use Rattle.frame.specs.Pass.{pass_error, pass_report}
use Rattle.frame.specs.declared.Placed.{Placed}

-- where the result starts: at the last option byte if layers are peeled off, else at byte 0; after a refusal 0
unfoldable pub pass_start : ℕ → ℕ → List ℕ → ℕ
pass_start type mask p = cond (is_ok (pass_error type mask p (length p))) (peeled_start type mask p) 0

-- THE WHOLE PASS WITHOUT A COPY: it reports what the whole pass does with an output as long as the payload, and where the result starts
abbrev pub pass_placed : ℕ → ℕ → ℕ → List ℕ → Placed
pass_placed type mask flag p = record { report = pass_report type mask flag p (length p); start = pass_start type mask p }

-- and what the payload then holds: in the place of the last option byte byte 0 of the result, every other byte kept; after a refusal all of them
unfoldable pub pass_payload : ℕ → ℕ → List ℕ → List ℕ
pass_payload type mask p = cond (is_ok (pass_error type mask p (length p))) (peeled_in_place type mask p) p
