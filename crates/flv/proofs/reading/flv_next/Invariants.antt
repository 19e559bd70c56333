-- `flv::reading::flv_next` meets its contract: the next frame from the place reached is the next frame from the start.
use mathlib.Core.Path.{◌≡◌}
use Prim.Native.Nat.{◌-◌}
use lib.ListN.{length}
use Rattle.flv.specs.Calls.{flv_next}
use Rattle.flv.proofs.reading.flv_next.Given as goal

abbrev pub invariant-loop-place : goal.invariant-loop-place
invariant-loop-place l = flv_next l.file l.place ≡ flv_next l.file l.at

abbrev pub decreases-loop-place : goal.decreases-loop-place
decreases-loop-place l = length l.file - l.place
