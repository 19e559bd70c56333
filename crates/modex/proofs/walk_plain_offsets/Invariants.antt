-- The loop's invariant: the walk, and that the position is not past the payload's end by more than one.
use mathlib.Core.Bool.{false}
use Prim.Native.Nat.{suc, ◌≤◌}
use lib.ListN.{length}
use Rattle.modex.specs.Offsets.{OnWalk}
use Rattle.modex.proofs.walk_plain_offsets.Given as goal

abbrev pub invariant-loop-at : goal.invariant-loop-at
invariant-loop-at l = record { inside : l.pos ≤ suc (length l.payload); walk : OnWalk l.payload l.left l.pos (record { at = l.at; bad = false }) }

abbrev pub decreases-loop-at : goal.decreases-loop-at
decreases-loop-at l = l.left
