-- `uplink::tick` meets its contract. The loop's invariant: the credits that were passed are those after a tick, the others as they were.
use mathlib.Core.Path.{◌≡◌}
use Rattle.uplink.specs.Uplink.{credited}
use Rattle.uplink.proofs.Columns.{front}
use Rattle.uplink.proofs.tick.Given as goal

abbrev pub invariant-loop-credit : goal.invariant-loop-credit
invariant-loop-credit l = l.credit-items ≡ front (credited l.share) l.credit-index l.initial.credit-items
