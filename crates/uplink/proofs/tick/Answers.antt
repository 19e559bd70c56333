-- `uplink::tick` meets its contract: the credits are mapped in place.
use native.Mathlib.Omega.{arith}
use mir.Facts.{to_z-of_z}
use Rattle.uplink.specs.Uplink.{credited}
use Rattle.uplink.proofs.Columns.{front_step}
use Rattle.uplink.proofs.tick.Goals as goal

pub loop-credit-preserved : goal.loop-credit-preserved
loop-credit-preserved c =
    let l = c.loop-credit in
    front_step (credited _) l.credit-index _ l.credit-items (omega arith) l.invariant _ (grind (arith, to_z-of_z))
