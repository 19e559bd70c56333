-- The walk over a plain offset.
use mathlib.Core.Path.{sym, ◌∙◌}
use native.Mathlib.Omega.{arith}
use Rattle.modex.proofs.OffsetLaws.{plain_offset_lem, walk_plain}
use Rattle.modex.proofs.walk_plain_offsets.Goals as goal

pub loop-at-preserved : goal.loop-at-preserved
loop-at-preserved c =
    let plain = plain_offset_lem _ _ _ (sym c.is_plain_offset.ensures ∙ c.loop-at-test.true) in
    record { inside = omega (arith, plain.room); walk = walk_plain _ _ _ _ plain (λ i. omega (arith, c.type_inv.payload i)) c.loop-at.invariant.walk }
