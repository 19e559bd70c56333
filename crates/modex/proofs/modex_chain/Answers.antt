-- The layer at the walk's position ends the chain, or has others behind it.
use Prim.Native.Nat.{◌%◌}
use native.Mathlib.Omega.{arith}
use borrow.Author.Rules.{rules}
use Rattle.modex.proofs.OffsetLaws.{walk_ends, walk_more}
use Rattle.modex.proofs.modex_chain.Goals as goal

pub returns-then-ne-clause-meaning : goal.returns-then-ne-clause-meaning
returns-then-ne-clause-meaning c =
    walk_ends _ _ _ _ _ _ c.loop.invariant (omega arith) (search rules) c.offsets_after-offsets.ensures (search rules)

pub loop-preserved : goal.loop-preserved
loop-preserved c =
    walk_more _ _ _ (record { modex_type = _; next_packet_type = c.in-Some.option % 16; data_start = _; data_end = _; next_pos = _ }) _ _ c.loop.invariant (omega arith) (search rules) c.offsets_after-offsets.ensures _ (omega arith) (search rules)
