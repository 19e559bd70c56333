-- The loop's invariant is the walk.
use Prim.Native.Nat.{◌-◌}
use Rattle.modex.specs.Offsets.{OnWalk}
use Rattle.modex.proofs.modex_chain.Given as goal

abbrev pub invariant-loop : goal.invariant-loop
invariant-loop l = OnWalk l.payload (l.end - l.counter) l.pos l.offsets
