use Rattle.std.proofs.Common.{rules}
use Rattle.streams.proofs.Reading.{consumes_more}
use Rattle.streams.proofs.fill.Goals as goal

pub loop-done-preserved : goal.loop-done-preserved
loop-done-preserved g c = record {
  in_bounds = search rules;
  read = consumes_more _ _ _ _ _ _ _ _ c.loop-done.invariant.in_bounds c.in-Ok.ensures.bound.0 c.loop-done.invariant.read c.in-Ok.ensures.bytes.0;
}
