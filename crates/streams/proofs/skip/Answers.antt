use Rattle.std.proofs.Common.{rules}
use Rattle.streams.proofs.Reading.{forgets_more}
use Rattle.streams.proofs.skip.Goals as goal

pub returns-then-read-clause-bytes : goal.returns-then-read-clause-bytes
returns-then-read-clause-bytes g c = forgets_more _ _ _ _ _ _ c.loop-done.invariant.read c.fill-read.ensures.bound c.fill-read.ensures.bytes

pub loop-done-preserved : goal.loop-done-preserved
loop-done-preserved g c = record {
  in_bounds = search rules;
  read = forgets_more _ _ _ _ _ _ c.loop-done.invariant.read c.fill-read.ensures.bound c.fill-read.ensures.bytes;
}
