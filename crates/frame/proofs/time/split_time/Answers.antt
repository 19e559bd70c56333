-- `frame::time::split_time` meets its contract, by the sign.
use mathlib.Core.Path.{refl}
use Rattle.wire.proofs.Signs.{turned_fits, turned_cast, positive_cast}
use Rattle.frame.proofs.Signs.{quotient_fits, lower_fits, split_below, milliseconds_fits, split_above}
use Rattle.frame.proofs.time.split_time.Goals as goal

pub overflow_sub-n : goal.overflow_sub-n
overflow_sub-n c = turned_fits c.args.ns c.ranges.ns c.if-ns-lt0.true

pub overflow_cast-n : goal.overflow_cast-n
overflow_cast-n c = turned_cast c.args.ns c.ranges.ns c.if-ns-lt0.true

pub overflow_cast-result : goal.overflow_cast-result
overflow_cast-result c = quotient_fits c.args.ns c.ranges.ns c.if-ns-lt0.true _ refl

pub overflow_sub-result : goal.overflow_sub-result
overflow_sub-result c = lower_fits c.args.ns c.ranges.ns c.if-ns-lt0.true _ refl

pub returns-then-ns-lt0 : goal.returns-then-ns-lt0
returns-then-ns-lt0 c = split_below c.args.ns c.ranges.ns c.if-ns-lt0.true _ refl

pub overflow_cast-n-2 : goal.overflow_cast-n-2
overflow_cast-n-2 c = positive_cast c.args.ns c.ranges.ns c.if-ns-lt0.false

pub overflow_cast-result-2 : goal.overflow_cast-result-2
overflow_cast-result-2 c = milliseconds_fits c.args.ns c.ranges.ns c.if-ns-lt0.false _ refl

pub returns : goal.returns
returns c = split_above c.args.ns c.ranges.ns c.if-ns-lt0.false _ refl
