-- `frame::time::signed` meets its contract, by the two cases.
use native.Mathlib.Omega.{arith}
use Rattle.frame.proofs.Signs.{itself, less_fits, less}
use Rattle.frame.proofs.time.signed.Goals as goal

pub returns-then-composition_time-lt2147483648 : goal.returns-then-composition_time-lt2147483648
returns-then-composition_time-lt2147483648 c = itself c.args.composition_time (omega arith) (omega (arith, c.if-composition_time-lt2147483648.true))

pub overflow_sub-result : goal.overflow_sub-result
overflow_sub-result c = less_fits c.args.composition_time (omega arith)

pub returns : goal.returns
returns c = less c.args.composition_time (omega arith) (omega (arith, c.if-composition_time-lt2147483648.false))
