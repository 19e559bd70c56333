-- `frame::time::nanoseconds` meets its contract; neither the product nor the sum leaves an i64.
use native.Mathlib.Omega.{arith}
use Rattle.frame.proofs.Signs.{times_fits, whole_fits, in_nanoseconds}
use Rattle.frame.proofs.time.nanoseconds.Goals as goal

pub overflow_mul-result : goal.overflow_mul-result
overflow_mul-result c = times_fits c.args.composition_time c.args.offset (omega arith) (omega arith) _ c.signed.ensures

pub overflow_add-result : goal.overflow_add-result
overflow_add-result c = whole_fits c.args.composition_time c.args.offset (omega arith) (omega arith) _ c.signed.ensures

pub returns : goal.returns
returns c = in_nanoseconds c.args.composition_time c.args.offset (omega arith) (omega arith) _ c.signed.ensures
