-- `frame_store::store_frame` meets its contract.
use mathlib.Core.Path.{refl, sym, ◌∙◌}
use native.Mathlib.Omega.{arith}
use lib.Seq.{length-take-le}
use Rattle.frame.proofs.Accepted.{result_inside}
use Rattle.frame_store.proofs.Keeping.{told, answered}
use Rattle.frame_store.proofs.store_frame.Goals as goal

pub slice_bounds-keep-end : goal.slice_bounds-keep-end
slice_bounds-keep-end c = omega (arith, result_inside _ _ _ _ _ _ c.frame_pass-report.ensures.report, c.frame_pass-report.auto.output)

pub slice_bounds-keep-end-2 : goal.slice_bounds-keep-end-2
slice_bounds-keep-end-2 c = sym (length-take-le _ _ (omega (arith, result_inside _ _ _ _ _ _ c.frame_pass-report.ensures.report, c.frame_pass-report.auto.output)))

pub returns-then-too_long : goal.returns-then-too_long
returns-then-too_long c =
    let w = told _ _ _ _ _ _ _ c.frame_pass-report.ensures.report _ c.frame_pass-report.ensures.output in record {
      answer = answered _ _ _ _ _ _ _ c.frame_pass-report.ensures.report _ w _ c.keep-too_long.ensures.too_long _ (rw c.if-too_long.true refl);
      output = c.frame_pass-report.ensures.output;
      store = c.keep-too_long.ensures.store ∙ w.store_then;
    }

pub returns-else-too_long : goal.returns-else-too_long
returns-else-too_long c =
    let w = told _ _ _ _ _ _ _ c.frame_pass-report.ensures.report _ c.frame_pass-report.ensures.output in record {
      answer = answered _ _ _ _ _ _ _ c.frame_pass-report.ensures.report _ w _ c.keep-too_long.ensures.too_long _ (rw c.if-too_long.false refl);
      output = c.frame_pass-report.ensures.output;
      store = c.keep-too_long.ensures.store ∙ w.store_then;
    }
