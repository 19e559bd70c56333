-- `hozgrim::store_by_value` meets its contract.
use mathlib.Core.Path.{ap, ◌∙◌}
use native.Mathlib.Omega.{arith}
use lib.ListN.{length-take}
use Rattle.frame_store.specs.Store.{lent_store}
use Rattle.frame_store.specs.declared.StoreLengths.{StoreLengths}
use Rattle.hozgrim.proofs.Stores.{length_inside, answer_long, answer_own, store_then}
use Rattle.hozgrim.proofs.store_by_value.Goals.{then-too_long, else-too_long}
use Rattle.hozgrim.proofs.store_by_value.Goals as goal

pub slice_bounds-keep-end : goal.slice_bounds-keep-end
slice_bounds-keep-end c = omega (arith, length_inside _ _ _ _ _ _ (c.field_by_field-report.ensures ∙ c.hozgrim_pass-passed.ensures.report), c.hozgrim_pass-passed.auto.output)

pub slice_bounds-keep-end-2 : goal.slice_bounds-keep-end-2
slice_bounds-keep-end-2 c = let l = length_inside _ _ _ _ _ _ (c.field_by_field-report.ensures ∙ c.hozgrim_pass-passed.ensures.report) in
    omega (arith, l, c.hozgrim_pass-passed.auto.output, length-take c.field_by_field-report.result.result_length c.hozgrim_pass-passed.new.output)

pub returns : goal.returns
returns c = let report = c.field_by_field-report.ensures ∙ c.hozgrim_pass-passed.ensures.report in
    let too_long = rw c.into.ensures at c.keep-too_long.ensures.too_long in
    let store = rw c.into.ensures at c.keep-too_long.ensures.store in (
      elim c.if-too_long.branch [
        | then-too_long w ↦ answer_long _ _ _ _ _ _ report _ c.hozgrim_pass-passed.ensures.output _ _ c.from.ensures _ too_long w.if-too_long.true _ _ w.result-is w.into-then-too_long.ensures
        | else-too_long w ↦ answer_own _ _ _ _ _ _ report _ c.hozgrim_pass-passed.ensures.output _ _ c.from.ensures _ too_long w.if-too_long.false _ w.result-is
      ],
      c.hozgrim_pass-passed.ensures.output,
      ap (λ (l : StoreLengths). lent_store l c.keep-too_long.new.video c.keep-too_long.new.audio c.keep-too_long.new.keyframe) c.from-2.ensures
          ∙ store ∙ store_then _ _ _ _ _ _ report _ c.hozgrim_pass-passed.ensures.output _ _ c.from.ensures,
    )
