-- `frame::frame_pass_in_place` meets its contract.
use mathlib.Core.Path.{sym, ◌∙◌}
use Rattle.types.proofs.Laws.{unknown_type_lem}
use Rattle.frame.proofs.InPlace.{placed_unknown}
use Rattle.frame.proofs.frame_pass_in_place.Goals as goal

pub returns-in-Err : goal.returns-in-Err
returns-in-Err c =
    let w = unknown_type_lem _ _ (sym c.from_number.ensures.meaning ∙ c.in-Err.is) in
    let it = placed_unknown _ _ _ _ w.0 _ w.1 _ c.bare_report.ensures in
    record { placed = it.0; payload = it.1 }
