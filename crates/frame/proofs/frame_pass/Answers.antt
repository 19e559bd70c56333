-- `frame::frame_pass` meets its contract.
use mathlib.Core.Path.{sym, ◌∙◌}
use Rattle.types.proofs.Laws.{unknown_type_lem}
use Rattle.frame.proofs.Passes.{report_unknown}
use Rattle.frame.proofs.frame_pass.Goals as goal

pub returns-in-Err-clause-report : goal.returns-in-Err-clause-report
returns-in-Err-clause-report c =
    let w = unknown_type_lem _ _ (sym c.from_number.ensures.meaning ∙ c.in-Err.is) in
    c.bare_report.ensures ∙ report_unknown _ _ _ _ _ w.0 _ w.1
