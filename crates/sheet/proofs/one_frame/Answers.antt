-- The sheet does not go on behind the last frame.
use Rattle.frame_sheet.specs.Sheet.{sheet_layout}
use Rattle.frame_sheet.proofs.Sheets.{answer_below}
use Rattle.sheet.proofs.one_frame.Goals as goal

pub returns : goal.returns
returns g c = answer_below sheet_layout _ _ _ _ c.sheet_step-step.ensures.answer
