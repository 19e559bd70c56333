-- `track_columns::column_info` meets its contract.
use mathlib.Core.Path.{sym}
use Rattle.track_columns.proofs.Calls.{info_unknown}
use Rattle.track_columns.proofs.column_info.Goals as goal

pub returns-in-Err-clause-meaning : goal.returns-in-Err-clause-meaning
returns-in-Err-clause-meaning c = info_unknown _ _ _ _ _ _ _ (sym c.in-Err.ensures.meaning) c.no_track.ensures
