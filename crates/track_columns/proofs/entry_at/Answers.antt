-- `track_columns::entry_at` meets its contract.
use mathlib.Core.Path.{sym}
use Rattle.track_columns.proofs.Filling.{entry_found}
use Rattle.track_columns.proofs.entry_at.Goals as goal

pub returns : goal.returns
returns c = entry_found _ _ _ _ _ _ _ (sym c.in-Some.ensures) c.fourcc_number.ensures
