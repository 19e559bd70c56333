-- `init_cache::verdicts::count_valid_tracks` meets its contract.
use native.Mathlib.Omega.{arith}
use Rattle.init_cache.proofs.Records.{counted, valid_done, valid_turn}
use Rattle.init_cache.proofs.verdicts.count_valid_tracks.Goals as goal

pub loop-preserved : goal.loop-preserved
loop-preserved c = let one = counted _ _ c.from-valid.ensures in (
  valid_turn _ _ _ _ _ _ _ c.loop.invariant.0 _ (omega arith) _
      c.track_at-track.ensures _
      c.sequence_start_config_valid.ensures _
      one.0,
  omega (arith, c.loop.invariant.1, one.1),
)

pub returns : goal.returns
returns c = valid_done _ _ _ _ _ _ _ c.loop.invariant.0 (omega arith)
