-- `codec_config::validate_hevc_record` meets its contract. The loop's invariant: the arrays that are left, with what was seen, have the record's verdict. Each that was
-- passed took three bytes or more of the record, so that the turns are linear in its length.
use Rattle.std.proofs.Common.{◌≡◌, ◌-◌, ◌+◌, ◌*◌, ◌≤◌, length}
use Rattle.wire.specs.Wire.{byte_at}
use Rattle.codec_config.specs.declared.ConfigCodec.TheVariants.{Hevc}
use Rattle.codec_config.specs.Positions.{accepted_at}
use Rattle.codec_config.specs.Records.{hevc_arrays, record_valid}
use Rattle.codec_config.proofs.validate_hevc_record.Given as goal

abbrev pub invariant-loop : goal.invariant-loop
invariant-loop l =
    (accepted_at (hevc_arrays (byte_at l.rec 22 - l.counter) l.sps l.pps) l.rec l.pos ≡ record_valid Hevc l.rec)
    × (23 + 3 * l.counter ≤ l.pos)
    × (l.pos ≤ length l.rec)
