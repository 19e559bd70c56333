-- `codec_config::skip_param_sets` meets its contract. The loop's invariant: the sets that are left end where all of them end. Each that was passed took
-- three bytes or more of the record, so that the turns are linear in its length.
use Rattle.std.proofs.Common.{◌≡◌, ◌-◌, ◌+◌, ◌*◌, ◌≤◌, length}
use Rattle.codec_config.specs.Positions.{names_type, sets_end}
use Rattle.codec_config.proofs.skip_param_sets.Given as goal

abbrev pub invariant-loop : goal.invariant-loop
invariant-loop l =
    (sets_end (names_type l.set_type) (l.count - l.counter) l.rec l.pos ≡ sets_end (names_type l.set_type) l.count l.rec l.start)
    × (l.start + 3 * l.counter ≤ l.pos)
    × (l.start ≤ length l.rec → l.pos ≤ length l.rec)
