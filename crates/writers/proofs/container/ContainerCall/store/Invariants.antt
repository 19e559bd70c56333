-- `writers::container::ContainerCall::store`: what is left to write, written from `at` on, gives the whole.
use Rattle.std.proofs.Common.{◌≡◌, ◌+◌, ◌-◌, ◌≤◌, length}
use Rattle.multitrack_media.specs.Tracks.{tracks_bytes}
use Rattle.outputs.specs.Outputs.{with_at}
use Rattle.writers.specs.Columns.{values_from, sum_from}
use Rattle.writers.specs.ContainerWriter.{ContainerCall, asked_container, given_track, given_tracks, track_length}
use Rattle.writers.proofs.container.ContainerCall.store.Given as goal

abbrev pub invariant-loop-i : goal.invariant-loop-i
invariant-loop-i l =
    let c : ContainerCall = asked_container l.self in
    record {
      room : l.at + sum_from (track_length c) l.i (c.count - l.i) ≤ length l.output;
      written :
          with_at l.output l.at (tracks_bytes l.form (values_from (given_track c) l.i (c.count - l.i)))
          ≡ with_at l.initial.output l.initial.at (tracks_bytes l.form (given_tracks c));
    }
