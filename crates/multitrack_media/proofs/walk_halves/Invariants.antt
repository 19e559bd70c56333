-- `multitrack_media::walk_halves`: the count, with so many tracks behind, is the count from the start; and where the next head and the middle one start.
use Rattle.std.proofs.Common.{◌≡◌, ◌-◌, ◌≤◌}
use Rattle.multitrack_media.specs.Positions.{count_heads}
use Rattle.multitrack_media.specs.Halves.{head_behind}
use Rattle.multitrack_media.specs.Container.{heads_at}
use Rattle.multitrack_media.proofs.walk_halves.Given as goal

abbrev pub invariant-loop-tracks : goal.invariant-loop-tracks
invariant-loop-tracks l = record {
  count : count_heads l.tracks (heads_at (4096 - l.tracks) l.form l.payload l.next) ≡ count_heads 0 (heads_at 4096 l.form l.payload l.from);
  next : l.next ≡ head_behind l.tracks l.form l.payload l.from;
  below : l.middle ≤ l.tracks;
  there : l.there ≡ head_behind l.middle l.form l.payload l.from;
}
