-- `multitrack_media::walk_heads`: what the walk is after, with so many tracks behind, is what it was after at the start.
use Rattle.std.proofs.Common.{◌≡◌, ◌-◌}
use Rattle.multitrack_media.specs.Positions.{walk_of, walk_on}
use Rattle.multitrack_media.specs.Container.{heads_at}
use Rattle.multitrack_media.proofs.walk_heads.Given as goal

abbrev pub invariant-loop-count : goal.invariant-loop-count
invariant-loop-count l = walk_on l.number l.count l.wanted (heads_at (4096 - l.count) l.form l.payload l.at) ≡ walk_of l.number (heads_at 4096 l.form l.payload l.from)
