-- `track_columns::fill` meets its contract. The loops' invariants: what is stored in each of the four columns, and where the heads are that come next.
use mathlib.Core.Path.{◌≡◌}
use Prim.Native.Nat.{◌+◌}
use Rattle.wire.specs.Wire.{be32_at}
use Rattle.multitrack_media.specs.Halves.{head_behind}
use Rattle.multitrack_media.specs.declared.TrackPlace.{TrackPlace}
use Rattle.track_columns.proofs.Filling.{Far, Filling}
use Rattle.track_columns.proofs.fill.Given as goal

abbrev pub invariant-loop-i : goal.invariant-loop-i
invariant-loop-i l = Filling l.form l.payload l.from l.count (λ (t : TrackPlace). t.id) l.initial.ids l.ids l.i l.middle (l.middle + l.i)
    × Filling l.form l.payload l.from l.count (λ (t : TrackPlace). be32_at t.fourcc 0) l.initial.fourccs l.fourccs l.i l.middle (l.middle + l.i)
    × Filling l.form l.payload l.from l.count (λ (t : TrackPlace). t.start) l.initial.starts l.starts l.i l.middle (l.middle + l.i)
    × Filling l.form l.payload l.from l.count (λ (t : TrackPlace). t.length) l.initial.lengths l.lengths l.i l.middle (l.middle + l.i)
    × (l.at ≡ head_behind l.i l.form l.payload l.from)
    × Far l.form l.payload l.from l.count l.middle l.far l.i

abbrev pub invariant-loop-i-2 : goal.invariant-loop-i-2
invariant-loop-i-2 l = Filling l.form l.payload l.from l.count (λ (t : TrackPlace). t.id) l.initial.ids l.ids l.i l.middle l.count
    × Filling l.form l.payload l.from l.count (λ (t : TrackPlace). be32_at t.fourcc 0) l.initial.fourccs l.fourccs l.i l.middle l.count
    × Filling l.form l.payload l.from l.count (λ (t : TrackPlace). t.start) l.initial.starts l.starts l.i l.middle l.count
    × Filling l.form l.payload l.from l.count (λ (t : TrackPlace). t.length) l.initial.lengths l.lengths l.i l.middle l.count
    × (l.at ≡ head_behind l.i l.form l.payload l.from)
