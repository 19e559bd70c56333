-- `track_columns::fill` meets its contract. The loops' invariants: what is stored in each of the four columns, and where the heads are that come next.
use mathlib.Core.Path.{refl}
use native.Mathlib.Omega.{arith}
use lib.Seq.{lt-length-set}
use Rattle.multitrack_media.proofs.Halving.{behind_none}
use Rattle.track_columns.proofs.Filling.{entry_inside, entry_next, behind_pairs, far_start, far_next, filling_start, filling_near, filling_turn, filling_half, filling_whole, filling_done}
use Rattle.track_columns.proofs.fill.Goals as goal

pub overflow_sub-pairs : goal.overflow_sub-pairs
overflow_sub-pairs c = omega (arith, c.requires.half.0)

pub loop-i-init : goal.loop-i-init
loop-i-init c = (
  filling_start _ _ _ _ _ _ _,
  filling_start _ _ _ _ _ _ _,
  filling_start _ _ _ _ _ _ _,
  filling_start _ _ _ _ _ _ _,
  behind_none _ _ _,
  far_start _ _ _ _ _ _ c.requires.half.1,
)

pub entry_at-track-requires : goal.entry_at-track-requires
entry_at-track-requires c = c.be32_at-shared.ensures.0

pub entry_at-other-requires : goal.entry_at-other-requires
entry_at-other-requires c = c.be32_at-shared.ensures.0

pub bounds-ids-j : goal.bounds-ids-j
bounds-ids-j c = lt-length-set c.loop-i.ids c.loop-i.i _ (omega (arith, c.loop-i.invariant.0.long))

pub bounds-fourccs-j : goal.bounds-fourccs-j
bounds-fourccs-j c = lt-length-set c.loop-i.fourccs c.loop-i.i _ (omega (arith, c.loop-i.invariant.0.long))

pub bounds-starts-j : goal.bounds-starts-j
bounds-starts-j c = lt-length-set c.loop-i.starts c.loop-i.i _ (omega (arith, c.loop-i.invariant.0.long))

pub bounds-lengths-j : goal.bounds-lengths-j
bounds-lengths-j c = lt-length-set c.loop-i.lengths c.loop-i.i _ (omega (arith, c.loop-i.invariant.0.long))

pub overflow_add-at : goal.overflow_add-at
overflow_add-at c = omega (arith, entry_inside _ _ _ _ _ _ _ c.entry_at-track.ensures)

pub overflow_add-far : goal.overflow_add-far
overflow_add-far c = omega (arith, entry_inside _ _ _ _ _ _ _ c.entry_at-other.ensures)

pub loop-i-preserved : goal.loop-i-preserved
loop-i-preserved c = let there = c.loop-i.invariant.5.there (omega arith) in (
  filling_turn _ _ _ _ _ _ (omega arith) c.loop-i.invariant.0 (omega arith) _ c.loop-i.invariant.4 _ c.entry_at-track.ensures.0 _ there _ c.entry_at-other.ensures.0,
  filling_turn _ _ _ _ _ _ (omega arith) c.loop-i.invariant.1 (omega arith) _ c.loop-i.invariant.4 _ c.entry_at-track.ensures.1 _ there _ c.entry_at-other.ensures.1,
  filling_turn _ _ _ _ _ _ (omega arith) c.loop-i.invariant.2 (omega arith) _ c.loop-i.invariant.4 _ c.entry_at-track.ensures.2 _ there _ c.entry_at-other.ensures.2,
  filling_turn _ _ _ _ _ _ (omega arith) c.loop-i.invariant.3 (omega arith) _ c.loop-i.invariant.4 _ c.entry_at-track.ensures.3 _ there _ c.entry_at-other.ensures.3,
  entry_next _ _ _ _ _ c.loop-i.invariant.4 _ _ _ _ c.entry_at-track.ensures,
  far_next _ _ _ _ _ _ _ (entry_next _ _ _ _ _ there _ _ _ _ c.entry_at-other.ensures),
)

pub loop-i-2-init : goal.loop-i-2-init
loop-i-2-init c = (
  filling_half _ _ _ _ _ _ c.loop-i.invariant.0 _ (omega arith) (omega arith),
  filling_half _ _ _ _ _ _ c.loop-i.invariant.1 _ (omega arith) (omega arith),
  filling_half _ _ _ _ _ _ c.loop-i.invariant.2 _ (omega arith) (omega arith),
  filling_half _ _ _ _ _ _ c.loop-i.invariant.3 _ (omega arith) (omega arith),
  behind_pairs _ _ _ _ _ _ (omega arith) c.loop-i.invariant.4,
)

pub entry_at-track-requires-in-loop-i-2 : goal.entry_at-track-requires-in-loop-i-2
entry_at-track-requires-in-loop-i-2 c = c.be32_at-shared.ensures.0

pub overflow_add-at-in-loop-i-2 : goal.overflow_add-at-in-loop-i-2
overflow_add-at-in-loop-i-2 c = omega (arith, entry_inside _ _ _ _ _ _ _ c.entry_at-track-in-loop-i-2.ensures)

pub loop-i-2-preserved : goal.loop-i-2-preserved
loop-i-2-preserved c = (
  filling_near _ _ _ _ _ _ (omega (arith, c.loop-i.invariant.0.long)) c.loop-i-2.invariant.0 _ _ (omega arith) c.loop-i-2.invariant.4 _ c.entry_at-track-in-loop-i-2.ensures.0 refl,
  filling_near _ _ _ _ _ _ (omega (arith, c.loop-i.invariant.1.long)) c.loop-i-2.invariant.1 _ _ (omega arith) c.loop-i-2.invariant.4 _ c.entry_at-track-in-loop-i-2.ensures.1 refl,
  filling_near _ _ _ _ _ _ (omega (arith, c.loop-i.invariant.2.long)) c.loop-i-2.invariant.2 _ _ (omega arith) c.loop-i-2.invariant.4 _ c.entry_at-track-in-loop-i-2.ensures.2 refl,
  filling_near _ _ _ _ _ _ (omega (arith, c.loop-i.invariant.3.long)) c.loop-i-2.invariant.3 _ _ (omega arith) c.loop-i-2.invariant.4 _ c.entry_at-track-in-loop-i-2.ensures.3 refl,
  entry_next _ _ _ _ _ c.loop-i-2.invariant.4 _ _ _ _ c.entry_at-track-in-loop-i-2.ensures,
)

pub returns : goal.returns
returns c = rw (
  filling_done _ _ _ _ _ _ (omega arith) (filling_whole _ _ _ _ _ _ c.loop-i.invariant.0 c.loop-i-2.invariant.0) (omega arith) (omega arith),
  filling_done _ _ _ _ _ _ (omega arith) (filling_whole _ _ _ _ _ _ c.loop-i.invariant.1 c.loop-i-2.invariant.1) (omega arith) (omega arith),
  filling_done _ _ _ _ _ _ (omega arith) (filling_whole _ _ _ _ _ _ c.loop-i.invariant.2 c.loop-i-2.invariant.2) (omega arith) (omega arith),
  filling_done _ _ _ _ _ _ (omega arith) (filling_whole _ _ _ _ _ _ c.loop-i.invariant.3 c.loop-i-2.invariant.3) (omega arith) (omega arith),
) refl
