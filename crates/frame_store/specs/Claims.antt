-- What else is claimed of the store.
use Rattle.std.specs.Prelude.{◌≡◌, List, ℕ, ◌<◌, length}
use Rattle.frame_store.specs.Store.{Store, lent_store, no_lengths, Frame, result_of, kept_kind, store_after}
use Rattle.frame_store.specs.History.{Empty}

-- A FRAME OF KIND 0, or one that the whole pass refuses, changes no slot: no length and no byte
unfoldable pub Unchanged : Type 0
Unchanged = (f : Frame) (s : Store) → kept_kind f ≡ 0 → store_after f s ≡ s

-- A FRAME OF KIND 1 TO 3 IS NOT EMPTY, so that length 0 can mean empty
unfoldable pub KeptNonempty : Type 0
KeptNonempty = (f : Frame) → (kept_kind f ≡ 0 → ⊥) → 0 < length (result_of f)

-- A RECORD OF ZEROS is an empty store, whatever the buffers are
unfoldable pub FreshEmpty : Type 0
FreshEmpty = (video audio keyframe : List ℕ) → Empty (lent_store no_lengths video audio keyframe)

-- A KIND SAYS THE TYPE of what is held: audio headers are audio, video headers and keyframes video
pub record KindTyped (f : Frame) : Type 0 where
  pub video : kept_kind f ≡ 1 → f.type ≡ 1
  pub audio : kept_kind f ≡ 2 → f.type ≡ 0
  pub keyframe : kept_kind f ≡ 3 → f.type ≡ 1

unfoldable pub KeptTyped : Type 0
KeptTyped = (f : Frame) → KindTyped f
