-- What the history says: what each slot holds after a sequence of frames, from the frames alone. Nothing here runs a store, but for `run_store`, which the
-- claims compare with it.
use Rattle.std.specs.Prelude.{◌≡◌, Bool, cond, ◌&&◌, ◌||◌, List, [], ◌∷◌, ℕ, ◌≤◌, ◌<◌, eqb, ltb, leb, length}
use Rattle.std.proofs.Math.Option.{Option, none, some}
use Rattle.wire.specs.Wire.{byte_at}
use Rattle.frame_store.specs.Store.{Store, Frame, buffer_of, held, result_of, kept_kind, store_after}
use Rattle.frame_store.specs.Late.{in_order, late_frames}

-- the last frame of a history that passes a test
abbrev pub or_else : Option Frame → Option Frame → Option Frame
or_else (some f) g = some f
or_else none g = g

abbrev pub last_that : (Frame → Bool) → List Frame → Option Frame
last_that test [] = none
last_that test (f ∷ fs) = or_else (last_that test fs) (cond (test f) (some f) none)

-- the frames that decide what slot k holds: those of kind k; of the keyframe's also video headers
unfoldable pub decides : ℕ → Frame → Bool
decides k f = eqb (kept_kind f) k || (eqb k 3 && eqb (kept_kind f) 1)

-- what such a frame leaves in a slot of so many bytes: itself, peeled, if it is of kind k and no longer; else nothing
unfoldable pub leaves : ℕ → ℕ → Frame → Option (List ℕ)
leaves k room f = cond (eqb (kept_kind f) k && leb (length (result_of f)) room) (some (result_of f)) none

abbrev pub left_by : ℕ → ℕ → Option Frame → Option (List ℕ)
left_by k room (some f) = leaves k room f
left_by k room none = none

-- WHAT THE HISTORY SAYS that slot k holds
abbrev pub says : ℕ → ℕ → List Frame → Option (List ℕ)
says k room fs = left_by k room (last_that (decides k) fs)

-- the frames that were written over byte i of slot k's buffer
unfoldable pub writes : ℕ → ℕ → ℕ → Frame → Bool
writes k room i f = eqb (kept_kind f) k && (leb (length (result_of f)) room && ltb i (length (result_of f)))

abbrev pub byte_of : ℕ → ℕ → Option Frame → ℕ
byte_of i was (some f) = byte_at (result_of f) i
byte_of i was none = was

-- and that byte i of its buffer is, which was `was` at the start
abbrev pub says_byte : ℕ → ℕ → ℕ → ℕ → List Frame → ℕ
says_byte k room i was fs = byte_of i was (last_that (writes k room i) fs)

-- the frames offered one after the other, buffers and record lent again as the last call left them
abbrev pub run_store : List Frame → Store → Store
run_store [] s = s
run_store (f ∷ fs) s = run_store fs (store_after f s)

-- an empty store: nothing is held, whatever the buffers' bytes are
pub record Empty (s : Store) : Type 0 where
  pub video : held 1 s ≡ none
  pub audio : held 2 s ≡ none
  pub keyframe : held 3 s ≡ none

pub record HoldsHistory (fs : List Frame) (s : Store) : Type 0 where
  pub holds : (k : ℕ) → 1 ≤ k → k ≤ 3 → held k (run_store fs s) ≡ says k (length (buffer_of k s)) fs
  pub rooms : (k : ℕ) → 1 ≤ k → k ≤ 3 → length (buffer_of k (run_store fs s)) ≡ length (buffer_of k s)
  pub bytes : (k i : ℕ) → 1 ≤ k → k ≤ 3 → i < length (buffer_of k s)
      → byte_at (buffer_of k (run_store fs s)) i ≡ says_byte k (length (buffer_of k s)) i (byte_at (buffer_of k s) i) fs
  -- a late viewer is sent what the history says, in this order
  pub late : late_frames (run_store fs s) ≡ in_order (says 1 (length s.video) fs) (says 2 (length s.audio) fs) (says 3 (length s.keyframe) fs)

-- THE HISTORY: for every sequence of frames from an empty store, each slot holds what the history says
unfoldable pub History : Type 0
History = (fs : List Frame) (s : Store) → Empty s → HoldsHistory fs s
