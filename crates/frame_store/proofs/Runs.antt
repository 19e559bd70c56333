-- THE HISTORY: each slot holds what the frames say.
use mathlib.Core.Path.{◌≡◌, refl, ◌∙◌}
use mathlib.Core.Bool.{Bool, true, false, cond}
use mathlib.Core.Option.{Option, none, some}
use mathlib.Core.List.{List, [], ◌∷◌}
use Prim.Native.Nat.{ℕ, zero, suc, ◌≤◌}
use native.Mathlib.Omega.{arith}
use lib.ListN.{length}
use Rattle.wire.specs.Wire.{byte_at}
use Rattle.frame_store.specs.Store.{Store, Frame, buffer_of, is_held, held, result_of, length_after, buffer_after, keep_in, store_after}
use Rattle.frame_store.specs.Late.{in_order, late_frames}
use Rattle.frame_store.specs.History.{or_else, last_that, decides, leaves, left_by, says, writes, byte_of, run_store, History}
use Rattle.frame_store.specs.Claims.{Unchanged, FreshEmpty}
use Rattle.frame_store.proofs.Slots.{held_after, room_after, byte_after}

-- ONE FRAME, as the history sees it
pub record Steps (k : ℕ) : Type 0 where
  pub holds : (f : Frame) (s : Store) → held k (store_after f s) ≡ cond (decides k f) (leaves k (length (buffer_of k s)) f) (held k s)
  pub rooms : (f : Frame) (s : Store) → length (buffer_of k (store_after f s)) ≡ length (buffer_of k s)
  pub bytes : (f : Frame) (s : Store) (i : ℕ)
      → byte_at (buffer_of k (store_after f s)) i ≡ cond (writes k (length (buffer_of k s)) i f) (byte_at (result_of f) i) (byte_at (buffer_of k s) i)

-- of each of the three slots
three : (P : ℕ → Type 0) → P 1 → P 2 → P 3 → (k : ℕ) → 1 ≤ k → k ≤ 3 → P k
three P a b c zero l m = absurd (omega arith)
three P a b c (suc zero) l m = a
three P a b c (suc (suc zero)) l m = b
three P a b c (suc (suc (suc zero))) l m = c
three P a b c (suc (suc (suc (suc k)))) l m = absurd (omega arith)

pub steps : (k : ℕ) → 1 ≤ k → k ≤ 3 → Steps k
unfolding held keep_in store_after
steps =
    three Steps
    (record { holds = held_after 1 (omega arith); rooms = room_after 1 (omega arith); bytes = byte_after 1 (omega arith) })
    (record { holds = held_after 2 (omega arith); rooms = room_after 2 (omega arith); bytes = byte_after 2 (omega arith) })
    (record { holds = held_after 3 (omega arith); rooms = room_after 3 (omega arith); bytes = byte_after 3 (omega arith) })

-- what the last frame that passes a test leaves, where what was there before is `was`
abbrev lastly : {A : Type 0} → (Frame → A) → A → Option Frame → A
lastly g was (some f) = g f
lastly g was none = was

lastly_step : {A : Type 0} (t : Frame → Bool) (g : Frame → A) (was : A) (f : Frame) (o : Option Frame)
    → lastly g (cond (t f) (g f) was) o ≡ lastly g was (or_else o (cond (t f) (some f) none))
lastly_step t g was f (some h) = refl
lastly_step t g was f none = go (t f)
  where
    go : (b : Bool) → cond b (g f) was ≡ lastly g was (cond b (some f) none)
    go true = refl
    go false = refl

module _ (k : ℕ) (l : 1 ≤ k) (m : k ≤ 3) where
  abbrev step : Steps k
  step = steps k l m

  run_rooms : (fs : List Frame) (s : Store) → length (buffer_of k (run_store fs s)) ≡ length (buffer_of k s)
  run_rooms [] s = refl
  run_rooms (f ∷ fs) s = run_rooms fs (store_after f s) ∙ step.rooms f s

  run_held : (fs : List Frame) (s : Store) → held k (run_store fs s) ≡ lastly (leaves k (length (buffer_of k s))) (held k s) (last_that (decides k) fs)
  run_held [] s = refl
  run_held (f ∷ fs) s =
      run_held fs (store_after f s)
      ∙ rw (step.rooms f s, step.holds f s) (lastly_step (decides k) (leaves k (length (buffer_of k s))) (held k s) f (last_that (decides k) fs))

  run_bytes : (fs : List Frame) (s : Store) (i : ℕ)
      → byte_at (buffer_of k (run_store fs s)) i ≡ lastly (λ f. byte_at (result_of f) i) (byte_at (buffer_of k s) i) (last_that (writes k (length (buffer_of k s)) i) fs)
  run_bytes [] s i = refl
  run_bytes (f ∷ fs) s i =
      run_bytes fs (store_after f s) i
      ∙ rw (step.rooms f s, step.bytes f s i)
      (lastly_step (writes k (length (buffer_of k s)) i) (λ g. byte_at (result_of g) i) (byte_at (buffer_of k s) i) f (last_that (writes k (length (buffer_of k s)) i) fs))

  -- from a slot that holds nothing
  from_none : (room : ℕ) (o : Option Frame) → lastly (leaves k room) none o ≡ left_by k room o
  from_none room none = refl
  from_none room (some f) = refl

  from_byte : (i was : ℕ) (o : Option Frame) → lastly (λ f. byte_at (result_of f) i) was o ≡ byte_of i was o
  from_byte i was none = refl
  from_byte i was (some f) = refl

  run_from_none : (fs : List Frame) (s : Store) → held k s ≡ none → held k (run_store fs s) ≡ says k (length (buffer_of k s)) fs
  run_from_none fs s e = run_held fs s ∙ rw e (from_none (length (buffer_of k s)) (last_that (decides k) fs))

pub history : History
unfolding History late_frames
history fs s e =
    record {
      holds = holds;
      rooms = λ k l m. run_rooms k l m fs s;
      bytes = λ k i l m _. run_bytes k l m fs s i ∙ from_byte k l m i (byte_at (buffer_of k s) i) (last_that (writes k (length (buffer_of k s)) i) fs);
      late = late (holds 1 (omega arith) (omega arith)) (holds 2 (omega arith) (omega arith)) (holds 3 (omega arith) (omega arith));
    }
  where
    holds : (k : ℕ) → 1 ≤ k → k ≤ 3 → held k (run_store fs s) ≡ says k (length (buffer_of k s)) fs
    holds k l m = run_from_none k l m fs s (three (λ j. held j s ≡ none) e.video e.audio e.keyframe k l m)

    late : held 1 (run_store fs s) ≡ says 1 (length s.video) fs → held 2 (run_store fs s) ≡ says 2 (length s.audio) fs → held 3 (run_store fs s) ≡ says 3 (length s.keyframe) fs
        → late_frames (run_store fs s) ≡ in_order (says 1 (length s.video) fs) (says 2 (length s.audio) fs) (says 3 (length s.keyframe) fs)
    late a b c = rw (a, b, c)

-- kind 0 changes nothing
pub keep_none : (s : Store) (bytes : List ℕ) → keep_in s 0 bytes ≡ s
unfolding keep_in length_after buffer_after
keep_none s bytes = refl

pub unchanged : Unchanged
unfolding Unchanged store_after
unchanged f s e = rw e (keep_none s (result_of f))

pub fresh_empty_lem : FreshEmpty
unfolding FreshEmpty held is_held
fresh_empty_lem video audio keyframe = record { video = refl; audio = refl; keyframe = refl }
