-- What one frame does to a slot: what it holds then, the length of its buffer, and each byte of it.
use mathlib.Core.Path.{◌≡◌, refl, ◌∙◌}
use mathlib.Core.Bool.{Bool, true, false, cond, ◌&&◌}
use mathlib.Core.Option.{some}
use mathlib.Core.List.{List, ◌++◌}
use Prim.Native.Nat.{ℕ, ◌+◌, ◌-◌, ◌≤◌, ◌<◌}
use native.Mathlib.Decide.{dec_lt}
use native.Mathlib.Omega.{arith}
use lib.Dec.{eqb}
use lib.ListN.{length, drop, length-append, length-drop, get_or-append}
use lib.Seq.{take-append_seam, get_or-append-add, get_or-drop}
use borrow.Author.Tests.{lt-ltb, le-ltb, le-leb, eqb-true, leb-true}
use Rattle.wire.specs.Wire.{byte_at}
use Rattle.wire.proofs.Bools.{and_right}
use Rattle.frame_store.specs.Store.{Store, Frame, buffer_of, length_of, is_held, held_in, fits, length_after, buffer_after, result_of, kept_kind}
use Rattle.frame_store.specs.History.{decides, leaves, writes}
use Rattle.frame_store.specs.Claims.{KeptNonempty}
use Rattle.frame_store.proofs.Nonempty.{kept_nonempty_lem}

held_front : (r rest : List ℕ) → 0 < length r → held_in (length r) (r ++ rest) ≡ some r
unfolding is_held
held_front r rest l =
    let m : length r ≤ length (r ++ rest) = simp length-append (omega arith) in
    rw (lt-ltb 0 (length r) l, le-leb (length r) (length (r ++ rest)) m, take-append_seam r rest)

-- slot k of 1, 2, 3
module _ (k : ℕ) (positive : 1 ≤ k) (f : Frame) (s : Store) where
  abbrev kind : ℕ
  kind = kept_kind f

  abbrev r : List ℕ
  r = result_of f

  abbrev buffer : List ℕ
  buffer = buffer_of k s

  nonempty : eqb kind k ≡ true → 0 < length r
  unfolding KeptNonempty
  nonempty e = kept_nonempty_lem f (λ z. let q = eqb-true kind k e in absurd (omega arith))

  pub held_after : held_in (length_after k kind r s) (buffer_after k kind r s) ≡ cond (decides k f) (leaves k (length buffer) f) (held_in (length_of k s.lengths) buffer)
  unfolding length_after buffer_after decides leaves is_held
  held_after = go (eqb kind k) refl (fits r buffer) refl (eqb k 3 && eqb kind 1) refl
    where
      go : (a : Bool) → eqb kind k ≡ a → (b : Bool) → fits r buffer ≡ b → (c : Bool) → (eqb k 3 && eqb kind 1) ≡ c
          → held_in (length_after k kind r s) (buffer_after k kind r s) ≡ cond (decides k f) (leaves k (length buffer) f) (held_in (length_of k s.lengths) buffer)
      go true a true b c d = simp (a, b) (held_front r _ (nonempty a))
      go true a false b c d = simp (a, b, is_held)
      go false a b e true d = simp (a, d, is_held)
      go false a b e false d = simp (a, d)

  pub room_after : length (buffer_after k kind r s) ≡ length buffer
  unfolding buffer_after
  room_after = go (eqb kind k && fits r buffer) refl
    where
      go : (a : Bool) → (eqb kind k && fits r buffer) ≡ a → length (buffer_after k kind r s) ≡ length buffer
      go true a = simp (a, length-append, length-drop) (omega (arith, leb-true (length r) (length buffer) (and_right (eqb kind k) _ a)))
      go false a = simp a

  pub byte_after : (i : ℕ) → byte_at (buffer_after k kind r s) i ≡ cond (writes k (length buffer) i f) (byte_at r i) (byte_at buffer i)
  unfolding buffer_after writes
  byte_after i = go (eqb kind k) refl (fits r buffer) refl (dec_lt i (length r))
    where
      go : (a : Bool) → eqb kind k ≡ a → (b : Bool) → fits r buffer ≡ b → Dec (i < length r)
          → byte_at (buffer_after k kind r s) i ≡ cond (writes k (length buffer) i f) (byte_at r i) (byte_at buffer i)
      go false a b e d = simp a
      go true a false b d = simp (a, b)
      go true a true b (yes l) = simp (a, b, lt-ltb i (length r) l) (get_or-append r (drop (length r) buffer) 0 i l)
      go true a true b (no l) =
          let n : ℕ = length r in
          let m : n ≤ i = omega arith in
          let q : n + (i - n) ≡ i = omega arith in
          simp (a, b, le-ltb i n m) (rw (← q) (get_or-append-add r (drop n buffer) (i - n) 0 ∙ get_or-drop n buffer (i - n) 0))
