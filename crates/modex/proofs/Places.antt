-- Laws of peeling without a copy: what a call answers and leaves, and that what stands from the start on is the peeled payload.
use mathlib.Core.Path.{◌≡◌, refl, sym, ap, ◌∙◌}
use mathlib.Core.List.{List, ◌∷◌}
use mathlib.Core.Bool.{Bool, true, false}
use Prim.Native.Nat.{ℕ, suc, ◌+◌, ◌-◌, ◌*◌, ◌/◌, ◌≤◌}
use native.Mathlib.Omega.{arith}
use lib.ListN.{length, take, drop, set, length-set, length-drop}
use lib.Seq.{length-take-le, drop_at, set_split, get_or-set_other}
use Rattle.std.specs.Prelude.{Option, Some, None, Ok, Err}
use Rattle.wire.specs.Wire.{byte_at}
use Rattle.types.specs.declared.ErrorCode.{ErrorCode}
use Rattle.types.specs.declared.ErrorCode.TheVariants as error
use Rattle.modex.specs.Modex.{chain_of, peeled}
use Rattle.modex.specs.Offsets.{has_bad_offset, chain_offset}
use Rattle.modex.specs.InPlace.{peeled_start, peeled_in_place, in_place_result, in_place_payload}
use Rattle.modex.specs.declared.ModexChain.{ModexChain}
use Rattle.modex.specs.declared.PeeledInPlace.{PeeledInPlace}
use Rattle.modex.proofs.Laws.{peeled_none, peeled_ends, ends_facts}

-- START AND PAYLOAD by the chain
module _ (type mask : ℕ) (p : List ℕ) where
  module _ (q : chain_of type mask p ≡ None) where
    pub start_none : peeled_start type mask p ≡ 0
    unfolding peeled_start
    start_none = simp q

    pub placed_none : peeled_in_place type mask p ≡ p
    unfolding peeled_in_place
    placed_none = simp q

  module _ (c : ModexChain) (q : chain_of type mask p ≡ Some c) where
    pub start_ends : peeled_start type mask p ≡ c.next_pos - 1
    unfolding peeled_start
    start_ends = simp q

    pub placed_ends : peeled_in_place type mask p ≡ set p (c.next_pos - 1) (byte_at p 0 / 16 * 16 + c.next_packet_type)
    unfolding peeled_in_place
    placed_ends = simp q

-- WHAT STANDS FROM THE START ON is the peeled payload, up to the payload's end; every other byte is kept
module _ (type mask : ℕ) (p : List ℕ) where
  pub placed_peeled : drop (peeled_start type mask p) (peeled_in_place type mask p) ≡ peeled type mask p
  placed_peeled = go (chain_of type mask p) refl
    where
      go : (o : Option ModexChain) → chain_of type mask p ≡ o → drop (peeled_start type mask p) (peeled_in_place type mask p) ≡ peeled type mask p
      go None q = rw (start_none type mask p q, placed_none type mask p q) (sym (peeled_none type mask p q))
      go (Some c) q =
          let w = ends_facts type mask p c q in
          let h : ℕ = byte_at p 0 / 16 * 16 + c.next_packet_type in
          let d : suc (c.next_pos - 1) ≡ c.next_pos = omega arith in
          rw (start_ends type mask p c q, placed_ends type mask p c q)
          (ap (drop (c.next_pos - 1)) (set_split p (c.next_pos - 1) h (omega arith)) ∙ drop_at (take (c.next_pos - 1) p) (h ∷ drop (suc (c.next_pos - 1)) p) (c.next_pos - 1) (length-take-le (c.next_pos - 1) p (omega arith))
          ∙ ap (λ (i : ℕ). h ∷ drop i p) d ∙ sym (peeled_ends type mask p c q))

  pub start_length : peeled_start type mask p + length (peeled type mask p) ≡ length p
  start_length = go (chain_of type mask p) refl
    where
      go : (o : Option ModexChain) → chain_of type mask p ≡ o → peeled_start type mask p + length (peeled type mask p) ≡ length p
      go None q = omega (arith, start_none type mask p q, ap length (peeled_none type mask p q))
      go (Some c) q =
          let w = ends_facts type mask p c q in
          omega (arith, start_ends type mask p c q, length-drop c.next_pos p, ap length (peeled_ends type mask p c q))

  pub placed_length : length (peeled_in_place type mask p) ≡ length p
  placed_length = go (chain_of type mask p) refl
    where
      go : (o : Option ModexChain) → chain_of type mask p ≡ o → length (peeled_in_place type mask p) ≡ length p
      go None q = ap length (placed_none type mask p q)
      go (Some c) q = ap length (placed_ends type mask p c q) ∙ length-set p _ _

  pub placed_kept : (i : ℕ) → (i ≡ peeled_start type mask p → ⊥) → byte_at (peeled_in_place type mask p) i ≡ byte_at p i
  placed_kept i other = go (chain_of type mask p) refl
    where
      go : (o : Option ModexChain) → chain_of type mask p ≡ o → byte_at (peeled_in_place type mask p) i ≡ byte_at p i
      go None q = ap (λ (r : List ℕ). byte_at r i) (placed_none type mask p q)
      go (Some c) q =
          ap (λ (r : List ℕ). byte_at r i) (placed_ends type mask p c q)
          ∙ get_or-set_other p (c.next_pos - 1) i (byte_at p 0 / 16 * 16 + c.next_packet_type) 0 (λ x. other (x ∙ sym (start_ends type mask p c q)))

-- FOR A CALLER: what an answer says, and what the payload then holds
module _ (type mask : ℕ) (p : List ℕ) where
  pub record PlaceTaken (r : PeeledInPlace) (last : List ℕ) : Type 0 where
    pub fine : has_bad_offset type mask p ≡ false
    pub start : r.start ≡ peeled_start type mask p
    pub offset : r.offset ≡ chain_offset type mask p
    pub payload : last ≡ peeled_in_place type mask p
    pub inside : r.start ≤ length last

  pub record PlaceRefused (e : ErrorCode) (last : List ℕ) : Type 0 where
    pub bad : has_bad_offset type mask p ≡ true
    pub answer : e ≡ error.Protocol
    pub payload : last ≡ p

  pub place_taken_lem : (r : PeeledInPlace) (last : List ℕ) → Ok r ≡ in_place_result type mask p → last ≡ in_place_payload type mask p → PlaceTaken r last
  unfolding in_place_result in_place_payload
  place_taken_lem r last q w = go (has_bad_offset type mask p) refl
    where
      go : (b : Bool) → has_bad_offset type mask p ≡ b → PlaceTaken r last
      go true b =
          let v = simp b at q in
          cc
      go false b =
          let v = simp b at q in
          let start : r.start ≡ peeled_start type mask p = cc in
          let payload : last ≡ peeled_in_place type mask p = w ∙ simp b in
          record {
            fine = b;
            start = start;
            offset = cc;
            payload = payload;
            inside = omega (arith, ap length payload, placed_length type mask p, start_length type mask p);
          }

  pub place_refused_lem : (e : ErrorCode) (last : List ℕ) → Err e ≡ in_place_result type mask p → last ≡ in_place_payload type mask p → PlaceRefused e last
  unfolding in_place_result in_place_payload
  place_refused_lem e last q w = go (has_bad_offset type mask p) refl
    where
      go : (b : Bool) → has_bad_offset type mask p ≡ b → PlaceRefused e last
      go true b =
          let v = simp b at q in
          record { bad = b; answer = cc; payload = w ∙ simp b }
      go false b =
          let v = simp b at q in
          cc
