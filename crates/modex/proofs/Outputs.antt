-- Laws of peeling into a lent output.
use mathlib.Core.Path.{◌≡◌, refl, ap, ◌∙◌}
use mathlib.Core.Bool.{Bool, true, false}
use mathlib.Core.List.{List, ◌∷◌}
use Prim.Native.Nat.{ℕ, suc, ◌+◌, ◌-◌, ◌*◌, ◌/◌, ◌≤◌, ◌<◌}
use native.Mathlib.Decide.{dec_lt}
use native.Mathlib.Omega.{arith}
use lib.ListN.{length, take, drop, set, length-drop}
use lib.Seq.{drop-cons, take-append_seam}
use borrow.Author.Tests.{lt-ltb, le-ltb}
use Rattle.std.specs.Prelude.{Option, Some, None, Ok}
use Rattle.wire.specs.Wire.{byte_at}
use Rattle.wire.proofs.Parts.{rest_part}
use Rattle.outputs.specs.Outputs.{in_front, put_at}
use Rattle.outputs.proofs.Laws.{put_front}
use Rattle.modex.specs.Modex.{chain_of, without_chain, peeled, peel_output}
use Rattle.modex.specs.Offsets.{has_bad_offset, chain_offset, peel_offset_result, peel_offset_output}
use Rattle.modex.specs.declared.ModexChain.{ModexChain}
use Rattle.modex.specs.declared.Peeled.{Peeled}
use Rattle.modex.proofs.Laws.{peeled_none, peeled_ends, ends_facts}

-- A PAYLOAD WITHOUT ITS CHAIN, by the chain
module _ (p : List ℕ) (o : Option ModexChain) where
  module _ (c : ModexChain) (q : o ≡ Some c) where
    without_ends : without_chain p o ≡ (byte_at p 0 / 16 * 16 + c.next_packet_type) ∷ drop c.next_pos p
    unfolding without_chain
    without_ends = simp q

    -- the payload from the byte before its body on, put into the output, and that byte replaced
    pub put_ends : (1 ≤ c.next_pos) × ((c.next_pos ≤ length p) × (c.next_packet_type < 16)) → (out last src : List ℕ) (h : ℕ)
        → length (without_chain p o) ≤ length out → h ≡ byte_at p 0 / 16 * 16 + c.next_packet_type
        → src ≡ take (length p - (c.next_pos - 1)) (drop (c.next_pos - 1) p) → last ≡ put_at out 0 src
        → set last 0 h ≡ in_front (without_chain p o) out
    put_ends w out last src h l g s i =
        let k : suc (c.next_pos - 1) ≡ c.next_pos = omega arith in
        let whole : src ≡ byte_at p (c.next_pos - 1) ∷ drop c.next_pos p =
        s ∙ rest_part p (c.next_pos - 1) ∙ drop-cons p (c.next_pos - 1) 0 (omega (arith, w)) ∙ ap (λ (j : ℕ). byte_at p (c.next_pos - 1) ∷ drop j p) k in
        rw (i, put_front out src (omega (arith, ap length whole, ap length without_ends)), whole, without_ends, g)

  module _ (q : o ≡ None) where
    without_none : without_chain p o ≡ p
    unfolding without_chain
    without_none = simp q

    pub put_none : (out last : List ℕ) → length (without_chain p o) ≤ length out → last ≡ put_at out 0 p → last ≡ in_front (without_chain p o) out
    put_none out last l i = rw without_none (i ∙ put_front out p (omega (arith, ap length without_none)))

-- the peeled payload is no longer than the payload
pub peeled_within : (type mask : ℕ) (p : List ℕ) → length (peeled type mask p) ≤ length p
peeled_within type mask p = go (chain_of type mask p) refl
  where
    go : (o : Option ModexChain) → chain_of type mask p ≡ o → length (peeled type mask p) ≤ length p
    go None q = omega (arith, ap length (peeled_none type mask p q))
    go (Some c) q = let w = ends_facts type mask p c q in omega (arith, length-drop c.next_pos p, ap length (peeled_ends type mask p c q))

-- for a caller: what a taken answer says, and that the front of the output is the peeled payload
module _ (type mask : ℕ) (p out : List ℕ) where
  pub record Taken (r : Peeled) (last : List ℕ) : Type 0 where
    pub long : r.length ≡ length (peeled type mask p)
    pub room : r.length ≤ length out
    pub fine : has_bad_offset type mask p ≡ false
    pub offset : r.offset ≡ chain_offset type mask p
    pub front : take r.length last ≡ peeled type mask p

  pub taken : (r : Peeled) (last : List ℕ) → Ok r ≡ peel_offset_result type mask p (length out) → last ≡ peel_offset_output type mask p out → Taken r last
  unfolding peel_offset_result peel_offset_output peel_output
  taken r last q w = by_room (dec_lt (length out) (length (peeled type mask p)))
    where
      by_offset : length (peeled type mask p) ≤ length out → (b : Bool) → has_bad_offset type mask p ≡ b → Taken r last
      by_offset l true b =
          let v = simp (le-ltb _ _ l, b) at q in
          cc
      by_offset l false b =
          let v = simp (le-ltb _ _ l, b) at q in
          let e : r ≡ record { length = length (peeled type mask p); offset = chain_offset type mask p } = cc in
          record {
            long = ap (λ (x : Peeled). x.length) e;
            room = omega (arith, ap (λ (x : Peeled). x.length) e);
            fine = b;
            offset = ap (λ (x : Peeled). x.offset) e;
            front = simp (ap (λ (x : Peeled). x.length) e, w, le-ltb _ _ l, b, take-append_seam);
          }

      by_room : Dec (length out < length (peeled type mask p)) → Taken r last
      by_room (yes h) =
          let v = simp (lt-ltb _ _ h) at q in
          cc
      by_room (no h) = by_offset (omega arith) (has_bad_offset type mask p) refl
