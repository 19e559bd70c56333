-- Laws of offsets: turn by turn, by the chain, and that one of a chain without a bad layer is under 1,000,000.
use mathlib.Core.Path.{◌≡◌, refl, sym, ap, ◌∙◌}
use mathlib.Core.Bool.{Bool, true, false, cond, ◌||◌, or-false}
use mathlib.Core.List.{List, [], ◌∷◌}
use Prim.Native.Nat.{ℕ, suc, ◌+◌, ◌-◌, ◌≤◌, ◌<◌}
use native.Mathlib.Decide.{ℕ_discrete}
use native.Mathlib.Omega.{arith}
use lib.Dec.{ltb, eqb}
use lib.ListN.{length}
use borrow.Author.Tests.{le-ltb, eq-eqb, ne_eqb, ltb-true, ltb-false, eqb-true}
use Rattle.std.specs.Prelude.{Option, Some}
use Rattle.wire.specs.Wire.{Bytes, byte_at, be24_at}
use Rattle.wire.proofs.Bools.{and_left, and_right, or_no_left, or_no_right}
use Rattle.wire.proofs.Numbers.{past}
use Rattle.modex.specs.Modex.{layer_at, chain_at, layers_at, chain_of, peeled_layers}
use Rattle.modex.specs.Offsets.{is_bad, any_bad, offset_after, last_offset, has_bad_offset, chain_offset, stands_after, last_stands, offsets_from, timed_chain, OnWalk, plain_offset}
use Rattle.modex.specs.declared.ModexLayer.{ModexLayer}
use Rattle.modex.specs.declared.ModexChain.{ModexChain}
use Rattle.modex.specs.declared.Offsets.{Offsets}
use Rattle.modex.specs.declared.TimedChain.{TimedChain}
use Rattle.modex.proofs.Laws.{data_whole, layer_short, ended_by, chain_more, chain_ends, layers_last, layers_more}

-- A LAYER AND THOSE BEHIND IT
module _ (s : List ℕ) (l : ModexLayer) (ls : List ModexLayer) where
  pub any_step : any_bad s (l ∷ ls) ≡ (is_bad s l || any_bad s ls)
  unfolding any_bad
  any_step = refl

  pub last_step : (before : ℕ) → last_offset before s (l ∷ ls) ≡ last_offset (offset_after before s l) s ls
  unfolding last_offset
  last_step before = refl

-- THE LAST OFFSET by where it stands; behind the payload's end stands 0
read_after : (s : List ℕ) (before : ℕ) (l : ModexLayer) → offset_after (be24_at s before) s l ≡ be24_at s (stands_after before l)
read_after s before l = go (eqb l.modex_type 0)
  where
    go : (z : Bool) → cond z (be24_at s l.data_start) (be24_at s before) ≡ be24_at s (cond z l.data_start before)
    go true = refl
    go false = refl

last_read : (s : List ℕ) (ls : List ModexLayer) (before : ℕ) → last_offset (be24_at s before) s ls ≡ be24_at s (last_stands before ls)
unfolding last_offset last_stands
last_read s [] before = refl
last_read s (l ∷ ls) before = last_step s l ls (be24_at s before) ∙ ap (λ (o : ℕ). last_offset o s ls) (read_after s before l) ∙ last_read s ls (stands_after before l)

pub past_end : (s : List ℕ) → be24_at s (length s) ≡ 0
past_end s = omega (arith, past s (length s) (omega arith), past s (length s + 1) (omega arith), past s (length s + 2) (omega arith))

-- A TURN: no layer; a layer and those behind it. Of the layer only the type and where its data stands count
offsets_done : (before : Offsets) (s : List ℕ) → offsets_from before s [] ≡ before
unfolding offsets_from any_bad last_stands
offsets_done before s = simp or-false

abbrev judged_by : ModexLayer → ModexLayer
judged_by l = record { modex_type = l.modex_type; next_packet_type = 0; data_start = l.data_start; data_end = l.data_end; next_pos = 0 }

or_more : (a b c : Bool) → ((a || (b || false)) || c) ≡ (a || (b || c))
or_more true b c = refl
or_more false true c = refl
or_more false false c = refl

offsets_step : (before : Offsets) (s : List ℕ) (l : ModexLayer) (ls : List ModexLayer)
    → offsets_from (offsets_from before s (judged_by l ∷ [])) s ls ≡ offsets_from before s (l ∷ ls)
unfolding offsets_from any_bad last_stands
offsets_step before s l ls =
    ap (λ (x : Bool). record { at = last_stands (stands_after before.at l) ls; bad = x }) (or_more before.bad (is_bad s l) (any_bad s ls))

-- A CHAIN WITH ITS OFFSETS that ends
timed_ends : (p : List ℕ) (o : Option ModexChain) (c : ModexChain) (f : Offsets) → Some c ≡ o → f ≡ offsets_from (record { at = length p; bad = false }) p (layers_at 32 p 1)
    → record { chain = Some c; offsets = f } ≡ timed_chain p o
unfolding timed_chain
timed_ends p o c f x q = ap (λ (z : Offsets). record { chain = Some c; offsets = z }) q ∙ ap (timed_chain p) x

-- THE WALK over a layer
module _ (s : List ℕ) (k pos : ℕ) (l : ModexLayer) (before after : Offsets) (walk : OnWalk s k pos before) (more : 0 < k) (q : layer_at s pos ≡ Some l)
    (judged : after ≡ offsets_from before s (judged_by l ∷ [])) where
  turn : offsets_from before s (layers_at k s pos) ≡ offsets_from before s (layers_at (suc (k - 1)) s pos)
  turn = let z : k ≡ suc (k - 1) = omega arith in ap (λ (i : ℕ). offsets_from before s (layers_at i s pos)) z

  -- its last layer
  pub walk_ends : (l.next_packet_type ≡ 7 → ⊥) → record { chain = Some (ended_by l); offsets = after } ≡ timed_chain s (chain_at 32 s 1)
  walk_ends m =
      let last : offsets_from before s (layers_at k s pos) ≡ after =
      turn ∙ ap (offsets_from before s) (layers_last s (k - 1) pos l q m) ∙ sym (offsets_step before s l [])
      ∙ ap (λ (o : Offsets). offsets_from o s []) (sym judged) ∙ offsets_done after s in
      timed_ends s _ (ended_by l) after (sym (chain_ends s k pos l more q m) ∙ walk.chain) (sym last ∙ walk.offsets)

  -- or one before others
  pub walk_more : (j : ℕ) → j ≡ k - 1 → l.next_packet_type ≡ 7 → OnWalk s j l.next_pos after
  walk_more j d m = rw d (
      let rest : offsets_from before s (layers_at k s pos) ≡ offsets_from after s (layers_at (k - 1) s l.next_pos) =
      turn ∙ ap (offsets_from before s) (layers_more s (k - 1) pos l q m) ∙ sym (offsets_step before s l (layers_at (k - 1) s l.next_pos))
      ∙ ap (λ (o : Offsets). offsets_from o s (layers_at (k - 1) s l.next_pos)) (sym judged) in
      record { chain = sym (chain_more s k pos l more q m) ∙ walk.chain; offsets = sym rest ∙ walk.offsets })

-- where its last offset stands
pub timed_last : (type mask : ℕ) (p : List ℕ) (r : TimedChain) → r ≡ timed_chain p (chain_of type mask p) → be24_at p r.offsets.at ≡ chain_offset type mask p
unfolding timed_chain offsets_from chain_offset peeled_layers
timed_last type mask p r q =
    ap (λ (x : TimedChain). be24_at p x.offsets.at) q ∙ sym (last_read p _ (length p))
    ∙ ap (λ (o : ℕ). last_offset o p (peeled_layers type mask p)) (past_end p)

-- UNDER 1,000,000
after_under : (s : List ℕ) (l : ModexLayer) (before : ℕ) → before < 1000000 → is_bad s l ≡ false → offset_after before s l < 1000000
after_under s l before h fine = go (ℕ_discrete l.modex_type 0)
  where
    go : Dec (l.modex_type ≡ 0) → offset_after before s l < 1000000
    go (no x) = rw (ne_eqb l.modex_type 0 x) h
    go (yes x) =
        let f : (ltb (l.data_end - l.data_start) 3 || ltb 999999 (be24_at s l.data_start)) ≡ false = rw (eq-eqb l.modex_type 0 x) at fine in
        rw (eq-eqb l.modex_type 0 x) (omega (arith, ltb-false 999999 (be24_at s l.data_start) (or_no_right (ltb (l.data_end - l.data_start) 3) (ltb 999999 (be24_at s l.data_start)) f)))

last_under : (s : List ℕ) (ls : List ModexLayer) (before : ℕ) → before < 1000000 → any_bad s ls ≡ false → last_offset before s ls < 1000000
unfolding any_bad last_offset
last_under s [] before h fine = h
last_under s (l ∷ ls) before h fine =
    last_under s ls (offset_after before s l) (after_under s l before h (or_no_left (is_bad s l) (any_bad s ls) fine)) (or_no_right (is_bad s l) (any_bad s ls) fine)

pub offset_under : (type mask : ℕ) (p : List ℕ) → has_bad_offset type mask p ≡ false → chain_offset type mask p < 1000000
unfolding has_bad_offset chain_offset
offset_under type mask p fine = last_under p (peeled_layers type mask p) 0 (omega arith) fine

-- A PLAIN OFFSET, by what its test says
module _ (s : List ℕ) (i left : ℕ) where
  pub record PlainOffset : Type 0 where
    pub more : 0 < left
    pub room : i + 4 < length s
    pub size : byte_at s i ≡ 2
    pub option : byte_at s (i + 4) ≡ 7
    pub under : byte_at s (i + 1) < 15

  pub plain_offset_lem : plain_offset s i left ≡ true → PlainOffset
  unfolding plain_offset
  plain_offset_lem p =
      let a = and_right (ltb 0 left) _ p in
      let b = and_right (ltb (i + 4) (length s)) _ a in
      let c = and_right (eqb (byte_at s i) 2) _ b in
      record {
        more = ltb-true 0 left (and_left _ _ p);
        room = ltb-true _ _ (and_left _ _ a);
        size = eqb-true _ _ (and_left _ _ b);
        option = eqb-true _ _ (and_left _ _ c);
        under = ltb-true _ _ (and_right (eqb (byte_at s (i + 4)) 7) _ c);
      }

-- and the walk over it
module _ (s : List ℕ) (i left at : ℕ) (plain : PlainOffset s i left) (bytes : Bytes s) where
  plain_layer : layer_at s i ≡ Some (record { modex_type = 0; next_packet_type = 7; data_start = i + 1; data_end = i + 4; next_pos = i + 5 })
  plain_layer =
      let e : i + 1 + 3 ≡ i + 4 = omega arith in
      let f : i + 4 + 1 ≡ i + 5 = omega arith in
      sym (layer_short s i 3 (λ x. omega (arith, plain.size)) (omega (arith, plain.size))) ∙ sym (data_whole s (i + 1) 3 (omega (arith, plain.room)))
      ∙ rw (e, plain.option, f) refl

  plain_judged : record { at = i + 1; bad = false }
      ≡ offsets_from (record { at = at; bad = false }) s (record { modex_type = 0; next_packet_type = 0; data_start = i + 1; data_end = i + 4; next_pos = 0 } ∷ [])
  unfolding offsets_from any_bad last_stands
  plain_judged =
      let under : be24_at s (i + 1) ≤ 999999 = omega (arith, plain.under, bytes (i + 1 + 1), bytes (i + 1 + 2)) in
      simp (le-ltb (i + 4 - (i + 1)) 3 (omega arith), le-ltb 999999 (be24_at s (i + 1)) under)

  pub walk_plain : OnWalk s left i (record { at = at; bad = false }) → OnWalk s (left - 1) (i + 5) (record { at = i + 1; bad = false })
  walk_plain walk = walk_more s left i _ _ _ walk plain.more plain_layer plain_judged (left - 1) refl refl
