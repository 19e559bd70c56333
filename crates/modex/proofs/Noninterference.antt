-- Noninterference of peeling. Two payloads that agree outside the sealed bytes of the first have the same chain with the same offsets, and results that
-- agree outside the sealed bytes of the first result.
use mathlib.Core.Path.{◌≡◌, refl, sym, ap, ap₂, ◌∙◌}
use mathlib.Core.Bool.{Bool, true, false, cond, ◌&&◌, ◌||◌, and-false, or-true}
use mathlib.Core.List.{List, [], ◌∷◌, ◌++◌}
use Prim.Native.Nat.{ℕ, zero, suc, ◌+◌, ◌-◌, ◌*◌, ◌/◌, ◌≤◌, ◌<◌}
use native.Mathlib.Decide.{dec_lt, ℕ_discrete}
use native.Mathlib.Numerals.{add-one}
use native.Mathlib.Omega.{arith}
use lib.Dec.{ltb, eqb}
use lib.ListN.{length, drop, length-drop}
use lib.Seq.{get_or-drop}
use borrow.Author.Tests.{lt-ltb, le-ltb, le-leb, lt-leb, eq-eqb, ne_eqb, ltb-false}
use Rattle.std.specs.Prelude.{Option, Some, None}
use Rattle.wire.specs.Wire.{byte_at, be16_at, be24_at}
use Rattle.wire.specs.Mask.{LowEquivalent}
use Rattle.wire.proofs.Bools.{or_no_left, or_no_right}
use Rattle.wire.proofs.Masks.{low_refl, low_at, low_clear, low_set}
use Rattle.types.specs.Types.{is_script_or_metadata}
use Rattle.modex.specs.Modex.{data_at, layer_at, chain_at, layers_at, is_wrapped, chain_of, peeled_layers, peeled}
use Rattle.modex.specs.Offsets.{is_bad, any_bad, offset_after, last_offset, has_bad_offset, chain_offset}
use Rattle.modex.specs.InPlace.{peeled_start, peeled_in_place}
use Rattle.modex.specs.Sealed.{open_data, sealed_in_layer, sealed_in_layers, sealed_through, sealed_under_layers}
use Rattle.modex.specs.declared.ModexLayer.{ModexLayer}
use Rattle.modex.specs.declared.ModexChain.{ModexChain}
use Rattle.modex.proofs.Laws.{
  data_short,
  data_whole,
  layer_long,
  layer_short,
  layer_of,
  layer_facts_lem,
  ended_by,
  layers_step,
  layers_last,
  layers_more,
  chain_more,
  chain_ends,
  chain_induction,
  chain_facts_lem,
  chain_wrapped,
  chain_unwrapped,
  ends_wrapped,
  ends_facts,
  peeled_none,
  peeled_ends,
}
use Rattle.modex.proofs.OffsetLaws.{any_step, last_step}
use Rattle.modex.proofs.Places.{start_none, placed_none, start_ends, placed_ends}

-- WHAT DECIDES A LAYER: the bytes before its data, and its option byte
module _ (s : List ℕ) where
  data_start : (start size : ℕ) (l : ModexLayer) → data_at s start size ≡ Some l → (l ≡ layer_of s start (start + size)) × (start + size < length s)
  data_start start size l q = go (dec_lt (start + size) (length s))
    where
      go : Dec (start + size < length s) → (l ≡ layer_of s start (start + size)) × (start + size < length s)
      go (yes h) = let w = data_whole s start size h in (cc, h)
      go (no h) =
          let w = data_short s start size (omega arith) in
          cc

module _ (s u : List ℕ) (len : length s ≡ length u) where
  data_same : (start size : ℕ) (l : ModexLayer) → data_at s start size ≡ Some l → byte_at s l.data_end ≡ byte_at u l.data_end → data_at u start size ≡ Some l
  data_same start size l q o =
      let w = data_start s start size l q in
      let b : byte_at s (start + size) ≡ byte_at u (start + size) = rw w.0 at o in
      sym (data_whole u start size (omega arith)) ∙ ap Some (rw b at (sym w.0))

  layer_same : (pos : ℕ) (l : ModexLayer) → layer_at s pos ≡ Some l → ((i : ℕ) → pos ≤ i → i < l.data_start → byte_at s i ≡ byte_at u i)
      → byte_at s l.data_end ≡ byte_at u l.data_end → layer_at u pos ≡ Some l
  layer_same pos l q head o = go (ℕ_discrete (byte_at s pos) 255)
    where
      go : Dec (byte_at s pos ≡ 255) → layer_at u pos ≡ Some l
      go (yes h) =
          let d = layer_long s pos _ h refl ∙ q in
          let a : l.data_start ≡ pos + 3 = ap (λ (x : ModexLayer). x.data_start) (data_start s _ _ l d).0 in
          let size : be16_at s (pos + 1) + 1 ≡ be16_at u (pos + 1) + 1 =
          omega (arith, head (pos + 1) (omega arith) (omega arith), head (pos + 1 + 1) (omega arith) (omega arith)) in
          sym (layer_long u pos _ (sym (head pos (omega arith) (omega arith)) ∙ h) size) ∙ data_same _ _ l d o
      go (no h) =
          let d = layer_short s pos _ h refl ∙ q in
          let a : l.data_start ≡ pos + 1 = ap (λ (x : ModexLayer). x.data_start) (data_start s _ _ l d).0 in
          let first = head pos (omega arith) (omega arith) in
          sym (layer_short u pos _ (λ x. h (first ∙ x)) (ap (λ (x : ℕ). x + 1) first)) ∙ data_same _ _ l d o

-- WHERE A CHAIN SEALS
module _ (l : ModexLayer) (i : ℕ) where
  before_data : i < l.data_start + open_data l.modex_type → sealed_in_layer l i ≡ false
  unfolding sealed_in_layer
  before_data h = simp (lt-leb (l.data_start + open_data l.modex_type) i h)

  behind_data : l.data_end ≤ i → sealed_in_layer l i ≡ false
  unfolding sealed_in_layer
  behind_data h = simp (le-ltb i l.data_end h, and-false)

-- of type 0 all data but the first three bytes, of any other type all
module _ (before after : List ModexLayer) (l : ModexLayer) (i : ℕ) (within : i < l.data_end) where
  layer_seals : sealed_in_layer l i ≡ true → sealed_in_layers (before ++ (l ∷ after)) i ≡ true
  unfolding sealed_in_layers
  layer_seals z = go before
    where
      go : (ls : List ModexLayer) → sealed_in_layers (ls ++ (l ∷ after)) i ≡ true
      go [] = simp z
      go (m ∷ ls) = simp (go ls, or-true)

  behind_open : l.data_start + open_data l.modex_type ≤ i → sealed_in_layers (before ++ (l ∷ after)) i ≡ true
  unfolding sealed_in_layer
  behind_open h = layer_seals (simp (le-leb (l.data_start + open_data l.modex_type) i h, lt-ltb i l.data_end within))

  pub seals_behind_offset : l.modex_type ≡ 0 → l.data_start + 3 ≤ i → sealed_in_layers (before ++ (l ∷ after)) i ≡ true
  seals_behind_offset x h = let o : open_data l.modex_type ≤ 3 = rw (eq-eqb l.modex_type 0 x) (omega arith) in behind_open (omega arith)

  pub seals_data : (l.modex_type ≡ 0 → ⊥) → l.data_start ≤ i → sealed_in_layers (before ++ (l ∷ after)) i ≡ true
  seals_data x h = let o : open_data l.modex_type ≤ 0 = rw (ne_eqb l.modex_type 0 x) (omega arith) in behind_open (omega arith)

module _ (s : List ℕ) where
  abbrev sealed_in_chain : ℕ → ℕ → ℕ → Bool
  sealed_in_chain k pos i = sealed_in_layers (layers_at k s pos) i

  sealed_cond : (b : Bool) (ls : List ModexLayer) (i : ℕ) → sealed_in_layers (cond b ls []) i ≡ (b && sealed_in_layers ls i)
  unfolding sealed_in_layers
  sealed_cond true ls i = refl
  sealed_cond false ls i = refl

  sealed_step : (k pos : ℕ) (l : ModexLayer) (i : ℕ) → layer_at s pos ≡ Some l
      → sealed_in_chain (suc k) pos i ≡ (sealed_in_layer l i || (eqb l.next_packet_type 7 && sealed_in_chain k l.next_pos i))
  unfolding sealed_in_layers
  sealed_step k pos l i q =
      ap (λ (ls : List ModexLayer). sealed_in_layers ls i) (layers_step s k pos l q)
      ∙ ap (λ (x : Bool). sealed_in_layer l i || x) (sealed_cond (eqb l.next_packet_type 7) (layers_at k s l.next_pos) i)

  -- not at or before its first byte
  sealed_before : (k pos i : ℕ) → i ≤ pos → sealed_in_chain k pos i ≡ false
  unfolding layers_at sealed_in_layers
  sealed_before zero pos i h = refl
  sealed_before (suc k) pos i h = go (λ (j : ℕ). sealed_before k j i) (layer_at s pos) refl
    where
      go : ((j : ℕ) → i ≤ j → sealed_in_chain k j i ≡ false) → (o : Option ModexLayer) → layer_at s pos ≡ o → sealed_in_chain (suc k) pos i ≡ false
      go ih None q = simp (layers_at, q)
      go ih (Some l) q =
          let w = layer_facts_lem s pos l q in
          sealed_step k pos l i q ∙ simp (before_data l i (omega arith), ih l.next_pos (omega arith), and-false)

  -- not before the sealed data of its first layer, nor at that layer's option byte; behind it, where the rest of the chain does
  module _ (k pos : ℕ) (l : ModexLayer) (q : layer_at s pos ≡ Some l) where
    sealed_head : (i : ℕ) → i < l.data_start + open_data l.modex_type → i < l.data_end → sealed_in_chain (suc k) pos i ≡ false
    sealed_head i h x =
        let w = layer_facts_lem s pos l q in
        sealed_step k pos l i q ∙ simp (before_data l i h, sealed_before k l.next_pos i (omega arith), and-false)

    sealed_option : sealed_in_chain (suc k) pos l.data_end ≡ false
    sealed_option =
        let w = layer_facts_lem s pos l q in
        sealed_step k pos l l.data_end q ∙ simp (behind_data l l.data_end (omega arith), sealed_before k l.next_pos l.data_end (omega arith), and-false)

    sealed_later : (i : ℕ) → l.next_pos ≤ i → sealed_in_chain (suc k) pos i ≡ (eqb l.next_packet_type 7 && sealed_in_chain k l.next_pos i)
    sealed_later i h =
        let w = layer_facts_lem s pos l q in
        sealed_step k pos l i q ∙ simp (behind_data l i (omega arith))

  -- not behind its end
  pub sealed_behind : (k pos : ℕ) (c : ModexChain) (i : ℕ) → chain_at k s pos ≡ Some c → c.next_pos ≤ i → sealed_in_chain k pos i ≡ false
  sealed_behind k pos c i q h =
      chain_induction s c (λ k pos. sealed_in_chain k pos i ≡ false)
      (λ k pos l x e m. let f = ap (λ (d : ModexChain). d.next_pos) e in sealed_later k pos l x i (omega arith) ∙ simp (ne_eqb _ _ m))
      (λ k pos l x m r ih. let w = chain_facts_lem s k l.next_pos c r in sealed_later k pos l x i (omega arith) ∙ simp (ih, and-false))
      k pos q

  -- nor at its last option byte
  sealed_last_option : (k pos : ℕ) (c : ModexChain) → chain_at k s pos ≡ Some c → sealed_in_chain k pos (c.next_pos - 1) ≡ false
  sealed_last_option k pos c =
      chain_induction s c (λ k pos. sealed_in_chain k pos (c.next_pos - 1) ≡ false)
      (λ k pos l x e m.
      let w = layer_facts_lem s pos l x in
      let d : c.next_pos - 1 ≡ l.data_end = omega (arith, ap (λ (z : ModexChain). z.next_pos) e) in
      ap (sealed_in_chain (suc k) pos) d ∙ sealed_option k pos l x)
      (λ k pos l x m r ih. let w = chain_facts_lem s k l.next_pos c r in sealed_later k pos l x (c.next_pos - 1) (omega arith) ∙ simp (ih, and-false))
      k pos

-- OFFSETS of the same layers in two payloads
record OffsetsSame (s u : List ℕ) (ls : List ModexLayer) : Type 0 where
  bad : any_bad u ls ≡ any_bad s ls
  last : any_bad s ls ≡ false → (before : ℕ) → last_offset before u ls ≡ last_offset before s ls

module _ (s u : List ℕ) where
  offsets_none : OffsetsSame s u []
  unfolding any_bad last_offset
  offsets_none = record { bad = refl; last = λ _ _. refl }

  -- the first three data bytes of a type-0 layer decide it
  module _ (l : ModexLayer) (same : (i : ℕ) → l.data_start ≤ i → i < l.data_start + open_data l.modex_type → i < l.data_end → byte_at s i ≡ byte_at u i) where
    three_same : l.modex_type ≡ 0 → 3 ≤ l.data_end - l.data_start → be24_at s l.data_start ≡ be24_at u l.data_start
    three_same x h =
        let a : ℕ = l.data_start in
        let o : 3 ≤ open_data l.modex_type = rw (eq-eqb l.modex_type 0 x) (omega arith) in
        omega (arith, same a (omega arith) (omega arith) (omega arith), same (a + 1) (omega arith) (omega arith) (omega arith), same (a + 2) (omega arith) (omega arith) (omega arith))

    bad_same : is_bad u l ≡ is_bad s l
    bad_same = go (ℕ_discrete l.modex_type 0) (dec_lt (l.data_end - l.data_start) 3)
      where
        go : Dec (l.modex_type ≡ 0) → Dec (l.data_end - l.data_start < 3) → is_bad u l ≡ is_bad s l
        go (no x) d = simp (ne_eqb l.modex_type 0 x)
        go (yes x) (yes h) = simp (lt-ltb _ _ h)
        go (yes x) (no h) = ap (λ (o : ℕ). eqb l.modex_type 0 && (ltb (l.data_end - l.data_start) 3 || ltb 999999 o)) (sym (three_same x (omega arith)))

    after_same : is_bad s l ≡ false → (before : ℕ) → offset_after before u l ≡ offset_after before s l
    after_same fine before = go (ℕ_discrete l.modex_type 0)
      where
        go : Dec (l.modex_type ≡ 0) → offset_after before u l ≡ offset_after before s l
        go (no x) = simp (ne_eqb l.modex_type 0 x)
        go (yes x) =
            let f : (ltb (l.data_end - l.data_start) 3 || ltb 999999 (be24_at s l.data_start)) ≡ false = rw (eq-eqb l.modex_type 0 x) at fine in
            let h = ltb-false (l.data_end - l.data_start) 3 (or_no_left (ltb (l.data_end - l.data_start) 3) (ltb 999999 (be24_at s l.data_start)) f) in
            ap (λ (o : ℕ). cond (eqb l.modex_type 0) o before) (sym (three_same x h))

    offsets_more : (ls : List ModexLayer) → OffsetsSame s u ls → OffsetsSame s u (l ∷ ls)
    offsets_more ls r =
        record {
          bad = any_step u l ls ∙ ap₂ ◌||◌ bad_same r.bad ∙ sym (any_step s l ls);
          last = λ fine before.
              let none : (is_bad s l || any_bad s ls) ≡ false = sym (any_step s l ls) ∙ fine in
              last_step u l ls before
              ∙ ap (λ (o : ℕ). last_offset o u ls) (after_same (or_no_left (is_bad s l) (any_bad s ls) none) before)
              ∙ r.last (or_no_right (is_bad s l) (any_bad s ls) none) _
              ∙ sym (last_step s l ls before);
        }

-- A CHAIN, ITS LAYERS AND ITS OFFSETS are decided by the bytes below its end that are not sealed
module _ (s u : List ℕ) (len : length s ≡ length u) (c : ModexChain) where
  abbrev Unsealed : ℕ → ℕ → Type 0
  Unsealed k pos = (i : ℕ) → pos ≤ i → i < c.next_pos → sealed_in_chain s k pos i ≡ false → byte_at s i ≡ byte_at u i

  record SameChain (k pos : ℕ) : Type 0 where
    ends : chain_at k u pos ≡ Some c
    layers : layers_at k u pos ≡ layers_at k s pos
    offsets : OffsetsSame s u (layers_at k s pos)

  abbrev Same : ℕ → ℕ → Type 0
  Same k pos = Unsealed k pos → SameChain k pos

  module _ (k pos : ℕ) (l : ModexLayer) (q : layer_at s pos ≡ Some l) (v : l.next_pos ≤ c.next_pos) (unsealed : Unsealed (suc k) pos) where
    data_open : (i : ℕ) → pos ≤ i → i < l.data_start + open_data l.modex_type → i < l.data_end → byte_at s i ≡ byte_at u i
    data_open i p h x = let w = layer_facts_lem s pos l q in unsealed i p (omega arith) (sealed_head s k pos l q i h x)

    first_same : layer_at u pos ≡ Some l
    first_same =
        let w = layer_facts_lem s pos l q in
        layer_same s u len pos l q (λ i p h. data_open i p (omega arith) (omega arith)) (unsealed l.data_end (omega arith) (omega arith) (sealed_option s k pos l q))

    first_offset : (ls : List ModexLayer) → OffsetsSame s u ls → OffsetsSame s u (l ∷ ls)
    first_offset ls r = let w = layer_facts_lem s pos l q in offsets_more s u l (λ i p h x. data_open i (omega arith) h x) ls r

  last_same : (k pos : ℕ) (l : ModexLayer) → layer_at s pos ≡ Some l → ended_by l ≡ c → (l.next_packet_type ≡ 7 → ⊥) → Same (suc k) pos
  last_same k pos l q e m unsealed =
      let v : l.next_pos ≤ c.next_pos = omega (arith, ap (λ (d : ModexChain). d.next_pos) e) in
      let lu = first_same k pos l q v unsealed in
      let ls = layers_last s k pos l q m in
      record {
        ends = chain_ends u (suc k) pos l (omega arith) lu m ∙ ap Some e;
        layers = layers_last u k pos l lu m ∙ sym ls;
        offsets = rw ls (first_offset k pos l q v unsealed [] (offsets_none s u));
      }

  more_same : (k pos : ℕ) (l : ModexLayer) → layer_at s pos ≡ Some l → l.next_packet_type ≡ 7 → chain_at k s l.next_pos ≡ Some c → Same k l.next_pos → Same (suc k) pos
  more_same k pos l q x r ih unsealed =
      let w = layer_facts_lem s pos l q in
      let v = chain_facts_lem s k l.next_pos c r in
      let lu = first_same k pos l q (omega arith) unsealed in
      let rest = ih (λ i p h z. unsealed i (omega arith) h (sealed_later s k pos l q i p ∙ simp (z, and-false))) in
      let d : suc k - 1 ≡ k = omega arith in
      let ls = layers_more s k pos l q x in
      record {
        ends = chain_more u (suc k) pos l (omega arith) lu x ∙ ap (λ (j : ℕ). chain_at j u l.next_pos) d ∙ rest.ends;
        layers = layers_more u k pos l lu x ∙ ap (λ (r : List ModexLayer). l ∷ r) rest.layers ∙ sym ls;
        offsets = rw ls (first_offset k pos l q (omega arith) unsealed (layers_at k s l.next_pos) rest.offsets);
      }

  chain_same : (k pos : ℕ) → chain_at k s pos ≡ Some c → Same k pos
  chain_same k pos q = chain_induction s c Same last_same more_same k pos q

-- THE SEALED BYTES OF A PAYLOAD, by the type and the chain
module _ (inResult : List ℕ → ℕ → Bool) (mask : ℕ) (p : List ℕ) where
  pub sealed_media : (type : ℕ) → type ≤ 1 → (i : ℕ) → sealed_under_layers inResult type mask p i ≡ sealed_through (chain_of type mask p) inResult p (peeled type mask p) i
  unfolding sealed_under_layers
  sealed_media type h i = simp (le-ltb 3 type (omega arith), ne_eqb type 2 (λ x. omega arith), ne_eqb type 3 (λ x. omega arith))

  pub sealed_script : (type : ℕ) → 1 < type → type ≤ 3 → (i : ℕ) → sealed_under_layers inResult type mask p i ≡ false
  unfolding sealed_under_layers
  sealed_script type k h i = simp (le-ltb 3 type h) (go (ℕ_discrete type 2))
    where
      go : Dec (type ≡ 2) → ◌≡◌ {A = Bool} (mathlib.Core.Bool.cond (is_script_or_metadata type) false (sealed_through (chain_of type mask p) inResult p (peeled type mask p) i)) false
      go (yes x) = simp (eq-eqb type 2 x)
      go (no x) = simp (ne_eqb type 2 x, eq-eqb type 3 (omega arith))

  -- the option byte that peeling without a copy replaces is open
  pub start_open : (type : ℕ) (c : ModexChain) → type ≤ 3 → chain_of type mask p ≡ Some c → sealed_under_layers inResult type mask p (c.next_pos - 1) ≡ false
  start_open type c known x = go (dec_lt 1 type)
    where
      go : Dec (1 < type) → sealed_under_layers inResult type mask p (c.next_pos - 1) ≡ false
      go (yes h) = sealed_script type h known (c.next_pos - 1)
      go (no h) =
          let w = ends_facts type mask p c x in
          sealed_media type (omega arith) (c.next_pos - 1) ∙ simp (x, sealed_last_option p 32 1 c (ends_wrapped type mask p c x).1, lt-leb c.next_pos (c.next_pos - 1) (omega arith))

-- two results of one shape
joined : (sealed : ℕ → Bool) (a b : ℕ) (p q : List ℕ) (e : ℕ) → length p ≡ length q → a ≡ b
    → ((i : ℕ) → sealed (i + 1) ≡ false → byte_at p (e + i) ≡ byte_at q (e + i)) → LowEquivalent sealed (a ∷ drop e p) (b ∷ drop e q)
joined sealed a b p q e len ab late = record { long = ap suc (length-drop e p ∙ ap (λ (n : ℕ). n - e) len ∙ sym (length-drop e q)); same = at }
  where
    at : (i : ℕ) → i < length (a ∷ drop e p) → sealed i ≡ false → byte_at (a ∷ drop e p) i ≡ byte_at (b ∷ drop e q) i
    at zero h y = ab
    at (suc i) h y = get_or-drop e p i 0 ∙ late i (rw add-one y) ∙ sym (get_or-drop e q i 0)

wrapped_same : (type mask : ℕ) (p q : List ℕ) → length p ≡ length q → byte_at p 0 ≡ byte_at q 0 → is_wrapped type mask q ≡ is_wrapped type mask p
unfolding is_wrapped
wrapped_same type mask p q len e = rw (← e, ← len)

-- THE TWO RUNS, for any sealing of results that leaves byte 0 open and seals nothing in an unpeeled frame of packet type 7
module _ (inResult : List ℕ → ℕ → Bool) (type mask : ℕ) (known : type ≤ 3) (p q : List ℕ)
    (first : inResult p 0 ≡ false) (unpeeled : is_wrapped type mask p ≡ true → (i : ℕ) → inResult p i ≡ false)
    (low : LowEquivalent (sealed_under_layers inResult type mask p) p q) where
  -- the payloads are equal, or have no chain, or the same chain
  data TwoRuns : Type 0 where
    equal : p ≡ q → TwoRuns
    bare : type ≤ 1 → chain_of type mask p ≡ None → chain_of type mask q ≡ None → TwoRuns
    chained : type ≤ 1 → (c : ModexChain) → chain_of type mask p ≡ Some c → chain_of type mask q ≡ Some c → byte_at p 0 ≡ byte_at q 0
        → layers_at 32 q 1 ≡ layers_at 32 p 1 → OffsetsSame p q (layers_at 32 p 1) → TwoRuns

  module _ (media : type ≤ 1) where
    unsealed_at : (o : Option ModexChain) → chain_of type mask p ≡ o → (i : ℕ) → sealed_through o inResult p (peeled type mask p) i ≡ false → byte_at p i ≡ byte_at q i
    unsealed_at o x i y = low_at low i (sealed_media inResult mask p type media i ∙ ap (λ (z : Option ModexChain). sealed_through z inResult p (peeled type mask p) i) x ∙ y)

    run_none : chain_of type mask p ≡ None → TwoRuns
    run_none x = go (is_wrapped type mask p) refl
      where
        go : (w : Bool) → is_wrapped type mask p ≡ w → TwoRuns
        go true w = equal (low_clear (λ i. sealed_media inResult mask p type media i ∙ ap (λ (z : Option ModexChain). sealed_through z inResult p (peeled type mask p) i) x ∙ unpeeled w i) low)
        go false w = bare media x (sym (chain_unwrapped type mask q (wrapped_same type mask p q low.long (unsealed_at None x 0 first) ∙ w)))

    run_ends : (c : ModexChain) → chain_of type mask p ≡ Some c → TwoRuns
    run_ends c x =
        let w = ends_wrapped type mask p c x in
        let v = ends_facts type mask p c x in
        let early : (i : ℕ) → i < c.next_pos → sealed_in_chain p 32 1 i ≡ false → byte_at p i ≡ byte_at q i = λ i r y. unsealed_at (Some c) x i (simp (y, lt-leb c.next_pos i r)) in
        let b0 = early 0 (omega arith) (sealed_before p 32 1 0 (omega arith)) in
        let same = chain_same p q low.long c 32 1 w.1 (λ i l r y. early i r y) in
        let wq = wrapped_same type mask p q low.long b0 ∙ w.0 in
        chained media c x (sym (chain_wrapped type mask q wq) ∙ same.ends) b0 same.layers same.offsets

    run_media : TwoRuns
    run_media = go (chain_of type mask p) refl
      where
        go : (o : Option ModexChain) → chain_of type mask p ≡ o → TwoRuns
        go None x = run_none x
        go (Some c) x = run_ends c x

  two_runs : TwoRuns
  two_runs = go (dec_lt 1 type)
    where
      go : Dec (1 < type) → TwoRuns
      go (yes h) = equal (low_clear (sealed_script inResult mask p type h known) low)
      go (no h) = run_media (omega arith)

  -- PEELING: the results agree outside the sealed bytes of the first
  pub peel_noninterference : LowEquivalent (inResult (peeled type mask p)) (peeled type mask p) (peeled type mask q)
  peel_noninterference = go two_runs
    where
      go : TwoRuns → LowEquivalent (inResult (peeled type mask p)) (peeled type mask p) (peeled type mask q)
      go (equal e) = rw (← e) (low_refl _ _)
      go (bare m x y) =
          rw (peeled_none type mask p x, peeled_none type mask q y)
          (record { long = low.long; same = λ i h z. unsealed_at m None x i z })
      go (chained m c x y b0 same offsets) =
          let v = ends_facts type mask p c x in
          let n : ℕ = c.next_packet_type in
          let late : (i : ℕ) → inResult (peeled type mask p) (i + 1) ≡ false → byte_at p (c.next_pos + i) ≡ byte_at q (c.next_pos + i) = λ i z.
          let d : c.next_pos + i - c.next_pos + 1 ≡ i + 1 = omega arith in
          unsealed_at m (Some c) x (c.next_pos + i) (simp (sealed_behind p 32 1 c (c.next_pos + i) (ends_wrapped type mask p c x).1 (omega arith), d, z, and-false)) in
          let shape = joined (inResult (peeled type mask p)) (byte_at p 0 / 16 * 16 + n) (byte_at q 0 / 16 * 16 + n) p q c.next_pos low.long (ap (λ (b : ℕ). b / 16 * 16 + n) b0) late in
          rw (sym (peeled_ends type mask p c x), sym (peeled_ends type mask q c y)) at shape

  -- and where the results seal the same bytes, so do the payloads
  pub sealed_same : ((i : ℕ) → inResult (peeled type mask q) i ≡ inResult (peeled type mask p) i) → (i : ℕ) → sealed_under_layers inResult type mask q i ≡ sealed_under_layers inResult type mask p i
  sealed_same result i = go two_runs
    where
      go : TwoRuns → sealed_under_layers inResult type mask q i ≡ sealed_under_layers inResult type mask p i
      go (equal e) = rw e
      go (bare m x y) =
          sealed_media inResult mask q type m i ∙ simp (y) (sym (sealed_media inResult mask p type m i ∙ simp (x)
          (sym (rw (peeled_none type mask p x, peeled_none type mask q y) at (result i)))))
      go (chained m c x y b0 same offsets) =
          sealed_media inResult mask q type m i ∙ simp (y, same, result (i - c.next_pos + 1)) (sym (sealed_media inResult mask p type m i ∙ simp x))

  -- THE OFFSETS of the peeled chains are the same
  layers_ends : (r : List ℕ) (c : ModexChain) → chain_of type mask r ≡ Some c → peeled_layers type mask r ≡ layers_at 32 r 1
  unfolding peeled_layers
  layers_ends r c x = simp x

  layers_none : (r : List ℕ) → chain_of type mask r ≡ None → peeled_layers type mask r ≡ []
  unfolding peeled_layers
  layers_none r x = simp x

  pub bad_offset_same : has_bad_offset type mask q ≡ has_bad_offset type mask p
  unfolding has_bad_offset any_bad
  bad_offset_same = go two_runs
    where
      go : TwoRuns → has_bad_offset type mask q ≡ has_bad_offset type mask p
      go (equal e) = rw e
      go (bare m x y) = simp (has_bad_offset, layers_none p x, layers_none q y, any_bad)
      go (chained m c x y b0 same offsets) = simp (has_bad_offset, layers_ends p c x, layers_ends q c y, same, offsets.bad)

  pub offset_same : has_bad_offset type mask p ≡ false → chain_offset type mask q ≡ chain_offset type mask p
  unfolding has_bad_offset chain_offset last_offset
  offset_same fine = go two_runs
    where
      go : TwoRuns → chain_offset type mask q ≡ chain_offset type mask p
      go (equal e) = rw e
      go (bare m x y) = simp (chain_offset, layers_none p x, layers_none q y, last_offset)
      go (chained m c x y b0 same offsets) =
          let ls = layers_ends p c x in
          ap (last_offset 0 q) (layers_ends q c y ∙ same) ∙ offsets.last (rw ls at fine) 0 ∙ ap (last_offset 0 p) (sym ls)

  -- WITHOUT A COPY: the results start at the same place, and the payloads then agree outside the bytes that were sealed in the first
  pub start_same : peeled_start type mask q ≡ peeled_start type mask p
  start_same = go two_runs
    where
      go : TwoRuns → peeled_start type mask q ≡ peeled_start type mask p
      go (equal e) = rw e
      go (bare m x y) = start_none type mask q y ∙ sym (start_none type mask p x)
      go (chained m c x y b0 same offsets) = start_ends type mask q c y ∙ sym (start_ends type mask p c x)

  pub placed_noninterference : LowEquivalent (sealed_under_layers inResult type mask p) (peeled_in_place type mask p) (peeled_in_place type mask q)
  placed_noninterference = go two_runs
    where
      go : TwoRuns → LowEquivalent (sealed_under_layers inResult type mask p) (peeled_in_place type mask p) (peeled_in_place type mask q)
      go (equal e) = rw (← e) (low_refl _ _)
      go (bare m x y) = rw (placed_none type mask p x, placed_none type mask q y) low
      go (chained m c x y b0 same offsets) =
          rw (placed_ends type mask p c x, placed_ends type mask q c y, ← b0)
          (low_set (c.next_pos - 1) (byte_at p 0 / 16 * 16 + c.next_packet_type) low)
