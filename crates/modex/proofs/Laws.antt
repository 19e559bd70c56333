-- Laws of one layer, of a chain of layers and of the peeled payload.
use mathlib.Core.Path.{◌≡◌, refl, sym, ap, ◌∙◌, subst}
use mathlib.Core.Bool.{Bool, true, false, cond, and-false}
use mathlib.Core.List.{List, [], ◌∷◌}
use Prim.Native.Nat.{ℕ, zero, suc, ◌+◌, ◌-◌, ◌*◌, ◌/◌, ◌%◌, ◌≤◌, ◌<◌}
use native.Mathlib.Decide.{dec_lt, ℕ_discrete}
use native.Mathlib.Omega.{arith}
use lib.Dec.{eqb}
use lib.ListN.{length, drop}
use lib.Seq.{get_or-drop}
use borrow.Author.Tests.{lt-ltb, le-ltb, eq-eqb, ne_eqb}
use Rattle.std.specs.Prelude.{Option, Some, None}
use Rattle.wire.specs.Wire.{Bytes, byte_at, bit, low, be16_at}
use Rattle.types.specs.Types.{is_audio}
use Rattle.modex.specs.Modex.{data_at, layer_at, chain_at, layers_at, is_wrapped, chain_of, without_chain, peeled}
use Rattle.modex.specs.declared.ModexLayer.{ModexLayer}
use Rattle.modex.specs.declared.ModexChain.{ModexChain}

-- ONE LAYER
module _ (s : List ℕ) where
  -- with data from start to end, where its option byte stands
  abbrev pub layer_of : ℕ → ℕ → ModexLayer
  layer_of start end = record {
    modex_type = byte_at s end / 16;
    next_packet_type = byte_at s end % 16;
    data_start = start;
    data_end = end;
    next_pos = end + 1;
  }

  pub data_short : (start size : ℕ) → length s ≤ start + size → None ≡ data_at s start size
  unfolding data_at
  data_short start size h = simp (le-ltb _ _ h)

  pub data_whole : (start size : ℕ) → start + size < length s → Some (layer_of start (start + size)) ≡ data_at s start size
  unfolding data_at
  data_whole start size h = simp (lt-ltb _ _ h)

  pub layer_long : (pos size : ℕ) → byte_at s pos ≡ 255 → size ≡ be16_at s (pos + 1) + 1 → data_at s (pos + 3) size ≡ layer_at s pos
  unfolding layer_at
  layer_long pos size h z = simp (eq-eqb _ _ h) (ap (data_at s (pos + 3)) z)

  pub layer_short : (pos size : ℕ) → (byte_at s pos ≡ 255 → ⊥) → size ≡ byte_at s pos + 1 → data_at s (pos + 1) size ≡ layer_at s pos
  unfolding layer_at
  layer_short pos size h z = simp (ne_eqb _ _ h) (ap (data_at s (pos + 1)) z)

  -- what a layer that was read says of its positions, and of the next packet type
  pub record LayerFacts (pos : ℕ) (l : ModexLayer) : Type 0 where
    pub nibble : l.next_packet_type < 16
    pub head : pos < l.data_start
    pub some : l.data_start < l.data_end
    pub room : l.data_end < length s
    pub option : l.next_pos ≡ l.data_end + 1

  data_facts : (pos start size : ℕ) (l : ModexLayer) → pos < start → 0 < size → data_at s start size ≡ Some l → LayerFacts pos l
  data_facts pos start size l h k q = go (dec_lt (start + size) (length s))
    where
      go : Dec (start + size < length s) → LayerFacts pos l
      go (yes r) =
          let w = data_whole start size r in
          let e : layer_of start (start + size) ≡ l = cc in
          subst (LayerFacts pos) e (record { nibble = omega arith; head = h; some = omega arith; room = r; option = refl })
      go (no r) =
          let w = data_short start size (omega arith) in
          cc

  pub layer_facts_lem : (pos : ℕ) (l : ModexLayer) → layer_at s pos ≡ Some l → LayerFacts pos l
  layer_facts_lem pos l q = go (ℕ_discrete (byte_at s pos) 255)
    where
      go : Dec (byte_at s pos ≡ 255) → LayerFacts pos l
      go (yes h) = data_facts pos _ _ l (omega arith) (omega arith) (layer_long pos _ h refl ∙ q)
      go (no h) = data_facts pos _ _ l (omega arith) (omega arith) (layer_short pos _ h refl ∙ q)

-- the chain that ends with a layer
abbrev pub ended_by : ModexLayer → ModexChain
ended_by l = record { next_pos = l.next_pos; next_packet_type = l.next_packet_type }

-- A CHAIN: a turn with one more layer, the last layer, no layer, no turn left
module _ (s : List ℕ) where
  pub chain_more : (k pos : ℕ) (l : ModexLayer) → 0 < k → layer_at s pos ≡ Some l → l.next_packet_type ≡ 7 → chain_at k s pos ≡ chain_at (k - 1) s l.next_pos
  unfolding chain_at
  chain_more zero pos l h q m = absurd (omega arith)
  chain_more (suc k) pos l h q m =
      let d : k ≡ suc k - 1 = omega arith in
      simp (q, eq-eqb _ _ m) (ap (λ (i : ℕ). chain_at i s l.next_pos) d)

  pub chain_ends : (k pos : ℕ) (l : ModexLayer) → 0 < k → layer_at s pos ≡ Some l → (l.next_packet_type ≡ 7 → ⊥) → chain_at k s pos ≡ Some (ended_by l)
  unfolding chain_at
  chain_ends zero pos l h q m = absurd (omega arith)
  chain_ends (suc k) pos l h q m = simp (q, ne_eqb _ _ m)

  pub chain_broken : (k pos : ℕ) → layer_at s pos ≡ None → chain_at k s pos ≡ None
  unfolding chain_at
  chain_broken zero pos q = refl
  chain_broken (suc k) pos q = simp q

  pub chain_none : (k pos : ℕ) → k ≤ 0 → chain_at k s pos ≡ None
  unfolding chain_at
  chain_none zero pos h = refl
  chain_none (suc k) pos h = absurd (omega arith)

  -- its layers: one and those behind it
  module _ (k pos : ℕ) (l : ModexLayer) (q : layer_at s pos ≡ Some l) where
    pub layers_step : layers_at (suc k) s pos ≡ l ∷ cond (eqb l.next_packet_type 7) (layers_at k s l.next_pos) []
    unfolding layers_at
    layers_step = simp (layers_at, q)

    pub layers_last : (l.next_packet_type ≡ 7 → ⊥) → layers_at (suc k) s pos ≡ l ∷ []
    layers_last m = layers_step ∙ simp (ne_eqb _ _ m)

    pub layers_more : l.next_packet_type ≡ 7 → layers_at (suc k) s pos ≡ l ∷ layers_at k s l.next_pos
    layers_more m = layers_step ∙ simp (eq-eqb _ _ m)

  -- induction over a chain that ends: what holds of a last layer, and of a layer before a chain of which it holds
  module _ (c : ModexChain) (P : ℕ → ℕ → Type 0)
      (last : (k pos : ℕ) (l : ModexLayer) → layer_at s pos ≡ Some l → ended_by l ≡ c → (l.next_packet_type ≡ 7 → ⊥) → P (suc k) pos)
      (more : (k pos : ℕ) (l : ModexLayer) → layer_at s pos ≡ Some l → l.next_packet_type ≡ 7 → chain_at k s l.next_pos ≡ Some c → P k l.next_pos → P (suc k) pos) where
    pub chain_induction : (k pos : ℕ) → chain_at k s pos ≡ Some c → P k pos
    chain_induction zero pos q =
        let w = chain_none 0 pos (omega arith) in
        cc
    chain_induction (suc k) pos q = go (chain_induction k) (layer_at s pos) refl
      where
        go : ((i : ℕ) → chain_at k s i ≡ Some c → P k i) → (o : Option ModexLayer) → layer_at s pos ≡ o → P (suc k) pos
        go ih None o =
            let w = chain_broken (suc k) pos o in
            cc
        go ih (Some l) o = by_next (ℕ_discrete l.next_packet_type 7)
          where
            by_next : Dec (l.next_packet_type ≡ 7) → P (suc k) pos
            by_next (yes h) =
                let d : suc k - 1 ≡ k = omega arith in
                let r : chain_at k s l.next_pos ≡ Some c = ap (λ (i : ℕ). chain_at i s l.next_pos) (sym d) ∙ sym (chain_more (suc k) pos l (omega arith) o h) ∙ q in
                more k pos l o h r (ih l.next_pos r)
            by_next (no h) =
                let w = chain_ends (suc k) pos l (omega arith) o h in
                last k pos l o (cc) h

  -- a chain ends past its start and within the payload, before a packet type that is a nibble and not 7
  pub record ChainFacts (pos : ℕ) (c : ModexChain) : Type 0 where
    pub past_start : pos < c.next_pos
    pub room : c.next_pos ≤ length s
    pub nibble : c.next_packet_type < 16
    pub other : c.next_packet_type ≡ 7 → ⊥

  pub chain_facts_lem : (k pos : ℕ) (c : ModexChain) → chain_at k s pos ≡ Some c → ChainFacts pos c
  chain_facts_lem k pos c =
      chain_induction c (λ k pos. ChainFacts pos c)
      (λ k pos l q e h. let w = layer_facts_lem s pos l q in
      subst (ChainFacts pos) e (record { past_start = omega arith; room = omega arith; nibble = w.nibble; other = h }))
      (λ k pos l q h r ih. let w = layer_facts_lem s pos l q in record { past_start = omega arith; room = ih.room; nibble = ih.nibble; other = ih.other })
      k pos

-- A PAYLOAD THAT MAY BE PEELED, by everything but the condition on audio
module _
    (mask : ℕ)
    (p : List ℕ)
    (some : 0 < length p)
    (capable : mask / 4 % 2 ≡ 1)
    (enhanced : bit 7 (byte_at p 0) ≡ true)
    (modex : eqb (low (byte_at p 0)) 7 ≡ true)
  where
    pub wrapped_audio : eqb (byte_at p 0 / 16) 9 ≡ is_wrapped 0 mask p
    unfolding is_wrapped
    wrapped_audio = simp (lt-ltb _ _ some, eq-eqb _ _ capable, enhanced, modex)

    pub wrapped_other : (type : ℕ) → is_audio type ≡ false → true ≡ is_wrapped type mask p
    unfolding is_wrapped
    wrapped_other type e = simp (lt-ltb _ _ some, eq-eqb _ _ capable, enhanced, modex, e)

-- THE PEELED PAYLOAD
module _ (type mask : ℕ) (p : List ℕ) where
  pub chain_wrapped : is_wrapped type mask p ≡ true → chain_at 32 p 1 ≡ chain_of type mask p
  unfolding chain_of
  chain_wrapped w = simp w

  pub chain_unwrapped : is_wrapped type mask p ≡ false → None ≡ chain_of type mask p
  unfolding chain_of
  chain_unwrapped w = simp w

  pub peeled_none : chain_of type mask p ≡ None → peeled type mask p ≡ p
  unfolding peeled without_chain
  peeled_none q = simp q

  pub peeled_ends : (c : ModexChain) → chain_of type mask p ≡ Some c → peeled type mask p ≡ (byte_at p 0 / 16 * 16 + c.next_packet_type) ∷ drop c.next_pos p
  unfolding peeled without_chain
  peeled_ends c q = simp q

  -- only a wrapped payload has a chain
  pub ends_wrapped : (c : ModexChain) → chain_of type mask p ≡ Some c → (is_wrapped type mask p ≡ true) × (chain_at 32 p 1 ≡ Some c)
  ends_wrapped c q = go (is_wrapped type mask p) refl
    where
      go : (w : Bool) → is_wrapped type mask p ≡ w → (is_wrapped type mask p ≡ true) × (chain_at 32 p 1 ≡ Some c)
      go true w = (w, chain_wrapped w ∙ q)
      go false w =
          let u = chain_unwrapped w in
          let z : ⊥ = cc in
          absurd z

  pub ends_facts : (c : ModexChain) → chain_of type mask p ≡ Some c → ChainFacts p 1 c
  ends_facts c q = chain_facts_lem p 32 1 c (ends_wrapped c q).1

  pub unwrapped_mask : (mask / 4 % 2 ≡ 1 → ⊥) → false ≡ is_wrapped type mask p
  unfolding is_wrapped
  unwrapped_mask h = simp (ne_eqb _ _ h, and-false)

  pub other_packet : (byte_at p 0 % 16 ≡ 7 → ⊥) → is_wrapped type mask p ≡ false
  unfolding is_wrapped
  other_packet h = simp (ne_eqb _ _ h, and-false)

-- PEELING TWICE, with type and mask unchanged, equals peeling once
pub peel_idempotent : (type mask : ℕ) (p : List ℕ) → peeled type mask (peeled type mask p) ≡ peeled type mask p
peel_idempotent type mask p = go (chain_of type mask p) refl
  where
    go : (o : Option ModexChain) → chain_of type mask p ≡ o → peeled type mask (peeled type mask p) ≡ peeled type mask p
    go None q = ap (peeled type mask) (peeled_none type mask p q)
    go (Some c) q =
        let w = ends_facts type mask p c q in
        rw (peeled_ends type mask p c q)
        (peeled_none type mask _ (sym (chain_unwrapped type mask _ (other_packet type mask _ (λ h. w.other (omega (arith, w.nibble)))))))

-- the bytes of a result are bytes
pub peeled_bytes : (type mask : ℕ) (p : List ℕ) → Bytes p → Bytes (peeled type mask p)
peeled_bytes type mask p h = go (chain_of type mask p) refl
  where
    go : (o : Option ModexChain) → chain_of type mask p ≡ o → Bytes (peeled type mask p)
    go None q = subst Bytes (sym (peeled_none type mask p q)) h
    go (Some c) q = subst Bytes (sym (peeled_ends type mask p c q)) each
      where
        each : Bytes ((byte_at p 0 / 16 * 16 + c.next_packet_type) ∷ drop c.next_pos p)
        each zero = omega (arith, h 0, (ends_facts type mask p c q).nibble)
        each (suc i) = subst (λ (x : ℕ). x < 256) (sym (get_or-drop c.next_pos p i 0)) (h (c.next_pos + i))
