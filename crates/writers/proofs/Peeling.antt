-- WHAT THE MODEX WRITER WRITES IS PEELED, and its layers are read back.
use mathlib.Core.Path.{◌≡◌, refl, sym, ap, ap₂, ◌∙◌}
use mathlib.Core.Bool.{Bool, true, false, cond, and-false}
use mathlib.Core.List.{List, [], ◌∷◌, ◌++◌, append_assoc}
use Prim.Native.Nat.{ℕ, zero, suc, ◌+◌, ◌-◌, ◌*◌, ◌/◌, ◌%◌, ◌≤◌, ◌<◌}
use native.Mathlib.Decide.{dec_lt, ℕ_discrete}
use native.Mathlib.Omega.{arith}
use lib.Dec.{eqb, ltb}
use lib.ListN.{length, drop, take, length-append, length-drop}
use lib.Seq.{drop-drop, drop_at, take_at}
use borrow.Author.Tests.{lt-ltb, le-ltb, eq-eqb, ne_eqb, eqb-true}
use Rattle.wire.specs.Wire.{byte_at, part, bit, low, high, be16_at, bytes16}
use Rattle.wire.proofs.Numbers.{be16_bytes}
use Rattle.wire.proofs.Parts.{length_part, at_drop, at_first}
use Rattle.modex.specs.Modex.{data_at, layer_at, chain_at, is_wrapped, chain_of, peeled}
use Rattle.std.specs.Prelude.{Option, Some, None}
use Rattle.modex.specs.declared.ModexChain.{ModexChain}
use Rattle.modex.proofs.Laws.{data_whole, layer_long, layer_short, chain_more, chain_ends, wrapped_audio, wrapped_other, chain_wrapped, chain_unwrapped, peeled_none, peeled_ends, other_packet}
use Rattle.writers.specs.Columns.{values_from, sum_from, entry}
use Rattle.writers.specs.ModexWriter.{ModexCall, GivenLayer, given_layer, given_layers, size_bytes, layer_bytes, next_type, layers_bytes, modex_written, layer_length, modex_length}
use Rattle.writers.specs.Claims.{WritableModex, layer_there, LayersStand, none, layer, LayersBack, PeeledBack, PeeledOtherwise, LayersReadBack, ModexTaken, ModexLength}
use Rattle.writers.proofs.Entries.{length_values}
use Rattle.writers.proofs.ModexRefusals.{modex_fine, modex_taken_lem}

-- DATA AND AN OPTION BYTE that stand from a position on
module _ (s : List ℕ) (from type next : ℕ) (content r : List ℕ) (nibble : next ≤ 15) (e : drop from s ≡ content ++ ((type * 16 + next) ∷ r)) where
  abbrev to : ℕ
  to = from + length content

  behind_content : drop to s ≡ (type * 16 + next) ∷ r
  behind_content = sym (drop-drop (length content) from s) ∙ ap (drop (length content)) e ∙ drop_at content _ (length content) refl

  data_read : data_at s from (length content) ≡ Some (layer_there type next from to (to + 1))
  data_read =
      let o : byte_at s to ≡ type * 16 + next = at_first s to _ behind_content in
      let h : byte_at s to / 16 ≡ type = omega arith in
      let l : byte_at s to % 16 ≡ next = omega arith in
      let room : to < length s = omega (arith, length-drop from s, ap length e, length-append content ((type * 16 + next) ∷ r)) in
      sym (data_whole s from (length content) room) ∙ ap₂ (λ (a b : ℕ). Some (layer_there a b from to (to + 1))) h l

  content_read : part s from (to - from) ≡ content
  content_read =
      let d : to - from ≡ length content = omega arith in
      ap (λ (n : ℕ). part s from n) d ∙ ap (take (length content)) e ∙ take_at content _ (length content) refl

  behind_layer : drop (to + 1) s ≡ r
  behind_layer = sym (drop-drop 1 to s) ∙ ap (drop 1) behind_content

-- A LAYER, with the size in front: read at its place
pub record Read (s : List ℕ) (at next : ℕ) (l : GivenLayer) (r : List ℕ) : Type 0 where
  pub from : ℕ
  pub to : ℕ
  pub there : layer_at s at ≡ Some (layer_there l.type next from to (to + 1))
  pub content : part s from (to - from) ≡ l.content
  pub size : from ≡ at + cond (ltb (length l.content) 256) 1 3
  pub behind : drop (to + 1) s ≡ r

module _ (s : List ℕ) (at next : ℕ) (l : GivenLayer) (r : List ℕ) (some : 0 < length l.content) (most : length l.content ≤ 65536) (nibble : next ≤ 15) where
  abbrev n : ℕ
  n = length l.content

  abbrev tail : List ℕ
  tail = l.content ++ ((l.type * 16 + next) ∷ r)

  short_read : n < 256 → drop at s ≡ (n - 1) ∷ tail → Read s at next l r
  short_read h e =
      let b : byte_at s at ≡ n - 1 = at_first s at _ e in
      let d : drop (at + 1) s ≡ tail = sym (drop-drop 1 at s) ∙ ap (drop 1) e in
      let w : data_at s (at + 1) n ≡ layer_at s at = layer_short s at n (λ (x : byte_at s at ≡ 255). omega arith) (omega arith) in
      record {
        from = at + 1;
        to = at + 1 + n;
        there = sym w ∙ data_read s (at + 1) l.type next l.content r nibble d;
        content = content_read s (at + 1) l.type next l.content r nibble d;
        size = rw (lt-ltb n 256 h);
        behind = behind_layer s (at + 1) l.type next l.content r nibble d;
      }

  long_read : 256 ≤ n → drop at s ≡ 255 ∷ bytes16 (n - 1) ++ tail → Read s at next l r
  long_read h e =
      let b : byte_at s at ≡ 255 = at_first s at _ e in
      let i : at + 1 + 1 ≡ at + 2 = omega arith in
      let d : drop (at + 3) s ≡ tail = sym (drop-drop 3 at s) ∙ ap (drop 3) e in
      let z : n ≡ be16_at s (at + 1) + 1 = rw (i, at_drop s at 1 _ e, at_drop s at 2 _ e) (omega (arith, be16_bytes (n - 1) (omega arith))) in
      let w : data_at s (at + 3) n ≡ layer_at s at = layer_long s at n b z in
      record {
        from = at + 3;
        to = at + 3 + n;
        there = sym w ∙ data_read s (at + 3) l.type next l.content r nibble d;
        content = content_read s (at + 3) l.type next l.content r nibble d;
        size = rw (le-ltb n 256 h);
        behind = behind_layer s (at + 3) l.type next l.content r nibble d;
      }

  regroup : (size : List ℕ) → (size ++ (l.content ++ ((l.type * 16 + next) ∷ []))) ++ r ≡ size ++ tail
  regroup size = append_assoc size (l.content ++ ((l.type * 16 + next) ∷ [])) r ∙ ap (λ (x : List ℕ). size ++ x) (append_assoc l.content ((l.type * 16 + next) ∷ []) r)

  pub layer_read : drop at s ≡ layer_bytes next l ++ r → Read s at next l r
  unfolding layer_bytes size_bytes
  layer_read e = go (dec_lt n 256)
    where
      go : Dec (n < 256) → Read s at next l r
      go (yes h) = short_read h (e ∙ regroup (size_bytes n) ∙ ap (λ (t : Bool). cond t ((n - 1) ∷ []) (255 ∷ bytes16 (n - 1)) ++ tail) (lt-ltb n 256 h))
      go (no h) = long_read (omega arith) (e ∙ regroup (size_bytes n) ∙ ap (λ (t : Bool). cond t ((n - 1) ∷ []) (255 ∷ bytes16 (n - 1)) ++ tail) (le-ltb n 256 (omega arith)))

-- ALL LAYERS
pub record Standing (s : List ℕ) (last at : ℕ) (ls : List GivenLayer) (r : List ℕ) : Type 0 where
  pub stop : ℕ
  pub stand : LayersStand s last at ls stop
  pub behind : drop stop s ≡ r

next_nibble : (last : ℕ) (ls : List GivenLayer) → last ≤ 15 → next_type last ls ≤ 15
next_nibble last [] l = l
next_nibble last (x ∷ ls) l = omega arith

module _ (s : List ℕ) (last : ℕ) (nibble : last ≤ 15) (g : ℕ → GivenLayer) (r : List ℕ) where
  pub layers_stand_lem : (at i n : ℕ) → ((j : ℕ) → i ≤ j → j < i + n → (0 < length (g j).content) × (length (g j).content ≤ 65536))
      → drop at s ≡ layers_bytes last (values_from g i n) ++ r → Standing s last at (values_from g i n) r
  unfolding values_from layers_bytes
  layers_stand_lem at i zero h e = record { stop = at; stand = none; behind = e }
  layers_stand_lem at i (suc n) h e =
      let rest : List GivenLayer = values_from g (i + 1) n in
      let b = h i (omega arith) (omega arith) in
      let w = layer_read s at (next_type last rest) (g i) (layers_bytes last rest ++ r) b.0 b.1 (next_nibble last rest nibble)
      (e ∙ append_assoc (layer_bytes (next_type last rest) (g i)) (layers_bytes last rest) r) in
      let more = layers_stand_lem (w.to + 1) (i + 1) n (λ j l m. h j (omega arith) (omega arith)) w.behind in
      record { stop = more.stop; stand = layer {stop = more.stop} w.from w.to w.there w.content w.size more.stand; behind = more.behind }

-- they are a chain
abbrev pub chain_to : ℕ → ℕ → Option ModexChain
chain_to stop last = Some (record { next_pos = stop; next_packet_type = last })

chain_stands : (s : List ℕ) (last : ℕ) → (last ≡ 7 → ⊥) → {at stop : ℕ} {ls : List GivenLayer} → LayersStand s last at ls stop → 0 < length ls → (k : ℕ) → length ls ≤ k → chain_at k s at ≡
    chain_to stop last
chain_stands s last other none l k m = absurd (omega arith)
chain_stands s last other {at = at} (layer from to e p z none) l k m = chain_ends s k at _ (omega arith) e other
chain_stands s last other {at = at} (layer from to e p z (layer from' to' e' p' z' more)) l k m =
    chain_more s k at _ (omega arith) e refl ∙ chain_stands s last other (layer from' to' e' p' z' more) (omega arith) (k - 1) (omega arith)

-- a payload that is not empty
payload_whole : (p : List ℕ) → 0 < length p → byte_at p 0 ∷ drop 1 p ≡ p
payload_whole [] l = absurd (omega arith)
payload_whole (x ∷ p) l = refl

-- the length of a layer
pub length_layer : (next : ℕ) (l : GivenLayer) → length (layer_bytes next l) ≡ cond (ltb (length l.content) 256) 2 4 + length l.content
unfolding layer_bytes size_bytes
length_layer next l = go (ltb (length l.content) 256)
  where
    go : (t : Bool) → length (cond t ((length l.content - 1) ∷ []) (255 ∷ bytes16 (length l.content - 1)) ++ (l.content ++ ((l.type * 16 + next) ∷ []))) ≡ cond t 2 4 + length
        l.content
    go true = omega (arith, length-append l.content ((l.type * 16 + next) ∷ []))
    go false = omega (arith, length-append l.content ((l.type * 16 + next) ∷ []))

module _ (c : ModexCall) (f : WritableModex c) where
  abbrev b : ℕ
  b = byte_at c.payload 0

  abbrev w : List ℕ
  w = modex_written c

  content_length : (i : ℕ) → i < c.count → length (given_layer c i).content ≡ entry c.lengths i
  content_length i l = length_part c.lent (entry c.starts i) (entry c.lengths i) (f.inside i l)

  fits : (j : ℕ) → 0 ≤ j → j < 0 + c.count → (0 < length (given_layer c j).content) × (length (given_layer c j).content ≤ 65536)
  fits j l m = rw (content_length j (omega arith)) (f.some j (omega arith), f.most j (omega arith))

  standing : Standing w (low b) 1 (given_layers c) (drop 1 c.payload)
  unfolding modex_written
  standing = layers_stand_lem w (low b) (omega arith) (given_layer c) (drop 1 c.payload) 1 0 c.count fits refl

  layers_count : length (given_layers c) ≡ c.count
  layers_count = length_values (given_layer c) 0 c.count

  pub layers_back_lem : LayersBack c w
  layers_back_lem = record { stop = standing.stop; stand = standing.stand; count = layers_count; behind = standing.behind }

  chain_here : chain_at 32 w 1 ≡ chain_to standing.stop (low b)
  chain_here = chain_stands w (low b) f.other standing.stand (omega (arith, layers_count, f.least)) 32 (omega (arith, layers_count, f.limit))

  first_here : byte_at w 0 ≡ high b * 16 + 7
  unfolding modex_written
  first_here = refl

  filled : 0 < length w
  unfolding modex_written
  filled = omega arith

  wrapped : (mask : ℕ) → bit 2 mask ≡ true → is_wrapped c.type mask w ≡ true
  wrapped mask m = go (ℕ_discrete c.type 0)
    where
      capable : mask / 4 % 2 ≡ 1
      capable = eqb-true (mask / 4 % 2) 1 m

      enhanced : bit 7 (byte_at w 0) ≡ true
      enhanced = let e : byte_at w 0 / 128 % 2 ≡ 1 = omega (arith, first_here, f.enhanced) in eq-eqb _ _ e

      modex : eqb (low (byte_at w 0)) 7 ≡ true
      modex = let e : byte_at w 0 % 16 ≡ 7 = omega (arith, first_here) in eq-eqb _ _ e

      go : Dec (c.type ≡ 0) → is_wrapped c.type mask w ≡ true
      go (yes e) =
          let n : byte_at w 0 / 16 ≡ 9 = omega (arith, first_here, f.audio e) in
          ap (λ (t : ℕ). is_wrapped t mask w) e ∙ sym (wrapped_audio mask w filled capable enhanced modex) ∙ eq-eqb _ _ n
      go (no n) = sym (wrapped_other mask w filled capable enhanced modex c.type (ne_eqb c.type 0 n))

  pub chain_peeled : (mask : ℕ) → bit 2 mask ≡ true → chain_of c.type mask w ≡ chain_to layers_back_lem.stop (low b)
  unfolding layers_back_lem
  chain_peeled mask m = sym (chain_wrapped c.type mask w (wrapped mask m)) ∙ chain_here

  pub peeled_back_lem : (mask : ℕ) → bit 2 mask ≡ true → peeled c.type mask w ≡ c.payload
  peeled_back_lem mask m =
      let v : byte_at w 0 / 16 * 16 + low b ≡ b = omega (arith, first_here) in
      peeled_ends c.type mask w _ (chain_peeled mask m)
      ∙ ap₂ (λ (x : ℕ) (r : List ℕ). x ∷ r) v layers_back_lem.behind ∙ payload_whole c.payload f.filled

  -- the length
  length_layers : (last i n : ℕ) → i + n ≤ c.count → length (layers_bytes last (values_from (given_layer c) i n)) ≡ sum_from (layer_length c) i n
  unfolding values_from layers_bytes sum_from
  length_layers last i zero h = refl
  length_layers last i (suc n) h =
      length-append (layer_bytes (next_type last (values_from (given_layer c) (i + 1) n)) (given_layer c i)) _
      ∙ ap₂ (λ (x y : ℕ). x + y) (length_layer _ (given_layer c i) ∙ ap (λ (m : ℕ). cond (ltb m 256) 2 4 + m) (content_length i (omega arith))) (length_layers last (i + 1) n (omega arith))

  pub layers_length : length (layers_bytes (low b) (given_layers c)) ≡ sum_from (layer_length c) 0 c.count
  layers_length = length_layers (low b) 0 c.count (omega arith)

  pub written_length : length w ≡ modex_length c
  unfolding modex_written modex_length
  written_length =
      omega (arith, length-append (layers_bytes (low b) (given_layers c)) (drop 1 c.payload), layers_length, length-drop 1 c.payload, f.filled)

pub other_mask : (type mask : ℕ) (p : List ℕ) → bit 2 mask ≡ false → peeled type mask p ≡ p
unfolding is_wrapped
other_mask type mask p m = peeled_none type mask p (sym (chain_unwrapped type mask p (simp (is_wrapped, m, and-false))))

pub no_chain : (type mask : ℕ) (p : List ℕ) → (byte_at p 0 % 16 ≡ 7 → ⊥) → chain_of type mask p ≡ None
no_chain type mask p n = sym (chain_unwrapped type mask p (other_packet type mask p n))

pub unwrapped : (type mask : ℕ) (p : List ℕ) → (byte_at p 0 % 16 ≡ 7 → ⊥) → peeled type mask p ≡ p
unwrapped type mask p n = peeled_none type mask p (no_chain type mask p n)

-- THE CLAIMS
pub modex_taken_iff : ModexTaken
unfolding ModexTaken
modex_taken_iff c room =
    (λ ok. let f = modex_fine c room ok in (f.0, omega (arith, written_length c f.0, f.1)), λ w. modex_taken_lem c w.0 room (omega (arith, written_length c w.0, w.1)))

pub modex_peeled_back : PeeledBack
unfolding PeeledBack
modex_peeled_back c room mask ok m = peeled_back_lem c (modex_fine c room ok).0 mask m

pub modex_peeled_otherwise : PeeledOtherwise
unfolding PeeledOtherwise
modex_peeled_otherwise c room mask ok m = other_mask c.type mask (modex_written c) m

pub modex_layers_read_back : LayersReadBack
unfolding LayersReadBack
modex_layers_read_back c room ok = layers_back_lem c (modex_fine c room ok).0

pub modex_length_lem : ModexLength
unfolding ModexLength
modex_length_lem c room ok = let f = modex_fine c room ok in (written_length c f.0, f.1)
