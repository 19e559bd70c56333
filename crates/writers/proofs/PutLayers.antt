-- Laws of layers that are put into an output piece by piece, for the exits of the functions that do so.
use mathlib.Core.Path.{◌≡◌, refl, sym, ap, ap₂, ◌∙◌}
use mathlib.Core.Bool.{Bool, true, false, cond}
use mathlib.Core.List.{List, [], ◌∷◌, ◌++◌, append_assoc}
use Prim.Native.Nat.{ℕ, zero, suc, ◌+◌, ◌-◌, ◌*◌, ◌/◌, ◌%◌, ◌≤◌, ◌<◌}
use native.Mathlib.Omega.{arith}
use lib.Dec.{eqb, ltb}
use lib.ListN.{length, take, drop, length-append, length-drop}
use borrow.Author.Tests.{eq-eqb, ne_eqb}
use Rattle.std.specs.Prelude.{sum_by}
use Rattle.wire.specs.Wire.{byte_at, low, bytes16}
use Rattle.outputs.specs.Outputs.{in_front, with_at, put_at}
use Rattle.outputs.proofs.Laws.{put_room, with_none, with_more, with_front, length_with}
use Rattle.writers.specs.Columns.{entry, lent_part, values_from, sum_from}
use Rattle.writers.specs.Lengths.{with_head}
use Rattle.writers.specs.ModexWriter.{
  ModexCall,
  GivenLayer,
  given_layer,
  given_layers,
  size_bytes,
  layer_bytes,
  next_type,
  layers_bytes,
  layer_length,
  modex_written,
  modex_length,
}
use Rattle.writers.specs.Claims.{WritableModex}
use Rattle.writers.proofs.Entries.{values_next, values_end, sum_next, sum_cut}
use Rattle.writers.proofs.Peeling.{length_layer, layers_length, written_length}

-- A LAYER: size, data, option byte
length_size : (size : ℕ) → length (size_bytes size) ≡ cond (ltb size 256) 1 3
unfolding size_bytes
length_size size = go (ltb size 256)
  where
    go : (b : Bool) → length (cond b ((size - 1) ∷ []) (255 ∷ bytes16 (size - 1))) ≡ cond b 1 3
    go true = refl
    go false = refl

one_more : (b : Bool) → cond b 2 4 ≡ cond b 1 3 + 1
one_more true = refl
one_more false = refl

pub layer_put : (kind next at from : ℕ) (content out sized : List ℕ) → at + (cond (ltb (length content) 256) 2 4 + length content) ≤ length out
    → from ≡ at + cond (ltb (length content) 256) 1 3 → sized ≡ with_at out at (size_bytes (length content))
    → put_at (put_at sized from content) (from + length content) ((kind * 16 + next) ∷ []) ≡ with_at out at (layer_bytes next (record { type = kind; content = content }))
unfolding layer_bytes
layer_put kind next at from content out sized l f g =
    let size : List ℕ = size_bytes (length content) in
    let option : List ℕ = (kind * 16 + next) ∷ [] in
    let s = length_size (length content) in
    let t = one_more (ltb (length content) 256) in
    let j = length-append size content in
    let long : length sized ≡ length out = ap length g ∙ length_with out at size (omega arith) in
    let n : from ≡ at + length size = omega arith in
    let v : put_at sized from content ≡ with_at out at (size ++ content) =
    put_room sized from content (omega arith) ∙ ap₂ (λ (o : List ℕ) (i : ℕ). with_at o i content) g n ∙ with_more out at size content (omega arith) in
    let long₂ : length (put_at sized from content) ≡ length out = ap length v ∙ length_with out at (size ++ content) (omega arith) in
    let m : from + length content ≡ at + length (size ++ content) = omega arith in
    put_room (put_at sized from content) (from + length content) option (omega arith)
    ∙ ap₂ (λ (o : List ℕ) (i : ℕ). with_at o i option) v m
    ∙ with_more out at (size ++ content) option (omega arith)
    ∙ ap (with_at out at) (append_assoc size content option)

-- THE LAYERS: what each names next
pub next_named : (g : ℕ → GivenLayer) (last i n : ℕ) → i < n → next_type last (values_from g (i + 1) (n - (i + 1))) ≡ cond (eqb (i + 1) n) last 7
unfolding values_from
next_named g last i n l = go (n - (i + 1)) refl
  where
    go : (k : ℕ) → n - (i + 1) ≡ k → next_type last (values_from g (i + 1) (n - (i + 1))) ≡ cond (eqb (i + 1) n) last 7
    go zero q = let e : i + 1 ≡ n = omega arith in simp (q, eq-eqb _ _ e)
    go (suc k) q = simp (q, ne_eqb (i + 1) n (λ (e : i + 1 ≡ n). omega arith))

module _ (c : ModexCall) (last : ℕ) where
  -- there is room for the next
  pub layer_room : (i at room : ℕ) → i < c.count → at + sum_from (layer_length c) i (c.count - i) ≤ room → (size : ℕ) → size ≡ entry c.lengths i
      → at + (cond (ltb size 256) 2 4 + size) ≤ room
  layer_room i at room l h size e = rw e (omega (arith, sum_next (layer_length c) i c.count l))

  -- one more
  pub layers_next : (i : ℕ) → i < c.count → (at behind next : ℕ) (content out o : List ℕ) → content ≡ lent_part c.lent c.starts c.lengths i
      → length content ≡ entry c.lengths i → next ≡ cond (eqb (i + 1) c.count) last 7 → behind ≡ at + (cond (ltb (length content) 256) 2 4 + length content)
      → o ≡ with_at out at (layer_bytes next (record { type = entry c.types i; content = content }))
      → at + sum_from (layer_length c) i (c.count - i) ≤ length out
      → (behind + sum_from (layer_length c) (i + 1) (c.count - (i + 1)) ≡ at + sum_from (layer_length c) i (c.count - i))
      × (with_at o behind (layers_bytes last (values_from (given_layer c) (i + 1) (c.count - (i + 1))))
      ≡ with_at out at (layers_bytes last (values_from (given_layer c) i (c.count - i))))
  unfolding layers_bytes
  layers_next i l at behind next content out o p n q e k room =
      let given : GivenLayer = record { type = entry c.types i; content = content } in
      let same : layer_bytes next given ≡ layer_bytes (next_type last (values_from (given_layer c) (i + 1) (c.count - (i + 1)))) (given_layer c i) =
      ap₂ (λ (x : ℕ) (y : List ℕ). layer_bytes x (record { type = entry c.types i; content = y })) (q ∙ sym (next_named (given_layer c) last i c.count l)) p in
      let size = length_layer next given in
      let s = sum_next (layer_length c) i c.count l in
      let long : cond (ltb (length content) 256) 2 4 + length content ≡ layer_length c i = ap (λ (x : ℕ). cond (ltb x 256) 2 4 + x) n in
      let fits : at + length (layer_bytes next given) ≤ length out = omega arith in
      let m : behind ≡ at + length (layer_bytes next given) = omega arith in
      let more : List ℕ = layers_bytes last (values_from (given_layer c) (i + 1) (c.count - (i + 1))) in (
        omega arith,
        ap₂ (λ (x : List ℕ) (y : ℕ). with_at x y more) k m
            ∙ with_more out at (layer_bytes next given) more fits
            ∙ ap (λ (x : List ℕ). with_at out at (x ++ more)) same
            ∙ ap (λ (ls : List GivenLayer). with_at out at (layers_bytes last ls)) (sym (values_next (given_layer c) i c.count l)),
      )

  -- none is left
  pub layers_end : (i : ℕ) → c.count ≤ i → (at start : ℕ) (out before : List ℕ)
      → with_at out at (layers_bytes last (values_from (given_layer c) i (c.count - i))) ≡ with_at before start (layers_bytes last (given_layers c))
      → out ≡ with_at before start (layers_bytes last (given_layers c))
  unfolding layers_bytes
  layers_end i l at start out before q =
      sym (with_none out at) ∙ sym (ap (λ (ls : List GivenLayer). with_at out at (layers_bytes last ls)) (values_end (given_layer c) i c.count l)) ∙ q

-- LAYERS AND PAYLOAD, one behind the other
module _ (c : ModexCall) (f : WritableModex c) where
  -- their length, by the lengths of the data
  pub modex_measured : length (modex_written c) ≡ length c.payload + sum_by (with_head 2 4) (take c.count c.lengths)
  unfolding modex_length
  modex_measured = omega (arith, written_length c f, sum_cut c.count c.lengths f.lengths (with_head 2 4))

  pub layers_room : (room : ℕ) → length (modex_written c) ≤ room → 1 + sum_from (layer_length c) 0 c.count ≤ room
  unfolding modex_length
  layers_room room l = omega (arith, f.filled, written_length c f)

  pub modex_put : (out o₁ o₂ o₃ rest : List ℕ) (a at last : ℕ) → a ≡ byte_at c.payload 0 / 16 * 16 + 7 → last ≡ byte_at c.payload 0 % 16
      → length (modex_written c) ≤ length out → o₁ ≡ put_at out 0 (a ∷ []) → o₂ ≡ with_at o₁ 1 (layers_bytes last (given_layers c))
      → at ≡ 1 + sum_from (layer_length c) 0 c.count → rest ≡ drop 1 c.payload → o₃ ≡ put_at o₂ at rest → o₃ ≡ in_front (modex_written c) out
  unfolding modex_written modex_length
  modex_put out o₁ o₂ o₃ rest a at last p q room g h e r k =
      let layers : List ℕ = layers_bytes last (given_layers c) in
      let w = written_length c f in
      let l : modex_length c ≤ length out = omega arith in
      let size : length layers ≡ sum_from (layer_length c) 0 c.count =
      ap (λ (x : ℕ). length (layers_bytes x (given_layers c))) q ∙ layers_length c f in
      let d = length-drop 1 c.payload in
      let u : o₁ ≡ with_at out 0 (a ∷ []) = g ∙ put_room out 0 (a ∷ []) (omega (arith, f.filled)) in
      let v : o₂ ≡ with_at out 0 (a ∷ layers) = h ∙ ap (λ (o : List ℕ). with_at o 1 layers) u ∙ with_more out 0 (a ∷ []) layers (omega (arith, f.filled)) in
      let long : length o₂ ≡ length out = ap length v ∙ length_with out 0 (a ∷ layers) (omega (arith, f.filled)) in
      let n : at ≡ 0 + length (a ∷ layers) = omega arith in
      let m : length rest ≡ length c.payload - 1 = ap length r ∙ d in
      k ∙ put_room o₂ at rest (omega (arith, f.filled))
      ∙ ap₂ (λ (o : List ℕ) (i : ℕ). with_at o i rest) v n
      ∙ with_more out 0 (a ∷ layers) rest (omega (arith, f.filled))
      ∙ with_front out _
      ∙ ap (λ (x : List ℕ). in_front x out)
      (ap₂ (λ (x y : ℕ). x ∷ (layers_bytes y (given_layers c) ++ rest)) p q ∙ ap
      (λ (x : List ℕ). (byte_at c.payload 0 / 16 * 16 + 7) ∷ (layers_bytes (low (byte_at c.payload 0)) (given_layers c) ++ x)) r)
