-- Masks that are decided by the length alone: of grammars whose open and sealed parts stand at fixed places.
use mathlib.Core.Path.{◌≡◌, refl, sym, ap, ◌∙◌}
use mathlib.Core.Bool.{Bool, true, false, true≢false}
use mathlib.Core.Option.{Option, none, some}
use mathlib.Core.List.{List, [], ◌∷◌, ◌++◌}
use Prim.Native.Nat.{ℕ, suc, ◌+◌, ◌-◌}
use native.Mathlib.Omega.{arith}
use lib.ListN.{length, length-append, replicate-append-replicate}
use lib.Dec.{eqb}
use Rattle.wire.specs.Mask.{Mask, open_bytes, sealed_bytes}
use Rattle.wire.specs.Grammar.{Grammar, byte, skip, guard, word, branch, sealed_rest, accepted, mask_of}
use Rattle.wire.proofs.Grammars.{byte_took, skip_took, guard_took, rest_took}

-- every mask that a grammar gives has this shape, by the length of the bytes
pub record Shaped (g : Grammar) (shape : ℕ → Mask) : Type 0 where
  pub masks : (p : List ℕ) (m : Mask) → g p ≡ some m → m ≡ shape (length p)

pub shaped_rest : Shaped sealed_rest sealed_bytes
shaped_rest = record { masks = rest_took }

pub shaped_byte : (g : ℕ → Grammar) (shape : ℕ → Mask) → ((x : ℕ) → Shaped (g x) shape) → Shaped (byte g) (λ n. open_bytes 1 ++ shape (n - 1))
shaped_byte g shape h = record {
  masks = λ p m e. byte_took g p m e λ x q k b o e₁.
      let z : length q ≡ length p - 1 = omega (arith, ap length b) in
      o ∙ ap (λ (n : Mask). open_bytes 1 ++ n) ((h x).masks q k e₁ ∙ ap shape z);
}

pub shaped_guard : (c : Bool) (g : Grammar) (shape : ℕ → Mask) → Shaped g shape → Shaped (guard c g) shape
shaped_guard c g shape h = record { masks = λ p m e. guard_took c g p m e λ _ e₁. h.masks p m e₁ }

pub shaped_branch : (c : Bool) (g h : Grammar) (shape : ℕ → Mask) → Shaped g shape → Shaped h shape → Shaped (branch c g h) shape
unfolding branch
shaped_branch true g h shape s t = s
shaped_branch false g h shape s t = t

pub shaped_word : (xs : List ℕ) (g : Grammar) (shape : ℕ → Mask) → Shaped g shape
    → Shaped (word xs g) (λ n. open_bytes (length xs) ++ shape (n - length xs))
unfolding word
shaped_word [] g shape h = record { masks = λ p m e. let z : length p ≡ length p - 0 = omega arith in h.masks p m e ∙ ap shape z }
shaped_word (x ∷ xs) g shape h = record {
  masks = λ p m e.
      let z : length p - 1 - length xs ≡ length p - suc (length xs) = omega arith in
      (shaped_byte (λ (b : ℕ). guard (eqb b x) (word xs g)) (λ n. open_bytes (length xs) ++ shape (n - length xs))
      (λ b. shaped_guard (eqb b x) (word xs g) (λ n. open_bytes (length xs) ++ shape (n - length xs)) (shaped_word xs g shape h))).masks p m e
      ∙ ap (λ (n : ℕ). open_bytes (suc (length xs)) ++ shape n) z;
}

pub shaped_skip : (k : ℕ) (g : Grammar) (shape : ℕ → Mask) → Shaped g shape → Shaped (skip k g) (λ n. sealed_bytes k ++ shape (n - k))
shaped_skip k g shape h = record {
  masks = λ p m e. skip_took k g p m e λ s q r l b o e₁.
      let z : length q ≡ length p - k = omega (arith, ap length b, length-append s q) in
      o ∙ ap (λ (n : Mask). sealed_bytes k ++ n) (h.masks q r e₁ ∙ ap shape z);
}

-- sealed bytes that must be there, and then the others, are no more than sealed bytes
pub shaped_there : (k : ℕ) → Shaped (skip k sealed_rest) sealed_bytes
shaped_there k = record {
  masks = λ p m e. skip_took k sealed_rest p m e λ s q r l b o e₁.
      let z : k + length q ≡ length p = omega (arith, ap length b, length-append s q) in
      o ∙ ap (λ (n : Mask). sealed_bytes k ++ n) (rest_took q r e₁) ∙ replicate-append-replicate k (length q) true ∙ ap sealed_bytes z;
}

-- so accepted bytes have that mask
pub mask_shape : (g : Grammar) (shape : ℕ → Mask) → Shaped g shape → (p : List ℕ) → accepted (g p) ≡ true → mask_of (g p) ≡ shape (length p)
mask_shape g shape h p v = go (g p) refl v
  where
    go : (o : Option Mask) → g p ≡ o → accepted o ≡ true → mask_of o ≡ shape (length p)
    go none e v = absurd (true≢false (sym v))
    go (some m) e v = h.masks p m e
