-- The largest magnitude of codes, by their largest loudness.
use mathlib.Core.Path.{◌≡◌, refl, sym, ap, ◌∙◌, subst}
use mathlib.Core.Bool.{Bool, true, false}
use mathlib.Core.List.{List, [], ◌∷◌, map}
use Prim.Native.Nat.{ℕ, zero, suc, ◌+◌, ◌-◌, ◌≤◌, ◌<◌, max}
use native.Mathlib.Omega.{arith}
use native.Mathlib.Nat.{max-zero, zero-max, max-eq_left, max-eq_right}
use lib.Dec.{leb}
use lib.IntN.{ℤ}
use borrow.Author.Tests.{leb-true, leb-false}
use Rattle.std.specs.List.{fold}
use Rattle.wire.specs.Wire.{Bytes}
use Rattle.g711.specs.Level.{largest, peak}
use Rattle.g711.specs.Loudness.{loudness}
use Rattle.g711.proofs.Codes.{ByLoudness}

-- what a fold has found so far and the largest of what is left make up the largest
module _ (f : ℕ → ℕ) where
  folded : (most : ℕ) (xs : List ℕ) → fold (λ m x. max m (f x)) most xs ≡ max most (largest (map f xs))
  unfolding largest
  folded most [] = sym (max-zero most)
  folded most (x ∷ xs) = folded (max most (f x)) xs ∙ omega arith

pub by_fold : (quietest : ℕ) (codes : List ℕ) → fold (λ most code. max most (loudness quietest code)) 0 codes ≡ largest (map (loudness quietest) codes)
by_fold quietest codes = folded (loudness quietest) 0 codes ∙ zero-max _

-- magnitudes go up with loudness, so the largest of both belong together
module _ {law : ℕ → ℤ} {quietest : ℕ} {magnitude : ℕ → ℕ} (ordered : ByLoudness law quietest magnitude) where
  up : (d j : ℕ) → j + d < 128 → magnitude j ≤ magnitude (j + d)
  up zero j h = let e : j + 0 ≡ j = omega arith in rw e (omega arith)
  up (suc d) j h =
      let e : j + suc d ≡ suc (j + d) = omega arith in
      rw e (omega (arith, up d j (omega arith), ordered.rising (j + d) (omega arith)))

  rises : (j k : ℕ) → j ≤ k → k < 128 → magnitude j ≤ magnitude k
  rises j k h l = let e : j + (k - j) ≡ k = omega arith in subst (λ (n : ℕ). magnitude j ≤ magnitude n) e (up (k - j) j (omega arith))

  loudest_of : (j k : ℕ) → j < 128 → k < 128 → max (magnitude j) (magnitude k) ≡ magnitude (max j k)
  loudest_of j k hj hk = go (leb j k) refl
    where
      go : (b : Bool) → leb j k ≡ b → max (magnitude j) (magnitude k) ≡ magnitude (max j k)
      go true e = let h = leb-true j k e in max-eq_right (rises j k h hk) ∙ ap magnitude (sym (max-eq_right h))
      go false e = let h : k ≤ j = omega (arith, leb-false j k e) in max-eq_left (rises k j h hj) ∙ ap magnitude (sym (max-eq_left h))

  pub below : (codes : List ℕ) → largest (map (loudness quietest) codes) < 128
  unfolding largest
  below [] = omega arith
  below (c ∷ cs) = omega (arith, below cs)

  -- the largest magnitude is that of the largest loudness
  pub of_loudest : (c : ℕ) (cs : List ℕ) → Bytes (c ∷ cs) → peak law (c ∷ cs) ≡ magnitude (largest (map (loudness quietest) (c ∷ cs)))
  unfolding largest
  of_loudest c [] b = max-zero _ ∙ ordered.magnitudes c (b 0) ∙ ap magnitude (sym (max-zero _))
  of_loudest c (d ∷ ds) b =
      rw (ordered.magnitudes c (b 0), of_loudest d ds (λ i. b (suc i)))
      (loudest_of (loudness quietest c) (largest (map (loudness quietest) (d ∷ ds))) (omega arith) (below (d ∷ ds)))
