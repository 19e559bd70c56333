-- The two laws of expansion, over all their codes.
use mathlib.Core.Path.{◌≡◌, refl}
use mathlib.Core.Bool.{true}
use Prim.Native.Nat.{ℕ, suc, ◌≤◌, ◌<◌}
use lib.Bits.{bit_xor}
use lib.Dec.{eqb, leb}
use lib.IntN.{ℤ, pos, nat_abs}
use borrow.Author.Tests.{eqb-true, leb-true}
use Rattle.wire.specs.Wire.{same_integer}
use Rattle.wire.proofs.Signs.{same_integer_lem}
use Rattle.g711.specs.Expansion.{a_magnitude, a_law, mu_magnitude, mu_law}
use Rattle.g711.specs.Loudness.{loudness}
use Rattle.g711.proofs.Computed.{all, at}

-- WHAT THE CODE RESTS ON: a magnitude goes by loudness alone and never falls with it, and the code that differs from the quietest one by a loudness is
-- positive
pub record ByLoudness (law : ℕ → ℤ) (quietest : ℕ) (magnitude : ℕ → ℕ) : Type 0 where
  pub magnitudes : (c : ℕ) → c < 256 → nat_abs (law c) ≡ magnitude (loudness quietest c)
  pub rising : (k : ℕ) → k < 127 → magnitude k ≤ magnitude (suc k)
  pub positive : (k : ℕ) → k < 128 → law (bit_xor k quietest) ≡ pos (magnitude k)

module _ (law : ℕ → ℤ) (quietest : ℕ) (magnitude : ℕ → ℕ) where
  pub by_loudness_lem : all 256 (λ c. eqb (nat_abs (law c)) (magnitude (loudness quietest c))) ≡ true → all 127 (λ k. leb (magnitude k) (magnitude (suc k))) ≡ true
      → all 128 (λ k. same_integer (law (bit_xor k quietest)) (pos (magnitude k))) ≡ true → ByLoudness law quietest magnitude
  by_loudness_lem m r p =
      record {
        magnitudes = λ c h. eqb-true _ _ (at 256 (λ c. eqb (nat_abs (law c)) (magnitude (loudness quietest c))) m c h);
        rising = λ k h. leb-true _ _ (at 127 (λ k. leb (magnitude k) (magnitude (suc k))) r k h);
        positive = λ k h. same_integer_lem _ _ (at 128 (λ k. same_integer (law (bit_xor k quietest)) (pos (magnitude k))) p k h);
      }

pub a_by_loudness : ByLoudness a_law 0xD5 a_magnitude
unfolding a_law a_magnitude
a_by_loudness = by_loudness_lem a_law 0xD5 a_magnitude refl refl refl

pub mu_by_loudness : ByLoudness mu_law 0xFF mu_magnitude
unfolding mu_law mu_magnitude
mu_by_loudness = by_loudness_lem mu_law 0xFF mu_magnitude refl refl refl
