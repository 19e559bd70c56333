-- The two laws are those of the standard: full scale, signs, zeros, and the middles of its intervals. Each is computed over all codes.
use mathlib.Core.Path.{◌≡◌, refl, ap, subst}
use mathlib.Core.Logic.{◌⊎◌, inl, inr, ⊎_elim}
use mathlib.Core.Bool.{Bool, true, false, cond}
use mathlib.Core.List.{List}
use Prim.Native.Nat.{ℕ, ◌+◌, ◌*◌, ◌%◌, ◌≤◌, ◌<◌}
use native.Mathlib.Omega.{arith}
use lib.Bits.{bit_xor, xor_lt}
use lib.Dec.{eqb, leb, lit<}
use lib.IntN.{ℤ, pos, neg_ℤ, nat_abs}
use lib.ListN.{get_or}
use borrow.Author.Tests.{eqb-true, leb-true, le-leb}
use Rattle.wire.specs.Wire.{same_integer}
use Rattle.wire.proofs.Signs.{same_integer_lem}
use Rattle.g711.specs.Expansion.{a_magnitude, a_law, mu_magnitude, mu_law}
use Rattle.g711.specs.Claims.{FullScale, BothSigns, ANoZero, MuTwoZeros, a_decisions, mu_decisions, Middle, AMiddles, MuMiddles}
use mir.Syntax.{w16}
use mir.Val.{to_z, of_z}
use Rattle.g711.specs.declared.expansion.TheConstants.{A_LAW, MU_LAW}
use Rattle.g711.proofs.Computed.{all, at, ruled}

module _ (law : ℕ → ℤ) where
  full_scale_lem : (n loud : ℕ) → loud < 256 → law loud ≡ pos n → all 256 (λ c. leb (nat_abs (law c)) n) ≡ true → FullScale law n
  unfolding FullScale
  full_scale_lem n loud l e t = (λ c h. leb-true _ _ (at 256 (λ c. leb (nat_abs (law c)) n) t c h), (loud, l, e))

  both_signs_lem : all 256 (λ c. same_integer (law (bit_xor c 0x80)) (neg_ℤ (law c))) ≡ true → BothSigns law
  unfolding BothSigns
  both_signs_lem t c h = (xor_lt 8 c 0x80 h (lit< tt), same_integer_lem _ _ (at 256 (λ c. same_integer (law (bit_xor c 0x80)) (neg_ℤ (law c))) t c h))

  -- the test of one code: if its interval is not before the first, its value is the middle
  is_middle : List ℕ → ℕ → ℕ → ℕ → Bool
  is_middle ds inversion first c =
      let k = bit_xor c inversion % 128 in cond (leb first k) (eqb (2 * nat_abs (law c)) (get_or ds k 0 + get_or ds (k + 1) 0)) true

  middles : (ds : List ℕ) (inversion first : ℕ) → all 256 (is_middle ds inversion first) ≡ true
      → (c : ℕ) → c < 256 → first ≤ bit_xor c inversion % 128 → Middle ds (bit_xor c inversion % 128) (nat_abs (law c))
  unfolding is_middle
  middles ds inversion first t c h f =
      let k = bit_xor c inversion % 128 in
      eqb-true _ _
      (subst (λ (b : Bool). cond b (eqb (2 * nat_abs (law c)) (get_or ds k 0 + get_or ds (k + 1) 0)) true ≡ true) (le-leb first k f)
      (at 256 (is_middle ds inversion first) t c h))

pub a_full_scale : FullScale a_law 4032
unfolding a_law a_magnitude
a_full_scale = full_scale_lem a_law 4032 0xAA (lit< tt) refl refl

pub mu_full_scale : FullScale mu_law 8031
unfolding mu_law mu_magnitude
mu_full_scale = full_scale_lem mu_law 8031 0x80 (lit< tt) refl refl

pub a_both_signs : BothSigns a_law
unfolding a_law a_magnitude
a_both_signs = both_signs_lem a_law refl

pub mu_both_signs : BothSigns mu_law
unfolding mu_law mu_magnitude
mu_both_signs = both_signs_lem mu_law refl

pub a_no_zero_lem : ANoZero
unfolding ANoZero a_law a_magnitude
a_no_zero_lem c h = leb-true _ _ (at 256 (λ c. leb 1 (nat_abs (a_law c))) refl c h)

pub a_middles_lem : AMiddles
unfolding AMiddles a_decisions a_law a_magnitude is_middle
a_middles_lem c h = middles a_law a_decisions 0x55 0 refl c h (omega arith)

pub mu_middles_lem : MuMiddles
unfolding MuMiddles mu_decisions mu_law mu_magnitude is_middle
mu_middles_lem c h f = middles mu_law mu_decisions 0xFF 1 refl c h f

-- whether a code is one of the two zeros, or has no value 0
is_zero : ℕ → Bool
is_zero c = cond (eqb c 0x7F) true (cond (eqb c 0xFF) true (leb 1 (nat_abs (mu_law c))))

one_of : (c : ℕ) (a b : Bool) → eqb c 0x7F ≡ a → eqb c 0xFF ≡ b → cond a true (cond b true (leb 1 (nat_abs (mu_law c)))) ≡ true → mu_law c ≡ pos 0 → (c ≡ 0x7F) ⊎ (c ≡ 0xFF)
one_of c true b e f t z = inl (eqb-true _ _ e)
one_of c false true e f t z = inr (eqb-true _ _ f)
one_of c false false e f t z = absurd (omega (arith, leb-true 1 (nat_abs (mu_law c)) t, ap nat_abs z))

pub mu_two_zeros_lem : MuTwoZeros
unfolding MuTwoZeros mu_law mu_magnitude is_zero
mu_two_zeros_lem c h = (one_of c (eqb c 0x7F) (eqb c 0xFF) refl refl (at 256 is_zero refl c h), ⊎_elim (λ e. rw e refl) (λ e. rw e refl))

-- THE TABLES of the code: the standard's rule holds at each entry
pub a_table : (k : ℕ) → k < 256 → to_z w16 (of_z w16 (get_or A_LAW k (pos 0))) ≡ a_law k
unfolding a_law a_magnitude
a_table k h = ruled a_law A_LAW refl k h

pub mu_table : (k : ℕ) → k < 256 → to_z w16 (of_z w16 (get_or MU_LAW k (pos 0))) ≡ mu_law k
unfolding mu_law mu_magnitude
mu_table k h = ruled mu_law MU_LAW refl k h
