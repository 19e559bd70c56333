-- Signed numbers: whether two are the same; one of 32 bits read back from its bits, and by way of 64 bits; one of 64 bits without its sign.
use mathlib.Core.Path.{◌≡◌, refl, sym, ap, ◌∙◌}
use mathlib.Core.Bool.{true, false}
use Prim.Native.Nat.{ℕ, zero, suc, ◌+◌, ◌-◌, ◌^◌, ◌<◌}
use native.Mathlib.Omega.{arith}
use lib.Dec.{T}
use lib.IntN.{ℤ, pos, negsuc, ◌-ℤ◌, nat_abs}
use lib.Signed.{lt_z, non_neg}
use borrow.Author.Tests.{le-ltb, ltb-true, eqb-true}
use Rattle.wire.specs.Wire.{same_integer}
use Rattle.wire.proofs.Bools.{true_or_false}
use mir.Syntax.{Width, w32, w64}
use mir.Val.{hbits, Fits, SFits, to_z, of_z}
use mir.Facts.{to_z-of_z, to_z_pos, sfits_widen}

pub same_integer_lem : (x y : ℤ) → same_integer x y ≡ true → x ≡ y
same_integer_lem (pos m) (pos n) e = ap pos (eqb-true m n e)
same_integer_lem (pos m) (negsuc n) e = true_or_false e refl
same_integer_lem (negsuc m) (pos n) e = true_or_false e refl
same_integer_lem (negsuc m) (negsuc n) e = ap negsuc (eqb-true m n e)

module _ (x : ℤ) (f : SFits w32 x) where
  pub plain : to_z w32 (of_z w32 x) ≡ x
  plain = to_z-of_z f

  pub widened : SFits w64 (to_z w32 (of_z w32 x))
  widened = rw plain (sfits_widen tt f)

  pub plain64 : to_z w64 (of_z w64 (to_z w32 (of_z w32 x))) ≡ x
  plain64 = to_z-of_z widened ∙ plain

-- A 64-BIT NUMBER WITHOUT ITS SIGN: one below 0 is -1 - n, and n is -1 less it, which never leaves an i64
less_one : (n : ℕ) → negsuc 0 -ℤ pos n ≡ negsuc n
less_one zero = refl
less_one (suc n) = let e : 0 + n ≡ n = omega arith in ap (λ (k : ℕ). negsuc (suc k)) e

less_below : (n : ℕ) → negsuc 0 -ℤ negsuc n ≡ pos n
less_below n = let e : suc n - 1 ≡ n = omega arith in rw (le-ltb (suc n) 1 (omega arith)) (ap pos e)

module _ (z : ℤ) (f : SFits w64 z) where
  pub plain_64 : to_z w64 (of_z w64 z) ≡ z
  plain_64 = to_z-of_z f

  module _ (negative : lt_z (to_z w64 (of_z w64 z)) (pos 0) ≡ true) where
    pub below : (n : ℕ) × ((z ≡ negsuc n) × (n < 9223372036854775808))
    below = go z f (sym (ap (λ (x : ℤ). lt_z x (pos 0)) plain_64) ∙ negative)
      where
        go : (z : ℤ) → SFits w64 z → lt_z z (pos 0) ≡ true → (n : ℕ) × ((z ≡ negsuc n) × (n < 9223372036854775808))
        go (pos n) f t = let h = ltb-true n 0 t in absurd (omega arith)
        go (negsuc n) f t = let h = f.sfits in (n, (refl, omega arith))

    turn : negsuc 0 -ℤ to_z w64 (of_z w64 z) ≡ pos below.0
    turn = ap (λ (x : ℤ). negsuc 0 -ℤ x) (plain_64 ∙ below.1.0) ∙ less_below below.0

    pub turned_fits : SFits w64 (negsuc 0 -ℤ to_z w64 (of_z w64 z))
    turned_fits = rw turn (record { sfits = omega (arith, below.1.1) })

    pub turned : to_z w64 (of_z w64 (negsuc 0 -ℤ to_z w64 (of_z w64 z))) ≡ pos below.0
    turned = to_z-of_z turned_fits ∙ turn

    pub turned_cast : T (non_neg (to_z w64 (of_z w64 (negsuc 0 -ℤ to_z w64 (of_z w64 z))))) × Fits w64 (nat_abs (to_z w64 (of_z w64 (negsuc 0 -ℤ to_z w64 (of_z w64 z)))))
    turned_cast = rw turned (tt, record { fits = omega (arith, below.1.1) })

    pub turned_small : nat_abs (to_z w64 (of_z w64 (negsuc 0 -ℤ to_z w64 (of_z w64 z)))) < 9223372036854775808
    turned_small = rw turned below.1.1

  module _ (positive : lt_z (to_z w64 (of_z w64 z)) (pos 0) ≡ false) where
    pub above : (n : ℕ) × ((z ≡ pos n) × (n < 9223372036854775808))
    above = go z f (sym (ap (λ (x : ℤ). lt_z x (pos 0)) plain_64) ∙ positive)
      where
        go : (z : ℤ) → SFits w64 z → lt_z z (pos 0) ≡ false → (n : ℕ) × ((z ≡ pos n) × (n < 9223372036854775808))
        go (pos n) f t = let h = f.sfits in (n, (refl, omega arith))
        go (negsuc n) f t = true_or_false refl t

    pub positive_cast : T (non_neg (to_z w64 (of_z w64 z))) × Fits w64 (nat_abs (to_z w64 (of_z w64 z)))
    positive_cast = rw (plain_64 ∙ above.1.0) (tt, record { fits = omega (arith, above.1.1) })

-- and back, in any width
module _ (w : Width) (n : ℕ) (h : n < 2 ^ hbits w) where
  lower : negsuc 0 -ℤ to_z w n ≡ negsuc n
  lower = ap (λ (x : ℤ). negsuc 0 -ℤ x) (to_z_pos w {n = n} h) ∙ less_one n

  pub lowered_fits : SFits w (negsuc 0 -ℤ to_z w n)
  lowered_fits = rw lower (record { sfits = h })

  pub lowered : to_z w (of_z w (negsuc 0 -ℤ to_z w n)) ≡ negsuc n
  lowered = to_z-of_z lowered_fits ∙ lower
