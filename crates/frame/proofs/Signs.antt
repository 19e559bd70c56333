-- Laws of the composition time as the code makes it, in 64 bits.
use mathlib.Core.Path.{◌≡◌, refl, sym, ap, ◌∙◌, subst}
use mathlib.Core.Bool.{true, false}
use Prim.Native.Nat.{ℕ, suc, ◌+◌, ◌-◌, ◌*◌, ◌/◌, ◌%◌, ◌≤◌, ◌<◌}
use native.Mathlib.Decide.{dec_lt}
use native.Mathlib.Omega.{arith}
use lib.IntN.{ℤ, pos, negsuc, ◌+ℤ◌, ◌-ℤ◌, ◌*ℤ◌, nat_abs}
use lib.Signed.{lt_z}
use mir.Syntax.{w64}
use mir.Val.{SFits, to_z, of_z}
use mir.Facts.{to_z-of_z, to_z_pos}
use borrow.Author.Tests.{lt-ltb, le-ltb}
use Rattle.wire.proofs.Signs.{plain_64, below, turned, lowered_fits, lowered, above}
use Rattle.exvideo.specs.Video.{signed32}
use Rattle.exvideo.proofs.Signs.{negative, pattern_number_below, pattern_number_from}
use Rattle.frame.specs.Time.{nanoseconds, split_time}

-- a 32-bit number, in 64 bits
pub wide : (n : ℕ) → n < 4294967296 → to_z w64 n ≡ pos n
wide n h = to_z_pos w64 {n = n} (omega arith)

-- THE NUMBER OF A PATTERN: as it is, or less 4,294,967,296
module _ (t : ℕ) (h : t < 4294967296) where
  pub itself : t < 2147483648 → to_z w64 t ≡ signed32 t
  itself l = wide t h ∙ sym (pattern_number_below t l)

  pub less_fits : SFits w64 (to_z w64 t -ℤ pos 4294967296)
  less_fits = rw (wide t h, negative t 4294967296 h) (record { sfits = omega arith })

  pub less : 2147483648 ≤ t → to_z w64 (of_z w64 (to_z w64 t -ℤ pos 4294967296)) ≡ signed32 t
  less g = to_z-of_z less_fits ∙ rw (wide t h, negative t 4294967296 h) (sym (pattern_number_from t h g))

-- TIMES A MILLION, AND AN OFFSET
module _ (t o : ℕ) (ht : t < 4294967296) (ho : o < 4294967296) where
  product : (m : ℕ) → negsuc m *ℤ pos 1000000 ≡ negsuc (m * 1000000 + 999999)
  product m = let k : suc m * 1000000 ≡ suc (m * 1000000 + 999999) = omega arith in rw k refl

  below_fits : (k : ℕ) → k < 2147483648 * 1000000 → SFits w64 (negsuc k +ℤ pos o)
  below_fits k h = go (dec_lt o (suc k))
    where
      go : Dec (o < suc k) → SFits w64 (negsuc k +ℤ pos o)
      go (yes l) = rw (lt-ltb o (suc k) l) (record { sfits = omega arith })
      go (no l) = rw (le-ltb o (suc k) (omega arith)) (record { sfits = omega arith })

  -- each step is an i64, by the two cases
  by_sign : (A : ℤ → Type 0) → (t < 2147483648 → A (pos t)) → (2147483648 ≤ t → A (negsuc (4294967296 - suc t))) → A (signed32 t)
  by_sign A low high = go (dec_lt t 2147483648)
    where
      go : Dec (t < 2147483648) → A (signed32 t)
      go (yes l) = subst A (sym (pattern_number_below t l)) (low l)
      go (no l) = let g : 2147483648 ≤ t = omega arith in subst A (sym (pattern_number_from t ht g)) (high g)

  number_fits : SFits w64 (signed32 t)
  number_fits = by_sign (SFits w64) (λ l. record { sfits = omega arith }) (λ g. record { sfits = omega arith })

  product_fits : SFits w64 (signed32 t *ℤ pos 1000000)
  product_fits =
      by_sign (λ z. SFits w64 (z *ℤ pos 1000000)) (λ l. record { sfits = omega arith }) (λ g. rw (product (4294967296 - suc t)) (record { sfits = omega arith }))

  sum_fits : SFits w64 (signed32 t *ℤ pos 1000000 +ℤ pos o)
  sum_fits =
      by_sign (λ z. SFits w64 (z *ℤ pos 1000000 +ℤ pos o)) (λ l. record { sfits = omega arith })
      (λ g. rw (product (4294967296 - suc t)) (below_fits ((4294967296 - suc t) * 1000000 + 999999) (omega arith)))

  module _ (x : ℤ) (e : x ≡ signed32 t) where
    read_back : to_z w64 (of_z w64 x) ≡ signed32 t
    read_back = ap (λ (z : ℤ). to_z w64 (of_z w64 z)) e ∙ to_z-of_z number_fits

    pub times_fits : SFits w64 (to_z w64 (of_z w64 x) *ℤ pos 1000000)
    times_fits = rw read_back product_fits

    sum : to_z w64 (of_z w64 (to_z w64 (of_z w64 x) *ℤ pos 1000000)) +ℤ to_z w64 o ≡ signed32 t *ℤ pos 1000000 +ℤ pos o
    sum = rw (to_z-of_z times_fits, read_back, wide o ho) refl

    pub whole_fits : SFits w64 (to_z w64 (of_z w64 (to_z w64 (of_z w64 x) *ℤ pos 1000000)) +ℤ to_z w64 o)
    whole_fits = rw sum sum_fits

    pub in_nanoseconds : to_z w64 (of_z w64 (to_z w64 (of_z w64 (to_z w64 (of_z w64 x) *ℤ pos 1000000)) +ℤ to_z w64 o)) ≡ nanoseconds (signed32 t) o
    unfolding nanoseconds
    in_nanoseconds = to_z-of_z whole_fits ∙ sum

  -- and is one where a report holds it
  pub held : (r : ℤ) → r ≡ nanoseconds (signed32 t) o → to_z w64 (of_z w64 r) ≡ nanoseconds (signed32 t) o
  unfolding nanoseconds
  held r e = ap (λ (z : ℤ). to_z w64 (of_z w64 z)) e ∙ to_z-of_z sum_fits

-- A TIME SPLIT, by its sign
module _ (z : ℤ) (f : SFits w64 z) where
  module _ (negative : lt_z (to_z w64 (of_z w64 z)) (pos 0) ≡ true) (n : ℕ) (e : n ≡ nat_abs (to_z w64 (of_z w64 (negsuc 0 -ℤ to_z w64 (of_z w64 z))))) where
    number : n ≡ (below z f negative).0
    number = e ∙ ap nat_abs (turned z f negative)

    small : n / 1000000 < 9223372036854775808
    small = omega (arith, number, (below z f negative).1.1)

    pub quotient_fits : SFits w64 (pos (n / 1000000))
    quotient_fits = record { sfits = omega (arith, small) }

    pub lower_fits : SFits w64 (negsuc 0 -ℤ to_z w64 (n / 1000000))
    lower_fits = lowered_fits w64 (n / 1000000) small

    pub split_below : record { milliseconds = to_z w64 (of_z w64 (negsuc 0 -ℤ to_z w64 (n / 1000000))); offset = 999999 - n % 1000000 } ≡ split_time z
    unfolding split_time
    split_below =
        ap (λ (x : ℤ). record { milliseconds = x; offset = 999999 - n % 1000000 }) (lowered w64 (n / 1000000) small)
        ∙ ap split_time (ap negsuc number ∙ sym (below z f negative).1.0)

  module _ (positive : lt_z (to_z w64 (of_z w64 z)) (pos 0) ≡ false) (n : ℕ) (e : n ≡ nat_abs (to_z w64 (of_z w64 z))) where
    magnitude : n ≡ (above z f positive).0
    magnitude = e ∙ ap nat_abs (plain_64 z f ∙ (above z f positive).1.0)

    pub milliseconds_fits : SFits w64 (pos (n / 1000000))
    milliseconds_fits = record { sfits = omega (arith, magnitude, (above z f positive).1.1) }

    pub split_above : record { milliseconds = to_z w64 (n / 1000000); offset = n % 1000000 } ≡ split_time z
    unfolding split_time
    split_above =
        ap (λ (x : ℤ). record { milliseconds = x; offset = n % 1000000 }) (to_z_pos w64 {n = n / 1000000} (omega (arith, magnitude, (above z f positive).1.1)))
        ∙ ap split_time (ap pos magnitude ∙ sym (above z f positive).1.0)
