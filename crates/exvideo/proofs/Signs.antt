-- Laws of the composition time: a signed 24-bit number, and its 32-bit pattern.
use mathlib.Core.Path.{◌≡◌, refl, sym, ◌∙◌}
use Prim.Native.Nat.{ℕ, zero, suc, ◌-◌, ◌^◌, ◌≤◌, ◌<◌}
use native.Mathlib.Decide.{dec_lt}
use native.Mathlib.Omega.{arith}
use lib.IntN.{ℤ, pos, negsuc, ◌-ℤ◌}
use borrow.Author.Tests.{lt-ltb, le-ltb}
use Rattle.exvideo.specs.Video.{signed24, pattern32, signed32}

-- a smaller number less a larger one
pub negative : (a b : ℕ) → a < b → pos a -ℤ pos b ≡ negsuc (b - suc a)
negative a zero h = absurd (omega arith)
negative a (suc b) h = simp (lt-ltb a (suc b) h)

-- THE SIGNED NUMBER of 24 bits, by its two cases

-- what holds on both sides of the limit
pub by_limit : (A : Type 0) (n : ℕ) → (n < 8388608 → A) → (8388608 ≤ n → A) → A
by_limit A n below from = go (dec_lt n 8388608)
  where
    go : Dec (n < 8388608) → A
    go (yes l) = below l
    go (no l) = from (omega arith)

pub signed_below : (n : ℕ) → n < 8388608 → signed24 n ≡ pos n
unfolding signed24
signed_below n l = rw (lt-ltb n 8388608 l)

pub signed_from : (n : ℕ) → 8388608 ≤ n → signed24 n ≡ pos n -ℤ pos 16777216
unfolding signed24
signed_from n g = rw (le-ltb n 8388608 g)

-- a number with the two cases is the signed number
pub two_cases : (n : ℕ) (z : ℤ) → (n < 8388608 → z ≡ pos n) → (8388608 ≤ n → z ≡ pos n -ℤ pos 16777216) → z ≡ signed24 n
two_cases n z below from = by_limit _ n (λ l. below l ∙ sym (signed_below n l)) (λ g. from g ∙ sym (signed_from n g))

-- THE NUMBER OF A PATTERN, by its two cases, and its pattern again
pub pattern_number_below : (n : ℕ) → n < 2147483648 → signed32 n ≡ pos n
unfolding signed32
pattern_number_below n l = rw (lt-ltb n 2147483648 l)

pub pattern_number_from : (n : ℕ) → n < 2 ^ 32 → 2147483648 ≤ n → signed32 n ≡ negsuc (4294967296 - suc n)
unfolding signed32
pattern_number_from n h g = rw (le-ltb n 2147483648 g) (negative n 4294967296 h)

pub pattern_again : (n : ℕ) → n < 2 ^ 32 → pattern32 (signed32 n) ≡ n
unfolding pattern32
pattern_again n h = go (dec_lt n 2147483648)
  where
    go : Dec (n < 2147483648) → pattern32 (signed32 n) ≡ n
    go (yes l) = rw (pattern_number_below n l) refl
    go (no l) = rw (pattern_number_from n h (omega arith)) (omega arith)
