-- ITU-T G.711: the value of a code of eight bits, on the standard's own scales. Once the bits that are sent inverted are turned back, a code is a
-- sign, three bits of segment and four of step. Segments follow each other from the quietest on, and the steps of a segment are equally wide.
use Rattle.std.specs.Prelude.{cond, ℕ, ◌+◌, ◌-◌, ◌*◌, ◌/◌, ◌%◌, ◌^◌, eqb, ℤ, pos, neg_ℤ}
use Rattle.std.specs.Int.Bits.{bit_xor}
use Rattle.wire.specs.Wire.{bit}

-- bits 4 to 6, and 0 to 3
abbrev pub segment : ℕ → ℕ
segment x = x / 16 % 8

abbrev pub step : ℕ → ℕ
step x = x % 16

-- A-law: steps are 2 wide in segments 0 and 1, which the standard counts as one, and twice as wide in each further one; a value is the middle of its step
unfoldable pub a_magnitude : ℕ → ℕ
a_magnitude x = cond (eqb (segment x) 0) (2 * step x + 1) ((2 * step x + 33) * 2 ^ (segment x - 1))

-- THE A-LAW VALUE of a code: even bits, counted from the sign bit as 1, are sent inverted, and sign bit 1 is positive
unfoldable pub a_law : ℕ → ℤ
a_law c = let x = bit_xor c 0x55 in cond (bit 7 x) (pos (a_magnitude x)) (neg_ℤ (pos (a_magnitude x)))

-- mu-law: with a bias of 33, steps are 2 wide in segment 0 and twice as wide in each further one
unfoldable pub mu_magnitude : ℕ → ℕ
mu_magnitude x = (2 * step x + 33) * 2 ^ segment x - 33

-- THE MU-LAW VALUE of a code: all bits are sent inverted, and sign bit 1 is negative
unfoldable pub mu_law : ℕ → ℤ
mu_law c = let x = bit_xor c 0xFF in cond (bit 7 x) (neg_ℤ (pos (mu_magnitude x))) (pos (mu_magnitude x))
