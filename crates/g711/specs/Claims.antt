-- What is shown of the two laws, and of levels.
use Rattle.std.specs.Prelude.{◌≡◌, ◌↔◌, ◌⊎◌, true, false, List, [], ◌∷◌, ◌++◌, ℕ, ◌+◌, ◌*◌, ◌%◌, ◌≤◌, ◌<◌, ℤ, pos, neg_ℤ, nat_abs, length, get_or, replicate, IsOk, Err}
use Rattle.std.specs.Int.Bits.{bit_xor}
use Rattle.wire.specs.Wire.{Bytes, byte_at}
use Rattle.types.specs.declared.ErrorCode.TheVariants as error
use Rattle.g711.specs.Expansion.{a_law, mu_law}
use Rattle.g711.specs.Level.{is_a_law, is_mu_law, level_answer, level_number}

-- FULL SCALE: no magnitude is larger, and this one occurs
unfoldable pub FullScale : (ℕ → ℤ) → ℕ → Type 0
FullScale law n = ((c : ℕ) → c < 256 → nat_abs (law c) ≤ n) × ((c : ℕ) × (c < 256) × (law c ≡ pos n))

-- BOTH SIGNS of each magnitude occur: a code with its sign bit changed has the value with the other sign
unfoldable pub BothSigns : (ℕ → ℤ) → Type 0
BothSigns law = (c : ℕ) → c < 256 → (bit_xor c 0x80 < 256) × (law (bit_xor c 0x80) ≡ neg_ℤ (law c))

-- ZEROS: A-law has none, mu-law two
unfoldable pub ANoZero : Type 0
ANoZero = (c : ℕ) → c < 256 → 1 ≤ nat_abs (a_law c)

unfoldable pub MuTwoZeros : Type 0
MuTwoZeros = (c : ℕ) → c < 256 → (mu_law c ≡ pos 0) ↔ ((c ≡ 0x7F) ⊎ (c ≡ 0xFF))

-- DECISION VALUES, the ends of the standard's intervals, from their widths
abbrev pub decisions : ℕ → List ℕ → List ℕ
decisions x [] = x ∷ []
decisions x (w ∷ ws) = x ∷ decisions (x + w) ws

-- sixteen intervals of one width
abbrev pub sixteen : ℕ → List ℕ
sixteen w = replicate 16 w

-- A-law from 0 to 4,096
unfoldable pub a_decisions : List ℕ
a_decisions = decisions 0 (sixteen 2 ++ (sixteen 2 ++ (sixteen 4 ++ (sixteen 8 ++ (sixteen 16 ++ (sixteen 32 ++ (sixteen 64 ++ sixteen 128)))))))

-- mu-law from 0 to 8,159; the first interval is 1 wide
unfoldable pub mu_decisions : List ℕ
mu_decisions =
    decisions 0 (1 ∷ (replicate 15 2 ++ (sixteen 4 ++ (sixteen 8 ++ (sixteen 16 ++ (sixteen 32 ++ (sixteen 64 ++ (sixteen 128 ++ sixteen 256))))))))

-- MIDDLES: a value is the middle of its interval, whose number is the code's low seven bits with the inversion undone; but mu-law's first is 0
abbrev pub Middle : List ℕ → ℕ → ℕ → Type 0
Middle ds k n = 2 * n ≡ get_or ds k 0 + get_or ds (k + 1) 0

unfoldable pub AMiddles : Type 0
AMiddles = (c : ℕ) → c < 256 → Middle a_decisions (bit_xor c 0x55 % 128) (nat_abs (a_law c))

unfoldable pub MuMiddles : Type 0
MuMiddles = (c : ℕ) → c < 256 → 0 < bit_xor c 0xFF % 128 → Middle mu_decisions (bit_xor c 0xFF % 128) (nat_abs (mu_law c))

-- THE LEVEL is a bound of all samples that one of them attains, and 0 if there is none
pub record LevelOf (law : ℕ → ℤ) (p : List ℕ) (n : ℕ) : Type 0 where
  pub bound : (i : ℕ) → 1 ≤ i → i < length p → nat_abs (law (byte_at p i)) ≤ n
  pub attained : 2 ≤ length p → (i : ℕ) × (1 ≤ i) × (i < length p) × (nat_abs (law (byte_at p i)) ≡ n)
  pub silent : length p ≤ 1 → n ≡ 0

unfoldable pub ALevels : Type 0
ALevels = (p : List ℕ) → is_a_law p ≡ true → LevelOf a_law p (level_number (level_answer 0 p))

unfoldable pub MuLevels : Type 0
MuLevels = (p : List ℕ) → is_mu_law p ≡ true → LevelOf mu_law p (level_number (level_answer 0 p))

-- ON ITS SCALE: a level is at most full scale, and in A-law one sample makes it 1 or more
unfoldable pub OnScale : Type 0
OnScale =
    (p : List ℕ) → Bytes p
    → (is_a_law p ≡ true → (level_number (level_answer 0 p) ≤ 4032) × (2 ≤ length p → 1 ≤ level_number (level_answer 0 p)))
    × (is_mu_law p ≡ true → level_number (level_answer 0 p) ≤ 8031)

-- any other frame has level 0
unfoldable pub OtherLevels : Type 0
OtherLevels = (type : ℕ) (p : List ℕ) → (1 ≤ type) ⊎ ((is_a_law p ≡ false) × (is_mu_law p ≡ false)) → level_number (level_answer type p) ≡ 0

-- and a frame is refused exactly if its type is above 3
unfoldable pub LevelRefused : Type 0
LevelRefused = (type : ℕ) (p : List ℕ) → (type ≤ 3 → IsOk (level_answer type p)) × (3 < type → level_answer type p ≡ Err error.UnknownFrameType)
