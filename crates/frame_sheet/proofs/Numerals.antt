-- Laws of numbers as text.
use mathlib.Core.Path.{◌≡◌, refl, sym, ap, subst, ◌∙◌}
use mathlib.Core.Bool.{Bool, true, false}
use mathlib.Core.List.{List, [], ◌∷◌, ◌++◌, append_assoc}
use Prim.Native.Nat.{ℕ, zero, suc, ◌+◌, ◌-◌, ◌*◌, ◌/◌, ◌%◌, ◌^◌, ◌≤◌, ◌<◌, max}
use native.Mathlib.Nat.{pow-suc, pow-succ', div-lt_iff_lt-mul, le-div_iff_mul-le, one-le-pow}
use native.Mathlib.Omega.{arith}
use lib.ListN.{length, drop, set, length-append, length-replicate, length-set}
use borrow.Author.Tests.{lt-ltb, le-ltb}
use Rattle.std.specs.Int.{from_bool}
use Rattle.std.proofs.lemmas.Grind.{common_steps}
use Rattle.std.proofs.lemmas.List.{drop-set, set_at, replicate_more}
use Rattle.frame_sheet.specs.Text.{digits, decimal, signed, spaces, column}

-- DECIMAL DIGITS: one of a number below 10; of any other those of its tenth, and its last
digits_one : (k n : ℕ) → n < 10 → digits (suc k) n ≡ (48 + n) ∷ []
unfolding digits
digits_one k n h = simp (lt-ltb n 10 h)

digits_more : (k n : ℕ) → 10 ≤ n → digits (suc k) n ≡ digits k (n / 10) ++ ((48 + n % 10) ∷ [])
unfolding digits
digits_more k n h = simp (le-ltb n 10 h)

-- any bounds above the number give the same
digits_bound : (j k n : ℕ) → n < j → n < k → digits j n ≡ digits k n
digits_bound zero k n h i = absurd (omega arith)
digits_bound (suc j) zero n h i = absurd (omega arith)
digits_bound (suc j) (suc k) n h i =
    let tenth : 10 ≤ n → digits j (n / 10) ≡ digits k (n / 10) = λ l. digits_bound j k (n / 10) (omega arith) (omega arith) in
    grind (arith, common_steps, digits_one, digits_more)

module _ (n : ℕ) where
  next : n + 1 ≡ suc n
  next = omega arith

  pub one_digit : n < 10 → decimal n ≡ (48 + n) ∷ []
  unfolding decimal
  one_digit h = ap (λ (j : ℕ). digits j n) next ∙ digits_one n n h

  pub more_digits : 10 ≤ n → decimal n ≡ decimal (n / 10) ++ ((48 + n % 10) ∷ [])
  unfolding decimal
  more_digits h =
      ap (λ (j : ℕ). digits j n) next
      ∙ digits_more n n h
      ∙ ap (λ (t : List ℕ). t ++ ((48 + n % 10) ∷ [])) (digits_bound n (n / 10 + 1) (n / 10) (omega arith) (omega arith))

  pub length_one : n < 10 → length (decimal n) ≡ 1
  length_one h = ap length (one_digit h)

  pub length_more : 10 ≤ n → length (decimal n) ≡ length (decimal (n / 10)) + 1
  length_more h = ap length (more_digits h) ∙ length-append (decimal (n / 10)) ((48 + n % 10) ∷ [])

-- a number below the k-th power of 10 has at most k digits, and each number has one
pub digits_within : (k n : ℕ) → n < 10 ^ suc k → length (decimal n) ≤ suc k
digits_within zero n h = omega (arith, length_one n (omega arith))
digits_within (suc k) n h =
    let tenth = digits_within k (n / 10) ((div-lt_iff_lt-mul (omega arith)).1 (subst (λ (m : ℕ). n < m) (pow-suc 10 (suc k)) h)) in
    grind (arith, common_steps, length_one, length_more)

pub some_digits : (n : ℕ) → 0 < length (decimal n)
some_digits n = grind (arith, common_steps, length_one, length_more)

-- the k-th power of 10 has k + 1 digits, and so has every number up to the next; 0 has one
digits_least : (k n : ℕ) → 10 ^ k ≤ n → k < length (decimal n)
digits_least zero n h = some_digits n
digits_least (suc k) n h =
    let m : 10 ^ k * 10 ≤ n = subst (λ (m : ℕ). m ≤ n) (pow-suc 10 k) h in
    let one : 1 ≤ 10 ^ k = one-le-pow k 10 (omega arith) in
    omega (arith, length_more n (omega arith), digits_least k (n / 10) ((le-div_iff_mul-le (omega arith)).1 m))

pub digits_exactly : (k n m : ℕ) → m ≡ max n 1 → 10 ^ k ≤ m → m < 10 * 10 ^ k → k + 1 ≡ length (decimal n)
digits_exactly k n m e low high =
    let within : m < 10 ^ suc k = subst (λ (p : ℕ). m < p) (sym (pow-succ' 10 k)) high in
    let most = digits_within k m within in
    let least = digits_least k m low in
    grind (arith, common_steps, length_one)

-- WRITTEN FROM THE RIGHT: a byte over the last space
pub over_space : (t : List ℕ) (at b : ℕ) → 0 < at → set (spaces at ++ t) (at - 1) b ≡ spaces (at - 1) ++ b ∷ t
over_space t at b h =
    let m : at - 1 + 1 ≡ at = omega arith in
    let more : spaces at ≡ spaces (at - 1) ++ (32 ∷ []) = ap spaces (sym m) ∙ sym (replicate_more {X = ℕ} (at - 1) 32) in
    rw (more, append_assoc) (set_at (spaces (at - 1)) 32 t b (at - 1) (length-replicate (at - 1) 32))

-- a digit before those from a place on
pub digit_before : (t s : List ℕ) (at d : ℕ) → 0 < at → at ≤ length s → t ++ drop (at - 1) (set s (at - 1) d) ≡ (t ++ (d ∷ [])) ++ drop at s
digit_before t s at d h l = let x : at - 1 + 1 ≡ at = omega arith in rw (drop-set s (at - 1) d (omega arith), x, append_assoc) refl

pub ruleset last_digits = (one_digit, more_digits, length_one, length_more, some_digits, over_space, digit_before, drop-set, length-set)

-- SIGNS: a minus sign before the digits
pub length_signed : (b : Bool) (n : ℕ) → length (signed b n) ≡ length (decimal n) + from_bool b
unfolding signed
length_signed true n = omega arith
length_signed false n = omega arith

-- COLUMNS: as long as the wider of column and text
module _ (w : ℕ) (t : List ℕ) where
  pub length_column : length (column w t) ≡ w - length t + length t
  unfolding column
  length_column = simp (length-append, length-replicate)

  pub column_wide : length t ≤ w → length (column w t) ≡ w
  column_wide h = omega (arith, length_column)

pub ruleset cells = (length_signed, length_column, over_space)
