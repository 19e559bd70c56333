-- Laws of entries: values, tests and sums over n numbers from i on.
use mathlib.Core.Path.{◌≡◌, refl, sym, ap, ap₂, ◌∙◌}
use mathlib.Core.Bool.{Bool, false, not, ◌||◌}
use mathlib.Core.List.{List, [], ◌∷◌}
use Prim.Native.Nat.{ℕ, zero, suc, ◌+◌, ◌-◌, ◌≤◌, ◌<◌}
use native.Mathlib.Decide.{ℕ_discrete}
use native.Mathlib.Omega.{arith}
use lib.Dec.{eqb, ltb}
use lib.ListN.{length, get_or, take}
use lib.Seq.{get_or-take}
use Rattle.std.proofs.lemmas.List.{length-take-le}
use Rattle.std.proofs.lemmas.Slice.Zip.{get_or-zip, length-zip}
use Rattle.std.proofs.lemmas.List.Sums.{sum_by-cons}
use Rattle.std.specs.Prelude.{sum_by, zip}
use Rattle.std.specs.List.{list_any}
use Rattle.wire.proofs.Bools.{or_no_left, or_no_right}
use Rattle.writers.specs.Columns.{entry, leaves, is_outside, is_other, values_from, some_from, sum_from}

module _ {A : Type 0} (f : ℕ → A) where
  pub length_values : (i n : ℕ) → length (values_from f i n) ≡ n
  unfolding values_from
  length_values i zero = refl
  length_values i (suc n) = ap suc (length_values (i + 1) n)

  pub values_at : (i n j : ℕ) (d : A) → j < n → get_or (values_from f i n) j d ≡ f (i + j)
  unfolding values_from
  values_at i zero j d l = absurd (omega arith)
  values_at i (suc n) zero d l = let e : i ≡ i + 0 = omega arith in ap f e
  values_at i (suc n) (suc j) d l = let e : i + 1 + j ≡ i + suc j = omega arith in values_at (i + 1) n j d (omega arith) ∙ ap f e

  pub value_below : (n j : ℕ) (d : A) → j < n → get_or (values_from f 0 n) j d ≡ f j
  value_below n j d l = let e : 0 + j ≡ j = omega arith in values_at 0 n j d l ∙ ap f e

-- a test that holds nowhere
module _ (t : ℕ → Bool) where
  pub nowhere : (i n : ℕ) → some_from t i n ≡ false → (j : ℕ) → i ≤ j → j < i + n → t j ≡ false
  unfolding some_from
  nowhere i zero e j l m = absurd (omega arith)
  nowhere i (suc n) e j l m = go (nowhere (i + 1) n (or_no_right (t i) _ e) j) (ℕ_discrete j i)
    where
      go : (i + 1 ≤ j → j < i + 1 + n → t j ≡ false) → Dec (j ≡ i) → t j ≡ false
      go ih (yes q) = rw q (or_no_left (t i) _ e)
      go ih (no q) = ih (omega arith) (omega arith)

  pub not_somewhere : (i n : ℕ) → ((j : ℕ) → i ≤ j → j < i + n → t j ≡ false) → some_from t i n ≡ false
  unfolding some_from
  not_somewhere i zero h = refl
  not_somewhere i (suc n) h = rw (h i (omega arith) (omega arith)) (not_somewhere (i + 1) n (λ j l m. h j (omega arith) (omega arith)))

  -- from 0 on
  pub below : (n : ℕ) → some_from t 0 n ≡ false → (j : ℕ) → j < n → t j ≡ false
  below n e j l = nowhere 0 n e j (omega arith) (omega arith)

  pub not_below : (n : ℕ) → ((j : ℕ) → j < n → t j ≡ false) → some_from t 0 n ≡ false
  not_below n h = not_somewhere 0 n (λ j l m. h j (omega arith))

-- A COLUMN CUT TO ITS FIRST ENTRIES: whether a test holds at one of them, and the sum over them
any_along : {A : Type 0} (p : A → Bool) (d : A) (t : ℕ → Bool) (xs : List A) (i : ℕ) → ((j : ℕ) → j < length xs → p (get_or xs j d) ≡ t (i + j))
    → list_any p xs ≡ some_from t i (length xs)
unfolding some_from
any_along p d t [] i h = refl
any_along p d t (x ∷ xs) i h =
    let z : i + 0 ≡ i = omega arith in
    ap₂ (λ (a b : Bool). a || b) (h 0 (omega arith) ∙ ap t z)
    (any_along p d t xs (i + 1) (λ j l. let e : i + suc j ≡ i + 1 + j = omega arith in h (suc j) (omega arith) ∙ ap t e))

sum_along : (f t : ℕ → ℕ) (xs : List ℕ) (i : ℕ) → ((j : ℕ) → j < length xs → f (get_or xs j 0) ≡ t (i + j)) → sum_by f xs ≡ sum_from t i (length xs)
unfolding sum_from
sum_along f t [] i h = refl
sum_along f t (x ∷ xs) i h =
    let z : i + 0 ≡ i = omega arith in
    sum_by-cons f x xs ∙ ap₂ (λ (a b : ℕ). a + b) (h 0 (omega arith) ∙ ap t z)
    (sum_along f t xs (i + 1) (λ j l. let e : i + suc j ≡ i + 1 + j = omega arith in h (suc j) (omega arith) ∙ ap t e))

module _ (n : ℕ) (xs : List ℕ) (l : n ≤ length xs) where
  any_cut : (p : ℕ → Bool) (t : ℕ → Bool) → ((j : ℕ) → p (entry xs j) ≡ t j) → some_from t 0 n ≡ list_any p (take n xs)
  any_cut p t h =
      let s : length (take n xs) ≡ n = length-take-le n xs l in
      sym
      (any_along p 0 t (take n xs) 0 (λ j m. let k : j < n = omega arith in let z : 0 + j ≡ j = omega arith in ap p (get_or-take n xs j 0 k) ∙ h j ∙ sym (ap t z))
      ∙ ap (some_from t 0) s)

  pub any_outside : (least most : ℕ) → some_from (is_outside least most xs) 0 n ≡ list_any (λ x. ltb x least || ltb most x) (take n xs)
  any_outside least most = any_cut (λ x. ltb x least || ltb most x) (is_outside least most xs) (λ j. refl)

  pub any_other : some_from (is_other xs) 0 n ≡ list_any (λ y. not (eqb y (entry xs 0))) (take n xs)
  any_other = any_cut (λ y. not (eqb y (entry xs 0))) (is_other xs) (λ j. refl)

  pub sum_cut : (f : ℕ → ℕ) → sum_from (λ j. f (entry xs j)) 0 n ≡ sum_by f (take n xs)
  sum_cut f =
      let s : length (take n xs) ≡ n = length-take-le n xs l in
      sym
      (sum_along f (λ j. f (entry xs j)) (take n xs) 0 (λ j m. let k : j < n = omega arith in let z : 0 + j ≡ j = omega arith in rw (z, get_or-take n xs j 0 k))
      ∙ ap (sum_from (λ j. f (entry xs j)) 0) s)

-- of a pair of columns: whether a part leaves what was lent
pub any_leaves : (lent starts lengths : List ℕ) (n : ℕ) → n ≤ length starts → n ≤ length lengths
    → some_from (leaves lent starts lengths) 0 n ≡ list_any (λ p. ltb (length lent) (p.0 + p.1)) (zip (take n starts) (take n lengths))
any_leaves lent starts lengths n l m =
    let s : length (take n starts) ≡ n = length-take-le n starts l in
    let t : length (take n lengths) ≡ n = length-take-le n lengths m in
    let u : length (zip (take n starts) (take n lengths)) ≡ n = omega (arith, length-zip (take n starts) (take n lengths)) in
    let p : ℕ × ℕ → Bool = λ p. ltb (length lent) (p.0 + p.1) in
    sym
    (any_along p (0, 0) (leaves lent starts lengths) (zip (take n starts) (take n lengths)) 0
    (λ j k. let h : j < n = omega arith in let z : 0 + j ≡ j = omega arith in
    let a : j < length (take n starts) = omega arith in
    let b : j < length (take n lengths) = omega arith in
    ap p (get_or-zip (take n starts) (take n lengths) j (0, 0) a b)
    ∙ ap₂ (λ (x y : ℕ). ltb (length lent) (x + y)) (get_or-take n starts j 0 h) (get_or-take n lengths j 0 h)
    ∙ sym (ap (leaves lent starts lengths) z))
    ∙ ap (some_from (leaves lent starts lengths) 0) u)

-- for a loop that is at i: one more at the front, and none at its end
module _ {A : Type 0} (f : ℕ → A) where
  pub values_next : (i n : ℕ) → i < n → values_from f i (n - i) ≡ f i ∷ values_from f (i + 1) (n - (i + 1))
  unfolding values_from
  values_next i n l = let d : n - i ≡ suc (n - (i + 1)) = omega arith in rw d

  pub values_end : (i n : ℕ) → n ≤ i → values_from f i (n - i) ≡ []
  unfolding values_from
  values_end i n l = let d : n - i ≡ 0 = omega arith in rw d

  pub values_start : (n : ℕ) → values_from f 0 (n - 0) ≡ values_from f 0 n
  values_start n = let z : n - 0 ≡ n = omega arith in rw z

module _ (f : ℕ → ℕ) where
  pub sum_next : (i n : ℕ) → i < n → sum_from f i (n - i) ≡ f i + sum_from f (i + 1) (n - (i + 1))
  unfolding sum_from
  sum_next i n l = let d : n - i ≡ suc (n - (i + 1)) = omega arith in rw d

  pub sum_end : (i n : ℕ) → n ≤ i → sum_from f i (n - i) ≡ 0
  unfolding sum_from
  sum_end i n l = let d : n - i ≡ 0 = omega arith in rw d

  pub sum_start : (n : ℕ) → sum_from f 0 (n - 0) ≡ sum_from f 0 n
  sum_start n = let z : n - 0 ≡ n = omega arith in rw z

-- values and sums at equal entries
pub sum_same : (f g : ℕ → ℕ) (i n : ℕ) → ((j : ℕ) → i ≤ j → j < i + n → f j ≡ g j) → sum_from f i n ≡ sum_from g i n
unfolding sum_from
sum_same f g i zero h = refl
sum_same f g i (suc n) h = ap₂ (λ (a b : ℕ). a + b) (h i (omega arith) (omega arith)) (sum_same f g (i + 1) n (λ j l m. h j (omega arith) (omega arith)))

pub values_same : {A : Type 0} (f g : ℕ → A) (i n : ℕ) → ((j : ℕ) → i ≤ j → j < i + n → f j ≡ g j) → values_from f i n ≡ values_from g i n
unfolding values_from
values_same f g i zero h = refl
values_same {A} f g i (suc n) h = ap₂ (λ (a : A) (s : List A). a ∷ s) (h i (omega arith) (omega arith)) (values_same f g (i + 1) n (λ j l m. h j (omega arith) (omega arith)))

-- one more at the end
pub sum_last : (f : ℕ → ℕ) (i n : ℕ) → sum_from f i (n + 1) ≡ sum_from f i n + f (i + n)
unfolding sum_from
sum_last f i zero = let e : i ≡ i + 0 = omega arith in rw (← e) (omega arith)
sum_last f i (suc n) =
    let e : i + 1 + n ≡ i + suc n = omega arith in
    let d : suc n + 1 ≡ suc (n + 1) = omega arith in
    rw d (omega (arith, sum_last f (i + 1) n, ap f e))
