-- Laws of the room that entries take.
use mathlib.Core.Path.{◌≡◌, refl, sym, ap₂, ◌∙◌}
use mathlib.Core.Bool.{Bool, true, false, cond}
use mathlib.Core.List.{List, [], ◌∷◌}
use Prim.Native.Nat.{ℕ, ◌+◌, ◌≤◌, ◌<◌}
use lib.Dec.{ltb}
use lib.ListN.{length, get_or, drop, drop_of_length-le}
use Rattle.std.specs.Prelude.{sum_by}
use Rattle.std.proofs.lemmas.List.Sums.{sum_by-cons, sum_by-drop_more}
use Rattle.writers.specs.Lengths.{with_head}

-- one more entry, or none
pub sum_behind : (f : ℕ → ℕ) (xs : List ℕ) (i : ℕ) → i < length xs → sum_by f (drop i xs) ≡ f (get_or xs i 0) + sum_by f (drop (i + 1) xs)
sum_behind f xs i l = sum_by-drop_more f xs i 0 l

pub sum_none : (f : ℕ → ℕ) (xs : List ℕ) (i : ℕ) → length xs ≤ i → sum_by f (drop i xs) ≡ 0
sum_none f xs i l = rw (drop_of_length-le xs l)

-- the same number of bytes before each entry
pub sum_alike : (each : ℕ) (xs : List ℕ) → sum_by (with_head each each) xs ≡ sum_by (λ n. each + n) xs
sum_alike each [] = refl
sum_alike each (x ∷ xs) =
    sum_by-cons (with_head each each) x xs ∙ ap₂ (λ (a b : ℕ). a + x + b) (either (ltb x 256)) (sum_alike each xs) ∙ sym (sum_by-cons (λ n. each + n) x xs)
  where
    either : (b : Bool) → cond b each each ≡ each
    either true = refl
    either false = refl
