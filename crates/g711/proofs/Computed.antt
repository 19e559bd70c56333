-- A test of every number below a bound, which antt computes, and what it gives at each of them.
use mathlib.Core.Path.{◌≡◌}
use mathlib.Core.Bool.{Bool, true, ◌&&◌}
use mathlib.Core.List.{List}
use Prim.Native.Nat.{ℕ, zero, suc, ◌<◌}
use native.Mathlib.Nat.{le_of_suc-le-suc, not-suc-le-zero}
use lib.IntN.{ℤ, pos}
use lib.ListN.{get_or}
use mir.Syntax.{w16}
use mir.Val.{to_z, of_z}
use Rattle.wire.specs.Wire.{same_integer}
use Rattle.wire.proofs.Bools.{and_left, and_right}
use Rattle.wire.proofs.Signs.{same_integer_lem}

abbrev pub all : ℕ → (ℕ → Bool) → Bool
all zero f = true
all (suc n) f = f 0 && all n (λ k. f (suc k))

pub at : (n : ℕ) (f : ℕ → Bool) → all n f ≡ true → (k : ℕ) → k < n → f k ≡ true
at zero f t k h = absurd (not-suc-le-zero h)
at (suc n) f t zero h = and_left (f 0) _ t
at (suc n) f t (suc k) h = at n (λ k. f (suc k)) (and_right (f 0) _ t) k (le_of_suc-le-suc h)

-- A TABLE'S RULE: computed over the whole table, it holds at each entry as it is read
pub ruled : (rule : ℕ → ℤ) (table : List ℤ) → all 256 (λ k. same_integer (to_z w16 (of_z w16 (get_or table k (pos 0)))) (rule k)) ≡ true
    → (k : ℕ) → k < 256 → to_z w16 (of_z w16 (get_or table k (pos 0))) ≡ rule k
ruled rule table t k h = same_integer_lem _ _ (at 256 (λ k. same_integer (to_z w16 (of_z w16 (get_or table k (pos 0)))) (rule k)) t k h)
