-- Laws of `cond`.
use mathlib.Core.Path.{◌≡◌, refl}
use mathlib.Core.Bool.{Bool, true, false, cond, ◌&&◌}

-- either way the same
pub cond_same : {A : Type 0} (a : A) (c : Bool) → cond c a a ≡ a
cond_same a true = refl
cond_same a false = refl

-- the test itself
pub cond_test : (c : Bool) → cond c true false ≡ c
cond_test true = refl
cond_test false = refl

-- one test and another
pub cond_and : (a b : Bool) → cond a b false ≡ (a && b)
cond_and true b = refl
cond_and false b = refl
