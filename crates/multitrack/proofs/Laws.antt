-- Laws of the name's field.
use mathlib.Core.Path.{◌≡◌, ap, ◌∙◌}
use mathlib.Core.List.{List, ◌++◌}
use Prim.Native.Nat.{ℕ, ◌-◌, min}
use native.Mathlib.Omega.{arith}
use lib.ListN.{length, take, drop, replicate}
use Rattle.std.proofs.lemmas.List.{take_min, length-take, drop-replicate}
use Rattle.multitrack.specs.Descriptor.{name_field}

-- the first bytes of a name, at most `most`, written over the front of `size` zeros
padded : (size most : ℕ) (name kept : List ℕ) (n : ℕ) → n ≡ min (length name) most → kept ≡ take n name
    → kept ++ drop n (replicate size 0) ≡ take most name ++ replicate (size - length (take most name)) 0
padded size most name kept n m k =
    let l : n ≡ length (take most name) = omega (arith, length-take most name) in
    let s : n ≡ min most (length name) = omega arith in
    let t = ap (λ (j : ℕ). take j name) s ∙ take_min most name in
    rw (k, drop-replicate {X = ℕ} n size 0, t, ← l)

pub name_kept : (name kept : List ℕ) (n : ℕ) → n ≡ min (length name) 63 → kept ≡ take n name → kept ++ drop n (replicate 64 0) ≡ name_field name
unfolding name_field
name_kept name kept n m k = padded 64 63 name kept n m k
