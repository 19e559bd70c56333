-- The letters that a record begins with, compared in one go.
use Rattle.std.proofs.Common.{◌≡◌, ◌&&◌, ℕ, List, [], ◌∷◌, length, take, arith, refl, ap₂}
use Rattle.std.proofs.Math.Dec.{eqb}
use Rattle.std.specs.List.{starts_with}
use lib.Pointwise.{pointwise}
use Rattle.wire.specs.Wire.{same_bytes}

eqb_turned : (a b : ℕ) → eqb a b ≡ eqb b a
eqb_turned a b = grind (arith)

bytes_turned : (f q : List ℕ) → pointwise eqb f q ≡ same_bytes q f
unfolding same_bytes
bytes_turned [] [] = refl
bytes_turned [] (y ∷ q) = refl
bytes_turned (x ∷ f) [] = refl
bytes_turned (x ∷ f) (y ∷ q) = ap₂ (λ a b. a && b) (eqb_turned x y) (bytes_turned f q)

pub begins : (p f : List ℕ) → starts_with eqb p f ≡ same_bytes (take (length f) p) f
begins p f = bytes_turned f (take (length f) p)
