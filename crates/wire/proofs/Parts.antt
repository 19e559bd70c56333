-- Parts of a payload.
use mathlib.Core.Path.{◌≡◌, sym, ap, ◌∙◌}
use mathlib.Core.List.{List, ◌∷◌, ◌++◌}
use Prim.Native.Nat.{ℕ, ◌+◌, ◌-◌, ◌≤◌, ◌<◌}
use native.Mathlib.Numerals.{add-one}
use native.Mathlib.Omega.{arith}
use lib.ListN.{length, take, drop, length-drop, take-append-drop}
use lib.Seq.{drop-cons, drop-drop, get_or-drop, length-take-le, take_all}
use Rattle.wire.specs.Wire.{byte_at, part}

-- what the functions cut out: the front up to n, the rest from i on
pub front_part : (n : ℕ) (p r : List ℕ) → take n p ≡ r → take (n - 0) (drop 0 p) ≡ r
front_part n p r e = let d : n - 0 ≡ n = omega arith in rw d e

pub rest_part : (p : List ℕ) (i : ℕ) → take (length p - i) (drop i p) ≡ drop i p
rest_part p i = take_all (length p - i) (drop i p) (omega (arith, length-drop i p))

-- from a position on: one byte, a part
module _ (p : List ℕ) (i : ℕ) where
  pub from_byte : i < length p → drop i p ≡ byte_at p i ∷ drop (i + 1) p
  from_byte h = rw (add-one, ← drop-cons p i 0 h)

  pub from_part : (n : ℕ) → drop i p ≡ part p i n ++ drop (i + n) p
  from_part n = sym (take-append-drop n (drop i p)) ∙ ap (λ (r : List ℕ). part p i n ++ r) (drop-drop n i p)

  pub length_part : (n : ℕ) → i + n ≤ length p → length (part p i n) ≡ n
  length_part n h = length-take-le n (drop i p) (omega (arith, length-drop i p))

-- what stands from i on, byte by byte
module _ (p : List ℕ) where
  pub at_drop : (i j : ℕ) (s : List ℕ) → drop i p ≡ s → byte_at p (i + j) ≡ byte_at s j
  at_drop i j s e = sym (get_or-drop i p j 0) ∙ ap (λ (r : List ℕ). byte_at r j) e

  pub at_first : (i : ℕ) (s : List ℕ) → drop i p ≡ s → byte_at p i ≡ byte_at s 0
  at_first i s e = let z : i + 0 ≡ i = omega arith in ap (byte_at p) (sym z) ∙ at_drop i 0 s e
