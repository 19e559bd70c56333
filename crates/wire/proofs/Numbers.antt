-- Laws of bytes and of big-endian numbers at a position.
use mathlib.Core.Path.{◌≡◌, ap₂}
use mathlib.Core.List.{List, [], ◌∷◌}
use Prim.Native.Nat.{ℕ, ◌+◌, ◌*◌, ◌/◌, ◌%◌, ◌≤◌, ◌<◌}
use native.Mathlib.Omega.{arith}
use native.Mathlib.Nat.{add_assoc}
use lib.ListN.{length, get_or-eq_default}
use Rattle.wire.specs.Wire.{byte_at, be16, be24, be32, be16_at, be24_at, be32_at, be64_at, bytes16, bytes24, bytes32}

-- past the end everything reads as 0
pub past : (p : List ℕ) (i : ℕ) → length p ≤ i → byte_at p i ≡ 0
past p i h = get_or-eq_default p 0 h

module _ (p : List ℕ) (i : ℕ) (h : length p ≤ i) where
  pub be16_past : be16_at p i ≡ 0
  be16_past = omega (arith, past p i h, past p (i + 1) (omega arith))

  pub be24_past : be24_at p i ≡ 0
  be24_past = omega (arith, be16_past, past p (i + 2) (omega arith))

  pub be32_past : be32_at p i ≡ 0
  be32_past = omega (arith, be24_past, past p (i + 3) (omega arith))

-- a number by its first byte and the shorter number behind it
module _ (p : List ℕ) (i : ℕ) where
  pub be24_first : be24_at p i ≡ byte_at p i * 65536 + be16_at p (i + 1)
  be24_first = simp add_assoc

  pub be32_first : be32_at p i ≡ byte_at p i * 16777216 + be24_at p (i + 1)
  be32_first = simp add_assoc

pub be64_past : (p : List ℕ) (i : ℕ) → length p ≤ i → be64_at p i ≡ 0
be64_past p i h = omega (arith, be32_past p i h, be32_past p (i + 4) (omega arith))

-- a number that fits is read back from its bytes, and bytes from their number
pub be16_bytes : (n : ℕ) → n < 65536 → be16 (n / 256 % 256) (n % 256) ≡ n
be16_bytes n h = omega arith

pub be24_bytes : (n : ℕ) → n < 16777216 → be24 (n / 65536 % 256) (n / 256 % 256) (n % 256) ≡ n
be24_bytes n h = omega arith

pub be32_bytes : (n : ℕ) → n < 4294967296 → be32 (n / 16777216 % 256) (n / 65536 % 256) (n / 256 % 256) (n % 256) ≡ n
be32_bytes n h =
    let top : n / 16777216 % 256 ≡ n / 16777216 = omega arith in
    let rest : be24 (n / 65536 % 256) (n / 256 % 256) (n % 256) ≡ n % 16777216 = omega arith in
    omega (arith, top, rest)

pub bytes16_be : (a b : ℕ) → a < 256 → b < 256 → bytes16 (be16 a b) ≡ a ∷ b ∷ []
bytes16_be a b k l = ap₂ (λ (x y : ℕ). x ∷ y ∷ []) (omega arith) (omega arith)

pub bytes24_be : (a b c : ℕ) → a < 256 → b < 256 → c < 256 → bytes24 (be24 a b c) ≡ a ∷ b ∷ c ∷ []
bytes24_be a b c k l m =
    let x : be24 a b c / 65536 % 256 ≡ a = omega arith in
    let y : be24 a b c / 256 % 256 ≡ b = omega arith in
    let z : be24 a b c % 256 ≡ c = omega arith in
    rw (x, y, z)

pub bytes32_be : (a b c d : ℕ) → a < 256 → b < 256 → c < 256 → d < 256 → bytes32 (be32 a b c d) ≡ a ∷ b ∷ c ∷ d ∷ []
bytes32_be a b c d k l m n =
    let w : be32 a b c d / 16777216 % 256 ≡ a = omega arith in
    let x : be32 a b c d / 65536 % 256 ≡ b = omega arith in
    let y : be32 a b c d / 256 % 256 ≡ c = omega arith in
    let z : be32 a b c d % 256 ≡ d = omega arith in
    rw (w, x, y, z)
