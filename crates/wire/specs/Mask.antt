-- Masks of sealed bytes. Sealed are the bytes that the relay has no business to act on: docs/REQUIREMENTS.md lists them under "Sealed bytes", and demand 3
-- then proves that no answer depends on what they hold. Every other byte is open, whether or not an answer depends on it.
-- A mask is a list of Bool, true where the byte is sealed. Past its end every byte is open, so [] seals nothing.
use Rattle.std.specs.Prelude.{◌≡◌, Bool, true, false, List, ◌++◌, ℕ, ◌-◌, ◌<◌, length, get_or, replicate}

abbrev pub Mask : Type 0
Mask = List Bool

-- whether a mask seals the byte at a position
unfoldable pub sealed_at : Mask → ℕ → Bool
sealed_at m i = get_or m i false

-- n open bytes; n sealed bytes
abbrev pub open_bytes : ℕ → Mask
open_bytes n = replicate n false

abbrev pub sealed_bytes : ℕ → Mask
sealed_bytes n = replicate n true

-- a payload sealed from a position on
abbrev pub sealed_from : ℕ → List ℕ → Mask
sealed_from n p = open_bytes n ++ sealed_bytes (length p - n)

-- LOW-EQUIVALENCE, agreement outside the sealed bytes: the same length, and the same byte at every index below it that is not sealed.
-- Which bytes are sealed is a test of the index; for a mask it is `sealed_at m`
pub record LowEquivalent (sealed : ℕ → Bool) (p q : List ℕ) : Type 0 where
  pub long : length p ≡ length q
  pub same : (i : ℕ) → i < length p → sealed i ≡ false → get_or p i 0 ≡ get_or q i 0
