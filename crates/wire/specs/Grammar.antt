-- Grammars with open and sealed parts. A grammar accepts a list of bytes and then gives its mask, or it refuses.
-- A definition made of these parts shows of each byte whether it is read, and so open, or passed over, and so sealed.
use Rattle.std.specs.Prelude.{◌≡◌, Bool, true, false, cond, List, [], ◌∷◌, ◌++◌, ℕ, length, drop, leb}
use Rattle.std.specs.Prelude.{eqb}
use Rattle.std.proofs.Math.Option.{Option, none, some}
use Rattle.wire.specs.Mask.{Mask, open_bytes, sealed_bytes, LowEquivalent, sealed_at}

abbrev pub Grammar : Type 0
Grammar = List ℕ → Option Mask

-- a mask in front of the mask of what follows
abbrev pub after : Mask → Option Mask → Option Mask
after m none = none
after m (some n) = some (m ++ n)

-- what a test lets through
abbrev pub require : {A : Type 0} → Bool → Option A → Option A
require true o = o
require false o = none

-- refusal
unfoldable pub refuse : Grammar
refuse p = none

-- one open byte; what follows may depend on it
unfoldable pub byte : (ℕ → Grammar) → Grammar
byte g [] = none
byte g (x ∷ p) = after (open_bytes 1) (g x p)

-- n sealed bytes
unfoldable pub skip : ℕ → Grammar → Grammar
skip n g p = require (leb n (length p)) (after (sealed_bytes n) (g (drop n p)))

-- a condition on what was read
unfoldable pub guard : Bool → Grammar → Grammar
guard c g p = require c (g p)

-- these bytes, open
unfoldable pub word : List ℕ → Grammar → Grammar
word [] g = g
word (x ∷ xs) g = byte λ b. guard (eqb b x) (word xs g)

-- one of two grammars, by what was read
unfoldable pub branch : Bool → Grammar → Grammar → Grammar
branch c g h p = cond c (g p) (h p)

-- before the end of the bytes, g; at the end, accepted or refused
unfoldable pub at_end : Bool → Grammar → Grammar
at_end c g [] = require c (some [])
at_end c g (x ∷ p) = g (x ∷ p)

-- the end of the bytes
abbrev pub end : Grammar
end = at_end true refuse

-- the end of the bytes, or more
abbrev pub end_or : Grammar → Grammar
end_or g = at_end true g

-- at least one more byte
abbrev pub non_empty : Grammar → Grammar
non_empty g = at_end false g

-- all bytes that are left, sealed
unfoldable pub sealed_rest : Grammar
sealed_rest p = some (sealed_bytes (length p))

-- all bytes that are left, open, under a test of them
unfoldable pub open_rest : (List ℕ → Bool) → Grammar
open_rest t p = require (t p) (some (open_bytes (length p)))

-- whether a grammar accepts, and what is then sealed; where it refuses, nothing is
abbrev pub accepted : Option Mask → Bool
accepted none = false
accepted (some m) = true

abbrev pub mask_of : Option Mask → Mask
mask_of none = []
mask_of (some m) = m

-- NONINTERFERENCE: what the sealed bytes hold changes neither acceptance nor the mask
pub record Noninterfering (g : Grammar) : Type 0 where
  pub holds : (p q : List ℕ) (m : Mask) → g p ≡ some m → LowEquivalent (sealed_at m) p q → g q ≡ some m
