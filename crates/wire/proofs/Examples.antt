-- The laws tried on two small grammars: one that keeps them, and one that looks at a byte that it marks sealed.
use mathlib.Core.Path.{◌≡◌, refl}
use mathlib.Core.Bool.{true, false, cond}
use mathlib.Core.Option.{none, some, none-ne-some}
use mathlib.Core.List.{List, [], ◌∷◌}
use Prim.Native.Nat.{ℕ, zero, suc, ◌+◌, ◌-◌, ◌<◌}
use native.Mathlib.Omega.{arith}
use lib.Dec.{eqb, ltb, leb}
use lib.ListN.{length, drop}
use Rattle.wire.specs.Wire.{byte_at, be16}
use Rattle.wire.specs.Mask.{sealed_at, sealed_bytes}
use Rattle.wire.specs.Grammar.{Grammar, byte, skip, guard, branch, end, sealed_rest, require, accepted, Noninterfering}
use Rattle.wire.proofs.Grammars.{noninterference}
use Rattle.wire.proofs.Positions.{at-index}

-- a kind, a 16-bit length and that many sealed bytes; then, by the kind, the end or a byte that is not 0 and anything after
small : Grammar
small = byte λ kind. byte λ h. byte λ l. skip (be16 h l) (branch (eqb kind 1) end (byte λ b. guard (ltb 0 b) sealed_rest))

small_noninterfering : Noninterfering small
unfolding small
small_noninterfering = search noninterference depth 20

-- the same as tests at an index
small_at : (p : List ℕ) (i : ℕ) → accepted (small (drop i p))
    ≡ cond (ltb i (length p)) (cond (ltb (i + 1) (length p)) (cond (ltb (i + 1 + 1) (length p))
    (cond (leb (be16 (byte_at p (i + 1)) (byte_at p (i + 1 + 1))) (length p - (i + 1 + 1 + 1)))
    (cond (eqb (byte_at p i) 1) (cond (ltb (i + 1 + 1 + 1 + be16 (byte_at p (i + 1)) (byte_at p (i + 1 + 1))) (length p)) false true)
    (cond (ltb (i + 1 + 1 + 1 + be16 (byte_at p (i + 1)) (byte_at p (i + 1 + 1))) (length p))
    (cond (ltb 0 (byte_at p (i + 1 + 1 + 1 + be16 (byte_at p (i + 1)) (byte_at p (i + 1 + 1))))) true false) false)) false) false) false) false
unfolding small
small_at p i = simp at-index

-- one byte, marked sealed, that must be 1
peeking : Grammar
peeking [] = none
peeking (x ∷ p) = require (eqb x 1) (some (sealed_bytes 1))

-- `01` is accepted with its byte sealed, and `02` agrees with it outside that mask and is refused
peeking_interferes : Noninterfering peeking → ⊥
unfolding peeking sealed_at
peeking_interferes n = none-ne-some _ (n.holds (1 ∷ []) (2 ∷ []) (true ∷ []) refl (record { long = refl; same = open_byte }))
  where
    open_byte : (i : ℕ) → i < 1 → sealed_at (true ∷ []) i ≡ false → byte_at (1 ∷ []) i ≡ byte_at (2 ∷ []) i
    open_byte zero h e = let z : ◌≡◌ {A = ℕ} 0 1 = cc in absurd (omega arith)
    open_byte (suc i) h e = absurd (omega arith)
