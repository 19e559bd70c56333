-- The two rules that need no walk.
use mathlib.Core.Path.{◌≡◌, refl}
use mathlib.Core.Bool.{true, not}
use mathlib.Core.List.{List, [], ◌∷◌}
use Prim.Native.Nat.{ℕ, suc}
use native.Mathlib.Omega.{arith}
use lib.Dec.{eqb}
use lib.ListN.{length}
use borrow.Author.Tests.{ne_eqb}
use Rattle.wire.proofs.Positions.{at-index}
use Rattle.wire.specs.Grammar.{at_end, sealed_rest}
use Rattle.codec_config.specs.Records.{record_grammar, record_valid}
use Rattle.codec_config.specs.declared.ConfigCodec.TheVariants.{Opaque, Opus}

pub opus_valid : (p : List ℕ) → true ≡ record_valid Opus p
unfolding record_valid record_grammar
opus_valid p = simp at-index

pub opaque_valid : (p : List ℕ) → not (eqb (length p) 0) ≡ record_valid Opaque p
unfolding record_valid record_grammar at_end sealed_rest
opaque_valid [] = refl
opaque_valid (x ∷ p) = simp (ne_eqb (suc (length p)) 0 (λ e. omega arith))

pub ruleset no_walk = (opaque_valid, opus_valid)
