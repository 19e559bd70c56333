-- Laws of the AV1 rule: noninterference, its mask, and the rule by positions, for each test that the code makes.
use mathlib.Core.Path.{◌≡◌, ◌∙◌}
use mathlib.Core.Bool.{true, false}
use mathlib.Core.List.{List}
use Prim.Native.Nat.{ℕ, ◌-◌, ◌≤◌}
use native.Mathlib.Omega.{arith}
use native.Mathlib.Decide.{dec_le}
use lib.Dec.{eqb}
use lib.ListN.{length}
use borrow.Author.Tests.{lt-ltb, le-leb, lt-leb}
use Rattle.wire.specs.Mask.{sealed_from}
use Rattle.wire.specs.Grammar.{Noninterfering, accepted, mask_of}
use Rattle.wire.proofs.Grammars.{noninterference}
use Rattle.wire.proofs.Positions.{at-index, byte_at_lem}
use Rattle.wire.proofs.Shapes.{shaped_byte, shaped_guard, shaped_there, mask_shape}
use Rattle.codec_config.specs.Heads.{av1}
use Rattle.codec_config.specs.CodecClaims.{is_av1}
use Rattle.codec_config.proofs.Conds.{cond_same, cond_test}

pub av1_holds : Noninterfering av1
unfolding av1
av1_holds = search noninterference depth 20

module _ (p : List ℕ) where
  pub av1_mask : accepted (av1 p) ≡ true → mask_of (av1 p) ≡ sealed_from 1 p
  unfolding av1
  av1_mask v = mask_shape av1 _ (shaped_byte _ _ (λ b. shaped_guard (eqb b 0x81) _ _ (shaped_there 3))) p v

  pub av1_exactly : accepted (av1 p) ≡ is_av1 p
  unfolding av1
  av1_exactly = go (dec_le 4 (length p))
    where
      go : Dec (4 ≤ length p) → accepted (av1 p) ≡ is_av1 p
      go (yes h) =
          byte_at_lem _ p 0
          ∙ simp (at-index, lt-ltb 0 (length p) (omega arith), le-leb 3 (length p - 1) (omega arith), le-leb 4 (length p) h, cond_test)
      go (no h) = byte_at_lem _ p 0 ∙ simp (at-index, lt-leb 3 (length p - 1) (omega arith), lt-leb 4 (length p) (omega arith), cond_same false)
