-- Laws of the FLAC rule: noninterference, its mask, and the rule by positions, for each test that the code makes.
use mathlib.Core.Path.{◌≡◌, ap, ◌∙◌}
use mathlib.Core.Bool.{true, false, ◌&&◌}
use mathlib.Core.List.{List, ◌++◌}
use Prim.Native.Nat.{ℕ, ◌-◌, ◌%◌, ◌<◌}
use native.Mathlib.Omega.{arith}
use native.Mathlib.Decide.{dec_lt}
use lib.Dec.{eqb, leb}
use lib.ListN.{length}
use borrow.Author.Tests.{lt-ltb, le-leb, lt-leb}
use Rattle.std.specs.List.{starts_with}
use Rattle.wire.specs.Wire.{byte_at, be24, be24_at}
use Rattle.wire.specs.Mask.{open_bytes, sealed_bytes, sealed_from}
use Rattle.wire.specs.Grammar.{Noninterfering, accepted, mask_of}
use Rattle.wire.proofs.Grammars.{noninterference, word_holds}
use Rattle.wire.proofs.Positions.{at-index, word_at}
use Rattle.wire.proofs.Shapes.{shaped_byte, shaped_guard, shaped_word, shaped_there, mask_shape}
use Rattle.fourcc.specs.Fourcc.{flac}
use Rattle.codec_config.specs.Heads.{flac_head}
use Rattle.codec_config.specs.CodecClaims.{is_flac}
use Rattle.codec_config.proofs.Conds.{cond_same, cond_test, cond_and}
use Rattle.codec_config.proofs.Letters.{begins}

pub flac_holds : Noninterfering flac_head
unfolding flac_head
flac_holds = search (noninterference, word_holds) depth 20

module _ (p : List ℕ) where
  pub flac_mask : accepted (flac_head p) ≡ true → mask_of (flac_head p) ≡ sealed_from 8 p
  unfolding flac_head
  flac_mask v =
      let z : length p - 4 - 1 - 1 - 1 - 1 ≡ length p - 8 = omega arith in
      mask_shape flac_head _
      (shaped_word flac _ _
      (shaped_byte _ _ λ b. shaped_guard (eqb (b % 128) 0) _ _
      (shaped_byte _ _ λ x. shaped_byte _ _ λ y. shaped_byte _ _ λ z. shaped_guard (eqb (be24 x y z) 34) _ _ (shaped_there 34))))
      p v
      ∙ ap (λ (n : ℕ). open_bytes 8 ++ sealed_bytes n) z

  pub flac_exactly : accepted (flac_head p) ≡ is_flac p
  unfolding flac_head
  flac_exactly = go (dec_lt (length p) 42)
    where
      go : Dec (length p < 42) → accepted (flac_head p) ≡ is_flac p
      go (yes h) = word_at flac _ p 0 ∙ simp (at-index, lt-leb 42 (length p) h, lt-leb 34 (length p - 8) (omega arith), cond_same false)
      go (no h) =
          word_at flac _ p 0
          ∙ simp (
            at-index,
            le-leb 42 (length p) (omega arith),
            lt-ltb 4 (length p) (omega arith),
            lt-ltb 5 (length p) (omega arith),
            lt-ltb 6 (length p) (omega arith),
            lt-ltb 7 (length p) (omega arith),
            le-leb 34 (length p - 8) (omega arith),
            cond_test,
            cond_and,
          )

  -- by the tests of the code
  pub flac_tests : accepted (flac_head p) ≡ (leb 42 (length p) && (starts_with eqb p flac && (eqb (byte_at p 4 % 128) 0 && eqb (be24_at p 5) 34)))
  flac_tests = flac_exactly ∙ simp begins
