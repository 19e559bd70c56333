-- Laws of the Opus rule: noninterference, its mask, and the rule by positions, for each test that the code makes.
use mathlib.Core.Path.{◌≡◌, refl, sym, ap, ◌∙◌}
use mathlib.Core.Bool.{Bool, true, false, cond, not, ◌&&◌, ◌||◌, and-false}
use mathlib.Core.List.{List, ◌++◌}
use Prim.Native.Nat.{ℕ, ◌+◌, ◌-◌, ◌/◌, ◌≤◌, ◌<◌}
use native.Mathlib.Omega.{arith}
use native.Mathlib.Decide.{dec_lt}
use lib.Dec.{eqb, ltb, leb}
use lib.ListN.{length}
use borrow.Author.Tests.{lt-ltb, le-leb, lt-leb}
use Rattle.wire.specs.Wire.{byte_at, high}
use Rattle.wire.specs.Mask.{open_bytes, sealed_bytes}
use Rattle.wire.specs.Grammar.{Noninterfering, accepted, mask_of}
use Rattle.wire.proofs.Grammars.{noninterference, word_holds}
use Rattle.wire.proofs.Positions.{at-index, word_at}
use Rattle.wire.proofs.Shapes.{shaped_rest, shaped_byte, shaped_guard, shaped_branch, shaped_word, shaped_skip, shaped_there, mask_shape}
use Rattle.codec_config.specs.Heads.{opus_mapping, opus_head_letters, opus_head}
use Rattle.codec_config.specs.CodecClaims.{mapping_fits, is_opus_head}
use Rattle.codec_config.proofs.Conds.{cond_same, cond_test, cond_and}
use Rattle.codec_config.proofs.Letters.{begins}
use Rattle.std.specs.List.{starts_with}
use Rattle.std.proofs.lemmas.Grind.{common_steps}

pub opus_head_holds : Noninterfering opus_head
unfolding opus_head opus_mapping
opus_head_holds = search (noninterference, word_holds) depth 20

-- the mask of a header
pub opus_head_mask : (p : List ℕ) → accepted (opus_head p) ≡ true
    → mask_of (opus_head p) ≡ open_bytes 10 ++ (sealed_bytes 8 ++ (open_bytes 1 ++ sealed_bytes (length p - 19)))
unfolding opus_head opus_mapping
opus_head_mask p v =
    let z : length p - 8 - 1 - 1 - 8 - 1 ≡ length p - 19 = omega arith in
    mask_shape opus_head _
    (shaped_word opus_head_letters _ _
    (shaped_byte _ _ λ version. shaped_guard (eqb (high version) 0) _ _
    (shaped_byte _ _ λ channels. shaped_guard (ltb 0 channels) _ _
    (shaped_skip 8 _ _
    (shaped_byte _ _ λ family. shaped_branch (eqb family 0) _ _ _
    (shaped_guard (leb channels 2) _ _ shaped_rest)
    (shaped_guard (not (eqb family 1) || leb channels 8) _ _ (shaped_there (2 + channels))))))))
    p v
    ∙ ap (λ (n : ℕ). open_bytes 10 ++ (sealed_bytes 8 ++ (open_bytes 1 ++ sealed_bytes n))) z

-- from the mapping family on, in a header of 19 bytes or more
module _ (family channels size : ℕ) (long : 19 ≤ size) where
  there : leb (2 + channels) (size - 19) ≡ leb (21 + channels) size
  there = grind (arith, common_steps)

  mapping : cond (eqb family 0) (leb channels 2) ((not (eqb family 1) || leb channels 8) && leb (2 + channels) (size - 19)) ≡ mapping_fits family channels size
  unfolding mapping_fits
  mapping = rw there (go (eqb family 1))
    where
      go : (one : Bool) → cond (eqb family 0) (leb channels 2) ((not one || leb channels 8) && leb (21 + channels) size)
          ≡ cond (eqb family 0) (leb channels 2) (cond one (leb channels 8 && leb (21 + channels) size) (leb (21 + channels) size))
      go true = refl
      go false = refl

-- a version byte below 16 has major version 0
major_0 : (b : ℕ) → eqb (high b) 0 ≡ ltb b 16
major_0 b = grind (arith, common_steps)

-- THE HEADER
module _ (p : List ℕ) where
  pub opus_exactly : accepted (opus_head p) ≡ is_opus_head p
  unfolding opus_head opus_mapping
  opus_exactly = go (dec_lt (length p) 19)
    where
      go : Dec (length p < 19) → accepted (opus_head p) ≡ is_opus_head p
      go (yes h) = word_at opus_head_letters _ p 0 ∙ simp (at-index, lt-leb 19 (length p) h, cond_same false)
      go (no h) =
          word_at opus_head_letters _ p 0
          ∙ simp (
            at-index,
            le-leb 19 (length p) (omega arith),
            lt-ltb 8 (length p) (omega arith),
            lt-ltb 9 (length p) (omega arith),
            le-leb 8 (length p - 10) (omega arith),
            major_0 (byte_at p 8),
            cond_test,
            mapping (byte_at p 18) (byte_at p 9) (length p) (omega arith),
            cond_and,
          )

  -- by the tests of the code
  pub opus_short : length p < 19 → accepted (opus_head p) ≡ false
  opus_short h = opus_exactly ∙ simp (lt-leb 19 (length p) h)

  pub opus_letters : starts_with eqb p opus_head_letters ≡ false → accepted (opus_head p) ≡ false
  opus_letters e = opus_exactly ∙ simp (sym (begins p opus_head_letters) ∙ e, and-false)

  pub opus_tests : 19 ≤ length p → starts_with eqb p opus_head_letters ≡ true
      → accepted (opus_head p) ≡ (eqb (byte_at p 8 / 16) 0 && (ltb 0 (byte_at p 9) && mapping_fits (byte_at p 18) (byte_at p 9) (length p)))
  opus_tests h e = opus_exactly ∙ simp (sym (begins p opus_head_letters) ∙ e, le-leb 19 (length p) h, major_0)

pub ruleset opus_head_at = (opus_short, opus_letters, opus_tests)
