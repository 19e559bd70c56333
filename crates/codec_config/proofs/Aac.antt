-- Laws of the AAC rule: its fields by bits, and the rule for each test that the code makes of the first 16 bits.
use mathlib.Core.Path.{◌≡◌, refl, sym, ap, ◌∙◌}
use mathlib.Core.Bool.{false}
use mathlib.Core.List.{List}
use Prim.Native.Nat.{ℕ, suc, ◌+◌, ◌*◌, ◌/◌, ◌%◌, ◌<◌}
use native.Mathlib.Omega.{arith}
use lib.Dec.{leb}
use lib.ListN.{length}
use borrow.Author.Tests.{lt-ltb, ne_eqb}
use Rattle.std.specs.Int.{div_ceil}
use Rattle.std.proofs.lemmas.Grind.{common_steps}
use Rattle.wire.specs.Wire.{byte_at, be16_at, Bytes}
use Rattle.wire.proofs.Positions.{open_rest_at}
use Rattle.codec_config.specs.Records.{bit_at, bits_at, frequency_bit, frequency_valid, aac, record_grammar, record_valid}
use Rattle.codec_config.specs.declared.ConfigCodec.TheVariants.{Aac}

-- BITS, one more at a time
module _ (p : List ℕ) (i : ℕ) where
  none_yet : bits_at p i 0 ≡ 0
  unfolding bits_at
  none_yet = refl

  more : (n a b : ℕ) → bits_at p i n ≡ a → a * 2 + bit_at p (i + n) ≡ b → bits_at p i (suc n) ≡ b
  unfolding bits_at
  more n a b e f = ap (λ (z : ℕ). z * 2 + bit_at p (i + n)) e ∙ f

-- the object type, and the frequency index at bit 5 and at bit 11, in the number w of the first 16 bits
module _ (p : List ℕ) (bytes : Bytes p) (w : ℕ) (first : w ≡ be16_at p 0) where
  object_type : bits_at p 0 5 ≡ w / 2048
  unfolding bit_at
  object_type =
      more p 0 4 (byte_at p 0 / 16) _
      (more p 0 3 (byte_at p 0 / 32) _
      (more p 0 2 (byte_at p 0 / 64) _
      (more p 0 1 (byte_at p 0 / 128) _
      (more p 0 0 0 _ (none_yet p 0) (omega (arith, bytes 0))) (omega arith)) (omega arith)) (omega arith)) (omega (arith, bytes 1))

  index_at_5 : bits_at p 5 4 ≡ w / 128 % 16
  unfolding bit_at
  index_at_5 =
      more p 5 3 (byte_at p 0 % 8) _
      (more p 5 2 (byte_at p 0 / 2 % 4) _
      (more p 5 1 (byte_at p 0 / 4 % 2) _
      (more p 5 0 0 _ (none_yet p 5) (omega arith)) (omega arith)) (omega arith)) (omega (arith, bytes 1))

  index_at_11 : bits_at p 11 4 ≡ w / 2 % 16
  unfolding bit_at
  index_at_11 =
      more p 11 3 (byte_at p 1 / 4 % 8) _
      (more p 11 2 (byte_at p 1 / 8 % 4) _
      (more p 11 1 (byte_at p 1 / 16 % 2) _
      (more p 11 0 0 _ (none_yet p 11) (omega arith)) (omega arith)) (omega arith)) (omega arith)

  -- THE RECORD
  valid : record_valid Aac p ≡ aac p
  unfolding record_valid record_grammar
  valid = open_rest_at aac p

  pub type_0 : w / 2048 ≡ 0 → false ≡ record_valid Aac p
  unfolding aac
  type_0 e = sym (valid ∙ simp (object_type, e))

  pub type_31 : w / 2048 ≡ 31 → frequency_valid (w / 2 % 16) 11 (length p) ≡ record_valid Aac p
  unfolding aac frequency_bit
  type_31 e = sym (valid ∙ simp (object_type, e, index_at_11))

  pub type_other : 0 < w / 2048 → (w / 2048 ≡ 31 → ⊥) → frequency_valid (w / 128 % 16) 5 (length p) ≡ record_valid Aac p
  unfolding aac frequency_bit
  type_other l n = sym (valid ∙ simp (object_type, lt-ltb 0 (w / 2048) l, ne_eqb (w / 2048) 31 n, index_at_5))

pub ruleset by_type = (type_0, type_31, type_other)

-- A NUMBER OF BITS fits n bytes
pub fit : (a n : ℕ) → leb (div_ceil a 8) n ≡ leb a (8 * n)
fit a n = grind (arith, common_steps)
