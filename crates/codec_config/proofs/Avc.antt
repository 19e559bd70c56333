-- Laws of the AVC rule: its bytes and mask, noninterference, and the rule by positions, for each test that the code makes.
use mathlib.Core.Path.{◌≡◌, refl, ◌∙◌}
use mathlib.Core.Bool.{Bool, true, false, ◌&&◌}
use mathlib.Core.Option.{some}
use mathlib.Core.List.{List, ◌∷◌, ◌++◌}
use Prim.Native.Nat.{ℕ, ◌+◌, ◌-◌, ◌%◌, ◌≤◌, ◌<◌}
use native.Mathlib.Omega.{arith}
use native.Mathlib.Decide.{dec_le, dec_lt}
use lib.Dec.{eqb, ltb, leb}
use lib.ListN.{length, length-append}
use borrow.Author.Tests.{ltb-true, lt-ltb, le-ltb, le-leb, eqb-true}
use Rattle.wire.specs.Wire.{byte_at}
use Rattle.wire.specs.Mask.{Mask}
use Rattle.wire.specs.Grammar.{Noninterfering, sealed_rest}
use Rattle.wire.proofs.Grammars.{byte_took, skip_took, guard_took, end_or_took, rest_took, byte_gives, skip_gives, guard_gives, end_or_ends, end_or_gives, rest_gives}
use Rattle.wire.proofs.Grammars.{noninterference}
use Rattle.wire.proofs.Positions.{at-index, byte_at_lem, sealed_rest_at}
use Rattle.wire.proofs.Numbers.{past}
use Rattle.codec_config.specs.Records.{avc_names, avc_extension, avc_picture_sets, avc, record_grammar, record_valid}
use Rattle.codec_config.specs.Layouts.{AvcEnd, nothing, extension, AvcLayout}
use Rattle.codec_config.specs.Positions.{sets_end, accepted_at, accepted_from}
use Rattle.std.specs.Prelude.{Option, Some, None, is_some}
use Rattle.std.proofs.lemmas.Grind.{common_steps}
use Rattle.codec_config.specs.declared.ConfigCodec.TheVariants.{Avc}
use Rattle.codec_config.proofs.Conds.{cond_same, cond_and}
use Rattle.codec_config.proofs.Sets.{sets_took, sets_give, sets_hold, sets_at}

-- BYTES AND MASK, both ways
end_took : (p : List ℕ) (m : Mask) → avc_extension p ≡ some m → AvcEnd p m
unfolding avc_extension
end_took p m e =
    end_or_took _ p m e nothing λ e₁.
    skip_took 3 _ p m e₁ λ three p₁ m₁ size b₁ k₁ e₂.
    byte_took _ p₁ m₁ e₂ λ count p₂ m₂ b₂ k₂ e₃.
    sets_took (avc_names 13) count sealed_rest p₂ m₂ e₃ λ s after j k laid b₃ k₃ e₄.
    extension three count s after j size laid
    (rw (b₁, b₂, b₃) refl)
    (rw (k₁, k₂, k₃, rest_took after k e₄) refl)

end_gives : {p : List ℕ} {m : Mask} → AvcEnd p m → avc_extension p ≡ some m
unfolding avc_extension
end_gives (nothing b k) = rw (b, k) (end_or_ends _)
end_gives (extension three count s after k size laid b e) =
    let some_byte : 0 < length (three ++ (count ∷ (s ++ after))) = omega (arith, length-append three (count ∷ (s ++ after))) in
    rw (b, e)
    (end_or_gives _ _ _ some_byte (skip_gives 3 _ three _ _ size (byte_gives _ count _ _ (sets_give laid sealed_rest after _ (rest_gives after)))))

pub avc_took : (p : List ℕ) (m : Mask) → avc p ≡ some m → AvcLayout p m
unfolding avc avc_picture_sets
avc_took p m e =
    byte_took _ p m e λ version p₁ m₁ b₁ k₁ e₁.
    guard_took _ _ p₁ m₁ e₁ λ one e₂.
    skip_took 4 _ p₁ m₁ e₂ λ four p₂ m₂ size b₂ k₂ e₃.
    byte_took _ p₂ m₂ e₃ λ byte5 p₃ m₃ b₃ k₃ e₄.
    guard_took _ _ p₃ m₃ e₄ λ sequence_some e₅.
    sets_took _ _ _ p₃ m₃ e₅ λ sequence p₄ sequence_mask m₄ sequence_sets b₄ k₄ e₆.
    byte_took _ p₄ m₄ e₆ λ count p₅ m₅ b₅ k₅ e₇.
    guard_took _ _ p₅ m₅ e₇ λ pictures_some e₈.
    sets_took _ _ _ p₅ m₅ e₈ λ pictures end pictures_mask end_mask picture_sets b₆ k₆ e₉.
    record {
      four = four;
      byte5 = byte5;
      sequence = sequence;
      sequence_mask = sequence_mask;
      count = count;
      pictures = pictures;
      pictures_mask = pictures_mask;
      end = end;
      end_mask = end_mask;
      size = size;
      sequence_some = ltb-true 0 _ sequence_some;
      sequence_sets = sequence_sets;
      pictures_some = ltb-true 0 _ pictures_some;
      picture_sets = picture_sets;
      ended = end_took end end_mask e₉;
      bytes = rw (b₁, eqb-true version 1 one, b₂, b₃, b₄, b₅, b₆) refl;
      mask = rw (k₁, k₂, k₃, k₄, k₅, k₆) refl;
    }

pub avc_gives : {p : List ℕ} {m : Mask} → AvcLayout p m → avc p ≡ some m
unfolding avc avc_picture_sets
avc_gives l =
    rw (l.bytes, l.mask)
    (byte_gives _ 1 _ _ (guard_gives _ _ _ _ refl (skip_gives 4 _ l.four _ _ l.size
    (byte_gives _ l.byte5 _ _ (guard_gives _ _ _ _ (lt-ltb 0 _ l.sequence_some) (sets_give l.sequence_sets _ _ _
    (byte_gives _ l.count _ _ (guard_gives _ _ _ _ (lt-ltb 0 _ l.pictures_some) (sets_give l.picture_sets _ _ _ (end_gives l.ended))))))))))

-- NONINTERFERENCE
pub avc_holds : Noninterfering avc
unfolding avc avc_picture_sets avc_extension
avc_holds = search (noninterference, sets_hold) depth 20

-- WHAT STANDS FROM i ON, by the tests of the code
module _ (p : List ℕ) where
  to_the_end : (r : Option ℕ) → accepted_from r sealed_rest p ≡ is_some r
  unfolding accepted_at
  to_the_end (Some e) = sealed_rest_at _
  to_the_end None = refl

  module _ (i : ℕ) where
    pub extension_none : length p ≤ i → accepted_at avc_extension p i ≡ true
    unfolding accepted_at avc_extension
    extension_none h = simp (at-index, le-ltb i (length p) h)

    pub extension_short : i < length p → length p < i + 4 → accepted_at avc_extension p i ≡ false
    unfolding accepted_at avc_extension
    extension_short h l = simp (at-index, lt-ltb i (length p) h, le-ltb (i + 3) (length p) (omega arith), cond_same false)

    pub extension_sets : i + 4 ≤ length p → accepted_at avc_extension p i ≡ is_some (sets_end (avc_names 13) (byte_at p (i + 3)) p (i + 4))
    unfolding accepted_at avc_extension
    extension_sets h =
        let e : i + 3 + 1 ≡ i + 4 = omega arith in
        simp (
          at-index,
          e,
          lt-ltb i (length p) (omega arith),
          le-leb 3 (length p - i) (omega arith),
          lt-ltb (i + 3) (length p) (omega arith),
          sets_at,
          to_the_end,
        )

    abbrev pictures_tests : Bool
    pictures_tests = ltb 0 (byte_at p i) && accepted_from (sets_end (avc_names 8) (byte_at p i) p (i + 1)) avc_extension p

    pub pictures_at : accepted_at avc_picture_sets p i ≡ pictures_tests
    unfolding accepted_at avc_picture_sets
    pictures_at = go (dec_lt i (length p))
      where
        go : Dec (i < length p) → accepted_at avc_picture_sets p i ≡ pictures_tests
        go (yes h) = simp (at-index, lt-ltb i (length p) h, sets_at, cond_and)
        go (no h) = simp (at-index, le-ltb i (length p) (omega arith), past p i (omega arith))

  abbrev avc_tests : Bool
  avc_tests =
      leb 6 (length p)
      && (eqb (byte_at p 0) 1 && (ltb 0 (byte_at p 5 % 32) && accepted_from (sets_end (avc_names 7) (byte_at p 5 % 32) p 6) avc_picture_sets p))

  pub avc_at : record_valid Avc p ≡ avc_tests
  unfolding record_valid record_grammar avc
  avc_at = go (dec_le 6 (length p))
    where
      go : Dec (6 ≤ length p) → record_valid Avc p ≡ avc_tests
      go (yes h) =
          byte_at_lem _ p 0
          ∙ simp (
            at-index,
            lt-ltb 0 (length p) (omega arith),
            le-leb 4 (length p - 1) (omega arith),
            lt-ltb 5 (length p) (omega arith),
            sets_at,
            cond_and,
          )
      go (no h) = byte_at_lem _ p 0 ∙ simp (at-index, le-ltb 5 (length p) (omega arith), cond_same false)

pub ruleset extension_at = (common_steps, extension_none, extension_short, extension_sets)
