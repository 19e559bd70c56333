-- The level of a payload, by what the code asks.
use mathlib.Core.Path.{◌≡◌, refl, sym, ap, ◌∙◌}
use mathlib.Core.Bool.{Bool, true, false, cond}
use mathlib.Core.List.{List, [], ◌∷◌}
use Prim.Native.Nat.{ℕ, suc, ◌-◌, ◌/◌, ◌≤◌, ◌<◌}
use native.Mathlib.Omega.{arith}
use lib.IntN.{ℤ, pos}
use lib.ListN.{length, get_or}
use borrow.Author.Tests.{lt-ltb, eq-eqb, ne_eqb}
use Rattle.std.specs.Prelude.{Result, Ok, Err}
use mir.Syntax.{w8}
use mir.Val.{Fits}
use Rattle.wire.specs.Wire.{Bytes, part}
use Rattle.wire.proofs.Parts.{rest_part}
use Rattle.types.specs.Types.{is_audio, frame_number, frame_type_of}
use Rattle.types.specs.declared.ErrorCode.{ErrorCode}
use Rattle.types.specs.declared.FrameType.{FrameType}
use Rattle.types.proofs.Laws.{is_known, frame_types_lem}
use Rattle.g711.specs.Expansion.{a_law, mu_law}
use Rattle.g711.specs.Level.{largest, peak, is_a_law, is_mu_law, samples, sound_level, level_answer}
use Rattle.g711.specs.Loudness.{loudest_code}
use Rattle.g711.proofs.Codes.{ByLoudness, a_by_loudness, mu_by_loudness}
use Rattle.g711.proofs.Peaks.{below, of_loudest}

-- THE PEAK of a payload's samples is the value of the loudest one's positive code
module _ {law : ℕ → ℤ} {quietest : ℕ} {magnitude : ℕ → ℕ} (ordered : ByLoudness law quietest magnitude) where
  by_loudest : (p : List ℕ) → Bytes p → 2 ≤ length p → law (loudest_code quietest (part p 1 (length p - 1))) ≡ pos (peak law (samples p))
  by_loudest [] b h = absurd (omega arith)
  by_loudest (t ∷ []) b h = absurd (omega arith)
  by_loudest (t ∷ c ∷ cs) b h =
      rw (rest_part (t ∷ c ∷ cs) 1, ordered.positive _ (below ordered (c ∷ cs)), of_loudest ordered c cs (λ i. b (suc i)))

-- the level of an audio payload
module _ (p : List ℕ) where
  pub by_a_law : is_a_law p ≡ true → sound_level p ≡ peak a_law (samples p)
  unfolding sound_level
  by_a_law a = rw a refl

  pub by_mu_law : is_a_law p ≡ false → is_mu_law p ≡ true → sound_level p ≡ peak mu_law (samples p)
  unfolding sound_level
  by_mu_law a m = rw (a, m) refl

  pub by_neither : is_a_law p ≡ false → is_mu_law p ≡ false → sound_level p ≡ 0
  unfolding sound_level
  by_neither a m = rw (a, m) refl

quiet : (a m : Bool) → ◌≡◌ {A = ℕ} (cond a 0 (cond m 0 0)) 0
quiet true m = refl
quiet false true = refl
quiet false false = refl

pub no_sample : (p : List ℕ) → length p < 2 → sound_level p ≡ 0
unfolding sound_level largest
no_sample [] h = refl
no_sample (t ∷ []) h = quiet (is_a_law (t ∷ [])) (is_mu_law (t ∷ []))
no_sample (t ∷ c ∷ cs) h = absurd (omega arith)

-- what the code finds in audio
pub in_a_law : (p : List ℕ) → ((i : ℕ) → Fits w8 (get_or p i 0)) → 2 ≤ length p → get_or p 0 0 / 16 ≡ 7
    → a_law (loudest_code 0xD5 (part p 1 (length p - 1))) ≡ pos (sound_level p)
in_a_law p fits some e = by_loudest a_by_loudness p (λ i. omega (arith, fits i)) some ∙ ap pos (sym (by_a_law p (eq-eqb _ _ e)))

pub in_mu_law : (p : List ℕ) → ((i : ℕ) → Fits w8 (get_or p i 0)) → 2 ≤ length p → get_or p 0 0 / 16 ≡ 8
    → mu_law (loudest_code 0xFF (part p 1 (length p - 1))) ≡ pos (sound_level p)
in_mu_law p fits some e =
    by_loudest mu_by_loudness p (λ i. omega (arith, fits i)) some ∙ ap pos (sym (by_mu_law p (ne_eqb _ _ (λ s. omega (arith, s, e))) (eq-eqb _ _ e)))

pub in_neither : (p : List ℕ) → (get_or p 0 0 / 16 ≡ 7 → ⊥) → (get_or p 0 0 / 16 ≡ 8 → ⊥) → sound_level p ≡ 0
in_neither p a m = by_neither p (ne_eqb _ _ a) (ne_eqb _ _ m)

-- THE ANSWER, by the frame type
abbrev pub typed_level : Result FrameType ErrorCode → List ℕ → Result ℕ ErrorCode
typed_level (Ok t) p = Ok (cond (is_audio (frame_number t)) (sound_level p) 0)
typed_level (Err e) p = Err e

pub by_type : (type : ℕ) (p : List ℕ) → level_answer type p ≡ typed_level (frame_type_of type) p
unfolding level_answer
by_type type p = frame_types_lem (λ n r. level_answer n p ≡ typed_level r p) (λ t. rw (is_known t)) (λ n h. rw (lt-ltb 3 n h)) type
