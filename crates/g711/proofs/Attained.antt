-- The level is a bound of all samples that one of them attains.
use mathlib.Core.Path.{◌≡◌, refl, sym, ◌∙◌}
use mathlib.Core.Logic.{⊎_elim}
use mathlib.Core.Bool.{Bool, true, false, cond}
use mathlib.Core.List.{List, [], ◌∷◌}
use Prim.Native.Nat.{ℕ, zero, suc, ◌≤◌, ◌<◌}
use native.Mathlib.Omega.{arith}
use native.Mathlib.Nat.{le_of_suc-le-suc, max-zero, max-eq_left, max-eq_right}
use lib.Dec.{leb}
use lib.IntN.{ℤ, nat_abs}
use lib.ListN.{length, get_or}
use borrow.Author.Tests.{leb-true, leb-false, eqb-true, ne_eqb, le-ltb, lt-ltb}
use Rattle.std.specs.Prelude.{Result, Ok, Err}
use Rattle.wire.specs.Wire.{Bytes, byte_at, high}
use Rattle.types.specs.Types.{is_audio, is_unknown_type}
use Rattle.types.specs.declared.ErrorCode.{ErrorCode}
use Rattle.types.specs.declared.ErrorCode.TheVariants as error
use Rattle.g711.specs.Expansion.{a_law, mu_law}
use Rattle.g711.specs.Level.{largest, peak, is_a_law, is_mu_law, samples, sound_level, level_answer, level_number}
use Rattle.g711.specs.Claims.{FullScale, ANoZero, LevelOf, ALevels, MuLevels, OnScale, OtherLevels, LevelRefused}
use Rattle.g711.proofs.Standard.{a_full_scale, mu_full_scale, a_no_zero_lem}
use Rattle.g711.proofs.Levels.{by_a_law, by_mu_law, by_neither}

module _ (law : ℕ → ℤ) where
  over : (cs : List ℕ) (i : ℕ) → i < length cs → nat_abs (law (get_or cs i 0)) ≤ peak law cs
  unfolding largest
  over [] i h = absurd (omega arith)
  over (c ∷ cs) zero h = omega arith
  over (c ∷ cs) (suc i) h = omega (arith, over cs i (le_of_suc-le-suc h))

  reached : (c : ℕ) (cs : List ℕ) → (i : ℕ) × (i < suc (length cs)) × (nat_abs (law (get_or (c ∷ cs) i 0)) ≡ peak law (c ∷ cs))
  unfolding largest
  reached c [] = (0, omega arith, sym (max-zero _))
  reached c (d ∷ ds) = go (leb (nat_abs (law c)) (peak law (d ∷ ds))) refl (reached d ds)
    where
      go : (b : Bool) → leb (nat_abs (law c)) (peak law (d ∷ ds)) ≡ b → (i : ℕ) × (i < suc (length ds)) × (nat_abs (law (get_or (d ∷ ds) i 0)) ≡ peak law (d ∷ ds))
          → (i : ℕ) × (i < suc (suc (length ds))) × (nat_abs (law (get_or (c ∷ d ∷ ds) i 0)) ≡ peak law (c ∷ d ∷ ds))
      go true e w = (suc w.0, omega (arith, w.1), w.2 ∙ sym (max-eq_right (leb-true _ _ e)))
      go false e w = (0, omega arith, sym (max-eq_left (omega (arith, leb-false (nat_abs (law c)) (peak law (d ∷ ds)) e))))

  level_of_lem : (p : List ℕ) → LevelOf law p (peak law (samples p))
  unfolding largest
  level_of_lem [] = record { bound = λ i a b. absurd (omega arith); attained = λ h. absurd (omega arith); silent = λ h. refl }
  level_of_lem (t ∷ []) = record { bound = λ i a b. absurd (omega (arith, a, b)); attained = λ h. absurd (omega arith); silent = λ h. refl }
  level_of_lem (t ∷ c ∷ cs) =
      let w = reached c cs in
      record { bound = after; attained = λ h. (suc w.0, omega arith, omega (arith, w.1), w.2); silent = λ h. absurd (omega (arith, h)) }
    where
      after : (i : ℕ) → 1 ≤ i → i < length (t ∷ c ∷ cs) → nat_abs (law (byte_at (t ∷ c ∷ cs) i)) ≤ peak law (c ∷ cs)
      after zero a b = absurd (omega (arith, a))
      after (suc i) a b = over (c ∷ cs) i (le_of_suc-le-suc b)

-- the level of audio
pub a_levels_lem : ALevels
unfolding ALevels level_answer
a_levels_lem p a = rw (by_a_law p a) (level_of_lem a_law p)

-- a format is not both
only_mu : (p : List ℕ) → is_mu_law p ≡ true → is_a_law p ≡ false
only_mu p m = ne_eqb (high (byte_at p 0)) 7 (λ a. absurd (omega (arith, a, eqb-true (high (byte_at p 0)) 8 m)))

pub mu_levels_lem : MuLevels
unfolding MuLevels level_answer
mu_levels_lem p m = rw (by_mu_law p (only_mu p m) m) (level_of_lem mu_law p)

-- what is attained is a code's magnitude
within : (law : ℕ → ℤ) (n : ℕ) → FullScale law n → (p : List ℕ) → Bytes p → (m : ℕ) → LevelOf law p m → m ≤ n
unfolding FullScale
within law n f p b m o = go (leb 2 (length p)) refl
  where
    go : (l : Bool) → leb 2 (length p) ≡ l → m ≤ n
    go true e = let w = o.attained (leb-true 2 (length p) e) in rw (← w.3) (f.0 (byte_at p w.0) (b w.0))
    go false e = let z = o.silent (omega (arith, leb-false 2 (length p) e)) in omega (arith, z)

pub on_scale_lem : OnScale
unfolding OnScale ANoZero ALevels MuLevels
on_scale_lem p b = (
  λ a. (
    within a_law 4032 a_full_scale p b _ (a_levels_lem p a),
    λ l. let w = (a_levels_lem p a).attained l in rw (← w.3) (a_no_zero_lem (byte_at p w.0) (b w.0)),
  ),
  λ m. within mu_law 8031 mu_full_scale p b _ (mu_levels_lem p m),
)

pub level_refused_lem : LevelRefused
unfolding LevelRefused level_answer
level_refused_lem type p = (λ h. rw (le-ltb 3 type h), λ h. rw (lt-ltb 3 type h))

no_level : (u : Bool) (n : ℕ) → n ≡ 0 → level_number (cond {A = Result ℕ ErrorCode} u (Err error.UnknownFrameType) (Ok n)) ≡ 0
no_level true n e = refl
no_level false n e = e

pub other_levels_lem : OtherLevels
unfolding OtherLevels level_answer
other_levels_lem type p w =
    no_level (is_unknown_type type) (cond (is_audio type) (sound_level p) 0)
    (⊎_elim (λ h. rw (ne_eqb type 0 (λ e. absurd (omega (arith, e, h)))) refl) (λ n. neither (is_audio type) (by_neither p n.0 n.1)) w)
  where
    neither : (a : Bool) → sound_level p ≡ 0 → cond a (sound_level p) 0 ≡ 0
    neither true e = e
    neither false e = refl
