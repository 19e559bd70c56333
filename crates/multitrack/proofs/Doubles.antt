-- Which bit patterns equal 0.0, and which 1.0: the track type by the double is the track type by the bit pattern.
use mathlib.Core.Path.{◌≡◌, refl, sym, ap, subst, ◌∙◌}
use mathlib.Core.Logic.{◌⊎◌, inl, inr, ⊎_elim}
use mathlib.Core.Bool.{Bool, true, false, not, ◌||◌, beq, cond}
use Prim.Native.Nat.{ℕ, ◌*◌, ◌%◌, ◌^◌, ◌<◌}
use native.Mathlib.Omega.{arith}
use lib.Dec.{T, eqb, eqb→eq}
use lib.IntN.{ℤ, pos}
use lib.Ieee.{Float, nan, inf, fin, binary64, fits, is_nan, eq, up, down, of_bits, to_bits}
use lib.Ieee.Fits.{and_l, and_r, down_pos}
use lib.Ieee.Back.{whole_unique}
use lib.Ieee.Bits.{of_bits-fits, to_bits-of_bits, nan_bits_is, nan_bits_above}
use borrow.Author.Tests.{lt-ltb, ne_eqb}
use Rattle.types.specs.declared.MultitrackType.TheVariants.{Audio, Video, Metadata}
use Rattle.multitrack.specs.Descriptor.{type_of_double, type_of_bits}

test : {b : Bool} → b ≡ true → T b
test e = subst T (sym e) tt

no : {A : Type 0} → false ≡ true → A
no e = absurd (test e)

positive : (s : Bool) (a d : ℕ) → 0 < d → a ≡ 1 * d → T (beq s false || eqb a 0) → s ≡ false
positive false a d p e t = refl
positive true a d p e t = let z : a ≡ 0 = eqb→eq a 0 t in absurd (omega arith)

-- a double that equals 1.0 is 1.0
is_one : (x : Float) → T (fits binary64 x) → eq x (of_bits binary64 0x3FF0_0000_0000_0000) ≡ true → x ≡ fin false 1 (pos 0)
unfolding eq of_bits
is_one nan p q = no q
is_one (inf s) p q = no q
is_one (fin s m e) p q =
    let a = m * up e * 1 in
    let b = 1 * down e in
    let h : a ≡ b = eqb→eq a b (and_l (eqb a b) _ (test q)) in
    whole_unique binary64 (fin s m e) (fin false 1 (pos 0)) false 1 p (of_bits-fits binary64 0x3FF0_0000_0000_0000)
    (positive s a (down e) (down_pos e) h (and_r (eqb a b) _ (test q)), h)
    (refl, refl)

either : (s : Bool) → (fin s 0 (pos 0) ≡ fin false 0 (pos 0)) ⊎ (fin s 0 (pos 0) ≡ fin true 0 (pos 0))
either false = inl refl
either true = inr refl

zero_fits : (s : Bool) → T (fits binary64 (fin s 0 (pos 0)))
unfolding fits
zero_fits s = tt

-- a double that equals 0.0 is a zero of either sign
is_zero : (x : Float) → T (fits binary64 x) → eq x (of_bits binary64 0) ≡ true → (x ≡ fin false 0 (pos 0)) ⊎ (x ≡ fin true 0 (pos 0))
unfolding eq of_bits
is_zero nan p q = no q
is_zero (inf s) p q = no q
is_zero (fin s m e) p q =
    let a = m * up e * 1 in
    let b = 0 * down e in
    let h : a ≡ b = eqb→eq a b (and_l (eqb a b) _ (test q)) in
    rw (whole_unique binary64 (fin s m e) (fin s 0 (pos 0)) s 0 p (zero_fits s) (refl, h) (refl, refl)) (either s)

-- the pattern of a double that is known
pattern : (n : ℕ) (s : Bool) (m : ℕ) (e : ℤ) → n < 2 ^ 64 → of_bits binary64 n ≡ fin s m e → n ≡ to_bits binary64 (fin s m e)
unfolding is_nan
pattern n s m e h q =
    sym (to_bits-of_bits binary64 n h (subst (λ (x : Float). T (not (is_nan x))) (sym q) tt)) ∙ ap (to_bits binary64) q

pub one_pattern : (n : ℕ) → n < 2 ^ 64 → eq (of_bits binary64 n) (of_bits binary64 0x3FF0_0000_0000_0000) ≡ true → n ≡ 0x3FF0_0000_0000_0000
unfolding to_bits
one_pattern n h q = pattern n false 1 (pos 0) h (is_one (of_bits binary64 n) (of_bits-fits binary64 n) q)

pub zero_pattern : (n : ℕ) → n < 2 ^ 64 → eq (of_bits binary64 n) (of_bits binary64 0) ≡ true → (n ≡ 0) ⊎ (n ≡ 0x8000_0000_0000_0000)
unfolding to_bits
zero_pattern n h q =
    ⊎_elim (λ e. inl (pattern n false 0 (pos 0) h e)) (λ e. inr (pattern n true 0 (pos 0) h e))
    (is_zero (of_bits binary64 n) (of_bits-fits binary64 n) q)

-- the patterns themselves, computed
pub one_equals : eq (of_bits binary64 0x3FF0_0000_0000_0000) (of_bits binary64 0x3FF0_0000_0000_0000) ≡ true
unfolding eq of_bits
one_equals = refl

pub zero_equals : eq (of_bits binary64 0) (of_bits binary64 0) ≡ true
unfolding eq of_bits
zero_equals = refl

pub minus_zero_equals : eq (of_bits binary64 0x8000_0000_0000_0000) (of_bits binary64 0) ≡ true
unfolding eq of_bits
minus_zero_equals = refl

-- a NaN names no track type of its own
pub nan_track : (x : Float) → is_nan x ≡ true → type_of_double x ≡ Metadata
unfolding type_of_double is_nan eq
nan_track nan e = refl
nan_track (inf s) e = no e
nan_track (fin s m k) e = no e

-- the two definitions give one track type for every pattern
pub type_by_bits : (n : ℕ) → n < 2 ^ 64 → type_of_double (of_bits binary64 n) ≡ type_of_bits n
unfolding type_of_double type_of_bits
type_by_bits n h = go (eq (of_bits binary64 n) (of_bits binary64 0)) refl (eq (of_bits binary64 n) (of_bits binary64 0x3FF0_0000_0000_0000)) refl
  where
    not_both : {b : Bool} → b ≡ true → b ≡ false → ⊥
    not_both p q = no (sym q ∙ p)

    go : (z : Bool) → eq (of_bits binary64 n) (of_bits binary64 0) ≡ z → (o : Bool) → eq (of_bits binary64 n) (of_bits binary64 0x3FF0_0000_0000_0000) ≡ o
        → cond z Audio (cond o Video Metadata) ≡ cond (eqb n 0) Audio (cond (eqb n 0x8000_0000_0000_0000) Audio (cond (eqb n 0x3FF0_0000_0000_0000) Video Metadata))
    go true p o q = ⊎_elim (λ e. rw e) (λ e. rw e) (zero_pattern n h p)
    go false p true q = rw (one_pattern n h q)
    go false p false q =
        simp (
          ne_eqb n 0 (λ e. not_both zero_equals (rw e at p)),
          ne_eqb n 0x8000_0000_0000_0000 (λ e. not_both minus_zero_equals (rw e at p)),
          ne_eqb n 0x3FF0_0000_0000_0000 (λ e. not_both one_equals (rw e at q)),
        )

-- and back
pub bits_by_type : (n : ℕ) → n < 2 ^ 64 → type_of_bits n ≡ type_of_double (of_bits binary64 n)
bits_by_type n h = sym (type_by_bits n h)

-- the patterns above infinity's are those of a NaN
pub nan_above : (n : ℕ) → 0x7FF0_0000_0000_0000 < n % 0x8000_0000_0000_0000 → type_of_double (of_bits binary64 n) ≡ Metadata
nan_above n l = nan_track (of_bits binary64 n) (sym (nan_bits_is binary64 n) ∙ nan_bits_above binary64 n ∙ lt-ltb _ _ l)
