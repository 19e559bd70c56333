-- Laws of each grammar combinator: what it takes and gives, and its noninterference.
use mathlib.Core.Path.{◌≡◌, refl, sym, ap, ◌∙◌, subst}
use mathlib.Core.Bool.{Bool, true, false}
use mathlib.Core.Option.{Option, none, some, some-injective, none-ne-some}
use mathlib.Core.List.{List, [], ◌∷◌, ◌++◌, append_assoc}
use Prim.Native.Nat.{ℕ, ◌<◌}
use native.Mathlib.Omega.{arith}
use lib.ListN.{length, take, drop, length-append, length-replicate, take-append-drop}
use lib.Seq.{length-take-le, drop_at}
use lib.Dec.{eqb, leb}
use borrow.Author.Tests.{leb-true, le-leb}
use Rattle.wire.specs.Mask.{Mask, open_bytes, sealed_bytes, LowEquivalent, sealed_at}
use Rattle.wire.specs.Grammar.{Grammar, Noninterfering, after, require, byte, skip, guard, word, branch, at_end, end_or, sealed_rest, open_rest, refuse, mask_of}
use Rattle.wire.proofs.Options.{require_some}
use Rattle.wire.proofs.Masks.{low_head, low_tail, low_drop, low_open, low_nothing}

after_some : (n : Mask) (o : Option Mask) (m : Mask) → after n o ≡ some m → (r : Mask) × (o ≡ some r) × (n ++ r ≡ m)
after_some n none m e = absurd (none-ne-some _ e)
after_some n (some r) m e = (r, refl, some-injective _ _ e)

pub after_after : (m n : Mask) (o : Option Mask) → after m (after n o) ≡ after (m ++ n) o
after_after m n none = refl
after_after m n (some k) = rw (append_assoc m n k) refl

-- WHAT EACH PART TAKES: where it accepts, the bytes and the mask are its own and then those of what follows
pub byte_took : {C : Type 0} (g : ℕ → Grammar) (p : List ℕ) (m : Mask) → byte g p ≡ some m
    → ((x : ℕ) (q : List ℕ) (k : Mask) → p ≡ x ∷ q → m ≡ open_bytes 1 ++ k → g x q ≡ some k → C) → C
unfolding byte
byte_took g [] m e then = absurd (none-ne-some _ e)
byte_took g (x ∷ p) m e then = let r = after_some (open_bytes 1) (g x p) m e in then x p r.0 refl (sym r.2) r.1

pub skip_took : {C : Type 0} (n : ℕ) (g : Grammar) (p : List ℕ) (m : Mask) → skip n g p ≡ some m
    → ((s q : List ℕ) (k : Mask) → length s ≡ n → p ≡ s ++ q → m ≡ sealed_bytes n ++ k → g q ≡ some k → C) → C
unfolding skip
skip_took n g p m e then =
    let t = require_some (leb n (length p)) (after (sealed_bytes n) (g (drop n p))) e in
    let r = after_some (sealed_bytes n) (g (drop n p)) m t.1 in
    then (take n p) (drop n p) r.0 (length-take-le n p (leb-true n (length p) t.0)) (sym (take-append-drop n p)) (sym r.2) r.1

pub guard_took : {C : Type 0} (c : Bool) (g : Grammar) (p : List ℕ) (m : Mask) → guard c g p ≡ some m → (c ≡ true → g p ≡ some m → C) → C
unfolding guard
guard_took c g p m e then = let t = require_some c (g p) e in then t.0 t.1

pub end_or_took : {C : Type 0} (g : Grammar) (p : List ℕ) (m : Mask) → end_or g p ≡ some m → (p ≡ [] → m ≡ [] → C) → (g p ≡ some m → C) → C
unfolding at_end
end_or_took g [] m e ended then = ended refl (sym (some-injective _ _ e))
end_or_took g (x ∷ p) m e ended then = then e

pub rest_took : (p : List ℕ) (m : Mask) → sealed_rest p ≡ some m → m ≡ sealed_bytes (length p)
unfolding sealed_rest
rest_took p m e = sym (some-injective _ _ e)

-- AND WHAT IT GIVES for such bytes
pub byte_gives : (g : ℕ → Grammar) (x : ℕ) (p : List ℕ) (m : Mask) → g x p ≡ some m → byte g (x ∷ p) ≡ some (open_bytes 1 ++ m)
unfolding byte
byte_gives g x p m e = ap (after (open_bytes 1)) e

pub skip_gives : (n : ℕ) (g : Grammar) (s p : List ℕ) (m : Mask) → length s ≡ n → g p ≡ some m → skip n g (s ++ p) ≡ some (sealed_bytes n ++ m)
unfolding skip
skip_gives n g s p m l e = simp (le-leb n (length (s ++ p)) (omega (arith, length-append s p)), drop_at s p n l, e)

pub guard_gives : (c : Bool) (g : Grammar) (p : List ℕ) (m : Mask) → c ≡ true → g p ≡ some m → guard c g p ≡ some m
unfolding guard
guard_gives c g p m t e = rw t e

pub end_or_ends : (g : Grammar) → end_or g [] ≡ some []
unfolding at_end
end_or_ends g = refl

pub end_or_gives : (g : Grammar) (p : List ℕ) (m : Mask) → 0 < length p → g p ≡ some m → end_or g p ≡ some m
unfolding at_end
end_or_gives g [] m l e = absurd (omega arith)
end_or_gives g (x ∷ p) m l e = e

pub rest_gives : (p : List ℕ) → sealed_rest p ≡ some (sealed_bytes (length p))
unfolding sealed_rest
rest_gives p = refl

-- NONINTERFERENCE
pub byte_holds : (g : ℕ → Grammar) → ((x : ℕ) → Noninterfering (g x)) → Noninterfering (byte g)
unfolding byte
byte_holds g h = record { holds = go }
  where
    go : (p q : List ℕ) (m : Mask) → byte g p ≡ some m → LowEquivalent (sealed_at m) p q → byte g q ≡ some m
    go [] q m e a = absurd (none-ne-some _ e)
    go (x ∷ p) [] m e a = absurd (omega (arith, a.long))
    go (x ∷ p) (y ∷ q) m e a =
        let r = after_some (open_bytes 1) (g x p) m e in
        let b : LowEquivalent (sealed_at (false ∷ r.0)) (x ∷ p) (y ∷ q) = subst (λ (z : Mask). LowEquivalent (sealed_at z) (x ∷ p) (y ∷ q)) (sym r.2) a in
        ap (λ (z : ℕ). after (open_bytes 1) (g z q)) (sym (low_head r.0 b)) ∙ ap (after (open_bytes 1)) ((h x).holds p q r.0 r.1 (low_tail false r.0 b)) ∙ ap some r.2

pub skip_holds : (n : ℕ) (g : Grammar) → Noninterfering g → Noninterfering (skip n g)
unfolding skip
skip_holds n g h = record {
  holds = λ p q m e a.
      let t = require_some (leb n (length p)) (after (sealed_bytes n) (g (drop n p))) e in
      let r = after_some (sealed_bytes n) (g (drop n p)) m t.1 in
      let b = low_drop n (sealed_bytes n) r.0 (length-replicate n true) (subst (λ (z : Mask). LowEquivalent (sealed_at z) p q) (sym r.2) a) in
      ap (λ (k : ℕ). require (leb n k) (after (sealed_bytes n) (g (drop n q)))) (sym a.long)
      ∙ ap (λ (c : Bool). require c (after (sealed_bytes n) (g (drop n q)))) t.0
      ∙ ap (after (sealed_bytes n)) (h.holds (drop n p) (drop n q) r.0 r.1 b) ∙ ap some r.2;
}

pub guard_holds : (c : Bool) (g : Grammar) → Noninterfering g → Noninterfering (guard c g)
unfolding guard
guard_holds true g h = record { holds = λ p q m e a. h.holds p q m e a }
guard_holds false g h = record { holds = λ p q m e a. absurd (none-ne-some _ e) }

pub word_holds : (xs : List ℕ) (g : Grammar) → Noninterfering g → Noninterfering (word xs g)
unfolding word
word_holds [] g h = h
word_holds (x ∷ xs) g h = byte_holds (λ (b : ℕ). guard (eqb b x) (word xs g)) (λ b. guard_holds (eqb b x) (word xs g) (word_holds xs g h))

pub branch_holds : (c : Bool) (g h : Grammar) → Noninterfering g → Noninterfering h → Noninterfering (branch c g h)
unfolding branch
branch_holds true g h s t = record { holds = λ p q m e a. s.holds p q m e a }
branch_holds false g h s t = record { holds = λ p q m e a. t.holds p q m e a }

pub at_end_holds : (c : Bool) (g : Grammar) → Noninterfering g → Noninterfering (at_end c g)
unfolding at_end
at_end_holds c g h = record { holds = go }
  where
    go : (p q : List ℕ) (m : Mask) → at_end c g p ≡ some m → LowEquivalent (sealed_at m) p q → at_end c g q ≡ some m
    go [] [] m e a = e
    go [] (y ∷ q) m e a = absurd (omega (arith, a.long))
    go (x ∷ p) [] m e a = absurd (omega (arith, a.long))
    go (x ∷ p) (y ∷ q) m e a = h.holds (x ∷ p) (y ∷ q) m e a

pub sealed_rest_holds : Noninterfering sealed_rest
unfolding sealed_rest
sealed_rest_holds = record { holds = λ p q m e a. ap (λ (n : ℕ). some (sealed_bytes n)) (sym a.long) ∙ e }

pub open_rest_holds : (t : List ℕ → Bool) → Noninterfering (open_rest t)
unfolding open_rest
open_rest_holds t = record {
  holds = λ p q m e a.
      let r = require_some (t p) (some (open_bytes (length p))) e in
      let x : p ≡ q = low_open (length p) (subst (λ (z : Mask). LowEquivalent (sealed_at z) p q) (sym (some-injective _ _ r.1)) a) in
      subst (λ (z : List ℕ). open_rest t z ≡ some m) x e;
}

pub refuse_holds : Noninterfering refuse
unfolding refuse
refuse_holds = record { holds = λ p q m e a. absurd (none-ne-some _ e) }

-- `search noninterference` finds the law of a grammar made of these parts
pub ruleset noninterference = (
  byte_holds,
  skip_holds,
  guard_holds,
  branch_holds,
  at_end_holds,
  sealed_rest_holds,
  open_rest_holds,
  refuse_holds,
)

-- acceptance and mask of any bytes, where the second agrees with the first outside the first's mask
pub grammar_alike : (g : Grammar) → Noninterfering g → (p q : List ℕ) → LowEquivalent (sealed_at (mask_of (g p))) p q → g q ≡ g p
grammar_alike g h p q a = go (g p) refl
  where
    go : (o : Option Mask) → g p ≡ o → g q ≡ g p
    go none e = ap g (sym (low_nothing (subst (λ (o : Option Mask). LowEquivalent (sealed_at (mask_of o)) p q) e a)))
    go (some m) e = h.holds p q m e (subst (λ (o : Option Mask). LowEquivalent (sealed_at (mask_of o)) p q) e a) ∙ sym e
