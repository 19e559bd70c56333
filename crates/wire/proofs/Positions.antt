-- From a grammar to tests at an index, for code that walks a list by positions. No law has a premise, so that `simp` unrolls a whole head.
use mathlib.Core.Path.{◌≡◌, refl, sym, ap, ap₂, ◌∙◌}
use mathlib.Core.Bool.{Bool, true, false, cond, ◌&&◌}
use mathlib.Core.Option.{Option, none, some}
use mathlib.Core.List.{List, [], ◌∷◌}
use Prim.Native.Nat.{ℕ, suc, ◌+◌, ◌-◌, ◌≤◌}
use native.Mathlib.Numerals.{add-one}
use native.Mathlib.Omega.{arith}
use lib.ListN.{length, take, drop, get_or, length-drop}
use lib.Seq.{drop-cons, drop-drop}
use lib.Dec.{eqb, leb, ltb}
use borrow.Author.Tests.{ltb-true, ltb-false, le-ltb, lt-ltb}
use Rattle.wire.specs.Wire.{part, same_bytes}
use Rattle.wire.specs.Mask.{Mask, open_bytes, sealed_bytes}
use Rattle.wire.specs.Grammar.{Grammar, after, require, byte, skip, guard, word, branch, at_end, sealed_rest, open_rest, refuse, accepted}

accepted_after : (m : Mask) (o : Option Mask) → accepted (after m o) ≡ accepted o
accepted_after m none = refl
accepted_after m (some n) = refl

accepted_require : (c : Bool) (o : Option Mask) → accepted (require c o) ≡ cond c (accepted o) false
accepted_require true o = refl
accepted_require false o = refl

empty_or_more : (q : List ℕ) → length q ≤ 0 → q ≡ []
empty_or_more [] h = refl
empty_or_more (x ∷ q) h = absurd (omega arith)

pub byte_at_lem : (g : ℕ → Grammar) (p : List ℕ) (i : ℕ) → accepted (byte g (drop i p)) ≡ cond (ltb i (length p)) (accepted (g (get_or p i 0) (drop (i + 1) p))) false
unfolding byte
byte_at_lem g p i = go (ltb i (length p)) refl
  where
    go : (c : Bool) → ltb i (length p) ≡ c → accepted (byte g (drop i p)) ≡ cond c (accepted (g (get_or p i 0) (drop (i + 1) p))) false
    go true e =
        ap (λ (z : List ℕ). accepted (byte g z)) (drop-cons p i 0 (ltb-true i (length p) e))
        ∙ accepted_after (open_bytes 1) (g (get_or p i 0) (drop (suc i) p))
        ∙ ap (λ (j : ℕ). accepted (g (get_or p i 0) (drop j p))) (sym (add-one i))
    go false e = ap (λ (z : List ℕ). accepted (byte g z)) (empty_or_more (drop i p) (omega (arith, length-drop i p, ltb-false i (length p) e)))

pub guard_at : (c : Bool) (g : Grammar) (q : List ℕ) → accepted (guard c g q) ≡ cond c (accepted (g q)) false
unfolding guard
guard_at c g q = accepted_require c (g q)

word_front : (xs : List ℕ) (g : Grammar) (q : List ℕ) → accepted (word xs g q) ≡ cond (same_bytes (take (length xs) q) xs) (accepted (g (drop (length xs) q))) false
unfolding word byte guard same_bytes
word_front [] g q = refl
word_front (x ∷ xs) g [] = refl
word_front (x ∷ xs) g (y ∷ q) =
    accepted_after (open_bytes 1) (require (eqb y x) (word xs g q))
    ∙ accepted_require (eqb y x) (word xs g q)
    ∙ ap (λ (b : Bool). cond (eqb y x) b false) (word_front xs g q)
    ∙ both (eqb y x) (same_bytes (take (length xs) q) xs) (accepted (g (drop (length xs) q)))
  where
    both : (a b c : Bool) → cond a (cond b c false) false ≡ cond (a && b) c false
    both true b c = refl
    both false b c = refl

pub word_at : (xs : List ℕ) (g : Grammar) (p : List ℕ) (i : ℕ)
    → accepted (word xs g (drop i p)) ≡ cond (same_bytes (part p i (length xs)) xs) (accepted (g (drop (i + length xs) p))) false
word_at xs g p i =
    word_front xs g (drop i p) ∙ ap (λ (z : List ℕ). cond (same_bytes (part p i (length xs)) xs) (accepted (g z)) false) (drop-drop (length xs) i p)

pub skip_at : (n : ℕ) (g : Grammar) (p : List ℕ) (i : ℕ) → accepted (skip n g (drop i p)) ≡ cond (leb n (length p - i)) (accepted (g (drop (i + n) p))) false
unfolding skip
skip_at n g p i =
    accepted_require (leb n (length (drop i p))) (after (sealed_bytes n) (g (drop n (drop i p))))
    ∙ ap₂ (λ (c v : Bool). cond c v false) (ap (leb n) (length-drop i p))
    (accepted_after (sealed_bytes n) (g (drop n (drop i p))) ∙ ap (λ (z : List ℕ). accepted (g z)) (drop-drop n i p))

pub branch_at : (c : Bool) (g h : Grammar) (q : List ℕ) → accepted (branch c g h q) ≡ cond c (accepted (g q)) (accepted (h q))
unfolding branch
branch_at true g h q = refl
branch_at false g h q = refl

pub at_end_at : (c : Bool) (g : Grammar) (p : List ℕ) (i : ℕ) → accepted (at_end c g (drop i p)) ≡ cond (ltb i (length p)) (accepted (g (drop i p))) c
unfolding at_end
at_end_at c g p i = go (drop i p) (length-drop i p)
  where
    refused : (c : Bool) → accepted (require c (some [])) ≡ c
    refused true = refl
    refused false = refl

    go : (q : List ℕ) → length q ≡ length p - i → accepted (at_end c g q) ≡ cond (ltb i (length p)) (accepted (g q)) c
    go [] e = simp (le-ltb i (length p) (omega arith)) (refused c)
    go (x ∷ q) e = simp (lt-ltb i (length p) (omega arith))

pub sealed_rest_at : (q : List ℕ) → accepted (sealed_rest q) ≡ true
unfolding sealed_rest
sealed_rest_at q = refl

pub open_rest_at : (t : List ℕ → Bool) (q : List ℕ) → accepted (open_rest t q) ≡ t q
unfolding open_rest
open_rest_at t q = accepted_require (t q) (some (open_bytes (length q))) ∙ go (t q)
  where
    go : (c : Bool) → cond c true false ≡ c
    go true = refl
    go false = refl

pub refuse_at : (q : List ℕ) → accepted (refuse q) ≡ false
unfolding refuse
refuse_at q = refl

-- `simp at-index` turns acceptance by a grammar made of these parts into tests at an index
pub ruleset at-index = (byte_at_lem, skip_at, guard_at, branch_at, at_end_at, sealed_rest_at, open_rest_at, refuse_at)
