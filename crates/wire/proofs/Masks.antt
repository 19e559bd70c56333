-- Laws of low-equivalence: under any sealing, and how it splits along a mask.
use mathlib.Core.Path.{◌≡◌, refl, sym, ap, ◌∙◌, subst}
use mathlib.Core.Bool.{Bool, true, false, ◌&&◌}
use mathlib.Core.List.{List, [], ◌∷◌, ◌++◌}
use Prim.Native.Nat.{ℕ, zero, suc, ◌+◌, ◌-◌, ◌≤◌, ◌<◌, zero-le, suc-le-suc}
use native.Mathlib.Decide.{dec_lt, ℕ_discrete}
use native.Mathlib.Omega.{arith}
use lib.ListN.{length, drop, get_or, set, replicate, length-drop, length-set, length-replicate, get_or-replicate, get_or-append, get_or-eq_default}
use lib.Dec.{ltb, leb}
use lib.Seq.{get_or-drop, get_or-append-add, get_or-set_same, get_or-set_other, ext_get_or}
use borrow.Author.Tests.{ltb-true, ltb-false, lt-ltb, le-ltb, lt-leb, le-leb}
use Rattle.wire.specs.Mask.{Mask, LowEquivalent, sealed_at, open_bytes, sealed_bytes, sealed_from}

-- ANY SEALING
pub low_refl : (sealed : ℕ → Bool) (p : List ℕ) → LowEquivalent sealed p p
low_refl sealed p = record { long = refl; same = λ i h e. refl }

-- at any index, inside or not
pub low_at : {sealed : ℕ → Bool} {p q : List ℕ} → LowEquivalent sealed p q → (i : ℕ) → sealed i ≡ false → get_or p i 0 ≡ get_or q i 0
low_at {p = p} {q = q} a i e = go (ltb i (length p)) refl
  where
    go : (t : Bool) → ltb i (length p) ≡ t → get_or p i 0 ≡ get_or q i 0
    go true h = a.same i (ltb-true i (length p) h) e
    go false h =
        let k : length p ≤ i = ltb-false i (length p) h in
        let l : length q ≤ i = omega (arith, a.long) in
        get_or-eq_default p 0 k ∙ sym (get_or-eq_default q 0 l)

-- nothing sealed: equal
pub low_clear : {sealed : ℕ → Bool} {p q : List ℕ} → ((i : ℕ) → sealed i ≡ false) → LowEquivalent sealed p q → p ≡ q
low_clear {p = p} {q = q} c a = ext_get_or 0 p q a.long (λ i h. a.same i h (c i))

-- more sealed: less to agree on
pub low_weaken : {sealed more : ℕ → Bool} {p q : List ℕ} → ((i : ℕ) → more i ≡ false → sealed i ≡ false) → LowEquivalent sealed p q → LowEquivalent more p q
low_weaken c a = record { long = a.long; same = λ i h e. a.same i h (c i e) }

-- the same byte put at the same place of both
pub low_set : {sealed : ℕ → Bool} {p q : List ℕ} (at x : ℕ) → LowEquivalent sealed p q → LowEquivalent sealed (set p at x) (set q at x)
low_set {sealed = sealed} {p = p} {q = q} at x a = record { long = length-set p at x ∙ a.long ∙ sym (length-set q at x); same = λ i h e. go i h e (ℕ_discrete i at) }
  where
    go : (i : ℕ) → i < length (set p at x) → sealed i ≡ false → Dec (i ≡ at) → get_or (set p at x) i 0 ≡ get_or (set q at x) i 0
    go i h e (yes y) =
        let l : at < length p = omega (arith, length-set p at x) in
        rw y (get_or-set_same p at x 0 l ∙ sym (get_or-set_same q at x 0 (omega (arith, a.long))))
    go i h e (no n) = get_or-set_other p at i x 0 n ∙ a.same i (omega (arith, length-set p at x)) e ∙ sym (get_or-set_other q at i x 0 n)

-- MASKS
pub low_nothing : {p q : List ℕ} → LowEquivalent (sealed_at []) p q → p ≡ q
unfolding sealed_at
low_nothing a = low_clear (λ i. refl) a

-- a mask of falses seals nothing either
pub get_d_false : (n i : ℕ) → get_or (replicate n false) i false ≡ false
get_d_false zero i = refl
get_d_false (suc n) zero = refl
get_d_false (suc n) (suc i) = get_d_false n i

pub low_open : (n : ℕ) {p q : List ℕ} → LowEquivalent (sealed_at (replicate n false)) p q → p ≡ q
unfolding sealed_at
low_open n a = low_clear (get_d_false n) a

-- the first byte, and the rest
pub low_head : (m : Mask) {x y : ℕ} {p q : List ℕ} → LowEquivalent (sealed_at (false ∷ m)) (x ∷ p) (y ∷ q) → x ≡ y
unfolding sealed_at
low_head m a = a.same 0 (suc-le-suc zero-le) refl

pub low_tail : (b : Bool) (m : Mask) {x y : ℕ} {p q : List ℕ} → LowEquivalent (sealed_at (b ∷ m)) (x ∷ p) (y ∷ q) → LowEquivalent (sealed_at m) p q
unfolding sealed_at
low_tail b m a = record { long = omega (arith, a.long); same = λ i h e. a.same (suc i) (suc-le-suc h) e }

-- what stands behind the first n bytes, under a mask of n entries
pub low_drop : (n : ℕ) (m₁ m₂ : Mask) {p q : List ℕ} → length m₁ ≡ n → LowEquivalent (sealed_at (m₁ ++ m₂)) p q → LowEquivalent (sealed_at m₂) (drop n p) (drop n q)
unfolding sealed_at
low_drop n m₁ m₂ {p} {q} e a = record { long = length-drop n p ∙ ap (λ (k : ℕ). k - n) a.long ∙ sym (length-drop n q); same = go }
  where
    go : (i : ℕ) → i < length (drop n p) → get_or m₂ i false ≡ false → get_or (drop n p) i 0 ≡ get_or (drop n q) i 0
    go i h s =
        let l : n + i < length p = omega (arith, length-drop n p) in
        get_or-drop n p i 0
        ∙ a.same (n + i) l (subst (λ (k : ℕ). get_or (m₁ ++ m₂) (k + i) false ≡ false) e (get_or-append-add m₁ m₂ i false ∙ s))
        ∙ sym (get_or-drop n q i 0)

-- n bytes that are all open, or all sealed, and what stands behind them
pub front_at : (v : Bool) (n : ℕ) (m : Mask) (i : ℕ) → i < n → sealed_at (replicate n v ++ m) i ≡ v
unfolding sealed_at
front_at v n m i l =
    get_or-append (replicate n v) m false i (omega (arith, length-replicate n v)) ∙ get_or-replicate n i v false l

pub behind_front : (v : Bool) (n : ℕ) (m : Mask) (i : ℕ) → n ≤ i → sealed_at (replicate n v ++ m) i ≡ sealed_at m (i - n)
unfolding sealed_at
behind_front v n m i h =
    let e : length (replicate n v) + (i - n) ≡ i = omega (arith, length-replicate n v) in
    ap (λ (k : ℕ). get_or (replicate n v ++ m) k false) (sym e) ∙ get_or-append-add (replicate n v) m (i - n) false

-- a open bytes, n sealed ones, b open ones and more: up to there exactly the n are sealed
pub sealed_between : (a n b : ℕ) (m : Mask) (i : ℕ) → i < a + n + b
    → sealed_at (open_bytes a ++ (sealed_bytes n ++ (open_bytes b ++ m))) i ≡ (leb a i && ltb i (a + n))
sealed_between a n b m i h = go (dec_lt i a) (dec_lt i (a + n))
  where
    go : Dec (i < a) → Dec (i < a + n) → sealed_at (open_bytes a ++ (sealed_bytes n ++ (open_bytes b ++ m))) i ≡ (leb a i && ltb i (a + n))
    go (yes k) l = front_at false a _ i k ∙ simp (lt-leb a i k)
    go (no k) (yes l) =
        behind_front false a _ i (omega arith) ∙ front_at true n _ (i - a) (omega arith) ∙ simp (le-leb a i (omega arith), lt-ltb i (a + n) l)
    go (no k) (no l) =
        behind_front false a _ i (omega arith) ∙ behind_front true n _ (i - a) (omega arith) ∙ front_at false b m (i - a - n) (omega arith)
        ∙ simp (le-leb a i (omega arith), le-ltb i (a + n) (omega arith))

-- an open front and a mask that seals nothing seal nothing
pub open_both : (n : ℕ) (m : Mask) → ((j : ℕ) → sealed_at m j ≡ false) → (i : ℕ) → sealed_at (replicate n false ++ m) i ≡ false
open_both n m h i = go (dec_lt i n)
  where
    go : Dec (i < n) → sealed_at (replicate n false ++ m) i ≡ false
    go (yes l) = front_at false n m i l
    go (no l) = behind_front false n m i (omega arith) ∙ h (i - n)

-- a payload sealed from a position on
pub from_position : (n : ℕ) (r : List ℕ) (i : ℕ) → i < length r → sealed_at (sealed_from n r) i ≡ leb n i
unfolding sealed_at
from_position n r i l = go (dec_lt i n)
  where
    go : Dec (i < n) → sealed_at (sealed_from n r) i ≡ leb n i
    go (yes h) = front_at false n (sealed_bytes (length r - n)) i h ∙ sym (lt-leb n i h)
    go (no h) =
        let s : sealed_at (sealed_bytes (length r - n)) (i - n) ≡ true = get_or-replicate (length r - n) (i - n) true false (omega arith) in
        behind_front false n (sealed_bytes (length r - n)) i (omega arith) ∙ s ∙ sym (le-leb n i (omega arith))

pub low_front : (n : ℕ) (m : Mask) {p q : List ℕ} → LowEquivalent (sealed_at (replicate n false ++ m)) p q → (i : ℕ) → i < n → get_or p i 0 ≡ get_or q i 0
low_front n m a i l = low_at a i (front_at false n m i l)

pub low_behind : (n : ℕ) (m : Mask) {p q : List ℕ} → LowEquivalent (sealed_at (replicate n false ++ m)) p q → LowEquivalent (sealed_at m) (drop n p) (drop n q)
low_behind n m a = low_drop n (replicate n false) m (length-replicate n false) a
