-- Laws of sets: noninterference, their bytes and mask, where sets end, and what a grammar of sets says of a record.
use mathlib.Core.Path.{◌≡◌, refl, sym, ◌∙◌}
use mathlib.Core.Bool.{Bool, true, false}
use mathlib.Core.Option.{some}
use mathlib.Core.List.{List, [], ◌∷◌, ◌++◌, append_assoc}
use Prim.Native.Nat.{ℕ, zero, suc, ◌+◌, ◌-◌, ◌≤◌, ◌<◌}
use native.Mathlib.Omega.{arith}
use native.Mathlib.Decide.{dec_le, dec_lt}
use lib.ListN.{length, drop}
use borrow.Author.Tests.{ltb-true, lt-ltb, le-ltb, le-leb, lt-leb}
use Rattle.wire.specs.Wire.{byte_at, be16, be16_at}
use Rattle.wire.specs.Mask.{Mask, open_bytes, sealed_bytes}
use Rattle.wire.specs.Grammar.{Grammar, Noninterfering, accepted}
use Rattle.wire.proofs.Grammars.{byte_took, skip_took, guard_took, byte_gives, skip_gives, guard_gives, noninterference}
use Rattle.wire.proofs.Positions.{at-index}
use Rattle.codec_config.specs.Records.{set, sets}
use Rattle.codec_config.specs.Layouts.{Sets, no_set, set_and}
use Rattle.codec_config.specs.Positions.{set_end, and_then, sets_end, accepted_at, accepted_from}
use Rattle.std.specs.Prelude.{Option, Some, None}
use Rattle.codec_config.proofs.Conds.{cond_same}

-- NONINTERFERENCE
set_holds : (names : ℕ → Bool) (g : Grammar) → Noninterfering g → Noninterfering (set names g)
unfolding set
set_holds names g h = search noninterference depth 10

pub sets_hold : (names : ℕ → Bool) (n : ℕ) (g : Grammar) → Noninterfering g → Noninterfering (sets names n g)
unfolding sets
sets_hold names zero g h = h
sets_hold names (suc n) g h = set_holds names (sets names n g) (sets_hold names n g h)

-- BYTES AND MASK of sets, with what follows them
pub sets_took : {C : Type 0} (names : ℕ → Bool) (n : ℕ) (next : Grammar) (p : List ℕ) (m : Mask) → sets names n next p ≡ some m
    → ((s q : List ℕ) (j k : Mask) → Sets names n s j → p ≡ s ++ q → m ≡ j ++ k → next q ≡ some k → C) → C
unfolding sets set
sets_took names zero next p m e then = then [] p [] m no_set refl refl e
sets_took names (suc n) next p m e then =
    byte_took _ p m e λ h p₁ m₁ b₁ k₁ e₁.
    byte_took _ p₁ m₁ e₁ λ l p₂ m₂ b₂ k₂ e₂.
    guard_took _ _ p₂ m₂ e₂ λ filled e₃.
    byte_took _ p₂ m₂ e₃ λ first p₃ m₃ b₃ k₃ e₄.
    guard_took _ _ p₃ m₃ e₄ λ named e₅.
    skip_took _ _ p₃ m₃ e₅ λ others p₄ m₄ size b₄ k₄ e₆.
    sets_took names n next p₄ m₄ e₆ λ s q j k laid b₅ k₅ e₇.
    let filled : 0 < be16 h l = ltb-true 0 _ filled in
    then (h ∷ l ∷ first ∷ (others ++ s)) q (open_bytes 3 ++ (sealed_bytes (length others) ++ j)) k
    (set_and h l first others (omega arith) named laid)
    (rw (append_assoc others s q, b₁, b₂, b₃, b₄, b₅) refl)
    (rw (append_assoc (sealed_bytes (length others)) j k, k₁, k₂, k₃, k₄, k₅, size) refl)
    e₇

pub sets_give : {names : ℕ → Bool} {n : ℕ} {p : List ℕ} {m : Mask} → Sets names n p m → (next : Grammar) (q : List ℕ) (k : Mask) → next q ≡ some k
    → sets names n next (p ++ q) ≡ some (m ++ k)
unfolding sets set
sets_give no_set next q k e = e
sets_give (set_and {more = more} {moreMask = moreMask} h l first others size named rest) next q k e =
    let filled : 0 < be16 h l = omega arith in
    let others-size : length others ≡ be16 h l - 1 = omega arith in
    rw (append_assoc others more q, append_assoc (sealed_bytes (length others)) moreMask k, others-size)
    (byte_gives _ h _ _ (byte_gives _ l _ _ (guard_gives _ _ _ _ (lt-ltb 0 _ filled)
    (byte_gives _ first _ _ (guard_gives _ _ _ _ named (skip_gives _ _ others _ _ others-size (sets_give rest next q k e)))))))

-- ONE SET, by the tests of its length and its first byte
module _ (names : ℕ → Bool) (p : List ℕ) (i : ℕ) where
  set_at : (g : Grammar) → accepted (set names g (drop i p)) ≡ accepted_from (set_end names p i) g p
  unfolding set set_end accepted_at
  set_at g = go (dec_lt 0 (be16_at p i)) (dec_le (i + 2 + be16_at p i) (length p)) (dec_lt (i + 2) (length p)) (names (byte_at p (i + 2))) refl
    where
      two : i + 1 + 1 ≡ i + 2
      two = omega arith

      go : Dec (0 < be16_at p i) → Dec (i + 2 + be16_at p i ≤ length p) → Dec (i + 2 < length p) → (f : Bool) → names (byte_at p (i + 2)) ≡ f
          → accepted (set names g (drop i p)) ≡ accepted_from (set_end names p i) g p
      go (yes a) (yes b) d true f =
          let e : i + 2 + 1 + (be16_at p i - 1) ≡ i + 2 + be16_at p i = omega arith in
          simp (
            at-index,
            two,
            lt-ltb i (length p) (omega arith),
            lt-ltb (i + 1) (length p) (omega arith),
            lt-ltb (i + 2) (length p) (omega arith),
            lt-ltb 0 (be16_at p i) a,
            f,
            le-leb (be16_at p i - 1) (length p - (i + 2 + 1)) (omega arith),
            e,
            le-leb (i + 2 + be16_at p i) (length p) b,
          )
      go (yes a) (yes b) d false f = simp (at-index, two, f, cond_same false, cond_same {A = Option ℕ} None)
      go (yes a) (no b) (yes d) c f =
          simp (
            at-index,
            two,
            lt-leb (be16_at p i - 1) (length p - (i + 2 + 1)) (omega arith),
            cond_same false,
            lt-leb (i + 2 + be16_at p i) (length p) (omega arith),
            cond_same {A = Option ℕ} None,
          )
      go (yes a) (no b) (no d) c f =
          simp (
            at-index,
            two,
            le-ltb (i + 2) (length p) (omega arith),
            cond_same false,
            lt-leb (i + 2 + be16_at p i) (length p) (omega arith),
            cond_same {A = Option ℕ} None,
          )
      go (no a) b d c f = simp (at-index, le-ltb 0 (be16_at p i) (omega arith), cond_same false)

-- n SETS
module _ (names : ℕ → Bool) where
  pub sets_at : (n : ℕ) (g : Grammar) (p : List ℕ) (i : ℕ) → accepted (sets names n g (drop i p)) ≡ accepted_from (sets_end names n p i) g p
  unfolding sets sets_end accepted_at
  sets_at zero g p i = refl
  sets_at (suc n) g p i = set_at names p i (sets names n g) ∙ go (set_end names p i) (sets_at n g p)
    where
      go : (r : Option ℕ) → ((e : ℕ) → accepted (sets names n g (drop e p)) ≡ accepted_from (sets_end names n p e) g p)
          → accepted_from r (sets names n g) p ≡ accepted_from (and_then r (sets_end names n p)) g p
      go (Some e) rest = rest e
      go None rest = refl

  -- a turn of a walk with k sets left
  module _ (p : List ℕ) (k i : ℕ) where
    pub sets_done : k ≡ 0 → Some i ≡ sets_end names k p i
    unfolding sets_end
    sets_done e = rw e

    turn : (m : ℕ) → k ≡ m + 1 → sets_end names k p i ≡ and_then (set_end names p i) (sets_end names m p)
    unfolding sets_end
    turn m l = let q : k ≡ suc m = omega arith in rw q

    pub sets_stop : 0 < k → set_end names p i ≡ None → None ≡ sets_end names k p i
    sets_stop l q = sym (turn (k - 1) (omega arith) ∙ rw q)

    pub sets_more : (m : ℕ) → k ≡ m + 1 → (e : ℕ) → set_end names p i ≡ Some e → sets_end names m p e ≡ sets_end names k p i
    sets_more m l e q = sym (turn m l ∙ rw q)

pub ruleset turns = (sets_done, sets_stop, sets_more)
