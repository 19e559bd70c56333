-- Laws of the HEVC rule: its bytes and mask, noninterference, and the rule by positions, for each test that the code makes.
use mathlib.Core.Path.{◌≡◌, refl, sym, ◌∙◌}
use mathlib.Core.Bool.{Bool, false, ◌&&◌}
use mathlib.Core.Option.{some}
use mathlib.Core.List.{List}
use Prim.Native.Nat.{ℕ, zero, suc, ◌+◌, ◌-◌, ◌%◌, ◌≤◌, ◌<◌}
use native.Mathlib.Omega.{arith}
use lib.ListN.{length}
use borrow.Author.Tests.{lt-ltb, le-ltb, le-leb, eqb-true, eq-eqb, ne_eqb}
use Rattle.wire.specs.Wire.{byte_at, be16_at}
use Rattle.wire.specs.Mask.{Mask}
use Rattle.wire.specs.Grammar.{Noninterfering, sealed_rest}
use Rattle.wire.proofs.Grammars.{byte_took, skip_took, guard_took, rest_took, byte_gives, skip_gives, guard_gives, rest_gives, noninterference}
use Rattle.wire.proofs.Positions.{at-index, byte_at_lem}
use Rattle.codec_config.specs.Records.{hevc_names, set_seen, hevc_arrays, hevc, record_grammar, record_valid}
use Rattle.codec_config.specs.Layouts.{Arrays, no_array, array_and, HevcLayout}
use Rattle.codec_config.specs.Positions.{sets_end, accepted_at, accepted_from}
use Rattle.std.specs.Prelude.{Option, Some, None}
use Rattle.codec_config.specs.declared.ConfigCodec.TheVariants.{Hevc}
use Rattle.codec_config.proofs.Conds.{cond_same, cond_test}
use Rattle.codec_config.proofs.Sets.{sets_took, sets_give, sets_hold, sets_at}

-- BYTES AND MASK, both ways
arrays_took : (n : ℕ) (sps pps : Bool) (p : List ℕ) (m : Mask) → hevc_arrays n sps pps p ≡ some m → Arrays n sps pps p m
unfolding hevc_arrays
arrays_took zero sps pps p m e =
    guard_took _ sealed_rest p m e λ seen e₁.
    rw (rest_took p m e₁) (no_array p seen)
arrays_took (suc n) sps pps p m e =
    byte_took _ p m e λ type p₁ m₁ b₁ k₁ e₁.
    byte_took _ p₁ m₁ e₁ λ h p₂ m₂ b₂ k₂ e₂.
    byte_took _ p₂ m₂ e₂ λ l p₃ m₃ b₃ k₃ e₃.
    sets_took _ _ _ p₃ m₃ e₃ λ s q j k laid b₄ k₄ e₄.
    rw (b₁, b₂, b₃, b₄, k₁, k₂, k₃, k₄) (array_and type h l laid (arrays_took n _ _ q k e₄))

arrays_give : {n : ℕ} {sps pps : Bool} {p : List ℕ} {m : Mask} → Arrays n sps pps p m → hevc_arrays n sps pps p ≡ some m
unfolding hevc_arrays
arrays_give (no_array after seen) = guard_gives _ sealed_rest after _ seen (rest_gives after)
arrays_give (array_and type h l laid more) =
    byte_gives _ type _ _ (byte_gives _ h _ _ (byte_gives _ l _ _ (sets_give laid _ _ _ (arrays_give more))))

pub hevc_took : (p : List ℕ) (m : Mask) → hevc p ≡ some m → HevcLayout p m
unfolding hevc
hevc_took p m e =
    byte_took _ p m e λ version p₁ m₁ b₁ k₁ e₁.
    guard_took _ _ p₁ m₁ e₁ λ one e₂.
    skip_took 21 _ p₁ m₁ e₂ λ head p₂ m₂ size b₂ k₂ e₃.
    byte_took _ p₂ m₂ e₃ λ count p₃ m₃ b₃ k₃ e₄.
    record {
      head = head;
      count = count;
      arrays = p₃;
      arrays_mask = m₃;
      size = size;
      counted = arrays_took count false false p₃ m₃ e₄;
      bytes = rw (b₁, eqb-true version 1 one, b₂, b₃) refl;
      mask = rw (k₁, k₂, k₃) refl;
    }

pub hevc_gives : {p : List ℕ} {m : Mask} → HevcLayout p m → hevc p ≡ some m
unfolding hevc
hevc_gives l =
    rw (l.bytes, l.mask)
    (byte_gives _ 1 _ _ (guard_gives _ _ _ _ refl (skip_gives 21 _ l.head _ _ l.size (byte_gives _ l.count _ _ (arrays_give l.counted)))))

-- NONINTERFERENCE
arrays_hold : (n : ℕ) (sps pps : Bool) → Noninterfering (hevc_arrays n sps pps)
unfolding hevc_arrays
arrays_hold zero sps pps = search noninterference
arrays_hold (suc n) sps pps = search (noninterference, sets_hold, arrays_hold n)

pub hevc_holds : Noninterfering hevc
unfolding hevc
hevc_holds = search (noninterference, arrays_hold)

-- THE ARRAYS, k of them left, from i on, by the tests of the code
module _ (p : List ℕ) (k i : ℕ) (sps pps : Bool) where
  pub arrays_done : k ≡ 0 → (sps && pps) ≡ accepted_at (hevc_arrays k sps pps) p i
  unfolding accepted_at hevc_arrays
  arrays_done e = rw e (sym (simp at-index (cond_test (sps && pps))))

  pub arrays_short : 0 < k → length p < i + 3 → false ≡ accepted_at (hevc_arrays k sps pps) p i
  unfolding accepted_at hevc_arrays
  arrays_short l h =
      let q : k ≡ suc (k - 1) = omega arith in
      rw q (simp (at-index, le-ltb (i + 1 + 1) (length p) (omega arith), cond_same false))

  module _ (h : i + 3 ≤ length p) (type n : ℕ) (t : type ≡ byte_at p i % 64) (c : n ≡ be16_at p (i + 1)) where
    arrays_sets : (m : ℕ) → k ≡ m + 1 → (r : Option ℕ) → sets_end (hevc_names type) n p (i + 3) ≡ r
        → accepted_from r (hevc_arrays m (set_seen sps 33 type n) (set_seen pps 34 type n)) p ≡ accepted_at (hevc_arrays k sps pps) p i
    unfolding accepted_at hevc_arrays
    arrays_sets m l r q =
        let one_more : k ≡ suc m = omega arith in
        let e : i + 1 + 1 + 1 ≡ i + 3 = omega arith in
        rw one_more
        (sym (simp (at-index, lt-ltb i (length p) (omega arith), lt-ltb (i + 1) (length p) (omega arith), lt-ltb (i + 1 + 1) (length p) (omega arith), e, ← t, ← c, sets_at, q)))

    pub arrays_stop : 0 < k → sets_end (hevc_names type) n p (i + 3) ≡ None → false ≡ accepted_at (hevc_arrays k sps pps) p i
    arrays_stop l q = arrays_sets (k - 1) (omega arith) None q

    pub arrays_more : (m : ℕ) → k ≡ m + 1 → (e : ℕ) → sets_end (hevc_names type) n p (i + 3) ≡ Some e
        → accepted_at (hevc_arrays m (set_seen sps 33 type n) (set_seen pps 34 type n)) p e ≡ accepted_at (hevc_arrays k sps pps) p i
    arrays_more m l e q = arrays_sets m l (Some e) q

-- THE RECORD
module _ (p : List ℕ) where
  -- a record has over 22 bytes
  pub hevc_short : length p < 23 → record_valid Hevc p ≡ false
  unfolding record_valid record_grammar hevc
  hevc_short h = byte_at_lem _ p 0 ∙ simp (at-index, le-ltb 22 (length p) (omega arith), cond_same false)

  pub hevc_version : (byte_at p 0 ≡ 1 → ⊥) → record_valid Hevc p ≡ false
  unfolding record_valid record_grammar hevc
  hevc_version n = byte_at_lem _ p 0 ∙ simp (at-index, ne_eqb (byte_at p 0) 1 n, cond_same false)

  pub hevc_arrays_lem : 23 ≤ length p → byte_at p 0 ≡ 1 → (n : ℕ) → n ≡ byte_at p 22 → accepted_at (hevc_arrays n false false) p 23 ≡ record_valid Hevc p
  unfolding record_valid record_grammar hevc accepted_at
  hevc_arrays_lem h v n c =
      sym (byte_at_lem _ p 0
      ∙ simp (
        at-index,
        lt-ltb 0 (length p) (omega arith),
        eq-eqb (byte_at p 0) 1 v,
        le-leb 21 (length p - 1) (omega arith),
        lt-ltb 22 (length p) (omega arith),
        ← c,
      ))

-- what the code is proved by
pub ruleset hevc_at = (hevc_short, hevc_version, hevc_arrays_lem, arrays_done, arrays_short, arrays_stop, arrays_more)
