-- Laws of the walk over the heads: before the first track, past one track, and at each of its ends; and of the places that a walk finds.
use mathlib.Core.Path.{◌≡◌, refl, ap, ap₂, ◌∙◌}
use mathlib.Core.Bool.{Bool, true, false, cond}
use mathlib.Core.Option.{Option, none, some}
use mathlib.Core.List.{List, [], ◌∷◌, map}
use Prim.Native.Nat.{ℕ, zero, suc, ◌+◌, ◌-◌, ◌≤◌, ◌<◌}
use native.Mathlib.Omega.{arith}
use lib.Dec.{eqb, ltb}
use lib.ListN.{length, get_or, length-map}
use borrow.Author.Tests.{ltb-true, ltb-false, eqb-true, eqb-false, lt-ltb, le-ltb}
use Rattle.std.specs.Prelude.{Some, None}
use Rattle.std.specs.Prelude as std
use Rattle.multitrack_media.specs.Container.{form_in, tracks_start, Container, header_at, place_at, prepend, end_or_more, heads_at, container_of}
use Rattle.multitrack_media.specs.Positions.{walk, walk_of, walk_on, pick, places_at}
use Rattle.multitrack_media.specs.declared.AvMultitrackType.{AvMultitrackType}
use Rattle.multitrack_media.specs.declared.TrackHeader.{TrackHeader}
use Rattle.multitrack_media.specs.declared.Walk.{Walk}
use Rattle.multitrack_media.specs.declared.TrackPlace.{TrackPlace}
use Rattle.std.proofs.lemmas.Bool.Decides.{nat_tests}
use Rattle.multitrack_media.proofs.Heads.{end_inside, heads_step, Heads, end, track, place_start, place_length}
use Rattle.multitrack_media.proofs.Containers.{container_found, found_heads}

-- one head more is behind
chosen : (n c i w : ℕ) (heads : List ℕ) → cond (ltb n c) w (get_or (i ∷ heads) (n - c) w) ≡ cond (ltb n (c + 1)) (pick n c i w) (get_or heads (n - (c + 1)) (pick n c i w))
chosen n c i w heads = go (ltb n c) (eqb n c) refl refl
  where
    go : (a b : Bool) → ltb n c ≡ a → eqb n c ≡ b → cond a w (get_or (i ∷ heads) (n - c) w) ≡ cond (ltb n (c + 1)) (cond b i w) (get_or heads (n - (c + 1)) (cond b i w))
    go true true x y = absurd (omega (arith, ltb-true n c x, eqb-true n c y))
    go true false x y = simp (lt-ltb n (c + 1) (omega (arith, ltb-true n c x)))
    go false true x y =
        let e : n - c ≡ 0 = omega (arith, eqb-true n c y) in
        simp (lt-ltb n (c + 1) (omega (arith, eqb-true n c y)), e)
    go false false x y =
        let m : c < n = omega (arith, ltb-false n c x, eqb-false n c y) in
        let e : n - c ≡ suc (n - (c + 1)) = omega arith in
        simp (le-ltb n (c + 1) (omega arith), e)

walk_prepend : (n c i w : ℕ) (o : Option (List ℕ)) → walk_on n c w (prepend i o) ≡ walk_on n (c + 1) (pick n c i w) o
unfolding walk_on
walk_prepend n c i w none = refl
walk_prepend n c i w (some heads) =
    let e : c + suc (length heads) ≡ c + 1 + length heads = omega arith in
    ap₂ walk e (chosen n c i w heads)

-- no track is behind
pub walk_start : (n : ℕ) (o : Option (List ℕ)) → walk_on n 0 0 o ≡ walk_of n o
unfolding walk_on walk_of
walk_start n none = refl
walk_start n (some heads) =
    let e : 0 + length heads ≡ length heads = omega arith in
    let d : n - 0 ≡ n = omega arith in
    simp (le-ltb n 0 (omega arith), e, d)

-- no track is ahead
walk_end : (n c i w : ℕ) → walk_on n (c + 1) (pick n c i w) (some []) ≡ walk (c + 1) (pick n c i w)
unfolding walk_on
walk_end n c i w = let e : c + 1 + 0 ≡ c + 1 = omega arith in ap₂ walk e (go (ltb n (c + 1)))
  where
    go : (b : Bool) → cond b (pick n c i w) (pick n c i w) ≡ pick n c i w
    go true = refl
    go false = refl

-- c tracks are behind, of 4,096 at most, and the next head is at i: there is none, it is that of the last track, or more follow
module _ (form : AvMultitrackType) (p : List ℕ) (n c w i : ℕ) where
  pub walk_none : 4096 ≤ c → walk_on n c w (heads_at (4096 - c) form p i) ≡ None
  unfolding walk_on heads_at
  walk_none h = let e : 4096 - c ≡ 0 = omega arith in rw e

  abbrev pub walk_turned : std.Option TrackHeader → std.Option Walk
  walk_turned None = None
  walk_turned (Some t) =
      cond (eqb (t.start + t.length) (length p)) (walk (c + 1) (pick n c i w))
      (walk_on n (c + 1) (pick n c i w) (heads_at (4096 - (c + 1)) form p (t.start + t.length)))

  pub walk_turn : c < 4096 → walk_on n c w (heads_at (4096 - c) form p i) ≡ walk_turned (header_at form p i)
  unfolding walk_on
  walk_turn l = rw (heads_step form p c i l) (go (header_at form p i))
    where
      go : (h : std.Option TrackHeader) → walk_on n c w (end_or_more p i h (heads_at (4096 - (c + 1)) form p)) ≡ walk_turned h
      go None = refl
      go (Some t) = by_end (eqb (t.start + t.length) (length p))
        where
          more : Option (List ℕ)
          more = heads_at (4096 - (c + 1)) form p (t.start + t.length)

          by_end : (b : Bool) → walk_on n c w (cond b (some (i ∷ [])) (prepend i more)) ≡ cond b (walk (c + 1) (pick n c i w)) (walk_on n (c + 1) (pick n c i w) more)
          by_end true = walk_prepend n c i w (some []) ∙ walk_end n c i w
          by_end false = walk_prepend n c i w more

-- what `walk_heads` goes by
pub ruleset walk_laws = (walk_start, walk_none, walk_turn, end_inside, nat_tests)

-- PLACES one behind the other: none is left, or the first and those behind it
module _ (form : AvMultitrackType) (p : List ℕ) where
  pub places_none : (n i : ℕ) → n ≡ 0 → places_at n form p i ≡ []
  unfolding places_at
  places_none n i e = rw e

  pub places_step : (n i : ℕ) → 0 < n → places_at n form p i ≡ place_at form p i ∷ places_at (n - 1) form p ((place_at form p i).start + (place_at form p i).length)
  unfolding places_at
  places_step zero i l = absurd (omega arith)
  places_step (suc n) i l = let d : suc n - 1 ≡ n = omega arith in rw d

  pub length_places : (n i : ℕ) → length (places_at n form p i) ≡ n
  unfolding places_at
  length_places zero i = refl
  length_places (suc n) i = ap suc (length_places n ((place_at form p i).start + (place_at form p i).length))

  places_heads : {k i : ℕ} {heads : List ℕ} → Heads form p k i heads → places_at (length heads) form p i ≡ map (place_at form p) heads
  unfolding places_at
  places_heads (end e) = refl
  places_heads {i = i} (track {heads = heads} id start size h rest) =
      let e : (place_at form p i).start + (place_at form p i).length ≡ start + size = ap₂ ◌+◌ (place_start form p i id start size h) (place_length form p i id start size h) in
      ap (λ (ts : List TrackPlace). place_at form p i ∷ ts) (ap (places_at (length heads) form p) e ∙ places_heads rest)

-- in a container, its tracks
pub places_container : (type : ℕ) (p : List ℕ) (c : Container) → container_of type p ≡ some c
    → places_at (length c.tracks) (form_in p) p (tracks_start (form_in p)) ≡ c.tracks
places_container type p c q =
    let f = container_found type p c q in
    rw (f.placed, length-map f.heads (place_at (form_in p) p)) (places_heads (form_in p) p (found_heads type p c f).0)
