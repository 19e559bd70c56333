-- Laws of the reader: what a track's head says, and the heads of tracks that fill a payload to its end.
use mathlib.Core.Path.{◌≡◌, refl, sym, ap, ◌∙◌}
use mathlib.Core.Bool.{cond}
use mathlib.Core.Option.{Option, none, some, some-injective, none-ne-some}
use mathlib.Core.List.{List, [], ◌∷◌}
use Prim.Native.Nat.{ℕ, zero, suc, ◌+◌, ◌-◌, ◌≤◌, ◌<◌}
use native.Mathlib.Decide.{ℕ_discrete}
use native.Mathlib.Omega.{arith}
use lib.Dec.{eqb, leb}
use lib.ListN.{length}
use borrow.Author.Tests.{eq-eqb, ne_eqb, leb-true, le-leb}
use Rattle.std.proofs.lemmas.Option.{cond_some}
use Rattle.std.specs.Prelude.{Some, None}
use Rattle.std.specs.Prelude as std
use Rattle.wire.specs.Wire.{byte_at, be24_at}
use Rattle.multitrack_media.specs.Tracks.{head_size}
use Rattle.multitrack_media.specs.Container.{header, body_at, sized_at, header_at, track_fourcc, no_place, place_of, place_at, prepend, end_or_more, heads_at}
use Rattle.multitrack_media.specs.declared.AvMultitrackType.{AvMultitrackType}
use Rattle.multitrack_media.specs.declared.AvMultitrackType.TheVariants.{OneTrack, ManyTracks, ManyTracksManyCodecs}
use Rattle.multitrack_media.specs.declared.TrackHeader.{TrackHeader}
use Rattle.multitrack_media.specs.declared.TrackPlace.{TrackPlace}

-- ONE HEAD
pub head_some : (form : AvMultitrackType) → 0 < head_size form
head_some OneTrack = omega arith
head_some ManyTracks = omega arith
head_some ManyTracksManyCodecs = omega arith

module _ (p : List ℕ) where
  -- where the body fits
  body_whole : (id start size : ℕ) → start + size ≤ length p → header (byte_at p id) start size ≡ body_at p id start size
  unfolding body_at
  body_whole id start size h = simp (le-leb _ _ h)

  pub sized_whole : (i n : ℕ) → n ≡ be24_at p (i + 1) → i + 4 + n ≤ length p → header (byte_at p i) (i + 4) n ≡ sized_at p i
  unfolding sized_at
  sized_whole i n e h = body_whole i (i + 4) n h ∙ ap (body_at p i (i + 4)) e

  pub header_one : (i size : ℕ) → i < length p → size ≡ length p - (i + 1) → header (byte_at p i) (i + 1) size ≡ header_at OneTrack p i
  unfolding header_at
  header_one i size h e = body_whole i (i + 1) size (omega arith) ∙ ap (body_at p i (i + 1)) e

  -- and what it is then
  pub record BodyFacts (at from n id start size : ℕ) : Type 0 where
    pub name : id ≡ byte_at p at
    pub begin : start ≡ from
    pub long : size ≡ n
    pub room : start + size ≤ length p

  pub body_facts_lem : (at from n id start size : ℕ) → body_at p at from n ≡ header id start size → BodyFacts at from n id start size
  unfolding body_at
  body_facts_lem at from n id start size q =
      let w = cond_some (leb (from + n) (length p)) _ _ q in
      let b : start ≡ from = sym (ap (λ (t : TrackHeader). t.start) w.1) in
      let l : size ≡ n = sym (ap (λ (t : TrackHeader). t.length) w.1) in
      record { name = sym (ap (λ (t : TrackHeader). t.track_id) w.1); begin = b; long = l; room = omega (arith, leb-true _ _ w.0) }

  -- a head stands before its body, and the body in the payload
  pub record HeaderFacts (form : AvMultitrackType) (i start size : ℕ) : Type 0 where
    pub begin : start ≡ i + head_size form
    pub behind : i < start
    pub room : start + size ≤ length p

  pub header_facts_lem : (form : AvMultitrackType) (i id start size : ℕ) → header_at form p i ≡ header id start size → HeaderFacts form i start size
  unfolding header_at sized_at
  header_facts_lem OneTrack i id start size q =
      let w = body_facts_lem i (i + 1) (length p - (i + 1)) id start size q in record { begin = w.begin; behind = omega arith; room = w.room }
  header_facts_lem ManyTracks i id start size q =
      let w = body_facts_lem i (i + 4) (be24_at p (i + 1)) id start size q in record { begin = w.begin; behind = omega arith; room = w.room }
  header_facts_lem ManyTracksManyCodecs i id start size q =
      let w = body_facts_lem (i + 4) (i + 4 + 4) (be24_at p (i + 4 + 1)) id start size q in record { begin = omega arith; behind = omega arith; room = w.room }

-- where a body ends that a head says, 0 where there is none
abbrev pub end_of : std.Option TrackHeader → ℕ
end_of None = 0
end_of (Some t) = t.start + t.length

-- (the first part lets `grind` pick the law up at a head)
pub end_inside : (form : AvMultitrackType) (p : List ℕ) (i : ℕ) → (header_at form p i ≡ header_at form p i) × (end_of (header_at form p i) ≤ length p)
end_inside form p i = (refl, go (header_at form p i) refl)
  where
    go : (h : std.Option TrackHeader) → header_at form p i ≡ h → end_of h ≤ length p
    go None q = omega arith
    go (Some t) q = (header_facts_lem p form i t.track_id t.start t.length q).room

pub place_end : (form : AvMultitrackType) (p : List ℕ) (i : ℕ) → (place_at form p i).start + (place_at form p i).length ≡ end_of (header_at form p i)
unfolding place_at
place_end form p i = go (header_at form p i)
  where
    go : (h : std.Option TrackHeader) → (place_of h (track_fourcc form p i)).start + (place_of h (track_fourcc form p i)).length ≡ end_of h
    go None = refl
    go (Some t) = refl

-- a track's place, from its head
module _ (form : AvMultitrackType) (p : List ℕ) (i id start size : ℕ) (h : header_at form p i ≡ header id start size) where
  pub place_found : record { id = id; fourcc = track_fourcc form p i; start = start; length = size } ≡ place_at form p i
  unfolding place_at
  place_found = simp h

  pub place_start : (place_at form p i).start ≡ start
  place_start = ap (λ (t : TrackPlace). t.start) (sym place_found)

  pub place_length : (place_at form p i).length ≡ size
  place_length = ap (λ (t : TrackPlace). t.length) (sym place_found)

pub place_none : (form : AvMultitrackType) (p : List ℕ) (i : ℕ) → header_at form p i ≡ None → no_place ≡ place_at form p i
unfolding place_at
place_none form p i h = simp h

-- a place, or none, is inside the payload
pub place_inside : (form : AvMultitrackType) (p : List ℕ) (i : ℕ) → (place_at form p i).start + (place_at form p i).length ≤ length p
place_inside form p i = omega (arith, place_end form p i, (end_inside form p i).1)

-- and so is a track that was found there
pub track_inside : (form : AvMultitrackType) (p : List ℕ) (i : ℕ) (t : TrackPlace) → t ≡ place_at form p i → t.start + t.length ≤ length p
track_inside form p i t e = rw e (place_inside form p i)

-- the heads from i on, where c tracks of 4,096 at most are behind
pub heads_step : (form : AvMultitrackType) (p : List ℕ) (c i : ℕ) → c < 4096
    → heads_at (4096 - c) form p i ≡ end_or_more p i (header_at form p i) (heads_at (4096 - (c + 1)) form p)
unfolding heads_at
heads_step form p c i l = let e : 4096 - c ≡ suc (4096 - (c + 1)) = omega arith in rw e

-- ALL HEADS from i on: none at the payload's end, or that of a track, and those behind it
module _ (form : AvMultitrackType) (p : List ℕ) where
  pub data Heads : ℕ → ℕ → List ℕ → Type 0 where
    end : {k i : ℕ} → i ≡ length p → Heads k i []
    track : {k i : ℕ} {heads : List ℕ} (id start size : ℕ) → header_at form p i ≡ header id start size → Heads k (start + size) heads → Heads (suc k) i (i ∷ heads)

  -- a head stands before the payload's end
  pub heads_room : {k i : ℕ} {heads : List ℕ} → Heads k i heads → 0 < length heads → i < length p
  heads_room (end e) l = absurd (omega arith)
  heads_room {i = i} (track id start size h rest) l = let w = header_facts_lem p form i id start size h in omega arith

  pub heads_limit : {k i : ℕ} {heads : List ℕ} → Heads k i heads → length heads ≤ k
  heads_limit (end e) = omega arith
  heads_limit (track id start size h rest) = omega (arith, heads_limit rest)

  -- what `heads_at` gives, and only that
  prepend_some : (i : ℕ) (o : Option (List ℕ)) (heads : List ℕ) → prepend i o ≡ some heads → (rest : List ℕ) × (o ≡ some rest) × (i ∷ rest ≡ heads)
  prepend_some i none heads q = absurd (none-ne-some _ q)
  prepend_some i (some rest) heads q = (rest, refl, some-injective _ _ q)

  pub heads_found : (k i : ℕ) (heads : List ℕ) → heads_at k form p i ≡ some heads → Heads k i heads × (0 < length heads)
  unfolding heads_at
  heads_found zero i heads q = absurd (none-ne-some _ q)
  heads_found (suc k) i heads q = go (heads_found k) (header_at form p i) refl q
    where
      go : ((j : ℕ) (rest : List ℕ) → heads_at k form p j ≡ some rest → Heads k j rest × (0 < length rest)) → (h : std.Option TrackHeader) → header_at form p i ≡ h
          → end_or_more p i h (heads_at k form p) ≡ some heads → Heads (suc k) i heads × (0 < length heads)
      go ih None h q = absurd (none-ne-some _ q)
      go ih (Some t) h q = by_end (ℕ_discrete (t.start + t.length) (length p))
        where
          by_end : Dec (t.start + t.length ≡ length p) → Heads (suc k) i heads × (0 < length heads)
          by_end (yes e) =
              let z : i ∷ [] ≡ heads = some-injective _ _ (simp (eq-eqb _ _ e) at q) in
              rw (← z) (track t.track_id t.start t.length h (end e), omega arith)
          by_end (no e) =
              let w = prepend_some i (heads_at k form p (t.start + t.length)) heads (simp (ne_eqb _ _ e) at q) in
              rw (← w.2) (track t.track_id t.start t.length h (ih (t.start + t.length) w.0 w.1).0, omega arith)

  pub heads_complete : {k i : ℕ} {heads : List ℕ} → Heads k i heads → 0 < length heads → heads_at k form p i ≡ some heads
  unfolding heads_at
  heads_complete (end e) l = absurd (omega arith)
  heads_complete {i = i} (track {k = k} {heads = heads} id start size h rest) l =
      simp h (behind k (start + size) heads rest (λ m. heads_complete rest m))
    where
      behind : (n j : ℕ) (hs : List ℕ) → Heads n j hs → (0 < length hs → heads_at n form p j ≡ some hs)
          → cond (eqb j (length p)) (some (i ∷ [])) (prepend i (heads_at n form p j)) ≡ some (i ∷ hs)
      behind n j hs (end e) ih = simp (eq-eqb _ _ e)
      behind (suc n) j (j' ∷ hs) (track id' start' size' h' rest') ih =
          let n : j ≡ length p → ⊥ = λ e. omega (arith, heads_room (track id' start' size' h' rest') (omega arith)) in
          simp (ne_eqb _ _ n, ih (omega arith))
