-- COLUMNS, FILLED TRACK BY TRACK along two chains of heads: laws of one column, which all four share.
use mathlib.Core.Path.{◌≡◌, refl, sym, ap, ap₂, ◌∙◌}
use mathlib.Core.List.{List, map}
use Prim.Native.Nat.{ℕ, ◌+◌, ◌-◌, ◌≤◌, ◌<◌}
use native.Mathlib.Decide.{dec_lt, ℕ_discrete}
use native.Mathlib.Omega.{arith}
use lib.ListN.{length, get_or, set, length-set}
use lib.Seq.{get_or-set_same, get_or-set_other, ext_get_or}
use Rattle.std.specs.Prelude.{None}
use Rattle.wire.specs.Wire.{be32_at}
use Rattle.fourcc.specs.Fourcc.{fourcc_at}
use Rattle.outputs.specs.Outputs.{in_front}
use Rattle.writers.specs.Columns.{entry}
use Rattle.multitrack_media.specs.Container.{shared_size, header, header_at, track_fourcc, place_at, no_place}
use Rattle.multitrack_media.specs.Positions.{places_at}
use Rattle.multitrack_media.specs.Halves.{head_behind}
use Rattle.multitrack_media.specs.declared.AvMultitrackType.{AvMultitrackType}
use Rattle.multitrack_media.specs.declared.AvMultitrackType.TheVariants.{OneTrack, ManyTracks, ManyTracksManyCodecs}
use Rattle.multitrack_media.specs.declared.TrackPlace.{TrackPlace}
use Rattle.multitrack_media.proofs.Heads.{place_none, place_found, place_inside}
use Rattle.multitrack_media.proofs.Walks.{length_places}
use Rattle.multitrack_media.proofs.Halving.{behind_next, places_behind}
use Rattle.track_columns.specs.Claims.{ColumnKept}
use Rattle.track_columns.proofs.Walking.{front_entry, front_kept}

-- WHAT IS READ OF ONE TRACK
module _ (form : AvMultitrackType) (p : List ℕ) (at : ℕ) where
  abbrev pub Entry : ℕ → ℕ → ℕ → ℕ → Type 0
  Entry id fourcc start size = (id ≡ (place_at form p at).id) × (fourcc ≡ be32_at (place_at form p at).fourcc 0) × (start ≡ (place_at form p at).start) × (size ≡ (place_at form p at).length)

  pub entry_none : header_at form p at ≡ None → Entry 0 0 0 0
  entry_none h = rw (← place_none form p at h) (refl, refl, refl, refl)

  pub entry_found : (id start size fourcc : ℕ) → header_at form p at ≡ header id start size → fourcc ≡ be32_at (track_fourcc form p at) 0 → Entry id fourcc start size
  entry_found id start size fourcc h d = rw (← place_found form p at id start size h) (refl, d, refl, refl)

  pub entry_inside : (id fourcc start size : ℕ) → Entry id fourcc start size → start + size ≤ length p
  entry_inside id fourcc start size e = omega (arith, e.2, e.3, place_inside form p at)

  -- the chain goes on
  pub entry_next : (n from : ℕ) → at ≡ head_behind n form p from → (id fourcc start size : ℕ) → Entry id fourcc start size → start + size ≡ head_behind (n + 1) form p from
  entry_next n from q id fourcc start size e = ap₂ ◌+◌ e.2 e.3 ∙ behind_next form p n from at q (place_at form p at) refl

-- the number of its FourCC, by the form
module _ (form : AvMultitrackType) (p : List ℕ) (at : ℕ) where
  pub number_shared : (g : AvMultitrackType) → form ≡ g → shared_size g ≡ 4 → be32_at p 2 ≡ be32_at (track_fourcc form p at) 0
  unfolding track_fourcc fourcc_at
  number_shared OneTrack e s = rw e refl
  number_shared ManyTracks e s = rw e refl
  number_shared ManyTracksManyCodecs e s = absurd (omega arith)

  pub number_own : form ≡ ManyTracksManyCodecs → be32_at p at ≡ be32_at (track_fourcc form p at) 0
  unfolding track_fourcc fourcc_at
  number_own e = rw e refl

-- where the chain from the middle starts, and where it goes on
pub record Far (form : AvMultitrackType) (p : List ℕ) (from count middle far i : ℕ) : Type 0 where
  pub there : i < count - middle → far ≡ head_behind (middle + i) form p from

module _ (form : AvMultitrackType) (p : List ℕ) (from count middle : ℕ) where
  pub far_start : (far : ℕ) → (middle < count → far ≡ head_behind middle form p from) → Far form p from count middle far 0
  far_start far h = let e : middle + 0 ≡ middle = omega arith in record { there = λ l. rw e (h (omega arith)) }

  pub far_next : (i next : ℕ) → next ≡ head_behind (middle + i + 1) form p from → Far form p from count middle next (i + 1)
  far_next i next h = let e : middle + (i + 1) ≡ middle + i + 1 = omega arith in record { there = λ l. rw e h }

-- the chain from the first track on, where the second ends
pub behind_pairs : (form : AvMultitrackType) (p : List ℕ) (from at i pairs : ℕ) → pairs ≡ i → at ≡ head_behind i form p from → at ≡ head_behind pairs form p from
behind_pairs form p from at i pairs e q = rw e q

-- ONE COLUMN
module _ (form : AvMultitrackType) (p : List ℕ) (from count : ℕ) (f : TrackPlace → ℕ) (before : List ℕ) where
  -- entry j of the column of f says track j
  abbrev Right : List ℕ → ℕ → Type 0
  Right column j = entry column j ≡ f (get_or (places_at count form p from) j no_place)

  -- the entries up to i and those from the middle up to `end` are stored, and none past the count
  pub record Filling (column : List ℕ) (i middle end : ℕ) : Type 0 where
    pub long : length column ≡ length before
    pub near : (j : ℕ) → j < i → Right column j
    pub far : (j : ℕ) → middle ≤ j → j < end → Right column j
    pub behind : (j : ℕ) → count ≤ j → entry column j ≡ entry before j

  pub filling_start : (middle : ℕ) → Filling before 0 middle (middle + 0)
  filling_start middle = record { long = refl; near = λ j l. absurd (omega arith); far = λ j l m. absurd (omega arith); behind = λ j l. refl }

  module _ (room : count ≤ length before) {column : List ℕ} {i middle end : ℕ} (w : Filling column i middle end) where
    -- track k, whose head is at `at`, is stored
    module _ (k at : ℕ) (l : k < count) (e : at ≡ head_behind k form p from) (v : ℕ) (d : v ≡ f (place_at form p at)) where
      right : v ≡ f (get_or (places_at count form p from) k no_place)
      right = d ∙ ap f (ap (place_at form p) e ∙ sym (places_behind form p count from k l))

      stored : (j : ℕ) → ((j ≡ k → ⊥) → Right column j) → Right (set column k v) j
      stored j h = go (ℕ_discrete j k)
        where
          go : Dec (j ≡ k) → Right (set column k v) j
          go (yes s) = rw s (get_or-set_same column k v 0 (omega (arith, w.long)) ∙ right)
          go (no n) = get_or-set_other column k j v 0 n ∙ h n

      kept : (j : ℕ) → count ≤ j → entry (set column k v) j ≡ entry before j
      kept j m = get_or-set_other column k j v 0 (λ s. omega arith) ∙ w.behind j m

      pub filling_near : k ≡ i → Filling (set column k v) (i + 1) middle end
      filling_near s =
          record {
            long = length-set column k v ∙ w.long;
            near = λ j m. stored j (λ n. w.near j (omega (arith, n)));
            far = λ j m b. stored j (λ n. w.far j m b);
            behind = kept;
          }

      pub filling_far : k ≡ end → (next : ℕ) → next ≡ end + 1 → Filling (set column k v) i middle next
      filling_far s next z =
          record {
            long = length-set column k v ∙ w.long;
            near = λ j m. stored j (λ n. w.near j m);
            far = λ j m b. stored j (λ n. w.far j m (omega (arith, n)));
            behind = kept;
          }

    -- both chains are at their ends
    pub filling_done : count ≤ end → middle ≤ i → column ≡ in_front (map f (places_at count form p from)) before
    filling_done l m =
        let s : length (places_at count form p from) ≡ count = length_places form p count from in
        go s (front_kept f (places_at count form p from) before (omega (arith, s)))
      where
        go : length (places_at count form p from) ≡ count → ColumnKept (length (places_at count form p from)) before (in_front (map f (places_at count form p from)) before)
            → column ≡ in_front (map f (places_at count form p from)) before
        go s k = ext_get_or 0 column (in_front (map f (places_at count form p from)) before) (w.long ∙ sym k.long) (λ j b. by j (dec_lt j count) (dec_lt j i))
          where
            by : (j : ℕ) → Dec (j < count) → Dec (j < i) → entry column j ≡ entry (in_front (map f (places_at count form p from)) before) j
            by j (yes a) (yes b) = w.near j b ∙ sym (front_entry f (places_at count form p from) before j (omega (arith, s)))
            by j (yes a) (no b) = w.far j (omega arith) (omega arith) ∙ sym (front_entry f (places_at count form p from) before j (omega (arith, s)))
            by j (no a) b = w.behind j (omega arith) ∙ sym (k.behind j (omega (arith, s)))

-- a turn of both chains: track i, whose head is at `at`, and track `middle` + i, whose head is at `far`, are stored
module _ (form : AvMultitrackType) (p : List ℕ) (from count : ℕ) (f : TrackPlace → ℕ) (before : List ℕ) (room : count ≤ length before) {column : List ℕ} {i middle : ℕ} where
  pub filling_turn : Filling form p from count f before column i middle (middle + i) → middle + i < count
      → (at : ℕ) → at ≡ head_behind i form p from → (v : ℕ) → v ≡ f (place_at form p at)
      → (far : ℕ) → far ≡ head_behind (middle + i) form p from → (u : ℕ) → u ≡ f (place_at form p far)
      → Filling form p from count f before (set (set column i v) (middle + i) u) (i + 1) middle (middle + (i + 1))
  filling_turn w l at e v d far g u b =
      let near = filling_near form p from count f before room w i at (omega arith) e v d refl in
      filling_far form p from count f before room near (middle + i) far l g u b refl (middle + (i + 1)) (omega arith)

-- the second chain is at its end, and the first goes on in the column as it is then
module _ (form : AvMultitrackType) (p : List ℕ) (from count : ℕ) (f : TrackPlace → ℕ) (before : List ℕ) {column : List ℕ} {i middle end : ℕ} (w : Filling form p from count f before column i middle end) where
  pub filling_half : (pairs : ℕ) → pairs ≡ i → count ≤ end → Filling form p from count f column column pairs middle count
  filling_half pairs e l = record { long = refl; near = λ j m. w.near j (omega (arith, e)); far = λ j m b. w.far j m (omega arith); behind = λ j m. refl }

  pub filling_whole : {after : List ℕ} {k : ℕ} → Filling form p from count f column after k middle count → Filling form p from count f before after k middle count
  filling_whole v = record { long = v.long ∙ w.long; near = v.near; far = v.far; behind = λ j m. v.behind j m ∙ w.behind j m }
