-- Tracks as they are written and as they are read: what the reader finds is written there, and what is written is found.
use mathlib.Core.Path.{◌≡◌, refl, sym, ap, ap₂, ◌∙◌, subst}
use mathlib.Core.List.{List, [], ◌∷◌, ◌++◌, map, append_assoc}
use Prim.Native.Nat.{ℕ, zero, suc, ◌+◌, ◌-◌, ◌≤◌, ◌<◌}
use native.Mathlib.Omega.{arith}
use lib.ListN.{length, take, drop, length-append, length-drop}
use lib.Seq.{drop-drop, drop_at, drop-length, take-append_seam}
use Rattle.wire.specs.Wire.{Bytes, byte_at, part, be24_at, bytes24}
use Rattle.wire.proofs.Numbers.{be24_bytes, bytes24_be}
use Rattle.wire.proofs.Parts.{from_byte, from_part, length_part, at_drop, at_first}
use Rattle.fourcc.specs.Fourcc.{fourcc_at}
use Rattle.fourcc.proofs.Laws.{from_four, fourcc_read}
use Rattle.multitrack_media.specs.Tracks.{Track, track_head, head_size, track_bytes, tracks_bytes, Holds, Each, most}
use Rattle.multitrack_media.specs.Container.{header, sized_at, header_at, track_fourcc, place_at, track_in, places}
use Rattle.multitrack_media.specs.declared.AvMultitrackType.{AvMultitrackType}
use Rattle.multitrack_media.specs.declared.AvMultitrackType.TheVariants.{OneTrack, ManyTracks, ManyTracksManyCodecs}
use Rattle.multitrack_media.specs.declared.TrackPlace.{TrackPlace}
use Rattle.multitrack_media.proofs.Heads.{sized_whole, header_one, head_some, body_facts_lem, header_facts_lem, place_found, Heads, end, track, heads_room}

-- a track's head has its size, where the form can hold the track
pub length_head : (form : AvMultitrackType) (shared : List ℕ) (t : Track) → Holds form shared t → length (track_head form t) ≡ head_size form
length_head OneTrack shared t h = refl
length_head ManyTracks shared t h = refl
length_head ManyTracksManyCodecs shared t h = omega (arith, h.0, length-append t.fourcc (t.id ∷ bytes24 (length t.body)))

-- the shared FourCC stands in bytes 2 to 5
abbrev pub Shares : List ℕ → AvMultitrackType → List ℕ → Type 0
Shares p OneTrack shared = fourcc_at p 2 ≡ shared
Shares p ManyTracks shared = fourcc_at p 2 ≡ shared
Shares p ManyTracksManyCodecs shared = Unit {0}

-- WHAT IS READ IS WRITTEN THERE: a track's bytes stand from its head on
module _ (p : List ℕ) (bytes : Bytes p) where
  sized_bytes : (i : ℕ) → i + 4 ≤ length p → drop i p ≡ byte_at p i ∷ bytes24 (be24_at p (i + 1)) ++ drop (i + 4) p
  unfolding fourcc_at
  sized_bytes i h =
      let a : i + 2 ≡ i + 1 + 1 = omega arith in
      let b : i + 3 ≡ i + 1 + 2 = omega arith in
      from_four p i h ∙ rw (a, b) (ap (λ (n : List ℕ). byte_at p i ∷ n ++ drop (i + 4) p) (sym (bytes24_be _ _ _ (bytes (i + 1)) (bytes (i + 1 + 1)) (bytes (i + 1 + 2)))))

  sized_written : (i id start size : ℕ) → sized_at p i ≡ header id start size
      → drop i p ≡ (id ∷ bytes24 (length (part p start size))) ++ (part p start size ++ drop (start + size) p)
  unfolding sized_at
  sized_written i id start size h =
      let w = body_facts_lem p i (i + 4) (be24_at p (i + 1)) id start size h in
      let l : be24_at p (i + 1) ≡ length (part p start size) = sym (length_part p start size w.room ∙ w.long) in
      sized_bytes i (omega (arith, w.begin, w.room))
      ∙ ap₂ (λ (n : ℕ) (r : List ℕ). byte_at p i ∷ bytes24 n ++ r) l (ap (λ (j : ℕ). drop j p) (sym w.begin) ∙ from_part p start size)
      ∙ ap (λ (b : ℕ). b ∷ bytes24 (length (part p start size)) ++ (part p start size ++ drop (start + size) p)) (sym w.name)

  track_written : (form : AvMultitrackType) (i id start size : ℕ) → header_at form p i ≡ header id start size
      → drop i p ≡ track_bytes form (record { id = id; fourcc = track_fourcc form p i; body = part p start size }) ++ drop (start + size) p
  unfolding header_at track_fourcc
  track_written OneTrack i id start size h =
      let w = body_facts_lem p i (i + 1) (length p - (i + 1)) id start size h in
      from_byte p i (omega (arith, w.begin, w.room))
      ∙ ap₂ (λ (b : ℕ) (r : List ℕ). b ∷ r) (sym w.name) (ap (λ (j : ℕ). drop j p) (sym w.begin) ∙ from_part p start size)
  track_written ManyTracks i id start size h = sized_written i id start size h
  track_written ManyTracksManyCodecs i id start size h =
      let w = header_facts_lem p ManyTracksManyCodecs i id start size h in
      from_four p i (omega arith) ∙ unfold fourcc_at in ap (λ (r : List ℕ). fourcc_at p i ++ r) (sized_written (i + 4) id start size h)

  pub tracks_written : (form : AvMultitrackType) {k i : ℕ} {heads : List ℕ} → Heads form p k i heads → drop i p ≡ tracks_bytes form (map (track_in p) (map (place_at form p) heads))
  tracks_written form (end e) = ap (λ (n : ℕ). drop n p) e ∙ drop-length p
  tracks_written form {i = i} (track id start size h rest) =
      track_written form i id start size h
      ∙ ap₂ (λ (t : TrackPlace) (r : List ℕ). track_bytes form (track_in p t) ++ r) (place_found form p i id start size h) (tracks_written form rest)

  -- they are tracks that the form can hold
  track_held : (form : AvMultitrackType) (shared : List ℕ) → Shares p form shared → (i id start size : ℕ) → header_at form p i ≡ header id start size
      → Holds form shared (record { id = id; fourcc = track_fourcc form p i; body = part p start size })
  unfolding header_at track_fourcc sized_at fourcc_at
  track_held OneTrack shared s i id start size h = s
  track_held ManyTracks shared s i id start size h =
      let w = body_facts_lem p i (i + 4) (be24_at p (i + 1)) id start size h in
      (s, omega (arith, length_part p start size w.room, w.long, bytes (i + 1), bytes (i + 1 + 1), bytes (i + 1 + 2)))
  track_held ManyTracksManyCodecs shared s i id start size h =
      let w = body_facts_lem p (i + 4) (i + 4 + 4) (be24_at p (i + 4 + 1)) id start size h in
      (refl, omega (arith, length_part p start size w.room, w.long, bytes (i + 4 + 1), bytes (i + 4 + 1 + 1), bytes (i + 4 + 1 + 2)))

  pub tracks_held : (form : AvMultitrackType) (shared : List ℕ) → Shares p form shared → {k i : ℕ} {heads : List ℕ} → Heads form p k i heads
      → Each (Holds form shared) (map (track_in p) (map (place_at form p) heads))
  tracks_held form shared s (end e) = tt
  tracks_held form shared s {i = i} (track id start size h rest) =
      (subst (λ (t : TrackPlace). Holds form shared (track_in p t)) (place_found form p i id start size h) (track_held form shared s i id start size h), tracks_held form shared s rest)

  -- and in OneTrack there is at most one
  pub one_track : {k i : ℕ} {heads : List ℕ} → Heads OneTrack p k i heads → length heads ≤ 1
  unfolding header_at
  one_track (end e) = omega arith
  one_track {i = i} (track {k = k} {heads = heads} id start size h rest) =
      let w = body_facts_lem p i (i + 1) (length p - (i + 1)) id start size h in
      none_behind k (start + size) heads rest (omega (arith, w.begin, w.long, w.room))
    where
      none_behind : (n j : ℕ) (hs : List ℕ) → Heads OneTrack p n j hs → length p ≤ j → length (i ∷ hs) ≤ 1
      none_behind n j hs (end e) g = omega arith
      none_behind (suc n) j (j' ∷ hs) (track id' start' size' h' rest') g =
          absurd (omega (arith, heads_room OneTrack p (track id' start' size' h' rest') (omega arith)))

-- WHAT IS WRITTEN IS READ: where a track's bytes stand from i on
module _ (p : List ℕ) where
  sized_read : (i id : ℕ) (body r : List ℕ) → length body < 16777216 → drop i p ≡ (id ∷ bytes24 (length body)) ++ (body ++ r)
      → sized_at p i ≡ header id (i + 4) (length body)
  sized_read i id body r l e =
      let a : i + 1 + 1 ≡ i + 2 = omega arith in
      let b : i + 1 + 2 ≡ i + 3 = omega arith in
      let n : length body ≡ be24_at p (i + 1) = sym (rw (a, b, at_drop p i 1 _ e, at_drop p i 2 _ e, at_drop p i 3 _ e) (be24_bytes (length body) l)) in
      sym (sized_whole p i (length body) n (omega (arith, length-drop i p, ap length e, length-append body r)))
      ∙ ap (λ (x : ℕ). header x (i + 4) (length body)) (at_first p i _ e)

  -- behind a track's head stands its body, and then what follows
  module _ (form : AvMultitrackType) (shared : List ℕ) (i : ℕ) (t : Track) (r : List ℕ) (held : Holds form shared t) (e : drop i p ≡ track_bytes form t ++ r) where
    e' : drop i p ≡ track_head form t ++ (t.body ++ r)
    e' = e ∙ append_assoc (track_head form t) t.body r

    behind_head : drop (i + head_size form) p ≡ t.body ++ r
    behind_head = sym (drop-drop (head_size form) i p) ∙ ap (drop (head_size form)) e' ∙ drop_at (track_head form t) (t.body ++ r) (head_size form) (length_head form shared t held)

    behind_track : drop (i + head_size form + length t.body) p ≡ r
    behind_track = sym (drop-drop (length t.body) (i + head_size form) p) ∙ ap (drop (length t.body)) behind_head ∙ drop_at t.body r (length t.body) refl

    -- its part of the payload is its body
    part_body : part p (i + head_size form) (length t.body) ≡ t.body
    part_body = ap (take (length t.body)) behind_head ∙ take-append_seam t.body r

    where_ends : i + head_size form + length t.body + length r ≡ length p
    where_ends =
        omega (arith, head_some form, length_head form shared t held, length-drop i p, ap length e', length-append (track_head form t) (t.body ++ r), length-append t.body r)

  -- in OneTrack nothing stands behind the body
  abbrev Alone : AvMultitrackType → List ℕ → Type 0
  Alone OneTrack r = r ≡ []
  Alone ManyTracks r = Unit {0}
  Alone ManyTracksManyCodecs r = Unit {0}

  track_read : (form : AvMultitrackType) (shared : List ℕ) (i : ℕ) (t : Track) (r : List ℕ) → Holds form shared t → Shares p form shared → Alone form r → drop i p ≡ track_bytes form t ++ r
      → (header_at form p i ≡ header t.id (i + head_size form) (length t.body)) × (track_fourcc form p i ≡ t.fourcc)
  unfolding header_at track_fourcc
  track_read OneTrack shared i t r held s alone e =
      let l = where_ends OneTrack shared i t r held e in
      let z = ap length alone in
      (sym (header_one p i (length t.body) (omega arith) (omega arith)) ∙ ap (λ (x : ℕ). header x (i + 1) (length t.body)) (at_first p i _ e), s ∙ sym held)
  track_read ManyTracks shared i t r held s alone e = (sized_read i t.id t.body r held.1 e, s ∙ sym held.0)
  track_read ManyTracksManyCodecs shared i t r held s alone e =
      let head : List ℕ = t.id ∷ bytes24 (length t.body) in
      let n : i + 4 + 4 ≡ i + 8 = omega arith in
      let a : drop i p ≡ t.fourcc ++ (head ++ (t.body ++ r)) = e ∙ simp append_assoc in
      let b : drop (i + 4) p ≡ head ++ (t.body ++ r) = sym (drop-drop 4 i p) ∙ ap (drop 4) a ∙ drop_at t.fourcc _ 4 held.0 in
      (sized_read (i + 4) t.id t.body r held.1 b ∙ ap (λ (j : ℕ). header t.id j (length t.body)) n, fourcc_read p i t.fourcc _ held.0 a)

  -- all tracks
  abbrev pub heads_of : AvMultitrackType → ℕ → List Track → List ℕ
  heads_of form i [] = []
  heads_of form i (t ∷ ts) = i ∷ heads_of form (i + head_size form + length t.body) ts

  pub heads_least : (form : AvMultitrackType) (i : ℕ) (ts : List Track) → 0 < length ts → 0 < length (heads_of form i ts)
  heads_least form i [] l = absurd (omega arith)
  heads_least form i (t ∷ ts) l = omega arith

  alone : (form : AvMultitrackType) (t : Track) (ts : List Track) → length (t ∷ ts) ≤ most form → Alone form (tracks_bytes form ts)
  alone OneTrack t [] l = refl
  alone OneTrack t (u ∷ ts) l = absurd (omega arith)
  alone ManyTracks t ts l = tt
  alone ManyTracksManyCodecs t ts l = tt

  module _ (form : AvMultitrackType) (shared : List ℕ) (s : Shares p form shared) where
    pub tracks_read : (k i : ℕ) (ts : List Track) → Each (Holds form shared) ts → drop i p ≡ tracks_bytes form ts → i ≤ length p → length ts ≤ k → length ts ≤ most form
        → Heads form p k i (heads_of form i ts) × (map (place_at form p) (heads_of form i ts) ≡ places form i ts)
    tracks_read k i [] held e b l m = let x : i ≡ length p = omega (arith, length-drop i p, ap length e) in (end x, refl)
    tracks_read zero i (t ∷ ts) held e b l m = absurd (omega arith)
    tracks_read (suc k) i (t ∷ ts) held e b l m =
        let r : List ℕ = tracks_bytes form ts in
        let w = track_read form shared i t r held.0 s (alone form t ts m) e in
        let rest = tracks_read k (i + head_size form + length t.body) ts held.1 (behind_track form shared i t r held.0 e)
        (omega (arith, where_ends form shared i t r held.0 e)) (omega arith) (omega arith) in (
          track _ _ _ w.0 rest.0,
          ap₂ (λ (v : TrackPlace) (vs : List TrackPlace). v ∷ vs)
              (sym (place_found form p i _ _ _ w.0) ∙ ap (λ (f : List ℕ). record { id = t.id; fourcc = f; start = i + head_size form; length = length t.body }) w.1) rest.1,
        )

  -- A TRACK'S PART OF THE PAYLOAD IS ITS BODY
  pub tracks_back : (form : AvMultitrackType) (shared : List ℕ) (i : ℕ) (ts : List Track) → Each (Holds form shared) ts → drop i p ≡ tracks_bytes form ts
      → map (track_in p) (places form i ts) ≡ ts
  tracks_back form shared i [] held e = refl
  tracks_back form shared i (t ∷ ts) held e =
      let r : List ℕ = tracks_bytes form ts in
      ap₂ (λ (b : List ℕ) (us : List Track). record { id = t.id; fourcc = t.fourcc; body = b } ∷ us) (part_body form shared i t r held.0 e)
      (tracks_back form shared (i + head_size form + length t.body) ts held.1 (behind_track form shared i t r held.0 e))
