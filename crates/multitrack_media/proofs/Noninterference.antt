-- What the sealed bytes of a container hold changes nothing of it, for any value and mask of bodies that have this law themselves; with bodies
-- sealed whole, exactly the bodies are sealed, and with any mask of bodies each track's body as its mask says.
use mathlib.Core.Path.{◌≡◌, refl, sym, ap, ap₂, ◌∙◌}
use mathlib.Core.Bool.{Bool, true, false, ◌&&◌, ◌||◌, or-false}
use mathlib.Core.Option.{some}
use mathlib.Core.List.{List, [], ◌∷◌, map}
use Prim.Native.Nat.{ℕ, zero, suc, ◌+◌, ◌-◌, ◌≤◌, ◌<◌}
use native.Mathlib.Decide.{dec_lt}
use native.Mathlib.Omega.{arith}
use lib.Dec.{ltb}
use lib.ListN.{length, get_or, get_or-replicate}
use lib.Seq.{get_or-take, get_or-drop}
use borrow.Author.Tests.{lt-ltb, le-ltb, le-leb, lt-leb}
use Rattle.wire.specs.Wire.{byte_at, part, be24_at}
use Rattle.wire.specs.Mask.{Mask, LowEquivalent, sealed_bytes, sealed_at}
use Rattle.wire.proofs.Bools.{or_no_left, or_no_right}
use Rattle.wire.proofs.Masks.{low_at}
use Rattle.wire.proofs.Parts.{length_part}
use Rattle.fourcc.proofs.Laws.{fourcc_same}
use Rattle.multitrack_media.specs.Tracks.{head_size}
use Rattle.multitrack_media.specs.Container.{form_in, tracks_start, Container, body_in, no_place, header, sized_at, header_at, track_fourcc, place_at, container_of}
use Rattle.multitrack_media.specs.Sealed.{in_body, sealed_in_tracks, sealed_in_container, whole, in_any_body, per_track}
use Rattle.multitrack_media.specs.declared.AvMultitrackType.{AvMultitrackType}
use Rattle.multitrack_media.specs.declared.AvMultitrackType.TheVariants.{OneTrack, ManyTracks, ManyTracksManyCodecs}
use Rattle.multitrack_media.specs.declared.TrackPlace.{TrackPlace}
use Rattle.multitrack_media.proofs.Heads.{sized_whole, header_one, head_some, body_facts_lem, header_facts_lem, place_found, place_start, place_length, Heads, end, track, heads_complete}
use Rattle.multitrack_media.proofs.Containers.{container_found, found_container, found_heads}

-- A BODY: before, behind and in it
module _ (t : TrackPlace) (i : ℕ) where
  before_body : i < t.start → in_body t i ≡ false
  unfolding in_body
  before_body h = ap (λ (b : Bool). b && ltb i (t.start + t.length)) (lt-leb t.start i h)

  behind_body : t.start + t.length ≤ i → in_body t i ≡ false
  unfolding in_body
  behind_body h = simp (le-leb t.start i (omega arith), le-ltb _ _ h)

  in_body_lem : t.start ≤ i → i < t.start + t.length → in_body t i ≡ true
  unfolding in_body
  in_body_lem h l = simp (le-leb _ _ h, lt-ltb _ _ l)

-- WHERE TRACKS SEAL: not before the first body
module _ (mask : List ℕ → List ℕ → Mask) (form : AvMultitrackType) (p : List ℕ) where
  abbrev sealed_from : List ℕ → ℕ → Bool
  sealed_from heads i = sealed_in_tracks mask p (map (place_at form p) heads) i

  sealed_before : {k i : ℕ} {heads : List ℕ} → Heads form p k i heads → (j : ℕ) → j < i + head_size form → sealed_from heads j ≡ false
  sealed_before (end e) j l = refl
  sealed_before {i = i} (track id start size h rest) j l =
      let w = header_facts_lem p form i id start size h in
      simp (before_body (place_at form p i) j (omega (arith, place_start form p i id start size h)), sealed_before rest j (omega (arith, head_some form)))

  -- with a track in front: nothing before its body, in its body what its mask says, behind it what the tracks behind say
  module _ (k i id start size : ℕ) (heads : List ℕ) (h : header_at form p i ≡ header id start size) (rest : Heads form p k (start + size) heads) (j : ℕ) where
    sealed_head : j < start → sealed_from (i ∷ heads) j ≡ false
    sealed_head l = simp (before_body (place_at form p i) j (omega (arith, place_start form p i id start size h)), sealed_before rest j (omega (arith, head_some form)))

    sealed_body : start ≤ j → j < start + size → sealed_from (i ∷ heads) j ≡ sealed_at (mask (place_at form p i).fourcc (body_in p (place_at form p i))) (j - (place_at form p i).start)
    sealed_body b l =
        simp (
          in_body_lem (place_at form p i) j (omega (arith, place_start form p i id start size h))
              (omega (arith, place_start form p i id start size h, place_length form p i id start size h)),
          sealed_before rest j
              (omega (arith, head_some form)),
          or-false,
        )

    sealed_behind : start + size ≤ j → sealed_from (i ∷ heads) j ≡ sealed_from heads j
    sealed_behind l = simp (behind_body (place_at form p i) j (omega (arith, place_start form p i id start size h, place_length form p i id start size h)))

-- WHAT DECIDES A HEAD: the length and the bytes before the body
module _ (p q : List ℕ) (long : length p ≡ length q) where
  abbrev Alike : ℕ → ℕ → Type 0
  Alike i n = (j : ℕ) → i ≤ j → j < n → byte_at p j ≡ byte_at q j

  sized_same : (i id start size : ℕ) → sized_at p i ≡ header id start size → Alike i start → sized_at q i ≡ header id start size
  unfolding sized_at
  sized_same i id start size h e =
      let w = body_facts_lem p i (i + 4) (be24_at p (i + 1)) id start size h in
      let n : size ≡ be24_at q (i + 1) =
      omega (arith, w.long, e (i + 1) (omega arith) (omega arith), e (i + 1 + 1) (omega arith) (omega arith), e (i + 1 + 2) (omega arith) (omega arith)) in
      sym (sized_whole q i size n (omega arith)) ∙ ap₂ (λ (a b : ℕ). header a b size) (sym (w.name ∙ e i (omega arith) (omega arith))) (sym w.begin)

  header_same : (form : AvMultitrackType) (i id start size : ℕ) → header_at form p i ≡ header id start size → Alike i start → header_at form q i ≡ header id start size
  unfolding header_at
  header_same OneTrack i id start size h e =
      let w = body_facts_lem p i (i + 1) (length p - (i + 1)) id start size h in
      sym (header_one q i size (omega arith) (omega arith)) ∙ ap₂ (λ (a b : ℕ). header a b size) (sym (w.name ∙ e i (omega arith) (omega arith))) (sym w.begin)
  header_same ManyTracks i id start size h e = sized_same i id start size h e
  header_same ManyTracksManyCodecs i id start size h e = sized_same (i + 4) id start size h (λ j l m. e j (omega arith) m)

  fourcc_alike : (form : AvMultitrackType) (i id start size : ℕ) → header_at form p i ≡ header id start size → Alike i start → Alike 0 (tracks_start form) → track_fourcc form p i ≡ track_fourcc form q i
  unfolding track_fourcc
  fourcc_alike OneTrack i id start size h e front = fourcc_same p q 2 (λ j l m. front j (omega arith) (omega arith))
  fourcc_alike ManyTracks i id start size h e front = fourcc_same p q 2 (λ j l m. front j (omega arith) (omega arith))
  fourcc_alike ManyTracksManyCodecs i id start size h e front =
      let w = header_facts_lem p ManyTracksManyCodecs i id start size h in
      fourcc_same p q i (λ j l m. e j l (omega arith))

  place_same : (form : AvMultitrackType) (i id start size : ℕ) → header_at form p i ≡ header id start size → Alike i start → Alike 0 (tracks_start form) → place_at form q i ≡ place_at form p i
  place_same form i id start size h e front =
      sym (place_found form q i id start size (header_same form i id start size h e))
      ∙ ap (λ (f : List ℕ). record { id = id; fourcc = f; start = start; length = size }) (sym (fourcc_alike form i id start size h e front))
      ∙ place_found form p i id start size h

-- two parts that agree outside a mask
parts_alike : (m : Mask) (p q : List ℕ) (s n : ℕ) → length p ≡ length q → s + n ≤ length p → ((j : ℕ) → j < n → sealed_at m j ≡ false → byte_at p (s + j) ≡ byte_at q (s + j))
    → LowEquivalent (sealed_at m) (part p s n) (part q s n)
parts_alike m p q s n long room e = record { long = length_part p s n room ∙ sym (length_part q s n (omega arith)); same = each }
  where
    each : (j : ℕ) → j < length (part p s n) → sealed_at m j ≡ false → byte_at (part p s n) j ≡ byte_at (part q s n) j
    each j l z =
        let k : j < n = omega (arith, length_part p s n room) in
        get_or-take n _ j 0 k ∙ get_or-drop s p j 0 ∙ e j k z ∙ sym (get_or-take n _ j 0 k ∙ get_or-drop s q j 0)

-- a body's value and mask do not depend on its sealed bytes
pub record BodyLaw {W : Type 0} (value : List ℕ → List ℕ → W) (mask : List ℕ → List ℕ → Mask) : Type 0 where
  pub values : (f p q : List ℕ) → LowEquivalent (sealed_at (mask f p)) p q → value f q ≡ value f p
  pub masks : (f p q : List ℕ) → LowEquivalent (sealed_at (mask f p)) p q → mask f q ≡ mask f p

module _ {W : Type 0} (value : List ℕ → List ℕ → W) (mask : List ℕ → List ℕ → Mask) (law : BodyLaw value mask) where
  -- THE TRACKS FROM i ON, in two payloads
  module _ (form : AvMultitrackType) (p q : List ℕ) (long : length p ≡ length q) (front : Alike p q long 0 (tracks_start form)) where
    abbrev Unsealed : ℕ → List ℕ → Type 0
    Unsealed i heads = (j : ℕ) → i ≤ j → j < length p → sealed_from mask form p heads j ≡ false → byte_at p j ≡ byte_at q j

    body_alike : (k i id start size : ℕ) (heads : List ℕ) → header_at form p i ≡ header id start size → Heads form p k (start + size) heads → Unsealed i (i ∷ heads)
        → LowEquivalent (sealed_at (mask (place_at form p i).fourcc (body_in p (place_at form p i)))) (body_in p (place_at form p i)) (body_in q (place_at form p i))
    body_alike k i id start size heads h rest u =
        let w = header_facts_lem p form i id start size h in
        let s = place_start form p i id start size h in
        let n = place_length form p i id start size h in
        parts_alike _ p q (place_at form p i).start (place_at form p i).length long (omega arith)
        (λ j l z.
        let d : (place_at form p i).start + j - (place_at form p i).start ≡ j = omega arith in
        u ((place_at form p i).start + j) (omega arith) (omega arith) (sealed_body mask form p k i id start size heads h rest _ (omega arith) (omega arith) ∙ rw d z))

    record Same (k i : ℕ) (heads : List ℕ) : Type 0 where
      walked : Heads form q k i heads
      placed : map (place_at form q) heads ≡ map (place_at form p) heads
      values : per_track value q (map (place_at form p) heads) ≡ per_track value p (map (place_at form p) heads)
      sealed : (j : ℕ) → sealed_in_tracks mask q (map (place_at form p) heads) j ≡ sealed_in_tracks mask p (map (place_at form p) heads) j

    tracks_same : {k i : ℕ} {heads : List ℕ} → Heads form p k i heads → Unsealed i heads → Same k i heads
    tracks_same (end e) u = record { walked = end (e ∙ long); placed = refl; values = refl; sealed = λ j. refl }
    tracks_same {i = i} (track {k = k} {heads = heads} id start size h rest) u =
        let w = header_facts_lem p form i id start size h in
        let e : Alike p q long i start = λ j l m. u j l (omega arith) (sealed_head mask form p k i id start size heads h rest j m) in
        let same = tracks_same rest (λ j l m z. u j (omega arith) m (sealed_behind mask form p k i id start size heads h rest j l ∙ z)) in
        let v : TrackPlace = place_at form p i in
        let body = body_alike k i id start size heads h rest u in
        record {
          walked = track id start size (header_same p q long form i id start size h e) same.walked;
          placed = ap₂ (λ (t : TrackPlace) (ts : List TrackPlace). t ∷ ts) (place_same p q long form i id start size h e front) same.placed;
          values = ap₂ (λ (a : W) (r : List W). a ∷ r) (law.values v.fourcc (body_in p v) (body_in q v) body) same.values;
          sealed = λ j. ap₂ (λ (m : Mask) (b : Bool). (in_body v j && sealed_at m (j - v.start)) || b) (law.masks v.fourcc (body_in p v) (body_in q v) body) (same.sealed j);
        }

  -- THE TWO RUNS: a payload q that agrees with p outside the bytes sealed in p is the same container, with the same values and the same sealed bytes
  module _ (type : ℕ) (p q : List ℕ) (c : Container) (read : container_of type p ≡ some c) (a : LowEquivalent (sealed_in_container mask p c) p q) where
    pub record SameContainer : Type 0 where
      pub same : container_of type q ≡ some c
      pub values : per_track value q c.tracks ≡ per_track value p c.tracks
      pub sealed : (i : ℕ) → sealed_in_container mask q c i ≡ sealed_in_container mask p c i

    pub container_noninterference : SameContainer
    unfolding sealed_in_container
    container_noninterference =
        let f = container_found type p c read in
        let form : AvMultitrackType = form_in p in
        let w = found_heads type p c f in
        let open_byte : (j : ℕ) → sealed_from mask form p f.heads j ≡ false → byte_at p j ≡ byte_at q j = λ j z. low_at a j (rw f.placed z) in
        let front : Alike p q a.long 0 (tracks_start form) = λ j l m. open_byte j (sealed_before mask form p w.0 j (omega (arith, head_some form))) in
        let b0 = front 0 (omega arith) (omega arith) in
        let b1 = front 1 (omega arith) (omega arith) in
        let same = tracks_same form p q a.long front w.0 (λ j l m z. open_byte j z) in
        record {
          same = found_container type q c (record {
            heads = f.heads;
            legal = rw (← b0, ← b1) f.legal;
            walked = rw (← b1) (heads_complete form q same.walked w.1);
            packet = rw (← b1) f.packet;
            placed = rw (← b1) (f.placed ∙ sym same.placed);
          });
          values = rw f.placed same.values;
          sealed = λ i. rw f.placed (same.sealed i);
        }

-- THE FRONT OF A CONTAINER is open: bytes 0 to 6 stand before any body
front_size : (form : AvMultitrackType) → 7 ≤ tracks_start form + head_size form
front_size OneTrack = omega arith
front_size ManyTracks = omega arith
front_size ManyTracksManyCodecs = omega arith

pub front_open : (mask : List ℕ → List ℕ → Mask) (type : ℕ) (p : List ℕ) (c : Container) → container_of type p ≡ some c → (i : ℕ) → i < 7 → sealed_in_container mask p c i ≡ false
unfolding sealed_in_container
front_open mask type p c read i l =
    let f = container_found type p c read in
    rw f.placed (sealed_before mask _ p (found_heads type p c f).0 i (omega (arith, front_size (form_in p))))

-- and they are there
pub front_room : (type : ℕ) (p : List ℕ) (c : Container) → container_of type p ≡ some c → 7 ≤ length p
front_room type p c read =
    let f = container_found type p c read in
    let w = found_heads type p c f in
    go w.0 w.1
  where
    go : {k : ℕ} {heads : List ℕ} → Heads (form_in p) p k (tracks_start (form_in p)) heads → 0 < length heads → 7 ≤ length p
    go (end e) l = absurd (omega arith)
    go (track id start size h rest) l = omega (arith, header_facts_lem p (form_in p) (tracks_start (form_in p)) id start size h, front_size (form_in p))

-- BODIES SEALED WHOLE: exactly the bodies are sealed
whole_body : (p : List ℕ) (t : TrackPlace) (i : ℕ) → t.start + t.length ≤ length p → (in_body t i && sealed_at (sealed_bytes (length (body_in p t))) (i - t.start)) ≡ in_body t i
whole_body p t i room = go (dec_lt i t.start) (dec_lt i (t.start + t.length))
  where
    go : Dec (i < t.start) → Dec (i < t.start + t.length) → (in_body t i && sealed_at (sealed_bytes (length (body_in p t))) (i - t.start)) ≡ in_body t i
    go (yes h) l = rw (before_body t i h)
    go (no h) (no l) = rw (behind_body t i (omega arith))
    go (no h) (yes l) = simp (in_body_lem t i (omega arith) l, length_part p t.start t.length room) (unfold sealed_at in get_or-replicate t.length (i - t.start) true false (omega arith))

tracks_whole : (form : AvMultitrackType) (p : List ℕ) (i : ℕ) {k j : ℕ} {heads : List ℕ} → Heads form p k j heads
    → sealed_in_tracks whole p (map (place_at form p) heads) i ≡ in_any_body (map (place_at form p) heads) i
tracks_whole form p i (end e) = refl
tracks_whole form p i {j = j} (track id start size h rest) =
    let w = header_facts_lem p form j id start size h in
    ap₂ (λ (a b : Bool). a || b) (whole_body p (place_at form p j) i (omega (arith, place_start form p j id start size h, place_length form p j id start size h))) (tracks_whole form p i rest)

pub exactly_bodies : (type : ℕ) (p : List ℕ) (c : Container) → container_of type p ≡ some c → (i : ℕ) → sealed_in_container whole p c i ≡ in_any_body c.tracks i
unfolding sealed_in_container
exactly_bodies type p c read i =
    let f = container_found type p c read in
    rw f.placed (tracks_whole _ p i (found_heads type p c f).0)

-- TRACK BY TRACK, for any mask of bodies: in a track's body what its own mask says, outside the bodies nothing
module _ (mask : List ℕ → List ℕ → Mask) (p : List ℕ) where
  module _ (form : AvMultitrackType) where
    abbrev nth : List ℕ → ℕ → TrackPlace
    nth heads n = get_or (map (place_at form p) heads) n no_place

    -- tracks from i on have their bodies behind i
    nth_behind : {k i : ℕ} {heads : List ℕ} → Heads form p k i heads → (n : ℕ) → n < length (map (place_at form p) heads) → i ≤ (nth heads n).start
    nth_behind (end e) n l = absurd (omega arith)
    nth_behind {i = i} (track id start size h rest) zero l = omega (arith, (header_facts_lem p form i id start size h).behind, place_start form p i id start size h)
    nth_behind {i = i} (track id start size h rest) (suc n) l = omega (arith, (header_facts_lem p form i id start size h).behind, nth_behind rest n (omega arith))

    nth_sealed : {k i : ℕ} {heads : List ℕ} → Heads form p k i heads → (n : ℕ) → n < length (map (place_at form p) heads) → (j : ℕ) → j < (nth heads n).length
        → sealed_from mask form p heads ((nth heads n).start + j) ≡ sealed_at (mask (nth heads n).fourcc (body_in p (nth heads n))) j
    nth_sealed (end e) n l j m = absurd (omega arith)
    nth_sealed {i = i} (track {k = k} {heads = heads} id start size h rest) zero l j m =
        let v : TrackPlace = place_at form p i in
        let s = place_start form p i id start size h in
        let z = place_length form p i id start size h in
        let d : v.start + j - v.start ≡ j = omega arith in
        sealed_body mask form p k i id start size heads h rest (v.start + j) (omega arith) (omega arith) ∙ ap (sealed_at (mask v.fourcc (body_in p v))) d
    nth_sealed {i = i} (track {k = k} {heads = heads} id start size h rest) (suc n) l j m =
        sealed_behind mask form p k i id start size heads h rest _ (omega (arith, nth_behind rest n (omega arith))) ∙ nth_sealed rest n (omega arith) j m

  pub sealed_in_body : (type : ℕ) (c : Container) → container_of type p ≡ some c → (n : ℕ) → n < length c.tracks → (j : ℕ) → j < (get_or c.tracks n no_place).length
      → sealed_in_container mask p c ((get_or c.tracks n no_place).start + j) ≡ sealed_at (mask (get_or c.tracks n no_place).fourcc (body_in p (get_or c.tracks n no_place))) j
  unfolding sealed_in_container
  sealed_in_body type c read n =
      let f = container_found type p c read in
      rw f.placed (nth_sealed (form_in p) (found_heads type p c f).0 n)

  pub sealed_in_no_body : (c : Container) (i : ℕ) → in_any_body c.tracks i ≡ false → sealed_in_container mask p c i ≡ false
  unfolding sealed_in_container
  sealed_in_no_body c i = go c.tracks
    where
      go : (ts : List TrackPlace) → in_any_body ts i ≡ false → sealed_in_tracks mask p ts i ≡ false
      go [] e = refl
      go (t ∷ ts) e = simp (or_no_left (in_body t i) _ e, go ts (or_no_right (in_body t i) _ e))
