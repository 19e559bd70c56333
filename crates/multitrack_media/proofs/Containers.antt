-- THE READER ACCEPTS exactly what has a legal head and is tiled by 1 to 4,096 tracks, one in OneTrack; the tiling is unique; an encoding is read back.
use mathlib.Core.Path.{◌≡◌, refl, sym, ap, ap₂, ◌∙◌, subst}
use mathlib.Core.Bool.{true}
use mathlib.Core.Logic.{◌↔◌}
use mathlib.Core.Option.{Option, none, some, some-injective, none-ne-some}
use mathlib.Core.List.{List, [], ◌∷◌, ◌++◌, map}
use Prim.Native.Nat.{ℕ, ◌+◌, ◌≤◌, ◌<◌}
use native.Mathlib.Omega.{arith}
use lib.ListN.{length, take, drop, length-map, length-append}
use lib.Seq.{drop_at, take_at}
use Rattle.wire.specs.Wire.{Bytes, byte_at, part, low}
use Rattle.wire.proofs.Options.{require_some}
use Rattle.wire.proofs.Parts.{from_part, length_part}
use Rattle.fourcc.proofs.Laws.{from_four, fourcc_read}
use Rattle.fourcc.specs.Fourcc.{fourcc_at}
use Rattle.multitrack_media.specs.Tracks.{Track, head_size, tracks_bytes, Holds, Each, most, Tiles}
use Rattle.multitrack_media.specs.Container.{
  form_of,
  form_in,
  legal_head,
  shared_size,
  tracks_start,
  Encoding,
  container_bytes,
  Accepted,
  Container,
  place,
  places,
  contents,
  body_in,
  track_in,
  header,
  header_at,
  track_fourcc,
  place_at,
  heads_at,
  container_heads,
  with_heads,
  container_of,
}
use Rattle.multitrack_media.specs.declared.AvMultitrackType.{AvMultitrackType}
use Rattle.multitrack_media.specs.declared.AvMultitrackType.TheVariants.{OneTrack, ManyTracks, ManyTracksManyCodecs}
use Rattle.multitrack_media.specs.declared.TrackPlace.{TrackPlace}
use Rattle.multitrack_media.proofs.Heads.{header_facts_lem, place_found, Heads, end, track, heads_room, heads_limit, heads_found, heads_complete}
use Rattle.multitrack_media.proofs.Tiling.{Shares, tracks_written, tracks_held, one_track, heads_of, heads_least, tracks_read, tracks_back}

-- what the reader has found where it accepts
module _ (type : ℕ) (p : List ℕ) where
  pub record Found (c : Container) : Type 0 where
    pub heads : List ℕ
    pub legal : legal_head type (byte_at p 0) (byte_at p 1) ≡ true
    pub walked : heads_at 4096 (form_in p) p (tracks_start (form_in p)) ≡ some heads
    pub packet : c.packet_type ≡ low (byte_at p 1)
    pub placed : c.tracks ≡ map (place_at (form_in p) p) heads

  pub container_found : (c : Container) → container_of type p ≡ some c → Found c
  unfolding container_of container_heads
  container_found c q = go (container_heads type p) refl q
    where
      go : (o : Option (List ℕ)) → container_heads type p ≡ o → with_heads p o ≡ some c → Found c
      go none e q = absurd (none-ne-some _ q)
      go (some heads) e q =
          let r = require_some (legal_head type (byte_at p 0) (byte_at p 1)) (heads_at 4096 (form_in p) p (tracks_start (form_in p))) e in
          let same = sym (some-injective _ _ q) in
          record { heads = heads; legal = r.0; walked = r.1; packet = ap (λ (d : Container). d.packet_type) same; placed = ap (λ (d : Container). d.tracks) same }

  pub found_container : (c : Container) → Found c → container_of type p ≡ some c
  unfolding container_of container_heads
  found_container c f =
      let heads : container_heads type p ≡ some f.heads = rw f.legal f.walked in
      ap (with_heads p) heads
      ∙ ap₂ (λ (k : ℕ) (ts : List TrackPlace). some (record { packet_type = k; tracks = ts })) (sym f.packet) (sym f.placed)

  pub found_heads : (c : Container) (f : Found c) → Heads (form_in p) p 4096 (tracks_start (form_in p)) f.heads × (0 < length f.heads)
  found_heads c f = heads_found (form_in p) p 4096 (tracks_start (form_in p)) f.heads f.walked

-- TILED BYTES BEHIND A HEAD
module _ (b0 b1 : ℕ) (form : AvMultitrackType) (shared rest : List ℕ) (four : length shared ≡ shared_size form) where
  abbrev whole : List ℕ
  whole = b0 ∷ b1 ∷ (shared ++ rest)

  rest_there : (form : AvMultitrackType) → length shared ≡ shared_size form → drop (tracks_start form) whole ≡ rest
  rest_there OneTrack e = drop_at shared rest 4 e
  rest_there ManyTracks e = drop_at shared rest 4 e
  rest_there ManyTracksManyCodecs e = drop_at shared rest 0 e

  shares : (form : AvMultitrackType) → length shared ≡ shared_size form → Shares whole form shared
  shares OneTrack e = fourcc_read whole 2 shared rest e refl
  shares ManyTracks e = fourcc_read whole 2 shared rest e refl
  shares ManyTracksManyCodecs e = tt

  most_4096 : (form : AvMultitrackType) → most form ≤ 4096
  most_4096 OneTrack = omega arith
  most_4096 ManyTracks = omega arith
  most_4096 ManyTracksManyCodecs = omega arith

  module _ (ts : List Track) (t : Tiles form shared ts rest) where
    tiled_there : drop (tracks_start form) whole ≡ tracks_bytes form ts
    tiled_there = rest_there form four ∙ t.written

    abbrev pub tiled_heads : List ℕ
    tiled_heads = heads_of whole form (tracks_start form) ts

    pub tiled_read : (heads_at 4096 form whole (tracks_start form) ≡ some tiled_heads) × (map (place_at form whole) tiled_heads ≡ places form (tracks_start form) ts)
    tiled_read =
        let w = tracks_read whole form shared (shares form four) 4096 (tracks_start form) ts t.held tiled_there
        (omega (arith, four, length-append shared rest)) (omega (arith, t.limit, most_4096 form)) t.limit in
        (heads_complete form whole w.0 (heads_least whole form (tracks_start form) ts t.least), w.1)

    pub tiled_back : map (track_in whole) (places form (tracks_start form) ts) ≡ ts
    tiled_back = tracks_back whole form shared (tracks_start form) ts t.held tiled_there

-- THE TILING IS UNIQUE
pub tiles_unique : (form : AvMultitrackType) (shared : List ℕ) → length shared ≡ shared_size form → (ts us : List Track) (rest : List ℕ) → Tiles form shared ts rest → Tiles form shared us rest
    → ts ≡ us
tiles_unique form shared four ts us rest t u =
    let a = tiled_read 0 0 form shared rest four ts t in
    let b = tiled_read 0 0 form shared rest four us u in
    let h = some-injective _ _ (sym a.0 ∙ b.0) in
    sym (tiled_back 0 0 form shared rest four ts t)
    ∙ ap (map (track_in (0 ∷ 0 ∷ (shared ++ rest)))) (sym a.1 ∙ ap (map (place_at form (0 ∷ 0 ∷ (shared ++ rest)))) h ∙ b.1)
    ∙ tiled_back 0 0 form shared rest four us u

-- COMPLETE: what is accepted is read, its contents and its tracks
module _ (type : ℕ) (p : List ℕ) (e : Encoding) (h : Accepted type p e) where
  pub accepted_read : container_of type p ≡ some (contents e)
  accepted_read =
      let w = tiled_read e.byte0 e.byte1 (form_of e.byte1) e.shared h.rest h.four e.tracks h.tiled in
      ap (container_of type) h.bytes ∙ found_container type _ (contents e) (record { heads = _; legal = h.legal; walked = w.0; packet = refl; placed = sym w.1 })

  pub accepted_tracks : map (track_in p) (contents e).tracks ≡ e.tracks
  accepted_tracks =
      ap (λ (r : List ℕ). map (track_in r) (contents e).tracks) h.bytes
      ∙ tiled_back e.byte0 e.byte1 (form_of e.byte1) e.shared h.rest h.four e.tracks h.tiled

-- AN ENCODING IS READ BACK, its tracks in order
module _ (type : ℕ) (e : Encoding) (legal : legal_head type e.byte0 e.byte1 ≡ true) (four : length e.shared ≡ shared_size (form_of e.byte1))
    (held : Each (Holds (form_of e.byte1) e.shared) e.tracks) (least : 0 < length e.tracks) (limit : length e.tracks ≤ most (form_of e.byte1)) where
  pub encoding_accepted : Accepted type (container_bytes e) e
  encoding_accepted = record { rest = _; bytes = refl; legal = legal; four = four; tiled = record { written = refl; held = held; least = least; limit = limit } }

  pub encoding_read : container_of type (container_bytes e) ≡ some (contents e)
  encoding_read = accepted_read type (container_bytes e) e encoding_accepted

  pub encoding_tracks : map (track_in (container_bytes e)) (contents e).tracks ≡ e.tracks
  encoding_tracks = accepted_tracks type (container_bytes e) e encoding_accepted

-- the encoding that a container was read from
abbrev pub encoding_of : List ℕ → Container → Encoding
encoding_of p c =
    record { byte0 = byte_at p 0; byte1 = byte_at p 1; shared = part p 2 (shared_size (form_in p)); tracks = map (track_in p) c.tracks }

pub accepted_encoding : (type : ℕ) (p : List ℕ) (e : Encoding) → Accepted type p e → encoding_of p (contents e) ≡ e
accepted_encoding type p e h =
    ap₂ (λ (r : List ℕ) (ts : List Track). record { byte0 = byte_at r 0; byte1 = byte_at r 1; shared = part r 2 (shared_size (form_of (byte_at r 1))); tracks = ts }) h.bytes (accepted_tracks type p e h)
    ∙ ap (λ (s : List ℕ). record { byte0 = e.byte0; byte1 = e.byte1; shared = s; tracks = e.tracks }) (take_at e.shared h.rest _ h.four)

pub accepted_unique : (type : ℕ) (p : List ℕ) (e d : Encoding) → Accepted type p e → Accepted type p d → e ≡ d
accepted_unique type p e d h g =
    sym (accepted_encoding type p e h) ∙ ap (encoding_of p) (some-injective _ _ (sym (accepted_read type p e h) ∙ accepted_read type p d g)) ∙ accepted_encoding type p d g

-- SOUND: what is read is accepted, and has those contents
module _ (type : ℕ) (p : List ℕ) (bytes : Bytes p) where
  two : 2 ≤ length p → p ≡ byte_at p 0 ∷ byte_at p 1 ∷ drop 2 p
  two l = go p l
    where
      go : (p : List ℕ) → 2 ≤ length p → p ≡ byte_at p 0 ∷ byte_at p 1 ∷ drop 2 p
      go [] l = absurd (omega arith)
      go (a ∷ []) l = absurd (omega arith)
      go (a ∷ b ∷ r) l = refl

  shared_there : (form : AvMultitrackType) → tracks_start form ≤ length p → Shares p form (part p 2 (shared_size form))
  unfolding fourcc_at
  shared_there OneTrack l = sym (ap (take 4) (from_four p 2 l))
  shared_there ManyTracks l = sym (ap (take 4) (from_four p 2 l))
  shared_there ManyTracksManyCodecs l = tt

  heads_most : (form : AvMultitrackType) {i : ℕ} {heads : List ℕ} → Heads form p 4096 i heads → length heads ≤ most form
  heads_most OneTrack w = one_track p bytes w
  heads_most ManyTracks w = heads_limit ManyTracks p w
  heads_most ManyTracksManyCodecs w = heads_limit ManyTracksManyCodecs p w

  place_back : (form : AvMultitrackType) (i id start size : ℕ) → header_at form p i ≡ header id start size
      → (place form i (track_in p (place_at form p i)) ≡ place_at form p i) × (i + head_size form + length (body_in p (place_at form p i)) ≡ start + size)
  place_back form i id start size h =
      let w = header_facts_lem p form i id start size h in
      let l = length_part p start size w.room in
      subst (λ (v : TrackPlace). (place form i (track_in p v) ≡ v) × (i + head_size form + length (body_in p v) ≡ start + size)) (place_found form p i id start size h)
      (ap₂ (λ (s n : ℕ). record { id = id; fourcc = track_fourcc form p i; start = s; length = n }) (sym w.begin) l, omega arith)

  places_back : (form : AvMultitrackType) {k i : ℕ} {heads : List ℕ} → Heads form p k i heads → places form i (map (track_in p) (map (place_at form p) heads)) ≡ map (place_at form p) heads
  places_back form (end e) = refl
  places_back form {i = i} (track {heads = heads} id start size h rest) =
      let w = place_back form i id start size h in
      ap₂ (λ (v : TrackPlace) (vs : List TrackPlace). v ∷ vs) w.0 (ap (λ (j : ℕ). places form j (map (track_in p) (map (place_at form p) heads))) w.1 ∙ places_back form rest)

  pub read_accepted : (c : Container) → container_of type p ≡ some c → Accepted type p (encoding_of p c)
  read_accepted c q =
      let f = container_found type p c q in
      let form : AvMultitrackType = form_in p in
      let w = found_heads type p c f in
      let l : tracks_start form < length p = heads_room form p w.0 w.1 in
      let shared : List ℕ = part p 2 (shared_size form) in
      record {
        rest = drop (tracks_start form) p;
        bytes = two (omega arith) ∙ ap (λ (r : List ℕ). byte_at p 0 ∷ byte_at p 1 ∷ r) (from_part p 2 (shared_size form));
        legal = f.legal;
        four = length_part p 2 (shared_size form) (omega arith);
        tiled = subst (λ (ts : List TrackPlace). Tiles form shared (map (track_in p) ts) (drop (tracks_start form) p)) (sym f.placed) (record {
          written = tracks_written p bytes form w.0;
          held = tracks_held p bytes form shared (shared_there form (omega arith)) w.0;
          least = simp length-map w.1;
          limit = simp length-map (heads_most form w.0);
        });
      }

  pub read_contents : (c : Container) → container_of type p ≡ some c → contents (encoding_of p c) ≡ c
  read_contents c q =
      let f = container_found type p c q in
      let form : AvMultitrackType = form_in p in
      ap₂ (λ (k : ℕ) (ts : List TrackPlace). record { packet_type = k; tracks = ts }) (sym f.packet)
      (ap (λ (ts : List TrackPlace). places form (tracks_start form) (map (track_in p) ts)) f.placed ∙ places_back form (found_heads type p c f).0 ∙ sym f.placed)

  -- EXACTLY
  pub accepted_iff : (c : Container) → (container_of type p ≡ some c) ↔ ((e : Encoding) × Accepted type p e × (contents e ≡ c))
  accepted_iff c = (λ q. (encoding_of p c, read_accepted c q, read_contents c q), λ w. accepted_read type p w.0 w.1 ∙ ap some w.2)

  pub refused_iff_lem : (container_of type p ≡ none) ↔ ((e : Encoding) → Accepted type p e → ⊥)
  refused_iff_lem = (λ q e h. none-ne-some _ (sym q ∙ accepted_read type p e h), go (container_of type p) refl)
    where
      go : (o : Option Container) → container_of type p ≡ o → ((e : Encoding) → Accepted type p e → ⊥) → container_of type p ≡ none
      go none q f = q
      go (some c) q f = absurd (f (encoding_of p c) (read_accepted c q))
