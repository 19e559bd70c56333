-- EVERY ACCEPTED PAYLOAD is what the writer makes of its own head, tracks and places.
use mathlib.Core.Path.{◌≡◌, refl, sym, ap, ◌∙◌, subst}
use mathlib.Core.Bool.{Bool, true, false, cond, not, ◌||◌}
use mathlib.Core.Option.{some}
use mathlib.Core.List.{List, [], ◌∷◌, ◌++◌, map}
use Prim.Native.Nat.{ℕ, zero, suc, ◌+◌, ◌*◌, ◌/◌, ◌%◌, ◌≤◌, ◌<◌}
use native.Mathlib.Omega.{arith}
use lib.Dec.{eqb}
use lib.ListN.{length, get_or, length-map}
use lib.Seq.{ext_get_or}
use borrow.Author.Tests.{eqb-true, eqb-false, not-true}
use Rattle.wire.specs.Wire.{Bytes, byte_at, part, be32_at, bytes32, high, bit}
use Rattle.wire.proofs.Bools.{and_left, and_right}
use Rattle.wire.proofs.Parts.{length_part}
use Rattle.types.specs.Types.{is_video}
use Rattle.multitrack_media.specs.Tracks.{Track, Holds, Each, most}
use Rattle.multitrack_media.specs.Container.{opens_container, form_number, form_of, form_in, shared_size, Encoding, Accepted, Container, container_bytes, track_in, no_place, container_of}
use Rattle.multitrack_media.specs.declared.AvMultitrackType.{AvMultitrackType}
use Rattle.multitrack_media.specs.declared.AvMultitrackType.TheVariants.{OneTrack, ManyTracks, ManyTracksManyCodecs}
use Rattle.multitrack_media.specs.declared.TrackPlace.{TrackPlace}
use Rattle.multitrack_media.proofs.Containers.{encoding_of as encodingIn, read_accepted}
use Rattle.multitrack_media.proofs.Answers.{get_d_map, container_facts_lem, opens_media}
use Rattle.multitrack_media.proofs.LegalHeads.{legal_form, legal_other}
use Rattle.multitrack_media.proofs.Fourccs.{Numbered, track_numbered}
use Rattle.writers.specs.Columns.{entry}
use Rattle.writers.specs.ContainerWriter.{ContainerCall, most_tracks, first_byte, second_byte, shared_fourcc, given_track, given_tracks, container_written}
use Rattle.writers.specs.Claims.{WritableContainer, call_of, AcceptedWritten}
use Rattle.writers.proofs.Entries.{length_values, value_below}
use Rattle.writers.proofs.Refusals.{container_taken_lem}

-- BYTE 0 of a container
pub record Opened (type b : ℕ) : Type 0 where
  pub byte : cond (is_video type) (128 + cond (is_video type) (high b % 8) 0 * 16 + 6) 0x95 ≡ b
  pub frame : type ≡ 1 → (cond (is_video type) (high b % 8) 0 ≤ 7) × (cond (is_video type) (high b % 8) 0 ≡ 5 → ⊥)

opened : (type b : ℕ) → b < 256 → type ≤ 1 → opens_container type b ≡ true → Opened type b
unfolding opens_container
opened zero b l m e = record { byte = sym (eqb-true b 0x95 (go (eqb b 0x95) e)); frame = λ x. absurd (omega arith) }
  where
    go : (t : Bool) → (t || false) ≡ true → t ≡ true
    go true e = refl
    go false e = e
opened (suc zero) b l m e =
    let a : b / 128 % 2 ≡ 1 = eqb-true _ _ (and_left (bit 7 b) _ e) in
    let r = and_right (bit 7 b) _ e in
    let n = eqb-false _ _ (not-true _ (and_left (not (eqb (high b % 8) 5)) _ r)) in
    let s : b % 16 ≡ 6 = eqb-true _ _ (and_right (not (eqb (high b % 8) 5)) _ r) in
    record { byte = omega arith; frame = λ x. (omega arith, n) }
opened (suc (suc n)) b l m e = absurd (omega arith)

-- BYTE 1
form_high : (b : ℕ) → b / 16 ≤ 2 → form_number (form_of b) ≡ b / 16
unfolding form_of
form_high b l = go (b / 16) l
  where
    go : (h : ℕ) → h ≤ 2 → form_number (cond (eqb h 0) OneTrack (cond (eqb h 1) ManyTracks ManyTracksManyCodecs)) ≡ h
    go zero l = refl
    go (suc zero) l = refl
    go (suc (suc zero)) l = refl
    go (suc (suc (suc n))) l = absurd (omega arith)

form_most : (form : AvMultitrackType) → most form ≡ most_tracks (form_number form)
form_most OneTrack = refl
form_most ManyTracks = refl
form_most ManyTracksManyCodecs = refl

form_two : (form : AvMultitrackType) → form_number form ≤ 2
form_two OneTrack = omega arith
form_two ManyTracks = omega arith
form_two ManyTracksManyCodecs = omega arith

each_at : (P : Track → Type 0) (ts : List Track) → Each P ts → (i : ℕ) (d : Track) → i < length ts → P (get_or ts i d)
each_at P [] h i d l = absurd (omega arith)
each_at P (t ∷ ts) h zero d l = h.0
each_at P (t ∷ ts) h (suc i) d l = each_at P ts h.1 i d (omega arith)

module _ (type : ℕ) (p : List ℕ) (bytes : Bytes p) (k : Container) (q : container_of type p ≡ some k) where
  abbrev c : ContainerCall
  c = call_of type p k

  h : Accepted type p (encodingIn p k)
  h = read_accepted type p bytes k q

  opens : Opened type (byte_at p 0)
  opens = let w = (container_facts_lem type p k q).opens in opened type (byte_at p 0) (bytes 0) (opens_media type _ w) w

  second : second_byte c ≡ byte_at p 1
  unfolding second_byte
  second = omega (arith, form_high (byte_at p 1) (legal_form type _ _ h.legal), (container_facts_lem type p k q).packet)

  -- entries
  abbrev at : ℕ → TrackPlace
  at i = get_or k.tracks i no_place

  module _ (i : ℕ) (l : i < length k.tracks) where
    id_at : entry c.columns.ids i ≡ (at i).id
    id_at = get_d_map (λ (t : TrackPlace). t.id) k.tracks i no_place 0 l

    fourcc_at_lem : entry c.columns.fourccs i ≡ be32_at (at i).fourcc 0
    fourcc_at_lem = get_d_map (λ (t : TrackPlace). be32_at t.fourcc 0) k.tracks i no_place 0 l

    start_at : entry c.columns.starts i ≡ (at i).start
    start_at = get_d_map (λ (t : TrackPlace). t.start) k.tracks i no_place 0 l

    length_at : entry c.columns.lengths i ≡ (at i).length
    length_at = get_d_map (λ (t : TrackPlace). t.length) k.tracks i no_place 0 l

    numbered : Numbered (at i).fourcc
    numbered = track_numbered p bytes type k q i l

    track_at : given_track c i ≡ track_in p (at i)
    track_at = rw (id_at, fourcc_at_lem, start_at, length_at, numbered) refl

    held_at : Holds (form_in p) (part p 2 (shared_size (form_in p))) (track_in p (at i))
    held_at =
        let n : i < length (map (track_in p) k.tracks) = rw (length-map k.tracks (track_in p)) l in
        subst (Holds (form_in p) (part p 2 (shared_size (form_in p)))) (get_d_map (track_in p) k.tracks i no_place (track_in p no_place) l)
        (each_at _ (map (track_in p) k.tracks) h.tiled.held i (track_in p no_place) n)

  tracks_same : given_tracks c ≡ map (track_in p) k.tracks
  tracks_same =
      ext_get_or (track_in p no_place) (given_tracks c) (map (track_in p) k.tracks) (length_values (given_track c) 0 c.count ∙ sym (length-map k.tracks (track_in p)))
      (λ i l. let m : i < length k.tracks = omega (arith, l, length_values (given_track c) 0 c.count) in
      value_below (given_track c) c.count i (track_in p no_place) m ∙ track_at i m ∙ sym (get_d_map (track_in p) k.tracks i no_place (track_in p no_place) m))

  least : 0 < length k.tracks
  least = (container_facts_lem type p k q).least

  first_fourcc_lem : bytes32 (entry c.columns.fourccs 0) ≡ (at 0).fourcc
  first_fourcc_lem = ap bytes32 (fourcc_at_lem 0 least) ∙ numbered 0 least

  shared_from : (form : AvMultitrackType) (f s : List ℕ) (t : Track) → Holds form s t → length s ≡ shared_size form → f ≡ t.fourcc → cond (eqb (form_number form) 2) [] f ≡ s
  shared_from OneTrack f s t w l e = e ∙ w
  shared_from ManyTracks f s t w l e = e ∙ w.0
  shared_from ManyTracksManyCodecs f s t w l e = go s l
    where
      go : (s : List ℕ) → length s ≡ 0 → [] ≡ s
      go [] l = refl
      go (x ∷ s) l = absurd (omega arith)

  shared_same : shared_fourcc c ≡ part p 2 (shared_size (form_in p))
  unfolding shared_fourcc
  shared_same = shared_from (form_in p) (bytes32 (entry c.columns.fourccs 0)) _ (track_in p (at 0)) (held_at 0 least) h.four first_fourcc_lem

  first_same : first_byte c ≡ byte_at p 0
  unfolding first_byte
  first_same = opens.byte

  pub accepted_written_lem : container_written c ≡ p
  unfolding container_written
  accepted_written_lem =
      ap container_bytes (encoding first_same second shared_same tracks_same)
      ∙ ap (λ (r : List ℕ). byte_at p 0 ∷ byte_at p 1 ∷ (part p 2 (shared_size (form_in p)) ++ r)) (sym h.tiled.written) ∙ sym h.bytes
    where
      encoding : {a b a' b' : ℕ} {s s' : List ℕ} {t t' : List Track} → a ≡ a' → b ≡ b' → s ≡ s' → t ≡ t'
          → ◌≡◌ {A = Encoding} (record { byte0 = a; byte1 = b; shared = s; tracks = t }) (record { byte0 = a'; byte1 = b'; shared = s'; tracks = t' })
      encoding e f g d = rw (e, f, g, d)

  long_at : (form : AvMultitrackType) (s : List ℕ) (t : Track) → Holds form s t → (form_number form ≡ 0 → ⊥) → length t.body ≤ 16777215
  long_at OneTrack s t w n = absurd (n refl)
  long_at ManyTracks s t w n = omega (arith, w.1)
  long_at ManyTracksManyCodecs s t w n = omega (arith, w.1)

  same_at : (form : AvMultitrackType) (s : List ℕ) (t u : Track) → Holds form s t → Holds form s u → form_number form ≡ 1 → t.fourcc ≡ u.fourcc
  same_at OneTrack s t u w x e = absurd (omega arith)
  same_at ManyTracks s t u w x e = w.0 ∙ sym x.0
  same_at ManyTracksManyCodecs s t u w x e = absurd (omega arith)

  inside_at : (i : ℕ) → i < length k.tracks → (at i).start + (at i).length ≤ length p
  inside_at i l = (container_facts_lem type p k q).inside i l

  pub accepted_fine : WritableContainer c
  accepted_fine =
      let g = container_facts_lem type p k q in
      record {
        media = opens_media type _ g.opens;
        form = form_two (form_in p);
        least = least;
        limit = omega (arith, h.tiled.limit, length-map k.tracks (track_in p), form_most (form_in p));
        ids = rw (length-map k.tracks (λ (t : TrackPlace). t.id)) (omega arith);
        fourccs = rw (length-map k.tracks (λ (t : TrackPlace). be32_at t.fourcc 0)) (omega arith);
        starts = rw (length-map k.tracks (λ (t : TrackPlace). t.start)) (omega arith);
        lengths = rw (length-map k.tracks (λ (t : TrackPlace). t.length)) (omega arith);
        inside = λ i l. rw (start_at i l, length_at i l) (inside_at i l);
        bodies = λ n i l. rw (length_at i l) (omega (arith, long_at (form_in p) _ (track_in p (at i)) (held_at i l) n, length_part p (at i).start (at i).length (inside_at i l)));
        same = λ e i l. rw (fourcc_at_lem i l, fourcc_at_lem 0 least) (ap (λ (f : List ℕ). be32_at f 0) (same_at (form_in p) _ (track_in p (at i)) (track_in p (at 0)) (held_at i l) (held_at 0 least) e));
        frame = opens.frame;
        packet = omega (arith, g.packet);
        other = λ e. legal_other type _ _ h.legal (sym g.packet ∙ e);
      }

pub accepted_rewritten : AcceptedWritten
unfolding AcceptedWritten
accepted_rewritten type p bytes k q room l =
    let w = accepted_written_lem type p bytes k q in
    (container_taken_lem (call_of type p k) (accepted_fine type p bytes k q) room (rw w l), w)
