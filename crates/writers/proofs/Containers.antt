-- WHAT THE CONTAINER WRITER WRITES IS READ BACK.
use mathlib.Core.Path.{◌≡◌, refl, sym, ap, ap₂, ◌∙◌}
use mathlib.Core.Bool.{Bool, true, false, cond}
use mathlib.Core.Option.{some}
use mathlib.Core.List.{List, [], map}
use Prim.Native.Nat.{ℕ, zero, suc, ◌+◌, ◌*◌, ◌/◌, ◌%◌, ◌≤◌, ◌<◌}
use native.Mathlib.Omega.{arith}
use lib.Dec.{eqb}
use lib.ListN.{length, get_or, length-map, length-append}
use borrow.Author.Tests.{le-ltb, ne_eqb}
use Rattle.wire.specs.Wire.{bytes32, high}
use Rattle.wire.proofs.Parts.{length_part}
use Rattle.types.specs.Types.{is_video, is_unknown_type}
use Rattle.multitrack_media.specs.Tracks.{Track, head_size, track_bytes, tracks_bytes, Holds, Each, most}
use Rattle.multitrack_media.specs.Container.{opens_container, form_number, form_of, form_in, legal_head, shared_size, tracks_start, Accepted, contents, place, places, track_in, no_place, container_of}
use Rattle.multitrack_media.specs.Answer.{video_frame_type, found_track}
use Rattle.multitrack_media.specs.declared.AvMultitrackType.{AvMultitrackType}
use Rattle.multitrack_media.specs.declared.AvMultitrackType.TheVariants.{OneTrack, ManyTracks, ManyTracksManyCodecs}
use Rattle.multitrack_media.proofs.Containers.{encoding_accepted, encoding_read, encoding_tracks}
use Rattle.multitrack_media.proofs.LegalHeads.{head_legal}
use Rattle.multitrack_media.proofs.Answers.{info_there, part_body}
use Rattle.frame.specs.Pass.{track_answer}
use Rattle.writers.specs.Columns.{values_from, sum_from, entry}
use Rattle.writers.specs.Lengths.{form_from}
use Rattle.writers.specs.ContainerWriter.{
  ContainerCall,
  most_tracks,
  first_byte,
  second_byte,
  shared_fourcc,
  given_track,
  given_tracks,
  encoding_of,
  container_written,
  head_length,
  track_head_length,
  track_length,
  container_length,
  body_start,
}
use Rattle.writers.specs.Claims.{WritableContainer, HeadAndTracks, TrackBack, ContainerReadBack, TracksReadBack, ContainerTaken, ContainerLength}
use Rattle.writers.proofs.Entries.{length_values, value_below, sum_same}
use Rattle.writers.proofs.Refusals.{container_fine, container_taken_lem}

-- THE FORM of a number
pub form_read : (form k : ℕ) → k ≤ 15 → form_of (form * 16 + k) ≡ form_from form
unfolding form_of
form_read form k l = let h : (form * 16 + k) / 16 ≡ form = omega arith in rw h

pub form_number_lem : (form : ℕ) → form ≤ 2 → form_number (form_from form) ≡ form
form_number_lem zero l = refl
form_number_lem (suc zero) l = refl
form_number_lem (suc (suc zero)) l = refl
form_number_lem (suc (suc (suc n))) l = absurd (omega arith)

pub head_size_lem : (form : ℕ) → head_size (form_from form) ≡ track_head_length form
head_size_lem form = go (eqb form 0) (eqb form 1)
  where
    go : (a b : Bool) → head_size (cond a OneTrack (cond b ManyTracks ManyTracksManyCodecs)) ≡ cond a 1 (cond b 4 8)
    go true b = refl
    go false true = refl
    go false false = refl

tracks_start_lem : (form : ℕ) → form ≤ 2 → tracks_start (form_from form) ≡ head_length form
tracks_start_lem zero l = refl
tracks_start_lem (suc zero) l = refl
tracks_start_lem (suc (suc zero)) l = refl
tracks_start_lem (suc (suc (suc n))) l = absurd (omega arith)

most_tracks_lem : (form : ℕ) → most (form_from form) ≡ most_tracks form
most_tracks_lem form = go (eqb form 0) (eqb form 1)
  where
    go : (a b : Bool) → most (cond a OneTrack (cond b ManyTracks ManyTracksManyCodecs)) ≡ cond a 1 4096
    go true b = refl
    go false true = refl
    go false false = refl

-- the shared FourCC
shared_size_lem : (form x : ℕ) → form ≤ 2 → length (cond (eqb form 2) [] (bytes32 x)) ≡ shared_size (form_from form)
shared_size_lem zero x l = refl
shared_size_lem (suc zero) x l = refl
shared_size_lem (suc (suc zero)) x l = refl
shared_size_lem (suc (suc (suc n))) x l = absurd (omega arith)

-- BYTE 0
opened : (type v : ℕ) → type ≤ 1 → (type ≡ 1 → (v ≤ 7) × (v ≡ 5 → ⊥)) → opens_container type (cond (is_video type) (128 + v * 16 + 6) 0x95) ≡ true
unfolding opens_container
opened zero v l h = refl
opened (suc zero) v l h =
    let w = h refl in
    let m : v ≤ 7 = w.0 in
    let a : (128 + v * 16 + 6) / 128 % 2 ≡ 1 = omega arith in
    let b : (128 + v * 16 + 6) / 16 % 8 ≡ v = omega arith in
    let d : (128 + v * 16 + 6) % 16 ≡ 6 = omega arith in
    simp (a, b, d, ne_eqb v 5 w.1)
opened (suc (suc n)) v l h = absurd (omega arith)

frame_read : (type v : ℕ) → type ≤ 1 → (type ≡ 1 → (v ≤ 7) × (v ≡ 5 → ⊥)) → cond (is_video type) (high (cond (is_video type) (128 + v * 16 + 6) 0x95) % 8) 0 ≡ cond (is_video type) v 0
frame_read zero v l h = refl
frame_read (suc zero) v l h = let m : v ≤ 7 = (h refl).0 in omega arith
frame_read (suc (suc n)) v l h = absurd (omega arith)

-- TRACKS
track_held : (form x y id : ℕ) (body : List ℕ) → form ≤ 2 → ((form ≡ 2 → ⊥) → x ≡ y) → ((form ≡ 0 → ⊥) → length body < 16777216)
    → Holds (form_from form) (cond (eqb form 2) [] (bytes32 y)) (record { id = id; fourcc = bytes32 x; body = body })
track_held zero x y id body l same long = ap bytes32 (same (λ e. omega arith))
track_held (suc zero) x y id body l same long = (ap bytes32 (same (λ e. omega arith)), long (λ e. omega arith))
track_held (suc (suc zero)) x y id body l same long = (refl, long (λ e. omega arith))
track_held (suc (suc (suc n))) x y id body l same long = absurd (omega arith)

each_value : (P : Track → Type 0) (g : ℕ → Track) (i n : ℕ) → ((j : ℕ) → i ≤ j → j < i + n → P (g j)) → Each P (values_from g i n)
unfolding values_from
each_value P g i zero h = tt
each_value P g i (suc n) h = (h i (omega arith) (omega arith), each_value P g (i + 1) n (λ j l m. h j (omega arith) (omega arith)))

places_at_lem : (form : AvMultitrackType) (g : ℕ → Track) (s i n j : ℕ) → j < n
    → get_or (places form s (values_from g i n)) j no_place ≡ place form (s + sum_from (λ m. head_size form + length (g m).body) i j) (g (i + j))
unfolding values_from sum_from
places_at_lem form g s i zero j l = absurd (omega arith)
places_at_lem form g s i (suc n) zero l =
    let a : s ≡ s + 0 = omega arith in
    let b : i ≡ i + 0 = omega arith in
    ap₂ (λ (x y : ℕ). place form x (g y)) a b
places_at_lem form g s i (suc n) (suc j) l =
    let a : s + head_size form + length (g i).body + sum_from (λ m. head_size form + length (g m).body) (i + 1) j
    ≡ s + (head_size form + length (g i).body + sum_from (λ m. head_size form + length (g m).body) (i + 1) j) = omega arith in
    let b : i + 1 + j ≡ i + suc j = omega arith in
    places_at_lem form g (s + head_size form + length (g i).body) (i + 1) n j (omega arith) ∙ ap₂ (λ (x y : ℕ). place form x (g y)) a b

pub length_track : (form : AvMultitrackType) (id x : ℕ) (body : List ℕ) → length (track_bytes form (record { id = id; fourcc = bytes32 x; body = body })) ≡ head_size form + length body
length_track OneTrack id x body = omega arith
length_track ManyTracks id x body = omega arith
length_track ManyTracksManyCodecs id x body = omega arith

length_tracks : (form : AvMultitrackType) (c : ContainerCall) (i n : ℕ) → length (tracks_bytes form (values_from (given_track c) i n)) ≡ sum_from
    (λ j. head_size form + length (given_track c j).body) i n
unfolding values_from sum_from
length_tracks form c i zero = refl
length_tracks form c i (suc n) =
    length-append (track_bytes form (given_track c i)) (tracks_bytes form (values_from (given_track c) (i + 1) n))
    ∙ ap₂ (λ (a b : ℕ). a + b) (length_track form _ _ _) (length_tracks form c (i + 1) n)

module _ (c : ContainerCall) (f : WritableContainer c) where
  form_here : form_of (second_byte c) ≡ form_from c.form
  unfolding second_byte
  form_here = form_read c.form c.packet_type f.packet

  legal_here : legal_head c.type (first_byte c) (second_byte c) ≡ true
  unfolding first_byte second_byte
  legal_here =
      let k : (c.form * 16 + c.packet_type) % 16 ≡ c.packet_type = omega (arith, f.packet) in
      head_legal c.type _ _ (opened c.type c.video_frame_type f.media f.frame) (omega (arith, f.form, f.packet)) (λ e. f.other (sym k ∙ e))

  four_here : length (shared_fourcc c) ≡ shared_size (form_of (second_byte c))
  unfolding shared_fourcc
  four_here = rw form_here (shared_size_lem c.form (entry c.columns.fourccs 0) f.form)

  body_length_lem : (i : ℕ) → i < c.count → length (given_track c i).body ≡ entry c.columns.lengths i
  body_length_lem i l = length_part c.bodies (entry c.columns.starts i) (entry c.columns.lengths i) (f.inside i l)

  same_fourcc_lem : (i : ℕ) → i < c.count → (c.form ≡ 2 → ⊥) → entry c.columns.fourccs i ≡ entry c.columns.fourccs 0
  same_fourcc_lem i l m = go c.form refl
    where
      go : (form : ℕ) → c.form ≡ form → entry c.columns.fourccs i ≡ entry c.columns.fourccs 0
      go zero e = let k : c.count ≤ 1 = rw e at f.limit in let z : i ≡ 0 = omega arith in ap (entry c.columns.fourccs) z
      go (suc zero) e = f.same e i l
      go (suc (suc zero)) e = absurd (m e)
      go (suc (suc (suc n))) e = absurd (omega (arith, f.form))

  held_here : Each (Holds (form_of (second_byte c)) (shared_fourcc c)) (given_tracks c)
  unfolding shared_fourcc
  held_here =
      rw form_here
      (each_value _ (given_track c) 0 c.count
      (λ j l m. track_held c.form _ _ _ _ f.form (same_fourcc_lem j (omega arith)) (λ z. omega (arith, body_length_lem j (omega arith), f.bodies z j (omega arith)))))

  tracks_count : length (given_tracks c) ≡ c.count
  tracks_count = length_values (given_track c) 0 c.count

  least_here : 0 < length (given_tracks c)
  least_here = rw tracks_count f.least

  limit_here : length (given_tracks c) ≤ most (form_of (second_byte c))
  limit_here = rw (tracks_count, form_here, most_tracks_lem c.form) f.limit

  pub written_accepted : Accepted c.type (container_written c) (encoding_of c)
  unfolding container_written
  written_accepted = encoding_accepted c.type (encoding_of c) legal_here four_here held_here least_here limit_here

  pub written_read : container_of c.type (container_written c) ≡ some (contents (encoding_of c))
  unfolding container_written
  written_read = encoding_read c.type (encoding_of c) legal_here four_here held_here least_here limit_here

  pub written_tracks : map (track_in (container_written c)) (contents (encoding_of c)).tracks ≡ given_tracks c
  unfolding container_written
  written_tracks = encoding_tracks c.type (encoding_of c) legal_here four_here held_here least_here limit_here

  pub places_count : length (contents (encoding_of c)).tracks ≡ c.count
  places_count = sym (length-map (contents (encoding_of c)).tracks (track_in (container_written c))) ∙ ap length written_tracks ∙ tracks_count

  packet_here : (contents (encoding_of c)).packet_type ≡ c.packet_type
  unfolding second_byte
  packet_here = omega (arith, f.packet)

  frame_here : video_frame_type c.type (container_written c) ≡ cond (is_video c.type) c.video_frame_type 0
  unfolding container_written first_byte
  frame_here = frame_read c.type c.video_frame_type f.media f.frame

  form_back : form_number (form_in (container_written c)) ≡ c.form
  unfolding container_written
  form_back = ap form_number form_here ∙ form_number_lem c.form f.form

  pub head_and_tracks_lem : HeadAndTracks c (container_written c)
  head_and_tracks_lem =
      record {
        container = contents (encoding_of c);
        read = written_read;
        form = form_back;
        packet = packet_here;
        frame = frame_here;
        tracks = written_tracks;
        count = places_count;
        accepted = written_accepted;
      }

  sum_here : (i : ℕ) → i ≤ c.count → sum_from (λ m. head_size (form_of (second_byte c)) + length (given_track c m).body) 0 i ≡ sum_from (track_length c) 0 i
  sum_here i l = sum_same _ (track_length c) 0 i (λ j a b. ap₂ (λ (x y : ℕ). x + y) (ap head_size form_here ∙ head_size_lem c.form) (body_length_lem j (omega arith)))

  -- THE LENGTH
  pub written_length : length (container_written c) ≡ container_length c
  unfolding container_written container_length
  written_length =
      omega (
        arith,
        length-append (shared_fourcc c) (tracks_bytes (form_of (second_byte c)) (given_tracks c)),
        four_here,
        ap shared_size form_here,
        tracks_start_lem c.form f.form,
        length_tracks (form_of (second_byte c)) c 0 c.count,
        sum_here c.count (omega arith),
      )

  -- A TRACK, by a request
  place_here : (i : ℕ) → i < c.count
      → get_or (contents (encoding_of c)).tracks i no_place ≡ record
      { id = entry c.columns.ids i; fourcc = bytes32 (entry c.columns.fourccs i); start = body_start c i; length = entry c.columns.lengths i }
  unfolding body_start
  place_here i l =
      let z : 0 + i ≡ i = omega arith in
      places_at_lem (form_of (second_byte c)) (given_track c) (tracks_start (form_of (second_byte c))) 0 c.count i l
      ∙ ap (λ (j : ℕ). place (form_of (second_byte c)) (tracks_start (form_of (second_byte c)) + sum_from (λ m. head_size (form_of (second_byte c)) + length (given_track c m).body) 0 i)
      (given_track c j)) z
      ∙ ap₂ (λ (s n : ℕ). record { id = entry c.columns.ids i; fourcc = bytes32 (entry c.columns.fourccs i); start = s; length = n })
      (ap₂ (λ (a b : ℕ). a + b) (ap₂ (λ (a b : ℕ). a + b) (ap tracks_start form_here ∙ tracks_start_lem c.form f.form) (sum_here i (omega arith)))
      (ap head_size form_here ∙ head_size_lem c.form)) (body_length_lem i l)

  pub track_back_lem : (i : ℕ) → i < c.count → TrackBack c (container_written c) i
  unfolding track_answer
  track_back_lem i l =
      let known : is_unknown_type c.type ≡ false = le-ltb 3 c.type (omega (arith, f.media)) in
      let none : Track = record { id = 0; fourcc = []; body = [] } in
      record {
        info =
            sym (info_there c.type (container_written c) known (contents (encoding_of c)) written_read i (omega (arith, places_count)))
            ∙ ap (found_track c.type (container_written c) (contents (encoding_of c))) (place_here i l)
            ∙ rw (places_count, packet_here, frame_here);
        body = part_body c.type (container_written c) (encoding_of c) written_accepted i none (omega (arith, tracks_count)) ∙ ap (λ (t : Track). t.body)
            (value_below (given_track c) c.count i none l);
      }

-- THE CLAIMS
pub container_taken_iff : ContainerTaken
unfolding ContainerTaken
container_taken_iff c room = (
  λ ok. let f = container_fine c room ok in (f.0, omega (arith, written_length c f.0, f.1)),
  λ w. container_taken_lem c w.0 room (omega (arith, written_length c w.0, w.1)),
)

pub container_read_back_lem : ContainerReadBack
unfolding ContainerReadBack
container_read_back_lem c room ok = head_and_tracks_lem c (container_fine c room ok).0

pub tracks_read_back_lem : TracksReadBack
unfolding TracksReadBack
tracks_read_back_lem c room ok i l = track_back_lem c (container_fine c room ok).0 i l

pub container_length_lem : ContainerLength
unfolding ContainerLength
container_length_lem c room ok = let w = container_fine c room ok in (written_length c w.0, w.1)
