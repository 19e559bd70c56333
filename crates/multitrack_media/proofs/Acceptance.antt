-- ACCEPTANCE REACHES THE CALLS: counts, refusals, fields, places and parts, from the encoding.
use mathlib.Core.Path.{◌≡◌, refl, sym, ap, ◌∙◌}
use mathlib.Core.Bool.{false, cond}
use mathlib.Core.Option.{none}
use mathlib.Core.List.{List, [], ◌∷◌, ◌++◌}
use Prim.Native.Nat.{ℕ, zero, suc, ◌+◌, ◌%◌, ◌≤◌, ◌<◌}
use native.Mathlib.Omega.{arith}
use lib.ListN.{length, get_or, take, length-map, length-append}
use borrow.Author.Tests.{le-ltb}
use Rattle.std.specs.Prelude.{Ok}
use Rattle.wire.specs.Wire.{Bytes, high}
use Rattle.types.specs.Types.{is_video, is_unknown_type}
use Rattle.types.specs.declared.ErrorCode.TheVariants as error
use Rattle.multitrack_media.specs.Tracks.{Track, track_head, head_size, track_bytes, tracks_bytes, Holds, Each}
use Rattle.multitrack_media.specs.Container.{
  form_of,
  tracks_start,
  Encoding,
  Accepted,
  place,
  places,
  contents,
  no_place,
  container_of,
}
use Rattle.multitrack_media.specs.Answer.{track_count, no_track, video_frame_type, found_track}
use Rattle.multitrack_media.specs.Acceptance.{absent, AnswersOf, AcceptanceOf, Acceptance}
use Rattle.multitrack_media.specs.declared.AvMultitrackType.{AvMultitrackType}
use Rattle.multitrack_media.proofs.Tiling.{length_head}
use Rattle.multitrack_media.proofs.Containers.{encoding_of, accepted_read, accepted_tracks, accepted_unique, read_accepted, refused_iff_lem}
use Rattle.multitrack_media.proofs.LegalHeads.{nested_none}
use Rattle.multitrack_media.proofs.Answers.{count_none, count_some, count_found, count_refused, info_none, info_past, info_there, part_body}

-- the place of track n among tracks that start at i
place_at_lem : (form : AvMultitrackType) (shared : List ℕ) (ts : List Track) → Each (Holds form shared) ts → (i n : ℕ) (d : Track) → n < length ts
    → get_or (places form i ts) n no_place ≡ place form (i + length (tracks_bytes form (take n ts))) (get_or ts n d)
place_at_lem form shared [] h i n d l = absurd (omega arith)
place_at_lem form shared (t ∷ ts) h i zero d l = let e : i ≡ i + 0 = omega arith in ap (λ (j : ℕ). place form j t) e
place_at_lem form shared (t ∷ ts) h i (suc n) d l =
    let e : i + head_size form + length t.body + length (tracks_bytes form (take n ts)) ≡ i + length (track_bytes form t ++ tracks_bytes form (take n ts)) =
    omega (
      arith,
      length-append (track_bytes form t) (tracks_bytes form (take n ts)),
      length-append (track_head form t) t.body,
      length_head form shared t h.0,
    ) in
    place_at_lem form shared ts h.1 (i + head_size form + length t.body) n d (omega arith) ∙ ap (λ (j : ℕ). place form j (get_or ts n d)) e

-- AN ACCEPTED ENCODING, of a known type
module _ (type : ℕ) (p : List ℕ) (known : type ≤ 3) (e : Encoding) (h : Accepted type p e) where
  known_type : is_unknown_type type ≡ false
  known_type = le-ltb 3 type known

  count_tracks_lem : length (contents e).tracks ≡ length e.tracks
  count_tracks_lem = sym (length-map (contents e).tracks _) ∙ ap length (accepted_tracks type p e h)

  counts : track_count type p ≡ Ok (length e.tracks)
  counts = sym (count_some type p known_type (contents e) (accepted_read type p e h)) ∙ ap Ok count_tracks_lem

  frame_type_lem : video_frame_type type p ≡ cond (is_video type) (high e.byte0 % 8) 0
  frame_type_lem = ap (λ (r : List ℕ). video_frame_type type r) h.bytes

  pub accepted_answers : AnswersOf type p e
  accepted_answers =
      record {
        written = ap (λ (r : List ℕ). e.byte0 ∷ e.byte1 ∷ (e.shared ++ r)) (sym h.tiled.written) ∙ sym h.bytes;
        there = λ n l.
            sym (info_there type p known_type (contents e) (accepted_read type p e h) n (omega (arith, count_tracks_lem)))
            ∙ ap (found_track type p (contents e)) (place_at_lem (form_of e.byte1) e.shared e.tracks h.tiled.held (tracks_start (form_of e.byte1)) n absent l)
            ∙ rw (count_tracks_lem, frame_type_lem) refl;
        bodies = λ n l. part_body type p e h n absent l;
        past = λ n l.
            sym (info_past type p known_type (contents e) (accepted_read type p e h) n (omega (arith, count_tracks_lem)))
            ∙ ap (no_track error.NoSuchTrack) count_tracks_lem;
      }

-- ACCEPTANCE
module _ (type : ℕ) (p : List ℕ) (known : type ≤ 3) (bytes : Bytes p) where
  some_count : (n : ℕ) → track_count type p ≡ Ok n → (e : Encoding) × Accepted type p e × (length e.tracks ≡ n)
  some_count n q =
      let w = count_found type p n q in
      (encoding_of p w.0, read_accepted type p bytes w.0 w.1, length-map w.0.tracks _ ∙ sym w.2)

  none_read : ((e : Encoding) → Accepted type p e → ⊥) → container_of type p ≡ none
  none_read = (refused_iff_lem type p bytes).1

  pub acceptance_of_lem : AcceptanceOf type p
  acceptance_of_lem =
      record {
        counted = λ n. (some_count n, λ w. counts type p known w.0 w.1 ∙ ap Ok w.2);
        refused = (
          λ q. (refused_iff_lem type p bytes).0 (count_refused type p (le-ltb 3 type known) error.NotAContainer q),
          λ f. sym (count_none type p (le-ltb 3 type known) (none_read f)),
        );
        requests = λ f n. sym (info_none type p (le-ltb 3 type known) n (none_read f));
        nested = λ n. (refused_iff_lem type p bytes).0 (nested_none type p n);
        unique = accepted_unique type p;
        answers = accepted_answers type p known;
      }

pub acceptance : Acceptance
unfolding Acceptance
acceptance = acceptance_of_lem
