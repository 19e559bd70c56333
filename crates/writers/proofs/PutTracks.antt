-- Laws of a container that is put into an output piece by piece, for the exits of the functions that do so.
use mathlib.Core.Path.{◌≡◌, refl, sym, ap, ap₂, ◌∙◌}
use mathlib.Core.Bool.{cond}
use mathlib.Core.List.{List, [], ◌∷◌, ◌++◌}
use Prim.Native.Nat.{ℕ, zero, suc, ◌+◌, ◌-◌, ◌*◌, ◌≤◌, ◌<◌}
use native.Mathlib.Omega.{arith}
use lib.Dec.{eqb}
use lib.ListN.{length, take, drop, length-append}
use Rattle.std.specs.Prelude.{sum_by}
use Rattle.wire.specs.Wire.{part, bytes32}
use Rattle.wire.proofs.Parts.{length_part}
use Rattle.types.specs.Types.{is_video}
use Rattle.multitrack_media.specs.Tracks.{Track, track_head, head_size, track_bytes, tracks_bytes}
use Rattle.multitrack_media.specs.Container.{form_number, tracks_start}
use Rattle.multitrack_media.specs.declared.AvMultitrackType.{AvMultitrackType}
use Rattle.multitrack_media.specs.declared.AvMultitrackType.TheVariants.{OneTrack, ManyTracks, ManyTracksManyCodecs}
use Rattle.outputs.specs.Outputs.{in_front, with_at, put_at}
use Rattle.outputs.proofs.Laws.{put_room, with_none, with_more, with_front, length_with}
use Rattle.writers.specs.Columns.{entry, lent_part, values_from, sum_from}
use Rattle.writers.specs.Lengths.{with_head, form_from}
use Rattle.writers.specs.ContainerWriter.{ContainerCall, first_byte, second_byte, shared_fourcc, given_track, given_tracks, head_length, track_head_length, track_length, container_written, container_length}
use Rattle.writers.specs.Claims.{WritableContainer}
use Rattle.writers.proofs.Entries.{values_next, values_end, sum_next, sum_same, sum_cut}
use Rattle.writers.proofs.Containers.{form_read, form_number_lem, head_size_lem, length_track, written_length}
use Rattle.writers.proofs.Rooms.{sum_alike}

-- A TRACK: its head, and its body behind it
length_head : (form : AvMultitrackType) (id fourcc : ℕ) (body : List ℕ) → length (track_head form (record { id = id; fourcc = bytes32 fourcc; body = body })) ≡ head_size form
length_head OneTrack id fourcc body = refl
length_head ManyTracks id fourcc body = refl
length_head ManyTracksManyCodecs id fourcc body = refl

pub track_put : (form : AvMultitrackType) (id fourcc at : ℕ) (body out mid : List ℕ) → at + (head_size form + length body) ≤ length out
    → mid ≡ put_at out at (track_head form (record { id = id; fourcc = bytes32 fourcc; body = body }))
    → put_at mid (at + head_size form) body ≡ with_at out at (track_bytes form (record { id = id; fourcc = bytes32 fourcc; body = body }))
track_put form id fourcc at body out mid l m =
    let head : List ℕ = track_head form (record { id = id; fourcc = bytes32 fourcc; body = body }) in
    let h : length head ≡ head_size form = length_head form id fourcc body in
    let put : mid ≡ with_at out at head = m ∙ put_room out at head (omega arith) in
    let long : length mid ≡ length out = ap length put ∙ length_with out at head (omega arith) in
    let behind : at + head_size form ≡ at + length head = omega arith in
    put_room mid (at + head_size form) body (omega arith)
    ∙ ap₂ (λ (o : List ℕ) (n : ℕ). with_at o n body) put behind
    ∙ with_more out at head body (omega arith)

-- A PART that is lent from its start to its end
pub part_lent : (lent : List ℕ) (start end size : ℕ) → end ≡ start + size → end ≤ length lent
    → (take (end - start) (drop start lent) ≡ part lent start size) × (length (take (end - start) (drop start lent)) ≡ size)
part_lent lent start end size e l =
    let d : end - start ≡ size = omega arith in
    let q : take (end - start) (drop start lent) ≡ part lent start size = ap (λ (n : ℕ). take n (drop start lent)) d in
    (q, ap length q ∙ length_part lent start size (omega arith))

-- THE TRACKS, in the form that the call asks for
module _ (c : ContainerCall) (form : AvMultitrackType) (e : form ≡ form_from c.form) where
  sized : head_size form ≡ track_head_length c.form
  sized = ap head_size e ∙ head_size_lem c.form

  -- there is room for the next
  pub track_room : (i at room : ℕ) → i < c.count → at + sum_from (track_length c) i (c.count - i) ≤ room → (size : ℕ) → size ≡ entry c.columns.lengths i
      → at + (head_size form + size) ≤ room
  track_room i at room l h size q = omega (arith, sized, sum_next (track_length c) i c.count l)

  -- one more
  pub tracks_next : (i : ℕ) → i < c.count → (at next : ℕ) (body out last : List ℕ) → body ≡ lent_part c.bodies c.columns.starts c.columns.lengths i
      → length body ≡ entry c.columns.lengths i → next ≡ at + (head_size form + length body)
      → last ≡ with_at out at (track_bytes form (record { id = entry c.columns.ids i; fourcc = bytes32 (entry c.columns.fourccs i); body = body }))
      → at + sum_from (track_length c) i (c.count - i) ≤ length out
      → (next + sum_from (track_length c) (i + 1) (c.count - (i + 1)) ≤ length last)
      × (with_at last next (tracks_bytes form (values_from (given_track c) (i + 1) (c.count - (i + 1))))
      ≡ with_at out at (tracks_bytes form (values_from (given_track c) i (c.count - i))))
  tracks_next i l at next body out last b n q k room =
      let t : Track = record { id = entry c.columns.ids i; fourcc = bytes32 (entry c.columns.fourccs i); body = body } in
      let g : track_bytes form t ≡ track_bytes form (given_track c i) = ap
      (λ (x : List ℕ). track_bytes form (record { id = entry c.columns.ids i; fourcc = bytes32 (entry c.columns.fourccs i); body = x })) b in
      let size = length_track form (entry c.columns.ids i) (entry c.columns.fourccs i) body in
      let s = sum_next (track_length c) i c.count l in
      let fits : at + length (track_bytes form t) ≤ length out = omega (arith, size, s, sized) in
      let m : next ≡ at + length (track_bytes form t) = omega (arith, size) in
      let long : length last ≡ length out = ap length k ∙ length_with out at (track_bytes form t) fits in
      let more : List ℕ = tracks_bytes form (values_from (given_track c) (i + 1) (c.count - (i + 1))) in (
        omega (arith, s, sized),
        ap₂ (λ (o : List ℕ) (p : ℕ). with_at o p more) k m
            ∙ with_more out at (track_bytes form t) more fits
            ∙ ap (λ (x : List ℕ). with_at out at (x ++ more)) g
            ∙ ap (λ (ts : List Track). with_at out at (tracks_bytes form ts)) (sym (values_next (given_track c) i c.count l)),
      )

  -- none is left
  pub tracks_end : (i : ℕ) → c.count ≤ i → (at start : ℕ) (out before : List ℕ)
      → with_at out at (tracks_bytes form (values_from (given_track c) i (c.count - i))) ≡ with_at before start (tracks_bytes form (given_tracks c))
      → out ≡ with_at before start (tracks_bytes form (given_tracks c))
  tracks_end i l at start out before q =
      sym (with_none out at) ∙ sym (ap (λ (ts : List Track). with_at out at (tracks_bytes form ts)) (values_end (given_track c) i c.count l)) ∙ q

-- A CONTAINER: head, shared FourCC and tracks, one behind the other
head_whole : (form : AvMultitrackType) (x : ℕ) → 2 + length (cond (eqb (form_number form) 2) [] (bytes32 x)) ≡ tracks_start form
head_whole OneTrack x = refl
head_whole ManyTracks x = refl
head_whole ManyTracksManyCodecs x = refl

-- a form by its number
start_read : (form : ℕ) → form ≤ 2 → tracks_start (form_from form) ≡ head_length form
start_read zero l = refl
start_read (suc zero) l = refl
start_read (suc (suc zero)) l = refl
start_read (suc (suc (suc n))) l = absurd (omega arith)

-- its length, by the lengths of the bodies
pub container_measured : (c : ContainerCall) → WritableContainer c
    → length (container_written c)
    ≡ tracks_start (form_from c.form) + sum_by (with_head (head_size (form_from c.form)) (head_size (form_from c.form))) (take c.count c.columns.lengths)
unfolding container_length
container_measured c f =
    let each : ℕ = head_size (form_from c.form) in
    written_length c f
    ∙ ap₂ (λ (a b : ℕ). a + b) (sym (start_read c.form f.form))
    (sum_same (track_length c) (λ j. each + entry c.columns.lengths j) 0 c.count (λ j a b. ap (λ (h : ℕ). h + entry c.columns.lengths j) (sym (head_size_lem c.form)))
    ∙ sum_cut c.count c.columns.lengths f.lengths (λ n. each + n)
    ∙ sym (sum_alike each (take c.count c.columns.lengths)))

module _ (c : ContainerCall) (f : WritableContainer c) (form : AvMultitrackType) (e : form ≡ form_from c.form) where
  start_size : tracks_start form ≡ head_length c.form
  start_size = ap tracks_start e ∙ start_read c.form f.form

  -- there is room for each piece
  pub head_room : (room : ℕ) → length (container_written c) ≤ room → tracks_start form ≤ room
  unfolding container_length
  head_room room l = omega (arith, start_size, written_length c f)

  pub tracks_room : (room : ℕ) → length (container_written c) ≤ room → tracks_start form + sum_from (track_length c) 0 c.count ≤ room
  unfolding container_length
  tracks_room room l = omega (arith, start_size, written_length c f)

  pub container_put : (out o₁ o₂ o₃ : List ℕ) (a b at : ℕ) → a ≡ cond (is_video c.type) (128 + c.video_frame_type * 16 + 6) 0x95 → b ≡ c.form * 16 + c.packet_type
      → length (container_written c) ≤ length out → o₁ ≡ put_at out 0 (a ∷ b ∷ []) → o₂ ≡ with_at o₁ 2 (cond (eqb (form_number form) 2) [] (bytes32 (entry c.columns.fourccs 0)))
      → at ≡ tracks_start form → o₃ ≡ with_at o₂ at (tracks_bytes form (given_tracks c)) → o₃ ≡ in_front (container_written c) out
  unfolding container_written first_byte second_byte shared_fourcc
  container_put out o₁ o₂ o₃ a b at p q l g h k r =
      let shared : List ℕ = cond (eqb (form_number form) 2) [] (bytes32 (entry c.columns.fourccs 0)) in
      let tracks : List ℕ = tracks_bytes form (given_tracks c) in
      let two : List ℕ = a ∷ b ∷ [] in
      let w = head_whole form (entry c.columns.fourccs 0) in
      let m = head_room (length out) l in
      let number : form_number form ≡ c.form = ap form_number e ∙ form_number_lem c.form f.form in
      let u : o₁ ≡ with_at out 0 two = g ∙ put_room out 0 two (omega arith) in
      let v : o₂ ≡ with_at out 0 (two ++ shared) = h ∙ ap (λ (o : List ℕ). with_at o 2 shared) u ∙ with_more out 0 two shared (omega arith) in
      let n : at ≡ 0 + length (two ++ shared) = omega (arith, length-append two shared) in
      let z : o₃ ≡ with_at out 0 ((two ++ shared) ++ tracks) =
      r ∙ ap₂ (λ (o : List ℕ) (x : ℕ). with_at o x tracks) v n ∙ with_more out 0 (two ++ shared) tracks (omega (arith, length-append two shared)) in
      z ∙ with_front out _ ∙ ap (λ (x : List ℕ). in_front x out)
      (ap₂ (λ (x y : ℕ). x ∷ y ∷ (shared ++ tracks)) p q
      ∙ ap₂ (λ (n : ℕ) (F : AvMultitrackType). cond (is_video c.type) (128 + c.video_frame_type * 16 + 6) 0x95 ∷ (c.form * 16 + c.packet_type)
      ∷ (cond (eqb n 2) [] (bytes32 (entry c.columns.fourccs 0)) ++ tracks_bytes F (given_tracks c))) number
      (e ∙ sym (form_read c.form c.packet_type f.packet)))
