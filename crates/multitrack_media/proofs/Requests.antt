-- The answers, by what a walk over the heads finds, and by the frame type that has a number.
use mathlib.Core.Path.{◌≡◌, refl, sym, ap}
use mathlib.Core.Bool.{Bool, true, false, cond, ◌&&◌, and-false, and-true}
use mathlib.Core.Option.{Option, none, some}
use mathlib.Core.List.{List, map}
use Prim.Native.Nat.{ℕ, ◌%◌}
use native.Mathlib.Omega.{arith}
use lib.Dec.{eqb, leb}
use lib.ListN.{length, get_or, length-map}
use borrow.Author.Tests.{leb-false, lt-ltb}
use Rattle.std.specs.Prelude.{Result, Ok, Err, Some, None, is_some}
use Rattle.std.specs.Prelude as std
use Rattle.wire.specs.Wire.{byte_at}
use Rattle.types.specs.Types.{frame_number, frame_type_of, is_unknown_type, refusal}
use Rattle.types.specs.declared.ErrorCode.{ErrorCode}
use Rattle.types.specs.declared.ErrorCode.TheVariants as error
use Rattle.types.specs.declared.FrameType.{FrameType}
use Rattle.types.proofs.Laws.{frame_types_lem}
use Rattle.multitrack_media.specs.Container.{form_in, Container, place_at, no_place, container_heads, with_heads, container_of}
use Rattle.multitrack_media.specs.Answer.{
  track_count,
  count_from,
  count_answer,
  numbers_from,
  count_numbers,
  no_track,
  track_from,
  track_info,
  first_fourcc,
  first_track_fourcc,
  packet_type_is,
  has_packet_type,
  video_frame_type,
}
use Rattle.multitrack_media.specs.Positions.{walk_of}
use Rattle.multitrack_media.specs.declared.TrackPlace.{TrackPlace}
use Rattle.multitrack_media.specs.declared.TrackInfo.{TrackInfo}
use Rattle.multitrack_media.specs.declared.Walk.{Walk}
use Rattle.multitrack_media.proofs.Answers.{get_d_map, container_facts_lem, count_unknown, info_unknown}

-- WHAT A WALK FINDS: nothing, or a count and where the head of one track starts
module _ (type : ℕ) (p : List ℕ) where
  abbrev pub counted_by : std.Option Walk → Result ℕ ErrorCode
  counted_by None = Err error.NotAContainer
  counted_by (Some w) = Ok w.count

  pub count_walked : is_unknown_type type ≡ false → track_count type p ≡ counted_by (walk_of 0 (container_heads type p))
  unfolding track_count container_of walk_of
  count_walked u = rw u (go (container_heads type p))
    where
      go : (o : Option (List ℕ)) → count_from (with_heads p o) ≡ counted_by (walk_of 0 o)
      go none = refl
      go (some heads) = ap Ok (length-map heads (place_at (form_in p) p))

  -- the packet type
  pub packet_walked : (k : ℕ) → has_packet_type type p k ≡ eqb (byte_at p 1 % 16) k && is_some (walk_of 0 (container_heads type p))
  unfolding has_packet_type container_of walk_of
  packet_walked k = go (container_heads type p)
    where
      go : (o : Option (List ℕ)) → packet_type_is k (with_heads p o) ≡ eqb (byte_at p 1 % 16) k && is_some (walk_of 0 o)
      go none = sym (and-false (eqb (byte_at p 1 % 16) k))
      go (some heads) = sym (and-true (eqb (byte_at p 1 % 16) k))

  -- the first FourCC: there is a first track
  abbrev pub first_by : std.Option Walk → std.Option (List ℕ)
  first_by None = None
  first_by (Some w) = Some (place_at (form_in p) p w.at).fourcc

  pub first_walked : first_track_fourcc type p ≡ first_by (walk_of 0 (container_heads type p))
  unfolding first_track_fourcc container_of walk_of
  first_walked = go (container_heads type p) refl
    where
      go : (o : Option (List ℕ)) → container_heads type p ≡ o → first_fourcc (with_heads p o) ≡ first_by (walk_of 0 o)
      go none q = refl
      go (some heads) q =
          let c : Container = record { packet_type = byte_at p 1 % 16; tracks = map (place_at (form_in p) p) heads } in
          let l = (container_facts_lem type p c (ap (with_heads p) q)).least in
          ap (λ (t : TrackPlace). Some t.fourcc) (get_d_map (place_at (form_in p) p) heads 0 0 no_place (omega (arith, l, length-map heads (place_at (form_in p) p))))

  -- a track request
  abbrev pub found_at : ℕ → TrackPlace → TrackInfo
  found_at count t =
      record {
        error = error.Ok;
        count = count;
        track_id = t.id;
        packet_type = byte_at p 1 % 16;
        fourcc = t.fourcc;
        video_frame_type = video_frame_type type p;
        start = t.start;
        length = t.length;
      }

  abbrev pub requested_by : ℕ → std.Option Walk → TrackInfo
  requested_by n None = no_track error.NotAContainer 0
  requested_by n (Some w) = cond (leb w.count n) (no_track error.NoSuchTrack w.count) (found_at w.count (place_at (form_in p) p w.at))

  pub info_walked : (n : ℕ) → is_unknown_type type ≡ false → track_info type p n ≡ requested_by n (walk_of n (container_heads type p))
  unfolding track_info container_of walk_of
  info_walked n u = rw u (go (container_heads type p))
    where
      place : ℕ → TrackPlace
      place = place_at (form_in p) p

      go : (o : Option (List ℕ)) → track_from type p n (with_heads p o) ≡ requested_by n (walk_of n o)
      go none = refl
      go (some heads) = rw (length-map heads place) (by_number (leb (length heads) n) refl)
        where
          by_number : (b : Bool) → leb (length heads) n ≡ b
              → cond b (no_track error.NoSuchTrack (length heads)) (found_at (length heads) (get_or (map place heads) n no_place))
              ≡ cond b (no_track error.NoSuchTrack (length heads)) (found_at (length heads) (place (get_or heads n 0)))
          by_number true e = refl
          by_number false e = rw (get_d_map place heads n 0 no_place (omega (arith, leb-false _ _ e)))

-- BY THE NUMBER of a frame type
abbrev pub typed : {X : Type 0} → (ℕ → X) → (ErrorCode → X) → Result FrameType ErrorCode → X
typed f g (Ok t) = f (frame_number t)
typed f g (Err e) = g e

pub count_typed : (type : ℕ) (p : List ℕ) → track_count type p ≡ typed (λ m. track_count m p) Err (frame_type_of type)
count_typed type p =
    frame_types_lem (λ m r. track_count m p ≡ typed (λ m. track_count m p) Err r) (λ t. refl) (λ m l. sym (count_unknown m p (lt-ltb 3 m l))) type

pub info_typed : (type : ℕ) (p : List ℕ) (n : ℕ) → track_info type p n ≡ typed (λ m. track_info m p n) (λ e. no_track e 0) (frame_type_of type)
info_typed type p n =
    frame_types_lem (λ m r. track_info m p n ≡ typed (λ m. track_info m p n) (λ e. no_track e 0) r) (λ t. refl) (λ m l. sym (info_unknown m p (lt-ltb 3 m l) n)) type

-- THE COUNT IN NUMBERS
pub count_numbered : (type : ℕ) (p : List ℕ) → count_numbers type p ≡ count_answer (track_count type p)
unfolding track_count count_numbers
count_numbered type p = go (is_unknown_type type) (container_of type p)
  where
    go : (u : Bool) (o : Option Container)
        → cond u (refusal error.UnknownFrameType) (numbers_from o) ≡ count_answer (cond u (Err error.UnknownFrameType) (count_from o))
    go true o = refl
    go false none = refl
    go false (some c) = refl
