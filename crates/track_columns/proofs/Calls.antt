-- What the calls gave, put together: the answers of the walk and of the reading.
use mathlib.Core.Path.{◌≡◌, refl, sym, ap, ◌∙◌}
use mathlib.Core.Bool.{Bool, true, false}
use mathlib.Core.Option.{Option, none, some}
use mathlib.Core.List.{List}
use Prim.Native.Nat.{ℕ, ◌+◌, ◌-◌, ◌≤◌, ◌<◌}
use native.Mathlib.Omega.{arith}
use lib.ListN.{length, take, drop}
use Rattle.std.specs.Prelude.{Result, Ok, Err}
use Rattle.wire.specs.Wire.{part}
use Rattle.types.specs.Types.{is_ok, is_unknown_type, frame_number, frame_type_of}
use Rattle.types.specs.declared.ErrorCode.{ErrorCode}
use Rattle.types.specs.declared.ErrorCode.TheVariants as error
use Rattle.types.specs.declared.FrameType.{FrameType}
use Rattle.types.proofs.Laws.{known_type, unknown_type_lem}
use Rattle.multitrack_media.specs.Container.{form_in, Container, container_of, tracks_start}
use Rattle.multitrack_media.specs.Positions.{places_at}
use Rattle.multitrack_media.specs.Answer.{track_count, no_track}
use Rattle.multitrack_media.specs.declared.AvMultitrackType.{AvMultitrackType}
use Rattle.multitrack_media.specs.declared.TrackPlace.{TrackPlace}
use Rattle.multitrack_media.specs.declared.TrackInfo.{TrackInfo}
use Rattle.multitrack_media.proofs.Answers.{container_known, count_found, count_unknown, count_none, count_some}
use Rattle.multitrack_media.proofs.Walks.{places_container}
use Rattle.frame.specs.Pass.{record_verdict}
use Rattle.frame.specs.declared.Verdict.{Verdict}
use Rattle.frame.specs.declared.Verdict.TheVariants.{NoRecord}
use Rattle.writers.specs.Columns.{Columns}
use Rattle.track_columns.specs.Columns.{shortest, columns_error, columns_count, columns_result, filled, columns_after, column_track, column_part, found_verdict, column_answer}
use Rattle.track_columns.specs.Claims.{ColumnsTaken, ColumnInside}
use Rattle.track_columns.proofs.Walking.{walk_unknown, walk_none, walk_short, walk_long, columns_taken_lem, after_fine}
use Rattle.track_columns.proofs.Reading.{column_unknown, column_inside_lem}

-- THE READING, by the frame type's number
module _ (number : ℕ) (c : Columns) (count : ℕ) (p : List ℕ) (n : ℕ) (r : TrackInfo) where
  pub info_known : (t : FrameType) → frame_type_of number ≡ Ok t → r ≡ column_track (frame_number t) c count p n → r ≡ column_track number c count p n
  info_known t q e = e ∙ ap (λ (m : ℕ). column_track m c count p n) (sym (known_type number t q))

  pub info_unknown : (e : ErrorCode) → frame_type_of number ≡ Err e → r ≡ no_track e 0 → r ≡ column_track number c count p n
  info_unknown e q w =
      let u = unknown_type_lem number e q in
      w ∙ ap (λ (d : ErrorCode). no_track d 0) (sym u.1) ∙ column_unknown number c count p n u.0

  -- inside
  pub track_inside : r ≡ column_track number c count p n → r.start + r.length ≤ length p
  unfolding ColumnInside
  track_inside e = rw e (column_inside_lem number c count p n)

  -- its part
  pub part_of : r ≡ column_track number c count p n → take (r.start + r.length - r.start) (drop r.start p) ≡ column_part number c count p n
  unfolding column_part
  part_of e = let d : r.start + r.length - r.start ≡ r.length = omega arith in rw (d, e)

  -- and its verdict
  pub answered : (t : FrameType) → frame_type_of number ≡ Ok t → r ≡ column_track number c count p n
      → (v : Verdict) → v ≡ found_verdict (frame_number t) r (part p r.start r.length) → record { track = r; verdict = v } ≡ column_answer number c count p n
  unfolding column_answer column_part
  answered t q e v f = rw (f, ← known_type number t q, e) refl

  pub answered_unknown : (e : ErrorCode) → frame_type_of number ≡ Err e → r ≡ column_track number c count p n
      → record { track = r; verdict = NoRecord } ≡ column_answer number c count p n
  unfolding column_answer column_part found_verdict
  answered_unknown e q w = rw (w, ← column_unknown number c count p n (unknown_type_lem number e q).0) refl

-- the verdict in a track that was found, over the part as the code cuts it
pub verdict_refused : (type : ℕ) (t : TrackInfo) (body : List ℕ) → is_ok t.error ≡ false → NoRecord ≡ found_verdict type t body
unfolding found_verdict
verdict_refused type t body e = rw e

pub verdict_found : (type : ℕ) (t : TrackInfo) (p : List ℕ) → is_ok t.error ≡ true
    → record_verdict type t.packet_type t.fourcc (take (t.start + t.length - t.start) (drop t.start p)) ≡ found_verdict type t (part p t.start t.length)
unfolding found_verdict
verdict_found type t p e = let d : t.start + t.length - t.start ≡ t.length = omega arith in rw (d, e)

-- THE WALK, by what the count gave
module _ (type : ℕ) (p : List ℕ) (c : Columns) where
  abbrev Answers : Result ℕ ErrorCode → Columns → Type 0
  Answers r after = (r ≡ columns_result type p (shortest c)) × (after ≡ columns_after type p c)

  refused : (e : ErrorCode) → is_ok e ≡ false → e ≡ columns_error type p (shortest c) → Answers (Err e) c
  unfolding columns_result columns_count columns_after
  refused e f q = rw (← q, f) (refl, refl)

  pub walk_uncounted : (e : ErrorCode) → track_count type p ≡ Err e → Answers (Err e) c
  walk_uncounted e q = by_type_lem (is_unknown_type type) refl
    where
      by_container : is_unknown_type type ≡ false → (o : Option Container) → container_of type p ≡ o → Answers (Err e) c
      by_container u none r = let w = count_none type p u r in let d : error.NotAContainer ≡ e = cc in rw (← d) (refused error.NotAContainer refl (walk_none type p (shortest c) u r))
      by_container u (some k) r =
          let w = count_some type p u k r in
          let z : ◌≡◌ {A = ℕ} 0 1 = cc in
          absurd (omega arith)

      by_type_lem : (u : Bool) → is_unknown_type type ≡ u → Answers (Err e) c
      by_type_lem true u = let w = count_unknown type p u in let d : error.UnknownFrameType ≡ e = cc in rw (← d) (refused error.UnknownFrameType refl (walk_unknown type p (shortest c) u))
      by_type_lem false u = by_container u (container_of type p) refl

  module _ (n : ℕ) (q : track_count type p ≡ Ok n) where
    abbrev found : (k : Container) × (container_of type p ≡ some k) × (n ≡ length k.tracks)
    found = count_found type p n q

    known : is_unknown_type type ≡ false
    known = container_known type p found.0 found.1

    pub walk_columns_short : shortest c < n → Answers (Err error.OutputTooShort) c
    walk_columns_short l = refused error.OutputTooShort refl (walk_short type p (shortest c) known found.0 found.1 (omega (arith, found.2)))

    pub walk_payload_long : 16777215 < length p → Answers (Err error.OutputTooShort) c
    walk_payload_long l = refused error.OutputTooShort refl (walk_long type p (shortest c) known found.0 found.1 l)

    -- filled from the form and the place that the code found
    pub walk_filled : n ≤ shortest c → length p ≤ 16777215 → (form : AvMultitrackType) (from : ℕ) → form ≡ form_in p → from ≡ tracks_start form
        → (after : Columns) → after ≡ filled (places_at n form p from) c → Answers (Ok n) after
    unfolding columns_result ColumnsTaken
    walk_filled l m form from f g after w =
        let k : Container = found.0 in
        let t = columns_taken_lem type p c k found.1 (omega (arith, found.2)) m in
        let places : places_at n form p from ≡ k.tracks = ap (λ (m : ℕ). places_at m form p from) found.2 ∙ rw (g, f) (places_container type p k found.1) in
        (rw (t.0, t.1) (ap Ok found.2), w ∙ ap (λ (ts : List TrackPlace). filled ts c) places ∙ sym (after_fine type p c k t.0 found.1))
