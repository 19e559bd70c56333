-- Laws of the whole pass and of the track request.
use mathlib.Core.Path.{◌≡◌, refl, sym, ap, ◌∙◌}
use mathlib.Core.Bool.{Bool, true, false, cond, and-false}
use mathlib.Core.List.{List, [], ◌∷◌}
use mathlib.Core.Logic.{◌⊎◌, ⊎_elim}
use Prim.Native.Nat.{ℕ, zero, suc, ◌+◌, ◌-◌, ◌≤◌, ◌<◌}
use native.Mathlib.Decide.{dec_lt}
use native.Mathlib.Omega.{arith}
use lib.Dec.{eqb}
use lib.IntN.{ℤ, pos}
use lib.ListN.{length, take, drop, get_or}
use borrow.Author.Tests.{lt-ltb, le-ltb, ne_eqb}
use Rattle.wire.specs.Wire.{part}
use Rattle.wire.proofs.Bools.{true_or_false}
use Rattle.types.specs.Types.{is_ok, frame_number, is_script_or_metadata, is_unknown_type}
use Rattle.types.specs.declared.FrameType.{FrameType}
use Rattle.types.specs.declared.FrameType.TheVariants.{Script, Metadata}
use Rattle.types.specs.declared.ErrorCode.{ErrorCode}
use Rattle.types.specs.declared.ErrorCode.TheVariants as error
use Rattle.types.proofs.Laws.{only_ok, media_only}
use Rattle.outputs.specs.Outputs.{in_front}
use Rattle.modex.specs.Modex.{peeled, peel_output}
use Rattle.modex.specs.Offsets.{has_bad_offset, chain_offset, peel_offset_result, peel_offset_output}
use Rattle.std.specs.Prelude.{Ok, Err}
use Rattle.exvideo.specs.Video.{signed32, video_header}
use Rattle.exvideo.specs.Claims.{HeaderTimes}
use Rattle.exvideo.specs.declared.VideoHeaderResult.{VideoHeaderResult}
use Rattle.exvideo.proofs.Times.{header_times_lem}
use Rattle.multitrack_media.specs.Container.{Container, no_place, body_in}
use Rattle.multitrack_media.specs.Answer.{track_info}
use Rattle.multitrack_media.specs.Sealed.{per_track}
use Rattle.multitrack_media.specs.declared.TrackPlace.{TrackPlace}
use Rattle.multitrack_media.specs.declared.TrackInfo.{TrackInfo}
use Rattle.multitrack_media.proofs.Answers.{container_facts_lem, opens_media, Asked, info_asked, info_unknown, info_inside}
use Rattle.init_cache.specs.Head.{to_video, tag_header, frame_head}
use Rattle.init_cache.specs.Verdicts.{track_verdict, verdicts}
use Rattle.init_cache.specs.Seen.{seen}
use Rattle.init_cache.specs.Kind.{kind_of, cache_kind}
use Rattle.init_cache.specs.declared.seen.Seen.{Seen}
use Rattle.init_cache.specs.declared.kind.CacheFrameKind.{CacheFrameKind}
use Rattle.init_cache.proofs.Rules.{kind_script}
use Rattle.init_cache.proofs.Records.{seen_script}
use Rattle.delivery.specs.Hint.{hint_of, delivery_hint}
use Rattle.delivery.specs.declared.DeliveryHint.{DeliveryHint}
use Rattle.delivery.proofs.Rules.{critical_script, hint_critical}
use Rattle.frame.specs.Time.{milliseconds, nanoseconds}
use Rattle.frame.specs.Pass.{pass_error, result_report, frame_class, refused_report, pass_report, pass_output, verdict_at, record_verdict, request_verdict, track_answer}
use Rattle.frame.specs.Reports.{bare_report, seen_report, audio_report, video_report}
use Rattle.frame.specs.declared.Report.{Report}
use Rattle.frame.specs.declared.AudioPart.{AudioPart}
use Rattle.frame.specs.declared.VideoPart.{VideoPart}
use Rattle.frame.specs.declared.Verdict.{Verdict}
use Rattle.frame.specs.declared.Verdict.TheVariants.{NoRecord, Valid, Refused}

-- ONE LAW FOR EACH ANSWER: a frame type above 3, an output of so many bytes that is shorter than the result, a bad layer, none of these
module _ (type mask : ℕ) (p : List ℕ) (room : ℕ) where
  pub error_unknown : is_unknown_type type ≡ true → error.UnknownFrameType ≡ pass_error type mask p room
  unfolding pass_error
  error_unknown u = simp u

  module _ (u : is_unknown_type type ≡ false) where
    pub error_short : room < length (peeled type mask p) → error.OutputTooShort ≡ pass_error type mask p room
    unfolding pass_error
    error_short l = simp (u, lt-ltb _ _ l)

    module _ (l : length (peeled type mask p) ≤ room) where
      pub error_offset : has_bad_offset type mask p ≡ true → error.Protocol ≡ pass_error type mask p room
      unfolding pass_error
      error_offset b = simp (u, le-ltb _ _ l, b)

      pub error_none : has_bad_offset type mask p ≡ false → error.Ok ≡ pass_error type mask p room
      unfolding pass_error
      error_none b = simp (u, le-ltb _ _ l, b)

  -- a pass that is not refused
  pub record Passed : Type 0 where
    pub known : is_unknown_type type ≡ false
    pub room_for : length (peeled type mask p) ≤ room
    pub fine : has_bad_offset type mask p ≡ false

  -- by the three tests
  pub by_tests : (A : Type 0) → (is_unknown_type type ≡ true → A) → (is_unknown_type type ≡ false → room < length (peeled type mask p) → A)
      → (is_unknown_type type ≡ false → length (peeled type mask p) ≤ room → has_bad_offset type mask p ≡ true → A) → (Passed → A) → A
  by_tests A unknown short bad none = by_type_lem (is_unknown_type type) refl
    where
      by_offset : is_unknown_type type ≡ false → length (peeled type mask p) ≤ room → (b : Bool) → has_bad_offset type mask p ≡ b → A
      by_offset u l true b = bad u l b
      by_offset u l false b = none (record { known = u; room_for = l; fine = b })

      by_room : is_unknown_type type ≡ false → Dec (room < length (peeled type mask p)) → A
      by_room u (yes l) = short u l
      by_room u (no l) = by_offset u (omega arith) (has_bad_offset type mask p) refl

      by_type_lem : (u : Bool) → is_unknown_type type ≡ u → A
      by_type_lem true u = unknown u
      by_type_lem false u = by_room u (dec_lt room (length (peeled type mask p)))

  pub passed : pass_error type mask p room ≡ error.Ok → Passed
  passed e =
      by_tests Passed (λ u. not_ok (error_unknown u) refl) (λ u l. not_ok (error_short u l) refl) (λ u l b. not_ok (error_offset u l b) refl) (λ w. w)
    where
      not_ok : {x : ErrorCode} → x ≡ pass_error type mask p room → is_ok x ≡ false → Passed
      not_ok q f = true_or_false (ap is_ok (q ∙ e)) f

  module _ (flag : ℕ) where
    -- a refused pass reports its number and nothing else
    pub refused_report_lem : is_ok (pass_error type mask p room) ≡ false → pass_report type mask flag p room ≡ refused_report (pass_error type mask p room)
    unfolding pass_report
    refused_report_lem r = simp r

    pub report_unknown : is_unknown_type type ≡ true → (e : ErrorCode) → error.UnknownFrameType ≡ e → refused_report e ≡ pass_report type mask flag p room
    unfolding pass_report
    report_unknown u e q = simp (← q, ← error_unknown u)

    pub report_passed : Passed → (o : ℕ) → o ≡ chain_offset type mask p → (r : List ℕ) → r ≡ peeled type mask p → result_report type flag o r ≡ pass_report type mask flag p room
    unfolding pass_report
    report_passed w o y r x = simp (x, y, ← error_none w.known w.room_for w.fine)

    -- by the answer of peeling
    pub report_refused : is_unknown_type type ≡ false → (e : ErrorCode) → Err e ≡ peel_offset_result type mask p room → refused_report e ≡ pass_report type mask flag p room
    unfolding pass_report peel_offset_result
    report_refused u e q =
        by_tests _ (λ x. true_or_false x u)
        (λ _ l.
        let w : peel_offset_result type mask p room ≡ Err error.OutputTooShort = simp (peel_offset_result, lt-ltb _ _ l) in
        let x : e ≡ error.OutputTooShort = cc in
        simp (x, pass_report, ← error_short u l))
        (λ _ l b.
        let w : peel_offset_result type mask p room ≡ Err error.Protocol = simp (peel_offset_result, le-ltb room (length (peeled type mask p)) l, b) in
        let x : e ≡ error.Protocol = cc in
        simp (x, pass_report, ← error_offset u l b))
        (λ v.
        let w : peel_offset_result type mask p room ≡ Ok (record { length = length (peeled type mask p); offset = chain_offset type mask p }) =
        simp (peel_offset_result, le-ltb room (length (peeled type mask p)) v.room_for, v.fine) in
        let z : ◌≡◌ {A = ℕ} 0 1 = cc in
        absurd (omega arith))

module _ (type mask : ℕ) (p out : List ℕ) where
  -- a refused pass keeps the output
  pub refused_output : is_ok (pass_error type mask p (length out)) ≡ false → pass_output type mask p out ≡ out
  unfolding pass_output
  refused_output r = simp r

  pub output_unknown : is_unknown_type type ≡ true → out ≡ pass_output type mask p out
  output_unknown u = sym (refused_output (ap is_ok (sym (error_unknown type mask p (length out) u))))

  -- one that is not refused puts the result into the output, and keeps its further bytes
  pub output_written : pass_error type mask p (length out) ≡ error.Ok → in_front (peeled type mask p) out ≡ pass_output type mask p out
  unfolding pass_output peel_output
  output_written e = simp (e, le-ltb _ _ (passed type mask p (length out) e).room_for)

  -- by the answer of peeling
  pub output_peeled : is_unknown_type type ≡ false → peel_offset_output type mask p out ≡ pass_output type mask p out
  unfolding pass_output peel_offset_output peel_output
  output_peeled u =
      by_tests type mask p (length out) _ (λ x. true_or_false x u)
      (λ _ l. sym (simp (pass_output, ← error_short type mask p (length out) u l)
      (sym (go l (has_bad_offset type mask p)))))
      (λ _ l b. simp (pass_output, peel_offset_output, b, ← error_offset type mask p (length out) u l b))
      (λ v. simp (pass_output, peel_offset_output, v.fine, ← error_none type mask p (length out) u v.room_for v.fine))
    where
      go : length out < length (peeled type mask p) → (b : Bool) → cond b out (peel_output type mask p out) ≡ out
      go l true = refl
      go l false = simp (peel_output, lt-ltb _ _ l)

-- THE TIME, from the header's pattern: 0 in audio and in a header that is not readable
pub header_milliseconds : (type : ℕ) (r : List ℕ) → signed32 (tag_header type r).composition_time ≡ milliseconds type (tag_header type r)
unfolding milliseconds tag_header signed32 HeaderTimes
header_milliseconds zero r = refl
header_milliseconds (suc zero) r = go (is_ok (video_header r).error) refl
  where
    go : (b : Bool) → is_ok (video_header r).error ≡ b → signed32 (video_header r).header.composition_time ≡ milliseconds 1 (tag_header 1 r)
    go true b = simp (milliseconds, tag_header, b)
    go false b = ap signed32 ((header_times_lem r).unread b) ∙ sym (simp (milliseconds, tag_header, b))
header_milliseconds (suc (suc n)) r = simp (ne_eqb (suc (suc n)) 0 (λ x. omega arith), ne_eqb (suc (suc n)) 1 (λ x. omega arith))

-- the report of a result, from what is seen of it
pub report_seen : (type flag offset : ℕ) (r : List ℕ) (s : Seen) (k : CacheFrameKind) (h : DeliveryHint) → s ≡ seen type r → k ≡ kind_of type s → h ≡ hint_of type flag s k
    → seen_report s (nanoseconds (signed32 s.head.header.composition_time) offset) k h ≡ result_report type flag offset r
unfolding result_report cache_kind delivery_hint seen verdicts frame_head
report_seen type flag offset r s k h e f g = rw (g, f, e) (rw (header_milliseconds type r) refl)

-- of types 2 and 3 only the length and the time are reported
script_time : (offset : ℕ) → nanoseconds (signed32 0) offset ≡ pos offset
unfolding nanoseconds signed32
script_time offset = let z : 0 + offset ≡ offset = omega arith in ap pos z

pub report_script : (type flag offset : ℕ) (r : List ℕ) (n : ℕ) (t : ℤ) → n ≡ length r → t ≡ pos offset → is_script_or_metadata type ≡ true
    → bare_report error.Ok n t ≡ result_report type flag offset r
report_script type flag offset r n t l q e =
    rw (l, q, ← script_time offset)
    (report_seen type flag offset r _ _ _ (seen_script type e r _ refl _ refl) (kind_script type _ e) (hint_critical type flag _ _ (sym (critical_script type _ _ e))))

pub script_type : (t : FrameType) → (t ≡ Script) ⊎ (t ≡ Metadata) → is_script_or_metadata (frame_number t) ≡ true
script_type t s =
    ⊎_elim (λ e. ap (λ (u : FrameType). is_script_or_metadata (frame_number u)) e) (λ e. ap (λ (u : FrameType). is_script_or_metadata (frame_number u)) e) s

-- the report of audio and of video, from what is read off their bytes
pub report_audio : (flag offset : ℕ) (r : List ℕ) (s : Seen) (k : CacheFrameKind) (h : DeliveryHint) → s ≡ seen 0 r → k ≡ kind_of 0 s → h ≡ hint_of 0 flag s k
    → audio_report (record { header = s.head.header; tracks = s.tracks; records = s.records; valid_records = s.valid_records; hint = h; kind = k }) (length r) offset
    ≡ result_report 0 flag offset r
unfolding result_report cache_kind delivery_hint seen verdicts frame_head tag_header milliseconds signed32
report_audio flag offset r s k h e f g = rw (g, f, e) (rw (← script_time offset) refl)

pub report_video : (flag offset : ℕ) (r : List ℕ) (s : Seen) (k : CacheFrameKind) (h : DeliveryHint) (a : VideoHeaderResult) → s ≡ seen 1 r → k ≡ kind_of 1 s → h ≡ hint_of 1 flag s k
    → a ≡ to_video s.head.header
    → video_report (record { parsed = a; tracks = s.tracks; records = s.records; valid_records = s.valid_records; hint = h; kind = k }) (length r) offset
    ≡ result_report 1 flag offset r
unfolding result_report cache_kind delivery_hint seen verdicts frame_head tag_header
report_video flag offset r s k h a e f g q = rw (q, g, f, e) (rw (header_milliseconds 1 r) refl)

-- and the same by the number of a known type, with the length that is reported
pub audio_reported : (type flag offset : ℕ) (r : List ℕ) (n : ℕ) (a : AudioPart) → type ≡ 0 → n ≡ length r
    → ((o : ℕ) → audio_report a (length r) o ≡ result_report 0 flag o r) → audio_report a n offset ≡ result_report type flag offset r
audio_reported type flag offset r n a t l h = rw (t, l) (h offset)

pub video_reported : (type flag offset : ℕ) (r : List ℕ) (n : ℕ) (a : VideoPart) → type ≡ 1 → n ≡ length r
    → ((f o : ℕ) → video_report a (length r) o ≡ result_report 1 f o r) → video_report a n offset ≡ result_report type flag offset r
video_reported type flag offset r n a t l h = rw (t, l) (h flag offset)

-- kind and hint are those of the report
pub class_of : (type flag offset : ℕ) (p : List ℕ) (k : CacheFrameKind) (h : DeliveryHint) (r : Report) → r ≡ result_report type flag offset p → k ≡ r.kind → h ≡ r.hint
    → record { kind = k; hint = h } ≡ frame_class type flag p
unfolding result_report
class_of type flag offset p k h r e f g = rw (f, g, e) refl

-- THE VERDICT OF A TRACK'S RECORD
verdict_at_lem : (type : ℕ) (p : List ℕ) (ts : List TrackPlace) (n : ℕ) → n < length ts
    → verdict_at (per_track (track_verdict type) p ts) n ≡ cond (track_verdict type (get_or ts n no_place).fourcc (body_in p (get_or ts n no_place))) Valid Refused
verdict_at_lem type p [] n l = absurd (omega arith)
verdict_at_lem type p (t ∷ ts) zero l = go (track_verdict type t.fourcc (body_in p t))
  where
    go : (v : Bool) → verdict_at (v ∷ per_track (track_verdict type) p ts) zero ≡ cond v Valid Refused
    go true = refl
    go false = refl
verdict_at_lem type p (t ∷ ts) (suc n) l = go (track_verdict type t.fourcc (body_in p t)) (verdict_at_lem type p ts n (omega arith))
  where
    go : (v : Bool) {w : Verdict} → verdict_at (per_track (track_verdict type) p ts) n ≡ w → verdict_at (v ∷ per_track (track_verdict type) p ts) (suc n) ≡ w
    go true e = e
    go false e = e

-- by a track's packet type, FourCC and body, one law for each answer
module _ (type packet : ℕ) (fourcc body : List ℕ) where
  pub record_script : is_script_or_metadata type ≡ true → NoRecord ≡ record_verdict type packet fourcc body
  unfolding record_verdict
  record_script s = simp s

  pub record_other : eqb packet 0 ≡ false → NoRecord ≡ record_verdict type packet fourcc body
  unfolding record_verdict
  record_other m = simp (m, and-false)

  pub record_judged : is_script_or_metadata type ≡ false → eqb packet 0 ≡ true → cond (track_verdict type fourcc body) Valid Refused ≡ record_verdict type packet fourcc body
  unfolding record_verdict
  record_judged s m = simp (s, m)

module _ (type : ℕ) (p : List ℕ) (n : ℕ) (t : TrackInfo) (e : t ≡ track_info type p n) where
  pub verdict_refused : is_ok t.error ≡ false → NoRecord ≡ request_verdict type p n
  unfolding request_verdict
  verdict_refused r = simp (rw e at r)

  -- the record in a track that was found
  module _ (fine : is_ok t.error ≡ true) where
    abbrev asked : Asked type p n
    asked = info_asked type p n (only_ok _ (rw e at fine))

    abbrev c : Container
    c = asked.container

    abbrev place : TrackPlace
    place = get_or c.tracks n no_place

    found : (b : Bool) → eqb c.packet_type 0 ≡ b → record_verdict type c.packet_type place.fourcc (body_in p place) ≡ request_verdict type p n
    unfolding request_verdict verdicts
    found false m = sym (record_other type _ _ _ m) ∙ simp (rw e at fine, asked.read, m)
    found true m =
        sym (record_judged type _ _ _ (media_only type (opens_media type _ (container_facts_lem type p c asked.read).opens)) m)
        ∙ simp (rw e at fine, asked.read, m, verdict_at_lem type p c.tracks n asked.below)

    pub verdict_found : record_verdict type t.packet_type t.fourcc (part p t.start t.length) ≡ request_verdict type p n
    verdict_found = rw (e, asked.found) (found (eqb c.packet_type 0) refl)

    -- over the part as the code cuts it
    pub verdict_cut : record_verdict type t.packet_type t.fourcc (take (t.start + t.length - t.start) (drop t.start p)) ≡ request_verdict type p n
    verdict_cut = let d : t.start + t.length - t.start ≡ t.length = omega arith in rw d verdict_found

pub request_unknown : (type : ℕ) (p : List ℕ) (n : ℕ) → is_unknown_type type ≡ true → NoRecord ≡ request_verdict type p n
request_unknown type p n u = verdict_refused type p n _ refl (ap (λ (r : TrackInfo). is_ok r.error) (sym (info_unknown type p u n)))

pub answered : (type : ℕ) (p : List ℕ) (n : ℕ) (t : TrackInfo) (v : Verdict) → t ≡ track_info type p n → v ≡ request_verdict type p n → record { track = t; verdict = v } ≡ track_answer type p n
unfolding track_answer
answered type p n t v e f = rw (e, f) refl

-- a track that was asked for is inside the payload
pub asked_inside : (type : ℕ) (p : List ℕ) (n : ℕ) (t : TrackInfo) → t ≡ track_info type p n → t.start + t.length ≤ length p
asked_inside type p n t e = rw e (info_inside type p n)
