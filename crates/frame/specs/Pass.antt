-- The whole pass and the track request. "Whole pass", "result" and "verdict" are terms of docs/REQUIREMENTS.md; the result is the peeled payload.
use Rattle.std.specs.Prelude.{Bool, true, false, cond, not, ◌&&◌, List, [], ◌∷◌, ℕ, zero, suc, eqb, ltb, pos, length}
use Rattle.types.specs.Types.{is_ok, is_unknown_type, is_script_or_metadata}
use Rattle.types.specs.declared.ErrorCode.{ErrorCode}
use Rattle.types.specs.declared.ErrorCode.TheVariants as error
use Rattle.modex.specs.Modex.{peeled, peel_output}
use Rattle.modex.specs.Offsets.{has_bad_offset, chain_offset}
use Rattle.multitrack_media.specs.Container.{container_of}
use Rattle.multitrack_media.specs.Answer.{track_info}
use Rattle.init_cache.specs.Head.{no_header, tag_header}
use Rattle.init_cache.specs.Verdicts.{track_verdict, verdicts, count_valid}
use Rattle.init_cache.specs.Seen.{count_tracks}
use Rattle.init_cache.specs.Kind.{cache_kind}
use Rattle.init_cache.specs.declared.kind.CacheFrameKind.TheVariants.{LiveOnly}
use Rattle.delivery.specs.Hint.{delivery_hint}
use Rattle.delivery.specs.declared.DeliveryHint.TheVariants.{Critical}
use Rattle.frame.specs.Time.{milliseconds, nanoseconds}
use Rattle.frame.specs.declared.Report.{Report}
use Rattle.frame.specs.declared.Class.{Class}
use Rattle.frame.specs.declared.Verdict.{Verdict}
use Rattle.frame.specs.declared.Verdict.TheVariants.{NoRecord, Valid, Refused}
use Rattle.frame.specs.declared.TrackAnswer.{TrackAnswer}

-- THE REFUSALS in their order: -21, frame type above 3; -22, output shorter than the result; -3, a type-0 layer of the peeled chain with under 3 data
-- bytes or an offset over 999,999
unfoldable pub pass_error : ℕ → ℕ → List ℕ → ℕ → ErrorCode
pass_error type mask p room =
    cond (is_unknown_type type) error.UnknownFrameType
    (cond (ltb room (length (peeled type mask p))) error.OutputTooShort
    (cond (has_bad_offset type mask p) error.Protocol error.Ok))

-- what is reported of a result from which a chain with this offset was peeled off: its length, header or header error, composition time, tracks, record
-- verdicts, kind and hint. Tracks and verdicts are reported by their numbers; the track request gives each
unfoldable pub result_report : ℕ → ℕ → ℕ → List ℕ → Report
result_report type flag offset r =
    record {
      error = error.Ok;
      result_length = length r;
      header = tag_header type r;
      composition_time_ns = nanoseconds (milliseconds type (tag_header type r)) offset;
      tracks = count_tracks (container_of type r);
      records = length (verdicts type r);
      valid_records = count_valid (verdicts type r);
      kind = cache_kind type r;
      hint = delivery_hint type flag r;
    }

-- kind and hint of a payload as it is
abbrev pub frame_class : ℕ → ℕ → List ℕ → Class
frame_class type flag p = record { kind = cache_kind type p; hint = delivery_hint type flag p }

-- a refused whole pass reports its number and nothing else: every other number is 0
abbrev pub refused_report : ErrorCode → Report
refused_report e =
    record {
      error = e;
      result_length = 0;
      header = no_header;
      composition_time_ns = pos 0;
      tracks = 0;
      records = 0;
      valid_records = 0;
      kind = LiveOnly;
      hint = Critical;
    }

-- THE WHOLE PASS: what it reports, with an output of so many bytes
abbrev pub report_by : ErrorCode → ℕ → ℕ → ℕ → List ℕ → Report
report_by e type flag offset r = cond (is_ok e) (result_report type flag offset r) (refused_report e)

unfoldable pub pass_report : ℕ → ℕ → ℕ → List ℕ → ℕ → Report
pass_report type mask flag p room = report_by (pass_error type mask p room) type flag (chain_offset type mask p) (peeled type mask p)

-- and what the output then holds: the result in front, its further bytes kept; after a refusal all its bytes
unfoldable pub pass_output : ℕ → ℕ → List ℕ → List ℕ → List ℕ
pass_output type mask p out = cond (is_ok (pass_error type mask p (length out))) (peel_output type mask p out) out

-- a verdict's number: 0 no record, 1 valid, 2 refused
abbrev pub verdict_number : Verdict → ℕ
verdict_number NoRecord = 0
verdict_number Valid = 1
verdict_number Refused = 2

-- verdict n of a list
abbrev pub verdict_at : List Bool → ℕ → Verdict
verdict_at [] n = NoRecord
verdict_at (true ∷ vs) zero = Valid
verdict_at (false ∷ vs) zero = Refused
verdict_at (v ∷ vs) (suc n) = verdict_at vs n

-- the verdict of the record in a track with this packet type, FourCC and body: only packet type 0 has one, and only in audio and video
unfoldable pub record_verdict : ℕ → ℕ → List ℕ → List ℕ → Verdict
record_verdict type packet fourcc body =
    cond (not (is_script_or_metadata type) && eqb packet 0) (cond (track_verdict type fourcc body) Valid Refused) NoRecord

-- the verdict of track n's record; a refused request has none
unfoldable pub request_verdict : ℕ → List ℕ → ℕ → Verdict
request_verdict type p n = cond (is_ok (track_info type p n).error) (verdict_at (verdicts type p) n) NoRecord

-- THE TRACK REQUEST: track n, with the verdict of its record
unfoldable pub track_answer : ℕ → List ℕ → ℕ → TrackAnswer
track_answer type p n = record { track = track_info type p n; verdict = request_verdict type p n }
