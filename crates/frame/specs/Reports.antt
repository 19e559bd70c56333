-- For contracts of private functions and for proofs: a report put together of its parts.
use Rattle.std.specs.Prelude.{ℕ, ℤ, pos}
use Rattle.types.specs.declared.ErrorCode.{ErrorCode}
use Rattle.types.specs.declared.ErrorCode.TheVariants as error
use Rattle.exvideo.specs.Video.{signed32}
use Rattle.init_cache.specs.Head.{of_video, no_header}
use Rattle.init_cache.specs.declared.seen.Seen.{Seen}
use Rattle.init_cache.specs.declared.kind.CacheFrameKind.{CacheFrameKind}
use Rattle.init_cache.specs.declared.kind.CacheFrameKind.TheVariants.{LiveOnly}
use Rattle.delivery.specs.declared.DeliveryHint.{DeliveryHint}
use Rattle.delivery.specs.declared.DeliveryHint.TheVariants.{Critical}
use Rattle.frame.specs.Time.{nanoseconds}
use Rattle.frame.specs.declared.Report.{Report}
use Rattle.frame.specs.declared.AudioPart.{AudioPart}
use Rattle.frame.specs.declared.VideoPart.{VideoPart}

-- an error number, a length and a time, and nothing else
abbrev pub bare_report : ErrorCode → ℕ → ℤ → Report
bare_report e n time =
    record {
      error = e;
      result_length = n;
      header = no_header;
      composition_time_ns = time;
      tracks = 0;
      records = 0;
      valid_records = 0;
      kind = LiveOnly;
      hint = Critical;
    }

-- what is seen of a result, with its time, its kind and its hint
abbrev pub seen_report : Seen → ℤ → CacheFrameKind → DeliveryHint → Report
seen_report s time k h =
    record {
      error = error.Ok;
      result_length = s.head.size;
      header = s.head.header;
      composition_time_ns = time;
      tracks = s.tracks;
      records = s.records;
      valid_records = s.valid_records;
      kind = k;
      hint = h;
    }

-- what is read off the bytes of audio, with their number and the offset of the chain before them
abbrev pub audio_report : AudioPart → ℕ → ℕ → Report
audio_report a n offset =
    record {
      error = error.Ok;
      result_length = n;
      header = a.header;
      composition_time_ns = pos offset;
      tracks = a.tracks;
      records = a.records;
      valid_records = a.valid_records;
      kind = a.kind;
      hint = a.hint;
    }

-- the same of video
abbrev pub video_report : VideoPart → ℕ → ℕ → Report
video_report a n offset =
    record {
      error = error.Ok;
      result_length = n;
      header = of_video a.parsed;
      composition_time_ns = nanoseconds (signed32 a.parsed.header.composition_time) offset;
      tracks = a.tracks;
      records = a.records;
      valid_records = a.valid_records;
      kind = a.kind;
      hint = a.hint;
    }
