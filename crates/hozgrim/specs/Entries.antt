-- What the exported entries give back: the numbers of a report, a store's answer, a class, a track, a walk into columns, a decision of a sharer, a writer's
-- answer, a frame of an FLV file, a level and a split time.
use Rattle.std.specs.Prelude.{cond, List, ℕ, pos, Option, Some, None, Result, Ok, Err}
use Rattle.wire.specs.Wire.{be32_at}
use Rattle.types.specs.Types.{error_number, codec_number, is_unknown_type}
use Rattle.types.specs.declared.ErrorCode.{ErrorCode}
use Rattle.types.specs.declared.ErrorCode.TheVariants as error
use Rattle.init_cache.specs.Kind.{kind_number, cache_kind}
use Rattle.init_cache.specs.declared.head.TagHeader.{TagHeader}
use Rattle.delivery.specs.Hint.{hint_number, delivery_hint}
use Rattle.frame.specs.Pass.{verdict_number}
use Rattle.frame.specs.declared.Report.{Report}
use Rattle.frame.specs.declared.Placed.{Placed}
use Rattle.frame.specs.declared.time.SplitTime.{SplitTime}
use Rattle.frame.specs.declared.TrackAnswer.{TrackAnswer}
use Rattle.frame_store.specs.Store.{Store, lent_store}
use Rattle.frame_store.specs.declared.StoreLengths.{StoreLengths}
use Rattle.frame_store.specs.declared.StoreAnswer.{StoreAnswer}
use Rattle.frame_store.specs.declared.late.LateInfo.{LateInfo}
use Rattle.uplink.specs.Uplink.{decision_number, error_of}
use Rattle.uplink.specs.declared.Decision.{Decision}
use Rattle.flv.specs.declared.reading.FlvFrame.{FlvFrame}
use Rattle.hozgrim.specs.declared.HozgrimReport.{HozgrimReport}
use Rattle.hozgrim.specs.declared.HozgrimPlaced.{HozgrimPlaced}
use Rattle.hozgrim.specs.declared.HozgrimLengths.{HozgrimLengths}
use Rattle.hozgrim.specs.declared.HozgrimStored.{HozgrimStored}
use Rattle.hozgrim.specs.declared.HozgrimLate.{HozgrimLate}
use Rattle.hozgrim.specs.declared.HozgrimClass.{HozgrimClass}
use Rattle.hozgrim.specs.declared.HozgrimTrack.{HozgrimTrack}
use Rattle.hozgrim.specs.declared.HozgrimColumns.{HozgrimColumns}
use Rattle.hozgrim.specs.declared.HozgrimOffer.{HozgrimOffer}
use Rattle.hozgrim.specs.declared.HozgrimWritten.{HozgrimWritten}
use Rattle.hozgrim.specs.declared.HozgrimFlvStart.{HozgrimFlvStart}
use Rattle.hozgrim.specs.declared.HozgrimFlvFrame.{HozgrimFlvFrame}
use Rattle.hozgrim.specs.declared.HozgrimLevel.{HozgrimLevel}
use Rattle.hozgrim.specs.declared.HozgrimSplitTime.{HozgrimSplitTime}

abbrev pub report_of : Report → TagHeader → HozgrimReport
report_of r h =
    record {
      error = error_number r.error;
      header_error = error_number h.error;
      kind = kind_number r.kind;
      hint = hint_number r.hint;
      result_length = r.result_length;
      tracks = r.tracks;
      records = r.records;
      valid_records = r.valid_records;
      header_size = h.header_size;
      composition_time_ns = r.composition_time_ns;
      is_ex_header = h.is_ex_header;
      packet_type = h.packet_type;
      frame_type = h.frame_type;
      audio_codec = codec_number h.audio_codec;
      sample_rate = h.sample_rate;
      sample_size = h.sample_size;
      channels = h.channels;
      aac_packet_type = h.aac_packet_type;
      fourcc = h.fourcc;
    }

-- the report of the whole pass, with its header
abbrev pub hozgrim_report : Report → HozgrimReport
hozgrim_report r = report_of r r.header

-- the same without a copy, and where the result starts
abbrev pub hozgrim_placed : Placed → HozgrimPlaced
hozgrim_placed r = record { report = hozgrim_report r.report; start = r.start }

-- a store as it is lent to an entry
abbrev pub lengths_of : HozgrimLengths → StoreLengths
lengths_of l = record { video = l.video; audio = l.audio; keyframe = l.keyframe }

abbrev pub hozgrim_store : HozgrimLengths → List ℕ → List ℕ → List ℕ → Store
hozgrim_store l video audio keyframe = lent_store (lengths_of l) video audio keyframe

-- the answer of the store, and a frame that a late viewer is sent
abbrev pub hozgrim_stored : StoreAnswer → HozgrimStored
hozgrim_stored a = record { error = error_number a.error; report = hozgrim_report a.report }

abbrev pub hozgrim_late : LateInfo → HozgrimLate
hozgrim_late l = record { count = l.count; length = l.length; kind = kind_number l.kind }

-- kind and hint of a payload as it is; frame type above 3: -21, kind and hint 0
unfoldable pub hozgrim_class : ℕ → ℕ → List ℕ → HozgrimClass
hozgrim_class type flag p =
    cond (is_unknown_type type) (record { error = error_number error.UnknownFrameType; kind = 0; hint = 0 })
    (record { error = pos 0; kind = kind_number (cache_kind type p); hint = hint_number (delivery_hint type flag p) })

-- a track; its FourCC is a big-endian number
abbrev pub hozgrim_track : TrackAnswer → HozgrimTrack
hozgrim_track a =
    record {
      error = error_number a.track.error;
      fourcc = be32_at a.track.fourcc 0;
      count = a.track.count;
      start = a.track.start;
      length = a.track.length;
      track_id = a.track.track_id;
      packet_type = a.track.packet_type;
      video_frame_type = a.track.video_frame_type;
      verdict = verdict_number a.verdict;
    }

-- what a walk into columns returns; refused: count 0
abbrev pub hozgrim_columns : Result ℕ ErrorCode → HozgrimColumns
hozgrim_columns (Ok count) = record { error = pos 0; count = count }
hozgrim_columns (Err e) = record { error = error_number e; count = 0 }

-- what comes of a frame that is offered to a viewer
abbrev pub hozgrim_offer : Result Decision ErrorCode → HozgrimOffer
hozgrim_offer o = record { error = error_number (error_of o); decision = decision_number o }

-- what a writer returns; refused: length 0
abbrev pub hozgrim_written : Result ℕ ErrorCode → HozgrimWritten
hozgrim_written (Ok n) = record { error = pos 0; length = n }
hozgrim_written (Err e) = record { error = error_number e; length = 0 }

-- the start of an FLV file; refused: 0
abbrev pub hozgrim_flv_start : Result ℕ ErrorCode → HozgrimFlvStart
hozgrim_flv_start (Ok next) = record { error = pos 0; next = next }
hozgrim_flv_start (Err e) = record { error = error_number e; next = 0 }

-- the next frame of a file of so many bytes; at the clean end nothing is found, and `next` is the file's length; refused: every other number is 0
abbrev pub no_flv_frame : ErrorCode → ℕ → HozgrimFlvFrame
no_flv_frame e next = record { error = error_number e; found = 0; frame_type = 0; timestamp = 0; start = 0; length = 0; next = next }

abbrev pub hozgrim_flv_frame : ℕ → Result (Option FlvFrame) ErrorCode → HozgrimFlvFrame
hozgrim_flv_frame size (Ok (Some f)) =
    record {
      error = pos 0;
      found = 1;
      frame_type = f.frame_type;
      timestamp = f.timestamp;
      start = f.start;
      length = f.length;
      next = f.next;
    }
hozgrim_flv_frame size (Ok None) = no_flv_frame error.Ok size
hozgrim_flv_frame size (Err e) = no_flv_frame e 0

-- a level; refused: 0
abbrev pub hozgrim_level : Result ℕ ErrorCode → HozgrimLevel
hozgrim_level (Ok level) = record { error = pos 0; level = level }
hozgrim_level (Err e) = record { error = error_number e; level = 0 }

-- a split time
abbrev pub hozgrim_split_time : SplitTime → HozgrimSplitTime
hozgrim_split_time t = record { milliseconds = t.milliseconds; offset = t.offset }
