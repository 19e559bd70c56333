-- Tracks in columns (docs/REQUIREMENTS.md, section 23, N9): the walk into lent columns, and a track read from them. The columns are the writer's.
use Rattle.std.specs.Prelude.{Bool, cond, ◌||◌, List, [], ℕ, ◌+◌, min, ltb, leb, length, Result, Ok, Err}
use Rattle.std.proofs.Math.Option.{Option, none, some}
use Rattle.wire.specs.Wire.{byte_at, part, low, bytes32}
use Rattle.types.specs.Types.{is_ok, is_unknown_type}
use Rattle.types.specs.declared.ErrorCode.{ErrorCode}
use Rattle.types.specs.declared.ErrorCode.TheVariants as error
use Rattle.outputs.specs.Outputs.{in_front}
use Rattle.multitrack_media.specs.Container.{Container, container_of}
use Rattle.multitrack_media.specs.Answer.{no_track, video_frame_type}
use Rattle.multitrack_media.specs.declared.TrackPlace.{TrackPlace}
use Rattle.multitrack_media.specs.declared.TrackInfo.{TrackInfo}
use Rattle.init_cache.specs.Seen.{count_tracks}
use Rattle.frame.specs.Pass.{record_verdict}
use Rattle.frame.specs.declared.Verdict.{Verdict}
use Rattle.frame.specs.declared.Verdict.TheVariants.{NoRecord}
use Rattle.frame.specs.declared.TrackAnswer.{TrackAnswer}
use Rattle.writers.specs.Columns.{Columns, columns_of, entry}

-- four lent columns
abbrev pub lent_columns : List ℕ → List ℕ → List ℕ → List ℕ → Columns
lent_columns ids fourccs starts lengths = record { ids = ids; fourccs = fourccs; starts = starts; lengths = lengths }

-- the length of the shortest column
abbrev pub shortest : Columns → ℕ
shortest c = min (length c.ids) (min (length c.fourccs) (min (length c.starts) (length c.lengths)))

-- THE REFUSALS OF THE WALK in their order, with a shortest column of so many entries: -21, frame type above 3; -24, anything but an accepted container;
-- -22, a column shorter than the count, or a payload over 16,777,215 bytes
abbrev pub room_error : List ℕ → ℕ → Option Container → ErrorCode
room_error p room none = error.NotAContainer
room_error p room (some k) = cond (ltb room (length k.tracks) || ltb 16777215 (length p)) error.OutputTooShort error.Ok

unfoldable pub columns_error : ℕ → List ℕ → ℕ → ErrorCode
columns_error type p room = cond (is_unknown_type type) error.UnknownFrameType (room_error p room (container_of type p))

-- the number of tracks; refused: 0
unfoldable pub columns_count : ℕ → List ℕ → ℕ → ℕ
columns_count type p room = cond (is_ok (columns_error type p room)) (count_tracks (container_of type p)) 0

-- WHAT THE WALK RETURNS: the number of tracks, or the refusal
unfoldable pub columns_result : ℕ → List ℕ → ℕ → Result ℕ ErrorCode
columns_result type p room = cond (is_ok (columns_error type p room)) (Ok (columns_count type p room)) (Err (columns_error type p room))

-- the tracks of an accepted container
abbrev pub tracks_of : Option Container → List TrackPlace
tracks_of none = []
tracks_of (some k) = k.tracks

-- columns with one entry a track in front, in track order; entries past the count are kept
abbrev pub filled : List TrackPlace → Columns → Columns
filled ts c =
    record {
      ids = in_front (columns_of ts).ids c.ids;
      fourccs = in_front (columns_of ts).fourccs c.fourccs;
      starts = in_front (columns_of ts).starts c.starts;
      lengths = in_front (columns_of ts).lengths c.lengths;
    }

-- AND WHAT THE COLUMNS THEN HOLD; after a refusal what they held
unfoldable pub columns_after : ℕ → List ℕ → Columns → Columns
columns_after type p c = cond (is_ok (columns_error type p (shortest c))) (filled (tracks_of (container_of type p)) c) c

-- A TRACK READ FROM COLUMNS, lent with a count and a payload. Outside is a number not below the count or a column's length, a payload under 2 bytes, or a
-- place and length that leave the payload, all as plain numbers
unfoldable pub is_outside : Columns → ℕ → List ℕ → ℕ → Bool
is_outside c count p n =
    leb count n || (leb (shortest c) n || (ltb (length p) 2 || ltb (length p) (entry c.starts n + entry c.lengths n)))

-- a track's fields: those of the columns, the packet type from byte 1 and the video frame type from byte 0
abbrev pub column_found : ℕ → Columns → ℕ → List ℕ → ℕ → TrackInfo
column_found type c count p n =
    record {
      error = error.Ok;
      count = count;
      track_id = entry c.ids n;
      packet_type = low (byte_at p 1);
      fourcc = bytes32 (entry c.fourccs n);
      video_frame_type = video_frame_type type p;
      start = entry c.starts n;
      length = entry c.lengths n;
    }

-- refused: -21, frame type above 3, with count 0; -23, with the lent count. Nothing else is judged
unfoldable pub column_track : ℕ → Columns → ℕ → List ℕ → ℕ → TrackInfo
column_track type c count p n =
    cond (is_unknown_type type) (no_track error.UnknownFrameType 0)
    (cond (is_outside c count p n) (no_track error.NoSuchTrack count) (column_found type c count p n))

-- its part of the lent payload; empty where the reading is refused
unfoldable pub column_part : ℕ → Columns → ℕ → List ℕ → ℕ → List ℕ
column_part type c count p n = part p (column_track type c count p n).start (column_track type c count p n).length

-- the verdict of its record; a refused reading has none
unfoldable pub found_verdict : ℕ → TrackInfo → List ℕ → Verdict
found_verdict type t body = cond (is_ok t.error) (record_verdict type t.packet_type t.fourcc body) NoRecord

-- THE TRACK with the verdict of its record
unfoldable pub column_answer : ℕ → Columns → ℕ → List ℕ → ℕ → TrackAnswer
column_answer type c count p n =
    record { track = column_track type c count p n; verdict = found_verdict type (column_track type c count p n) (column_part type c count p n) }
