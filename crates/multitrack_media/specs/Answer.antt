-- Answers over the reader: the number of tracks, a track by number, and what kind of container it is.
use Rattle.std.specs.Prelude.{Bool, true, false, cond, ◌&&◌, ◌||◌, List, ℕ, ◌%◌, eqb, leb, length, get_or, Result, Ok, Err, Some, None}
use Rattle.std.specs.Prelude as std
use Rattle.std.proofs.Math.Option.{Option, none, some}
use Rattle.wire.specs.Wire.{byte_at, part, high}
use Rattle.types.specs.Types.{is_audio, is_video, is_unknown_type, no_fourcc, Answer, value, refusal}
use Rattle.types.specs.declared.ErrorCode.{ErrorCode}
use Rattle.types.specs.declared.ErrorCode.TheVariants as error
use Rattle.multitrack_media.specs.Container.{Container, container_of, no_place}
use Rattle.multitrack_media.specs.declared.TrackPlace.{TrackPlace}
use Rattle.multitrack_media.specs.declared.TrackInfo.{TrackInfo}

-- THE COUNT: -21, frame type above 3; -24, anything but an accepted container; the number of tracks
abbrev pub count_from : Option Container → Result ℕ ErrorCode
count_from none = Err error.NotAContainer
count_from (some c) = Ok (length c.tracks)

unfoldable pub track_count : ℕ → List ℕ → Result ℕ ErrorCode
track_count type p = cond (is_unknown_type type) (Err error.UnknownFrameType) (count_from (container_of type p))

-- the same in numbers: -21, -24, or the number of tracks
abbrev pub count_answer : Result ℕ ErrorCode → Answer
count_answer (Ok n) = value n
count_answer (Err e) = refusal e

abbrev pub numbers_from : Option Container → Answer
numbers_from none = refusal error.NotAContainer
numbers_from (some c) = value (length c.tracks)

unfoldable pub count_numbers : ℕ → List ℕ → Answer
count_numbers type p = cond (is_unknown_type type) (refusal error.UnknownFrameType) (numbers_from (container_of type p))

-- THE TRACK REQUEST. Refused: the count, and every field of a track 0
abbrev pub no_track : ErrorCode → ℕ → TrackInfo
no_track e count =
    record { error = e; count = count; track_id = 0; packet_type = 0; fourcc = no_fourcc; video_frame_type = 0; start = 0; length = 0 }

-- in video the frame type of byte 0, in audio 0
abbrev pub video_frame_type : ℕ → List ℕ → ℕ
video_frame_type type p = cond (is_video type) (high (byte_at p 0) % 8) 0

-- a track of an accepted container
abbrev pub found_track : ℕ → List ℕ → Container → TrackPlace → TrackInfo
found_track type p c t =
    record {
      error = error.Ok;
      count = length c.tracks;
      track_id = t.id;
      packet_type = c.packet_type;
      fourcc = t.fourcc;
      video_frame_type = video_frame_type type p;
      start = t.start;
      length = t.length;
    }

-- -24 on anything but an accepted container, with count 0; -23, track number not below the count, with the true count
abbrev pub track_from : ℕ → List ℕ → ℕ → Option Container → TrackInfo
track_from type p n none = no_track error.NotAContainer 0
track_from type p n (some c) =
    cond (leb (length c.tracks) n) (no_track error.NoSuchTrack (length c.tracks)) (found_track type p c (get_or c.tracks n no_place))

-- -21 first, frame type above 3, with count 0
unfoldable pub track_info : ℕ → List ℕ → ℕ → TrackInfo
track_info type p n = cond (is_unknown_type type) (no_track error.UnknownFrameType 0) (track_from type p n (container_of type p))

-- the part of the lent payload; empty where the request is refused
unfoldable pub track_part : ℕ → List ℕ → ℕ → List ℕ
track_part type p n = part p (track_info type p n).start (track_info type p n).length

-- the FourCC of the first track of an accepted container
abbrev pub some_fourcc : List ℕ → std.Option (List ℕ)
some_fourcc f = Some f

abbrev pub first_fourcc : Option Container → std.Option (List ℕ)
first_fourcc none = None
first_fourcc (some c) = some_fourcc (get_or c.tracks 0 no_place).fourcc

unfoldable pub first_track_fourcc : ℕ → List ℕ → std.Option (List ℕ)
first_track_fourcc type p = first_fourcc (container_of type p)

-- an accepted container of packet type k
abbrev pub packet_type_is : ℕ → Option Container → Bool
packet_type_is k none = false
packet_type_is k (some c) = eqb c.packet_type k

unfoldable pub has_packet_type : ℕ → List ℕ → ℕ → Bool
has_packet_type type p k = packet_type_is k (container_of type p)

-- sequence start: packet type 0
unfoldable pub has_sequence_start : ℕ → List ℕ → Bool
has_sequence_start type p = has_packet_type type p 0

-- metadata: packet type 3 in audio, 4 in video
unfoldable pub has_metadata : ℕ → List ℕ → Bool
has_metadata type p = cond (is_audio type) (has_packet_type type p 3) (has_packet_type type p 4)

-- keyframe: video of packet type 1 or 3 and frame type 1
unfoldable pub has_keyframe : List ℕ → Bool
has_keyframe p = (has_packet_type 1 p 1 || has_packet_type 1 p 3) && eqb (video_frame_type 1 p) 1
