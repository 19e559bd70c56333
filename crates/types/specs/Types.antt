-- The numbers of docs/REQUIREMENTS.md: error numbers, frame types, packet types, audio codecs; and the values that a header, a ModEx and a track
-- descriptor have before anything is read. Audio codecs carry the numbers of the FLV SoundFormat, but Opus has 14, which there is MP3 at 8 kHz.
use Rattle.std.specs.Prelude.{Bool, true, false, cond, ◌||◌, List, ℕ, eqb, ltb, ℤ, pos, neg_ℤ, replicate, Result, Ok, Err}
use Rattle.types.specs.declared.ErrorCode.{ErrorCode}
use Rattle.types.specs.declared.ErrorCode.TheVariants as error
use Rattle.types.specs.declared.FrameType.{FrameType}
use Rattle.types.specs.declared.FrameType.TheVariants.{Audio, Video, Script, Metadata}
use Rattle.types.specs.declared.PacketType.{PacketType}
use Rattle.types.specs.declared.AudioCodec.{AudioCodec}
use Rattle.types.specs.declared.AudioCodec.TheVariants.{Pcm, Adpcm, Mp3, PcmLe, Nelly16k, Nelly8k, Nelly, G711A, G711U, Aac, Speex, Opus}
use Rattle.types.specs.declared.VideoHeader.{VideoHeader}
use Rattle.types.specs.declared.AudioHeader.{AudioHeader}
use Rattle.types.specs.declared.MultitrackType.{MultitrackType}
use Rattle.types.specs.declared.MultitrackType.TheVariants as track
use Rattle.types.specs.declared.Multitrack.{Multitrack}
use Rattle.types.specs.declared.ModexType.{ModexType}
use Rattle.types.specs.declared.ModexType.TheVariants.{TimestampOffsetNano, Nop}
use Rattle.types.specs.declared.Modex.{Modex}

-- the number that a call reports
unfoldable pub error_number : ErrorCode → ℤ
error_number error.Ok = pos 0
-- too short
error_number error.Io = neg_ℤ (pos 1)
-- wrong marker, or ModEx type 0 with under 3 data bytes; in the whole pass an offset over 999,999 too
error_number error.Protocol = neg_ℤ (pos 3)
-- short or unknown FourCC in the lookup
error_number error.Chunk = neg_ℤ (pos 5)
-- audio nibble 12, 13, 15
error_number error.Unsupported = neg_ℤ (pos 7)
-- frame type above 3
error_number error.UnknownFrameType = neg_ℤ (pos 21)
-- output shorter than the result
error_number error.OutputTooShort = neg_ℤ (pos 22)
-- track number not below the count
error_number error.NoSuchTrack = neg_ℤ (pos 23)
-- a track request on anything but an accepted container
error_number error.NotAContainer = neg_ℤ (pos 24)
-- a sheet's input ends inside a frame, or an FLV file inside one of its places
error_number error.Truncated = neg_ℤ (pos 25)
-- what a writer is asked for: a form, a number of tracks or layers, a column or a part that cannot be
error_number error.OutOfBounds = neg_ℤ (pos 26)
-- a length that cannot be written
error_number error.BadLength = neg_ℤ (pos 27)
-- a value that cannot be written
error_number error.BadValue = neg_ℤ (pos 28)
-- no FLV file: another signature, version or data offset
error_number error.NotFlv = neg_ℤ (pos 29)
-- a back-pointer that is not the length of what is before it
error_number error.WrongBackPointer = neg_ℤ (pos 30)
-- a frame longer than its slot of the store
error_number error.SlotTooShort = neg_ℤ (pos 31)
-- a number of viewers, a viewer, a hint, an uplink or a credit of a sharer that is out of range
error_number error.OutOfRange = neg_ℤ (pos 32)
-- a Critical frame that would push a viewer's debt over the limit
error_number error.DebtLimit = neg_ℤ (pos 33)

-- no error: what was asked for was read
abbrev pub is_ok : ErrorCode → Bool
is_ok error.Ok = true
is_ok error.Io = false
is_ok error.Protocol = false
is_ok error.Chunk = false
is_ok error.Unsupported = false
is_ok error.UnknownFrameType = false
is_ok error.OutputTooShort = false
is_ok error.NoSuchTrack = false
is_ok error.NotAContainer = false
is_ok error.Truncated = false
is_ok error.OutOfBounds = false
is_ok error.BadLength = false
is_ok error.BadValue = false
is_ok error.NotFlv = false
is_ok error.WrongBackPointer = false
is_ok error.SlotTooShort = false
is_ok error.OutOfRange = false
is_ok error.DebtLimit = false

-- an error number as a result: 0 refuses nothing
abbrev pub outcome : ErrorCode → Result (Unit {0}) ErrorCode
outcome e = cond (is_ok e) (Ok tt) (Err e)

-- a frame type is 0 Audio, 1 Video, 2 Script, 3 Metadata
abbrev pub frame_number : FrameType → ℕ
frame_number Audio = 0
frame_number Video = 1
frame_number Script = 2
frame_number Metadata = 3

-- the frame type of a number; above 3 there is none
unfoldable pub frame_type_of : ℕ → Result FrameType ErrorCode
frame_type_of n =
    cond (eqb n 0) (Ok Audio)
    (cond (eqb n 1) (Ok Video)
    (cond (eqb n 2) (Ok Script)
    (cond (eqb n 3) (Ok Metadata) (Err error.UnknownFrameType))))

-- AN ANSWER IN NUMBERS: its error number, 0 if there is none, and its value, 0 where there is an error
pub record Answer : Type 0 where
  pub error : ℤ
  pub value : ℕ

abbrev pub value : ℕ → Answer
value n = record { error = pos 0; value = n }

abbrev pub refusal : ErrorCode → Answer
refusal e = record { error = error_number e; value = 0 }

-- a frame type or its refusal, in numbers
abbrev pub frame_type_answer : Result FrameType ErrorCode → Answer
frame_type_answer (Ok t) = value (frame_number t)
frame_type_answer (Err e) = refusal e

-- the same as tests of the number, as the definitions take it
abbrev pub is_audio : ℕ → Bool
is_audio type = eqb type 0

abbrev pub is_video : ℕ → Bool
is_video type = eqb type 1

abbrev pub is_script_or_metadata : ℕ → Bool
is_script_or_metadata type = eqb type 2 || eqb type 3

abbrev pub is_unknown_type : ℕ → Bool
is_unknown_type type = ltb 3 type

-- the packet type of a number
abbrev pub packet_type_of : ℕ → PacketType
packet_type_of n = record { 0 = n }

-- an audio codec's number
abbrev pub codec_number : AudioCodec → ℕ
codec_number Pcm = 0
codec_number Adpcm = 1
codec_number Mp3 = 2
codec_number PcmLe = 3
codec_number Nelly16k = 4
codec_number Nelly8k = 5
codec_number Nelly = 6
codec_number G711A = 7
codec_number G711U = 8
codec_number Aac = 10
codec_number Speex = 11
codec_number Opus = 14

abbrev pub default_audio_codec : AudioCodec
default_audio_codec = Pcm

-- no FourCC: four zero bytes
abbrev pub no_fourcc : List ℕ
no_fourcc = replicate 4 0

-- a header before anything is read: every number 0, the codec at its default
abbrev pub default_video_header : VideoHeader
default_video_header =
    record { is_ex_header = 0; packet_type = 0; fourcc = no_fourcc; frame_type = 0; composition_time = 0; header_size = 0 }

abbrev pub default_audio_header : AudioHeader
default_audio_header =
    record {
      is_ex_header = 0;
      packet_type = 0;
      fourcc = no_fourcc;
      audio_codec = default_audio_codec;
      sample_rate = 0;
      sample_size = 0;
      channels = 0;
      aac_packet_type = 0;
      header_size = 0;
    }

-- a track descriptor's type: 0 Audio, 1 Video, anything else Metadata
abbrev pub multitrack_number : MultitrackType → ℕ
multitrack_number track.Audio = 0
multitrack_number track.Video = 1
multitrack_number track.Metadata = 2

abbrev pub default_multitrack_type : MultitrackType
default_multitrack_type = track.Audio

abbrev pub default_multitrack : Multitrack
default_multitrack = record { track_type = default_multitrack_type; track_name = replicate 64 0 }

-- a ModEx is an offset in nanoseconds, or nothing that is known
abbrev pub modex_number : ModexType → ℕ
modex_number TimestampOffsetNano = 0
modex_number Nop = 1

abbrev pub default_modex_type : ModexType
default_modex_type = Nop

abbrev pub default_modex : Modex
default_modex = record { modex_type = default_modex_type; offset = 0; next_packet_type = 0 }
