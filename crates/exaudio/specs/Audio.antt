-- The audio tag header: AudioTagHeader of the FLV specification, and ExAudioTagHeader of Enhanced RTMP v2.
use Rattle.std.specs.Prelude.{Bool, cond, ◌&&◌, List, ℕ, ◌/◌, ◌%◌, eqb, ltb, leb, length, Result, Ok, Err}
use Rattle.wire.specs.Wire.{byte_at, high, low}
use Rattle.types.specs.Types.{no_fourcc, default_audio_codec, default_audio_header}
use Rattle.types.specs.declared.ErrorCode.{ErrorCode}
use Rattle.types.specs.declared.ErrorCode.TheVariants as error
use Rattle.types.specs.declared.AudioHeader.{AudioHeader}
use Rattle.types.specs.declared.AudioCodec.{AudioCodec}
use Rattle.types.specs.declared.AudioCodec.TheVariants.{Pcm, Adpcm, Mp3, PcmLe, Nelly16k, Nelly8k, Nelly, G711A, G711U, Aac, Speex}
use Rattle.fourcc.specs.Fourcc.{fourcc_at, audio_codec}

-- high nibble 9 of byte 0 is enhanced
abbrev pub is_enhanced : ℕ → Bool
is_enhanced b = eqb (high b) 9

-- legacy AAC: high nibble 10
abbrev pub is_legacy_aac : ℕ → Bool
is_legacy_aac b = eqb (high b) 10

-- the codec of a legacy nibble (SoundFormat): 14 is MP3 at 8 kHz; 12, 13 and 15 have none
unfoldable pub sound_format : ℕ → Result AudioCodec ErrorCode
sound_format n =
    cond (eqb n 0) (Ok Pcm)
    (cond (eqb n 1) (Ok Adpcm)
    (cond (eqb n 2) (Ok Mp3)
    (cond (eqb n 3) (Ok PcmLe)
    (cond (eqb n 4) (Ok Nelly16k)
    (cond (eqb n 5) (Ok Nelly8k)
    (cond (eqb n 6) (Ok Nelly)
    (cond (eqb n 7) (Ok G711A)
    (cond (eqb n 8) (Ok G711U)
    (cond (eqb n 10) (Ok Aac)
    (cond (eqb n 11) (Ok Speex)
    (cond (eqb n 14) (Ok Mp3) (Err error.Unsupported))))))))))))

-- an unknown FourCC keeps the default codec
abbrev pub or_default : Result AudioCodec ErrorCode → AudioCodec
or_default (Ok c) = c
or_default (Err e) = default_audio_codec

-- a legacy header: rate is bits 3 and 2 of byte 0, sample size bit 1, channels bit 0
abbrev pub legacy_audio : ℕ → AudioCodec → ℕ → ℕ → AudioHeader
legacy_audio b codec packet size =
    record {
      is_ex_header = 0;
      packet_type = 0;
      fourcc = no_fourcc;
      audio_codec = codec;
      sample_rate = b / 4 % 4;
      sample_size = b / 2 % 2;
      channels = b % 2;
      aac_packet_type = packet;
      header_size = size;
    }

-- an enhanced header: packet type is the low nibble, size 5
abbrev pub enhanced_audio : ℕ → List ℕ → AudioHeader
enhanced_audio b f =
    record {
      is_ex_header = 1;
      packet_type = low b;
      fourcc = f;
      audio_codec = or_default (audio_codec f);
      sample_rate = 0;
      sample_size = 0;
      channels = 0;
      aac_packet_type = 0;
      header_size = 5;
    }

abbrev pub accept : AudioHeader → Result AudioHeader ErrorCode
accept h = Ok h

abbrev pub refuse : ErrorCode → Result AudioHeader ErrorCode
refuse e = Err e

-- what is reported of it: the error, and the header; a refused audio header is the default
abbrev pub error_of : Result AudioHeader ErrorCode → ErrorCode
error_of (Ok h) = error.Ok
error_of (Err e) = e

abbrev pub header_of : Result AudioHeader ErrorCode → AudioHeader
header_of (Ok h) = h
header_of (Err e) = default_audio_header

-- legacy: a nibble without a codec is refused with -7; size 1; AAC with two bytes or more also reads byte 1, size 2
unfoldable pub legacy_header : ℕ → List ℕ → Result AudioCodec ErrorCode → Result AudioHeader ErrorCode
legacy_header b p (Ok c) = cond (is_legacy_aac b && leb 2 (length p)) (accept (legacy_audio b c (byte_at p 1) 2)) (accept (legacy_audio b c 0 1))
legacy_header b p (Err e) = refuse error.Unsupported

-- an enhanced header needs 5 bytes; FourCC in 1 to 4
unfoldable pub enhanced_header : ℕ → List ℕ → Result AudioHeader ErrorCode
enhanced_header b p = cond (ltb (length p) 5) (refuse error.Io) (accept (enhanced_audio b (fourcc_at p 1)))

-- THE AUDIO HEADER; an empty payload is refused
unfoldable pub audio_header : List ℕ → Result AudioHeader ErrorCode
audio_header p =
    cond (eqb (length p) 0) (refuse error.Io)
    (cond (is_enhanced (byte_at p 0)) (enhanced_header (byte_at p 0) p) (legacy_header (byte_at p 0) p (sound_format (high (byte_at p 0)))))
