-- The head of a frame: its length, byte 0, byte 1 of legacy AVC, and its tag header. Types 2 and 3 have no header.
use Rattle.std.specs.Prelude.{Bool, cond, ◌&&◌, List, ℕ, eqb, ltb, length, Result}
use Rattle.wire.specs.Wire.{byte_at}
use Rattle.types.specs.Types.{is_ok, is_audio, is_video, no_fourcc, default_audio_codec}
use Rattle.types.specs.declared.ErrorCode.{ErrorCode}
use Rattle.types.specs.declared.ErrorCode.TheVariants as error
use Rattle.types.specs.declared.AudioHeader.{AudioHeader}
use Rattle.exvideo.specs.Video.{video_header, tag_frame_type, is_legacy_avc}
use Rattle.exvideo.specs.declared.VideoHeaderResult.{VideoHeaderResult}
use Rattle.exaudio.specs.Audio.{audio_header, error_of, header_of, is_legacy_aac}
use Rattle.init_cache.specs.declared.head.TagHeader.{TagHeader}
use Rattle.init_cache.specs.declared.head.FrameHead.{FrameHead}

-- a video header; the fields that only audio has are at their default
abbrev pub of_video : VideoHeaderResult → TagHeader
of_video a =
    record {
      error = a.error;
      is_ex_header = a.header.is_ex_header;
      packet_type = a.header.packet_type;
      fourcc = a.header.fourcc;
      header_size = a.header.header_size;
      frame_type = a.header.frame_type;
      composition_time = a.header.composition_time;
      audio_codec = default_audio_codec;
      sample_rate = 0;
      sample_size = 0;
      channels = 0;
      aac_packet_type = 0;
    }

-- and the video header of which it is made
abbrev pub to_video : TagHeader → VideoHeaderResult
to_video a =
    record {
      error = a.error;
      header =
          record {
            is_ex_header = a.is_ex_header;
            packet_type = a.packet_type;
            fourcc = a.fourcc;
            frame_type = a.frame_type;
            composition_time = a.composition_time;
            header_size = a.header_size;
          };
    }

-- an audio header; the fields that only video has are 0
abbrev pub of_audio : Result AudioHeader ErrorCode → TagHeader
of_audio a =
    record {
      error = error_of a;
      is_ex_header = (header_of a).is_ex_header;
      packet_type = (header_of a).packet_type;
      fourcc = (header_of a).fourcc;
      header_size = (header_of a).header_size;
      frame_type = 0;
      composition_time = 0;
      audio_codec = (header_of a).audio_codec;
      sample_rate = (header_of a).sample_rate;
      sample_size = (header_of a).sample_size;
      channels = (header_of a).channels;
      aac_packet_type = (header_of a).aac_packet_type;
    }

-- types 2 and 3: no header, and no error
abbrev pub no_header : TagHeader
no_header =
    record {
      error = error.Ok;
      is_ex_header = 0;
      packet_type = 0;
      fourcc = no_fourcc;
      header_size = 0;
      frame_type = 0;
      composition_time = 0;
      audio_codec = default_audio_codec;
      sample_rate = 0;
      sample_size = 0;
      channels = 0;
      aac_packet_type = 0;
    }

-- THE TAG HEADER of a frame
unfoldable pub tag_header : ℕ → List ℕ → TagHeader
tag_header type p = cond (is_audio type) (of_audio (audio_header p)) (cond (is_video type) (of_video (video_header p)) no_header)

-- THE HEAD; byte 1 is 0 where the frame is not legacy AVC
unfoldable pub frame_head : ℕ → List ℕ → FrameHead
frame_head type p =
    record {
      size = length p;
      tag = byte_at p 0;
      avc_packet_type = cond (is_video type && is_legacy_avc (byte_at p 0)) (byte_at p 1) 0;
      header = tag_header type p;
    }

-- a readable header
abbrev pub is_readable : FrameHead → Bool
is_readable h = is_ok h.header.error

-- a readable enhanced header of packet type k
unfoldable pub is_enhanced_of : ℕ → FrameHead → Bool
is_enhanced_of k h = is_readable h && (eqb h.header.is_ex_header 1 && eqb h.header.packet_type k)

-- video of frame type k, judged on byte 0, legacy too
unfoldable pub is_video_of : ℕ → ℕ → FrameHead → Bool
is_video_of k type h = is_video type && eqb (tag_frame_type h.tag) k

-- legacy AVC with byte 1 equal to k
unfoldable pub is_avc_of : ℕ → ℕ → FrameHead → Bool
is_avc_of k type h = is_video type && (is_legacy_avc h.tag && (ltb 1 h.size && eqb h.avc_packet_type k))

-- legacy AAC with byte 1, which its header has, equal to k
unfoldable pub is_aac_of : ℕ → ℕ → FrameHead → Bool
is_aac_of k type h = is_audio type && (is_legacy_aac h.tag && (ltb 1 h.size && eqb h.header.aac_packet_type k))
