-- Header answers as numbers.
use Rattle.std.specs.Prelude.{Result}
use Rattle.types.specs.Types.{error_number, codec_number}
use Rattle.types.specs.declared.ErrorCode.{ErrorCode}
use Rattle.types.specs.declared.AudioHeader.{AudioHeader}
use Rattle.exvideo.specs.declared.VideoHeaderResult.{VideoHeaderResult}
use Rattle.exaudio.specs.Audio.{error_of, header_of}
use Rattle.leaf_exports.specs.declared.header_leaves.LeafVideoHeader.{LeafVideoHeader}
use Rattle.leaf_exports.specs.declared.header_leaves.LeafAudioHeader.{LeafAudioHeader}

abbrev pub leaf_video : VideoHeaderResult → LeafVideoHeader
leaf_video r =
    record {
      error = error_number r.error;
      is_ex_header = r.header.is_ex_header;
      packet_type = r.header.packet_type;
      frame_type = r.header.frame_type;
      fourcc = r.header.fourcc;
      composition_time = r.header.composition_time;
      header_size = r.header.header_size;
    }

-- a refused header is the default one
abbrev pub leaf_audio : Result AudioHeader ErrorCode → LeafAudioHeader
leaf_audio r =
    record {
      error = error_number (error_of r);
      is_ex_header = (header_of r).is_ex_header;
      packet_type = (header_of r).packet_type;
      audio_codec = codec_number (header_of r).audio_codec;
      sample_rate = (header_of r).sample_rate;
      sample_size = (header_of r).sample_size;
      channels = (header_of r).channels;
      aac_packet_type = (header_of r).aac_packet_type;
      fourcc = (header_of r).fourcc;
      header_size = (header_of r).header_size;
    }
