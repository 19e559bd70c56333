-- The answers as numbers.
use Rattle.std.specs.Prelude.{List, ℕ, pos, Result, Ok, Err}
use Rattle.types.specs.Types.{error_number, no_fourcc}
use Rattle.types.specs.declared.ErrorCode.{ErrorCode}
use Rattle.types.specs.declared.AudioCodec.{AudioCodec}
use Rattle.fourcc.specs.Fourcc.{codec_answer}
use Rattle.leaf_exports.specs.declared.fourcc_leaves.LeafFourcc.{LeafFourcc}
use Rattle.leaf_exports.specs.declared.fourcc_leaves.LeafAudioCodec.{LeafAudioCodec}

-- a refusal has no FourCC
abbrev pub leaf_fourcc : Result (List ℕ) ErrorCode → LeafFourcc
leaf_fourcc (Ok f) = record { error = pos 0; fourcc = f }
leaf_fourcc (Err e) = record { error = error_number e; fourcc = no_fourcc }

abbrev pub leaf_audio_codec : Result AudioCodec ErrorCode → LeafAudioCodec
leaf_audio_codec r = record { error = (codec_answer r).error; codec = (codec_answer r).value }
