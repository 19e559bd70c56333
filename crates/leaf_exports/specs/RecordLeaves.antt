-- The rules of records by numbers.
use Rattle.std.specs.Prelude.{Bool, false, cond, List, ℕ, eqb, Result, Ok, Err}
use Rattle.types.specs.Types.{frame_number, frame_type_of}
use Rattle.types.specs.declared.ErrorCode.{ErrorCode}
use Rattle.types.specs.declared.FrameType.{FrameType}
use Rattle.codec_config.specs.Records.{record_valid, start_codec}
use Rattle.codec_config.specs.declared.ConfigCodec.{ConfigCodec}
use Rattle.codec_config.specs.declared.ConfigCodec.TheVariants.{Avc, Hevc, Opaque}

unfoldable pub codec_of : ℕ → ConfigCodec
codec_of n = cond (eqb n 0) Avc (cond (eqb n 1) Hevc Opaque)

-- a frame type above 3 has no rule
abbrev pub valid_by : Result FrameType ErrorCode → List ℕ → List ℕ → Bool
valid_by (Ok t) f rec = record_valid (start_codec (frame_number t) f) rec
valid_by (Err e) f rec = false

abbrev pub start_valid : ℕ → List ℕ → List ℕ → Bool
start_valid n f rec = valid_by (frame_type_of n) f rec
