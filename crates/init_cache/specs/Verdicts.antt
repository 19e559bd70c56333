-- Record verdicts: one for each record that the rules of the cache kind judge, nowhere else. "Verdict" is a term of docs/REQUIREMENTS.md.
use Rattle.std.specs.Prelude.{Bool, cond, List, [], ◌∷◌, ℕ, ◌+◌, eqb, drop, Some, None}
use Rattle.std.specs.Prelude as std
use Rattle.std.proofs.Math.Option.{Option, none, some}
use Rattle.codec_config.specs.Records.{record_valid, start_codec}
use Rattle.codec_config.specs.declared.ConfigCodec.{ConfigCodec}
use Rattle.codec_config.specs.declared.ConfigCodec.TheVariants.{Avc, Aac}
use Rattle.multitrack_media.specs.Container.{Container, container_of}
use Rattle.multitrack_media.specs.Sealed.{per_track}
use Rattle.init_cache.specs.Head.{frame_head, is_enhanced_of, is_video_of, is_avc_of, is_aac_of}
use Rattle.init_cache.specs.declared.head.FrameHead.{FrameHead}
use Rattle.init_cache.specs.declared.verdicts.SequenceStart.{SequenceStart}

-- a record that this codec's rule judges, from a byte on
abbrev pub record_at : ConfigCodec → ℕ → std.Option SequenceStart
record_at codec from = Some (record { codec = codec; from = from })

-- THE RECORD OF A SINGLE FRAME that starts a sequence: the rule that judges it, and where it begins
unfoldable pub sequence_start : ℕ → FrameHead → std.Option SequenceStart
sequence_start type h =
    -- video of frame type 5 has none
    cond (is_video_of 5 type h) None
    -- enhanced, packet type 0: by the FourCC, from byte 5
    (cond (is_enhanced_of 0 h) (record_at (start_codec type h.header.fourcc) 5)
    -- legacy AVC or AAC with byte 1 equal to 0: its own rule, from byte 5 or 2
    (cond (is_avc_of 0 type h) (record_at Avc 5)
    (cond (is_aac_of 0 type h) (record_at Aac 2) None)))

-- its verdict, by the bytes from there on
unfoldable pub valid_from : ConfigCodec → ℕ → List ℕ → Bool
valid_from codec from p = record_valid codec (drop from p)

abbrev pub start_verdicts : List ℕ → std.Option SequenceStart → List Bool
start_verdicts p (Some s) = valid_from s.codec s.from p ∷ []
start_verdicts p None = []

-- the verdict of a track's record, by the track's FourCC
abbrev pub track_verdict : ℕ → List ℕ → List ℕ → Bool
track_verdict type fourcc body = record_valid (start_codec type fourcc) body

-- an accepted container of packet type 0 has one for each track
abbrev pub verdicts_in : ℕ → List ℕ → Option Container → List Bool
verdicts_in type p (some c) = cond (eqb c.packet_type 0) (per_track (track_verdict type) p c.tracks) []
verdicts_in type p none = start_verdicts p (sequence_start type (frame_head type p))

-- THE VERDICTS OF A FRAME, in track order
unfoldable pub verdicts : ℕ → List ℕ → List Bool
verdicts type p = verdicts_in type p (container_of type p)

-- how many records are valid
abbrev pub count_valid : List Bool → ℕ
count_valid [] = 0
count_valid (v ∷ vs) = cond v 1 0 + count_valid vs
