-- Sealed bytes, of a result and of a payload as received: those that the relay has no business to act on, as docs/REQUIREMENTS.md lists them under
-- "Sealed bytes". Demand 3 (specs/Demand3) then proves that no answer depends on what they hold; of a byte that is not sealed nothing is said.
use Rattle.std.specs.Prelude.{Bool, true, false, cond, not, ◌&&◌, ◌||◌, List, ◌++◌, ℕ, eqb, length, drop}
use Rattle.std.proofs.Math.Option.{Option, none, some}
use Rattle.wire.specs.Mask.{Mask, open_bytes, sealed_bytes, sealed_from, sealed_at}
use Rattle.types.specs.Types.{is_video, is_script_or_metadata, is_unknown_type}
use Rattle.modex.specs.Sealed.{sealed_under_layers}
use Rattle.codec_config.specs.Records.{record_mask, start_codec}
use Rattle.exvideo.specs.Video.{is_legacy_avc, is_command}
use Rattle.multitrack_media.specs.Container.{Container, opens_container, container_of}
use Rattle.multitrack_media.specs.Sealed.{sealed_in_container}
use Rattle.init_cache.specs.Head.{frame_head, is_readable, is_enhanced_of}
use Rattle.init_cache.specs.Verdicts.{sequence_start}
use Rattle.init_cache.specs.declared.head.FrameHead.{FrameHead}
use Rattle.init_cache.specs.declared.verdicts.SequenceStart.{SequenceStart}
use Rattle.std.specs.Prelude.{Some, None}
use Rattle.std.specs.Prelude as std

-- an accepted container seals its bodies if the packet type is not 0; else only within accepted records, track by track
abbrev pub body_mask : ℕ → ℕ → List ℕ → List ℕ → Mask
body_mask type packet fourcc body = cond (eqb packet 0) (record_mask (start_codec type fourcc) body) (sealed_bytes (length body))

-- single frames seal from the header size onward, but legacy AVC from byte 5
unfoldable pub seal_start : ℕ → FrameHead → ℕ
seal_start type h = cond (is_video type && is_legacy_avc h.tag) 5 h.header.header_size

-- sequence starts (frames with a verdict) seal only within an accepted record
abbrev pub single_mask : ℕ → List ℕ → std.Option SequenceStart → Mask
single_mask type r (Some s) = open_bytes s.from ++ record_mask s.codec (drop s.from r)
single_mask type r None = sealed_from (seal_start type (frame_head type r)) r

-- nothing is sealed in refused headers or containers, enhanced commands (frame type 5, packet type not 4 or 7), or enhanced headers with packet type 7
unfoldable pub seals_nothing : ℕ → FrameHead → Bool
seals_nothing type h =
    not (is_readable h) || (opens_container type h.tag || ((is_video type && is_command h.tag) || is_enhanced_of 7 h))

-- in audio and video: an accepted container, or nothing, or a single frame
abbrev pub sealed_in_media : ℕ → List ℕ → Option Container → ℕ → Bool
sealed_in_media type r (some c) i = sealed_in_container (body_mask type c.packet_type) r c i
sealed_in_media type r none i =
    cond (seals_nothing type (frame_head type r)) false (sealed_at (single_mask type r (sequence_start type (frame_head type r))) i)

-- THE SEALED BYTES OF A RESULT, counted from its own byte 0. In types 2 and 3 nothing is sealed; above type 3 all is
unfoldable pub sealed_in_result : ℕ → List ℕ → ℕ → Bool
sealed_in_result type r i = cond (is_unknown_type type) true (cond (is_script_or_metadata type) false (sealed_in_media type r (container_of type r) i))

-- THE SEALED BYTES OF A PAYLOAD AS RECEIVED: the data of the layers that are peeled off, and the bytes sealed in the result.
-- In types 2 and 3 nothing is sealed, layers included; above type 3 all is
unfoldable pub sealed_in_payload : ℕ → ℕ → List ℕ → ℕ → Bool
sealed_in_payload type mask p i = sealed_under_layers (sealed_in_result type) type mask p i
