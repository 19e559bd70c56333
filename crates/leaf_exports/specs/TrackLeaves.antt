-- Container answers as numbers. A frame type above 3 has no container.
use Rattle.std.specs.Prelude.{Bool, true, false, List, ℕ, Option, Some, None, Result, Ok, Err}
use Rattle.wire.specs.Wire.{byte_at}
use Rattle.types.specs.Types.{error_number, frame_number, frame_type_of, no_fourcc}
use Rattle.types.specs.declared.ErrorCode.{ErrorCode}
use Rattle.types.specs.declared.FrameType.{FrameType}
use Rattle.multitrack_media.specs.Container.{opens_container}
use Rattle.multitrack_media.specs.Answer.{count_answer}
use Rattle.multitrack_media.specs.declared.TrackInfo.{TrackInfo}
use Rattle.leaf_exports.specs.declared.track_leaves.LeafCount.{LeafCount}
use Rattle.leaf_exports.specs.declared.track_leaves.LeafTrack.{LeafTrack}
use Rattle.leaf_exports.specs.declared.track_leaves.LeafFirst.{LeafFirst}

abbrev pub leaf_count : Result ℕ ErrorCode → LeafCount
leaf_count r = record { error = (count_answer r).error; count = (count_answer r).value }

abbrev pub leaf_track : TrackInfo → LeafTrack
leaf_track t =
    record {
      error = error_number t.error;
      fourcc = t.fourcc;
      count = t.count;
      start = t.start;
      length = t.length;
      track_id = t.track_id;
      packet_type = t.packet_type;
      video_frame_type = t.video_frame_type;
    }

abbrev pub leaf_first : Option (List ℕ) → LeafFirst
leaf_first (Some f) = record { found = true; fourcc = f }
leaf_first None = record { found = false; fourcc = no_fourcc }

abbrev pub no_first : Option (List ℕ)
no_first = None

abbrev pub is_container : ℕ → List ℕ → Bool
is_container n p = opens_container n (byte_at p 0)

-- an answer by the frame type, and the answer for a number above 3
abbrev pub by_type : {W : Type 0} → (ℕ → List ℕ → W) → W → Result FrameType ErrorCode → List ℕ → W
by_type answer other (Ok t) p = answer (frame_number t) p
by_type answer other (Err e) p = other

abbrev pub answer_of : {W : Type 0} → (ℕ → List ℕ → W) → W → ℕ → List ℕ → W
answer_of answer other n p = by_type answer other (frame_type_of n) p
