-- ModEx answers as numbers. A refusal has 0 in every other field, but for the Modex that it hands back.
use Rattle.std.specs.Prelude.{cond, List, ℕ, eqb, Option, Some, None, Result, Ok, Err}
use Rattle.types.specs.Types.{error_number, frame_number, frame_type_of, modex_number}
use Rattle.types.specs.declared.ErrorCode.{ErrorCode}
use Rattle.types.specs.declared.FrameType.{FrameType}
use Rattle.types.specs.declared.Modex.{Modex}
use Rattle.types.specs.declared.ModexType.{ModexType}
use Rattle.types.specs.declared.ModexType.TheVariants.{TimestampOffsetNano, Nop}
use Rattle.modex.specs.Modex.{layer_error, peel_result, peel_answer, peel_output}
use Rattle.modex.specs.declared.ModexLayer.{ModexLayer}
use Rattle.modex.specs.declared.ModexPrefix.{ModexPrefix}
use Rattle.modex.specs.declared.ModexResult.{ModexResult}
use Rattle.leaf_exports.specs.declared.modex_leaves.LeafLayer.{LeafLayer}
use Rattle.leaf_exports.specs.declared.modex_leaves.LeafPeel.{LeafPeel}
use Rattle.leaf_exports.specs.declared.modex_leaves.LeafModex.{LeafModex}

-- 0 is TimestampOffsetNano, any other number Nop
unfoldable pub modex_type_of : ℕ → ModexType
modex_type_of n = cond (eqb n 0) TimestampOffsetNano Nop

unfoldable pub modex_of : ℕ → ℕ → ℕ → Modex
modex_of n offset next = record { modex_type = modex_type_of n; offset = offset; next_packet_type = next }

abbrev pub leaf_layer : Option ModexLayer → LeafLayer
leaf_layer (Some l) =
    record {
      error = error_number (layer_error (Some l));
      modex_type = l.modex_type;
      next_packet_type = l.next_packet_type;
      data_start = l.data_start;
      data_end = l.data_end;
      next_pos = l.next_pos;
    }
leaf_layer None = record { error = error_number (layer_error None); modex_type = 0; next_packet_type = 0; data_start = 0; data_end = 0; next_pos = 0 }

abbrev pub leaf_peel : Result ℕ ErrorCode → LeafPeel
leaf_peel r = record { error = (peel_answer r).error; length = (peel_answer r).value }

-- a frame type above 3 is refused with its number, and the output keeps its bytes
abbrev pub peel_typed : Result FrameType ErrorCode → ℕ → List ℕ → ℕ → LeafPeel
peel_typed (Ok t) mask p room = leaf_peel (peel_result (frame_number t) mask p room)
peel_typed (Err e) mask p room = record { error = error_number e; length = 0 }

abbrev pub leaf_peel_typed : ℕ → ℕ → List ℕ → ℕ → LeafPeel
leaf_peel_typed n mask p room = peel_typed (frame_type_of n) mask p room

abbrev pub output_typed : Result FrameType ErrorCode → ℕ → List ℕ → List ℕ → List ℕ
output_typed (Ok t) mask p out = peel_output (frame_number t) mask p out
output_typed (Err e) mask p out = out

abbrev pub leaf_peel_output : ℕ → ℕ → List ℕ → List ℕ → List ℕ
leaf_peel_output n mask p out = output_typed (frame_type_of n) mask p out

abbrev pub leaf_prefix : ModexPrefix → LeafModex
leaf_prefix r =
    record {
      error = error_number r.error;
      modex_type = modex_number r.modex.modex_type;
      next_packet_type = r.modex.next_packet_type;
      consumed = r.consumed;
      offset = r.modex.offset;
    }

abbrev pub leaf_modex : ModexResult → LeafModex
leaf_modex r = leaf_prefix (record { error = r.error; consumed = 0; modex = r.modex })
