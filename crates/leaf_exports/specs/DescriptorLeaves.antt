-- The track descriptor as numbers.
use Rattle.types.specs.Types.{error_number, multitrack_number}
use Rattle.multitrack.specs.declared.MultitrackResult.{MultitrackResult}
use Rattle.leaf_exports.specs.declared.descriptor_leaves.LeafMultitrack.{LeafMultitrack}

abbrev pub leaf_multitrack : MultitrackResult → LeafMultitrack
leaf_multitrack r =
    record { error = error_number r.error; track_type = multitrack_number r.multitrack.track_type; track_name = r.multitrack.track_name }
