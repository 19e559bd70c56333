-- `writers::layers::write_modex` meets its contract: what is stored has no fault.
use Rattle.writers.proofs.Outputs.{modex_writable}
use Rattle.writers.proofs.layers.write_modex.Goals as goal

pub room_left-requires : goal.room_left-requires
room_left-requires c = modex_writable _ c.in_ok-fault.ensures

pub store-requires-clause-fine : goal.store-requires-clause-fine
store-requires-clause-fine c = modex_writable _ c.in_ok-fault.ensures
