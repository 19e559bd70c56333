-- `writers::container::write_container` meets its contract: what is stored has no fault.
use Rattle.writers.proofs.Outputs.{container_writable}
use Rattle.writers.proofs.container.write_container.Goals as goal

pub room_left-requires : goal.room_left-requires
room_left-requires c = container_writable _ c.in_ok-fault.ensures

pub store-requires-clause-fine : goal.store-requires-clause-fine
store-requires-clause-fine c = container_writable _ c.in_ok-fault.ensures
