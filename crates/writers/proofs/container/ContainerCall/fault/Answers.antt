-- `writers::container::ContainerCall::fault` meets its contract: a value that cannot be is a FourCC or another.
use Rattle.std.proofs.Common.{arith}
use Rattle.std.proofs.lemmas.Grind.{common_steps}
use Rattle.writers.specs.Writing.{any_of}
use Rattle.writers.specs.ContainerWriter.{bodies_long, head_bad, container_fault}
use Rattle.writers.proofs.Entries.{any_outside, any_other}
use Rattle.writers.proofs.container.ContainerCall.fault.Goals as goal
use Rattle.writers.proofs.container.ContainerCall.fault.Goals.{then-fourccs_unequal-via-then-fourccs_unequal, then-fourccs_unequal-via-else-fourccs_unequal+then-head_bad}

pub returns-then-fourccs_unequal : goal.returns-then-fourccs_unequal
unfolding container_fault bodies_long head_bad any_of
returns-then-fourccs_unequal c =
    elim c.then-fourccs_unequal.branch [
      | then-fourccs_unequal-via-then-fourccs_unequal w ↦ grind (arith, common_steps, any_outside, any_other)
      | then-fourccs_unequal-via-else-fourccs_unequal+then-head_bad w ↦ grind (arith, common_steps, any_outside, any_other)
    ]
