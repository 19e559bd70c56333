-- The count of frames stays below the last frame's number.
use Rattle.std.proofs.Common.{◌<◌, ◌-◌}
use Rattle.frame_sheet.specs.Sheet.{sheet_layout}
use Rattle.sheet.proofs.main.Given as goal

abbrev pub invariant-loop-rt : goal.invariant-loop-rt
invariant-loop-rt l = l.before < sheet_layout.last

abbrev pub decreases-loop-rt : goal.decreases-loop-rt
decreases-loop-rt l = sheet_layout.last - l.before
