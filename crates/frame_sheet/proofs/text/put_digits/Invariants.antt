-- `frame_sheet::text::put_digits` meets its contract.
use Rattle.std.proofs.Common.{◌≡◌, ◌≤◌, ◌+◌, ◌++◌, drop, length}
use Rattle.frame_sheet.specs.Text.{decimal, spaces}
use Rattle.frame_sheet.proofs.text.put_digits.Given as goal

-- spaces, and the digits that are written; those that are left
abbrev pub invariant-loop-rest : goal.invariant-loop-rest
invariant-loop-rest l =
    (l.cell ≡ spaces l.at ++ drop l.at l.cell)
    × (decimal l.rest ++ drop l.at l.cell ≡ decimal l.n)
    × (l.at + length (decimal l.n) ≡ length l.cell + length (decimal l.rest))
    × (l.at ≤ length l.cell)

abbrev pub decreases-loop-rest : goal.decreases-loop-rest
decreases-loop-rest l = l.rest
