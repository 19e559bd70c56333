-- `frame_sheet::lines::put_line` meets its contract.
use Rattle.std.proofs.Common.{◌≡◌, ◌-◌, ◌++◌, take, drop, length}
use Rattle.std.specs.List.{flat_map}
use Rattle.frame_sheet.specs.Text.{spaces}
use Rattle.frame_sheet.specs.Columns.{column_text}
use Rattle.frame_sheet.proofs.lines.put_line.Given as goal

-- the texts so far, spaces up to the line's end, and what was there
abbrev pub invariant-loop-column : goal.invariant-loop-column
invariant-loop-column l =
    (l.at ≡ length (flat_map column_text (take l.column-index l.columns)))
    × (l.out ≡ flat_map column_text (take l.column-index l.columns) ++ (spaces (l.end - l.at) ++ drop l.end l.fn.out))
