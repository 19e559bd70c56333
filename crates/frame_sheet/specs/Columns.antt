-- For contracts of private functions: the columns of a line.
use Rattle.std.specs.Prelude.{List, ◌++◌, ℕ}
use Rattle.std.specs.List.{flat_map}
use Rattle.frame_sheet.specs.Text.{signed, column, newline}
use Rattle.frame_sheet.specs.declared.text.Column.{Column}

-- a number in its column
unfoldable pub column_text : Column → List ℕ
column_text c = column c.width (signed c.negative c.n)

-- the line of some columns
unfoldable pub columns_line : List Column → List ℕ
columns_line columns = flat_map column_text columns ++ newline
