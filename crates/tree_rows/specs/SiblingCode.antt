-- Siblings are stored as the rows of their forest.
use Rattle.std.specs.Prelude.{List}
use Rattle.std.specs.Coded.{Coded, code_by, coded_list}
use Rattle.tree_rows.specs.Forest.{Forest}
use Rattle.tree_rows.specs.Rows.{rows_of, siblings}
use Rattle.tree_rows.specs.RowLaws.{siblings-all}
use Rattle.tree_rows.specs.declared.row.Row.{Row}
use Rattle.tree_rows.specs.contracts.row.Row as row

abbrev pub forest_code : Coded Forest
forest_code = code_by (List Row) (coded_list row.the_row.coded) (rows_of 1) (λ rows. siblings rows 1) siblings-all
