-- A document is stored as the rows of its tree and its next free number.
use Rattle.std.specs.Prelude.{ℕ, List}
use Rattle.std.proofs.Common.{ap}
use Rattle.std.specs.Coded.{Coded, code_by, coded×, coded_list, coded_ℕ}
use Rattle.tree_rows.specs.Forest.{Document}
use Rattle.tree_rows.specs.Rows.{rows_of, siblings}
use Rattle.tree_rows.specs.RowLaws.{siblings-all}
use Rattle.tree_rows.specs.declared.row.Row.{Row}
use Rattle.tree_rows.specs.contracts.row.Row as row

abbrev pub document_code : Coded Document
document_code =
    code_by (List Row × ℕ) (coded× (coded_list row.the_row.coded) coded_ℕ) (λ d. (rows_of 1 d.forest, d.next_free))
    (λ p. record { forest = siblings p.0 1; next_free = p.1 })
    (λ d. ap (λ f. record { forest = f; next_free = d.next_free }) (siblings-all d.forest))
