-- What a change of a document may cost in steps. Nodes that are put back count as those that an edit puts in.
use Rattle.std.specs.Prelude.{ℕ, ◌+◌, ◌*◌, List, Option, None, Some}
use Rattle.tree_rows.specs.Forest.{Forest, Document}
use Rattle.tree_edits.specs.Inverses.{Change, put_back, take_out, rename, write, reword}
use Rattle.assessment.specs.Attribution.{SchemaSet}
use Rattle.assessment.specs.Assessment.{Entry}
use Rattle.assessment_laws.specs.Governed.{governing_at}
use Rattle.edit_budgets.specs.Budget.{moved, changed_list}
use Rattle.edit_budgets.specs.Lists.{parent_in}

-- the element whose child is put back, taken out, renamed or given other characters; the root is no child
abbrev pub changed_parent : Forest → Change → Option ℕ
changed_parent f (put_back parent place part) = Some parent
changed_parent f (take_out key) = parent_in key None f
changed_parent f (rename key name) = parent_in key None f
changed_parent f (write key name place value) = None
changed_parent f (reword key chars) = parent_in key None f

-- of a change that takes the document d, of which this was found, to e, of which this is found; the set has the names of e
abbrev pub change_budget : SchemaSet → Document → List Entry → Document → List Entry → Change → ℕ
change_budget s d was e is c = changed_list s d was e is (changed_parent d.forest c) + 8 * moved d.forest (governing_at was) (governing_at is) e.forest
