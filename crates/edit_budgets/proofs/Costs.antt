-- The list that an edit changes is that of the change that it is.
use Rattle.std.proofs.Common.{◌≡◌, ℕ, ◌+◌, ◌*◌, List, Option, refl, ap}
use Rattle.tree_rows.specs.Forest.{Document}
use Rattle.tree_edits.specs.declared.edit.Edit.{Edit}
use Rattle.tree_edits.specs.declared.edit.Edit.TheVariants as edits
use Rattle.tree_edits.specs.EditChanges.{change_of}
use Rattle.assessment.specs.Attribution.{SchemaSet}
use Rattle.assessment.specs.Assessment.{Entry}
use Rattle.assessment_laws.specs.Governed.{governing_at}
use Rattle.edit_budgets.specs.Budget.{edit_budget, moved, changed_list}
use Rattle.edit_budgets.specs.Lists.{edited_list}
use Rattle.edit_budgets.specs.UndoBudget.{changed_parent, change_budget}

same_list : (d : Document) (edit : Edit) → edited_list d.forest edit ≡ changed_parent d.forest (change_of d edit)
same_list d (edits.Insert parent place its) = refl
same_list d (edits.AddText parent place chars) = refl
same_list d (edits.SetText key chars) = refl
same_list d (edits.Remove key) = refl
same_list d (edits.Rename key name) = refl
same_list d (edits.SetAttr key name value) = refl
same_list d (edits.UnsetAttr key name) = refl

pub same_cost : (s : SchemaSet) (d : Document) (was : List Entry) (e : Document) (is : List Entry) (edit : Edit) → edit_budget s d was e is edit ≡ change_budget s d was e is (change_of d edit)
same_cost s d was e is edit = ap (λ (o : Option ℕ). changed_list s d was e is o + 8 * moved d.forest (governing_at was) (governing_at is) e.forest) (same_list d edit)
