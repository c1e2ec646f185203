-- What an edit may cost whose list, names and types are all at hand: in a sequence of an element of type integer and of any element,
-- assessed laxly, an element is put before two of its name. Then the first is the integer, and the second, and the third, which the
-- sequence has no place for, are governed by other terms than before.
use Rattle.std.specs.Prelude.{◌≡◌, ℕ, List, [], ◌∷◌, None, Some, Ok, codes, refl}
use Rattle.std.specs.Str.{chars}
use Rattle.xs_codes.specs.declared.builtin.Builtin.TheVariants.{Integer}
use Rattle.xs_names.specs.Names.{first_spaces}
use Rattle.xs_components.specs.Tables.{Tables, no_tables}
use Rattle.xs_components.specs.declared.common.Process.TheVariants as process
use Rattle.xs_components.specs.declared.common.TypeId.{TypeId}
use Rattle.xs_components.specs.declared.common.TypeId.TheVariants.{AnyType, Builtin, Complex}
use Rattle.xs_components.specs.declared.namespace_constraint.NsConstraint.TheVariants.{Any as AnySpace}
use Rattle.xs_components.specs.declared.particle.Particle.{Particle}
use Rattle.xs_components.specs.declared.particle.Term.{Term}
use Rattle.xs_components.specs.declared.particle.Term.TheVariants.{Element, Any, Sequence}
use Rattle.particle_forms.specs.Models.{model_of}
use Rattle.item_listing.specs.declared.item.Item.TheVariants as items
use Rattle.tree_rows.specs.Forest.{Forest, none, text, element, Document}
use Rattle.tree_edits.specs.Tests.{edited}
use Rattle.tree_edits.specs.declared.edit.Edit.{Edit}
use Rattle.tree_edits.specs.declared.edit.Edit.TheVariants as edits
use Rattle.assess_records.specs.declared.outcome.Attempted.TheVariants.{Full}
use Rattle.assess_records.specs.declared.outcome.Validity.TheVariants.{Valid}
use Rattle.assess_records.specs.declared.outcome.ValueSource.TheVariants.{Given}
use Rattle.elem_governing.specs.declared.pairs.Mode.TheVariants.{Strict}
use Rattle.assessment.specs.Attribution.{SchemaSet}
use Rattle.assessment.specs.Assessment.{Entry}
use Rattle.edit_budgets.specs.Budget.{edit_budget}

-- ---- the set

abbrev part : Term → Particle
part term = record { at = record { document = 0; item = 0 }; min = 1; max = Some 1; term = term }

abbrev parts : Tables
parts = record no_tables {
  contents = Some 0 ∷ [];
  particles = record {
    parts = part (Sequence (1 ∷ 2 ∷ [])) ∷ part (Element 0) ∷ part (Any (record { namespaces = AnySpace; process = process.Lax })) ∷ [];
    ranks = 1 ∷ 0 ∷ 0 ∷ [];
  };
}

-- the names r and a, the second that of the element
abbrev set : SchemaSet
set = record {
  names = record { spaces = first_spaces; names = (0, codes "r") ∷ (0, codes "a") ∷ [] };
  parts = parts;
  members = (1 ∷ []) ∷ [];
  classes = 0 ∷ [];
}

-- ---- the documents

abbrev item : ℕ → List ℕ → ℕ → Forest → Forest
item number chars below next = element number (record { namespace = None; local = codes "a" }) [] [] (text below chars none) next

abbrev root : Forest → Forest
root children = element 1 (record { namespace = None; local = codes "r" }) [] [] children none

abbrev before : Document
before = record { forest = root (item 2 (codes "1") 3 (item 4 (codes "x") 5 none)); next_free = 6 }

abbrev after : Document
after = record { forest = root (item 6 (codes "2") 7 (item 2 (codes "1") 3 (item 4 (codes "x") 5 none))); next_free = 8 }

abbrev insertion : Edit
insertion = edits.Insert 1 0 (items.Start (codes "a") ∷ items.Chars (codes "2") ∷ items.Close (codes "a") ∷ [])

pub example-edited : edited before insertion ≡ Ok after
unfolding chars
example-edited = refl

-- ---- what governs

abbrev governed_by : ℕ → TypeId → Entry
governed_by number of = record {
  number = number;
  governing = record { declaration = None; of = Some of; mode = Strict };
  element = record { name = 1; of = Some of; validity = Valid; attempted = Full; source = Given; codes = [] };
  value = None;
  attrs = [];
  attr_values = [];
}

abbrev was : List Entry
was = governed_by 1 (Complex 0) ∷ governed_by 2 (Builtin Integer) ∷ governed_by 4 AnyType ∷ []

abbrev is : List Entry
is = governed_by 1 (Complex 0) ∷ governed_by 6 (Builtin Integer) ∷ governed_by 2 AnyType ∷ governed_by 4 (Builtin Integer) ∷ []

-- 32 * 4 * 4 for three children, whose names are all ambivalent, and 8 * 4 for the two nodes that are put in and the texts of the two
-- elements whose types are other ones
pub example-budget : edit_budget set before was after is insertion ≡ 544
unfolding model_of
example-budget = refl
