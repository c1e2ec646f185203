-- What an edit may cost in steps: a step is a composition of two rows, the application of a row to a state, a transition, or the making
-- of the row of one child.
use Rattle.std.specs.Prelude.{◌≡◌, ℕ, ◌+◌, ◌*◌, max, Bool, true, false, List, Option, None, Some, if◌then◌else◌, refl}
use Rattle.child_trees.specs.Bits.{bits}
use Rattle.tree_rows.specs.Forest.{Forest, none, text, element, Document, count}
use Rattle.plain_tree.specs.Numbers.{name_in}
use Rattle.tree_edits.specs.Edits.{Found, found, has, width}
use Rattle.tree_edits.specs.Tests.{width_of}
use Rattle.tree_edits.specs.declared.edit.Edit.{Edit}
use Rattle.xs_components.specs.declared.common.TypeId.{TypeId}
use Rattle.elem_governing.specs.Derived.{same_type}
use Rattle.elem_governing.specs.declared.pairs.Governing.{Governing}
use Rattle.assessment.specs.Attribution.{SchemaSet, content_particle}
use Rattle.assessment.specs.Assessment.{Entry}
use Rattle.assessment_laws.specs.Governed.{governing_at}
use Rattle.assessment_laws.specs.Ambivalent.{is_ambivalent}
use Rattle.edit_budgets.specs.Lists.{edited_list}

-- ---- the changed list

-- of so many children, so many of whose names are ambivalent
abbrev pub list_budget : ℕ → ℕ → ℕ
list_budget n a = 32 * (bits (n + 1) + 1) * (1 + a)

module _ (s : SchemaSet) where
  -- how many child elements have names that are ambivalent in the content model of a particle
  abbrev pub ambivalent_among : ℕ → Forest → ℕ
  ambivalent_among p none = 0
  ambivalent_among p (text number chars next) = ambivalent_among p next
  ambivalent_among p (element number name bindings attributes children next) =
      (if is_ambivalent s p (name_in s.names name) then 1 else 0) + ambivalent_among p next

  -- without a content model none is
  abbrev pub ambivalent_by : Option ℕ → Forest → ℕ
  ambivalent_by None f = 0
  ambivalent_by (Some p) f = ambivalent_among p f

  abbrev pub ambivalent_below : Option ℕ → Forest → ℕ
  ambivalent_below particle none = 0
  ambivalent_below particle (text number chars next) = 0
  ambivalent_below particle (element number name bindings attributes children next) = ambivalent_by particle children

  abbrev pub ambivalent_in : Option ℕ → Option Found → ℕ
  ambivalent_in particle None = 0
  ambivalent_in particle (Some it) = ambivalent_below particle it.node

-- ---- what is governed anew

abbrev pub same_governing : Option TypeId → Option TypeId → Bool
same_governing None None = true
same_governing None (Some b) = false
same_governing (Some a) None = false
same_governing (Some a) (Some b) = same_type a b

-- what an element counts that was there before: each of its children, where another type governs it now
abbrev pub children_if : Bool → Forest → ℕ
children_if same children = if same then 0 else width children

module _ (before : Forest) (old new : ℕ → Governing) where
  -- the nodes that were put in, elements and texts, and the children, elements and texts, of all other elements whose governing type is
  -- another one
  abbrev pub moved : Forest → ℕ
  moved none = 0
  moved (text number chars next) = (if has number before then 0 else 1) + moved next
  moved (element number name bindings attributes children next) =
      (if has number before then children_if (same_governing (old number).of (new number).of) children else 1) + (moved children + moved next)

-- ---- the budget

module _ (s : SchemaSet) (d : Document) (was : List Entry) (e : Document) (is : List Entry) where
  -- of the list of this element, if one is changed: it is as long as it is before or after the edit, whichever is more, and ambivalent
  -- are the names of the children that it has after it
  abbrev pub changed_list : Option ℕ → ℕ
  changed_list None = 0
  changed_list (Some parent) =
      list_budget (max (width_of (found parent 1 d.forest)) (width_of (found parent 1 e.forest)))
      (ambivalent_in s (content_particle s.parts (governing_at is parent).of) (found parent 1 e.forest))

  -- Of an edit that is made: what is found before and after it says what governs each element; the set has the names of the document
  -- after it.
  abbrev pub edit_budget : Edit → ℕ
  edit_budget edit = changed_list (edited_list d.forest edit) + 8 * moved d.forest (governing_at was) (governing_at is) e.forest

-- a document that is opened is put in, node by node
abbrev pub opening_budget : Document → ℕ
opening_budget d = 8 * count d.forest

-- for example: three children, whose names are all ambivalent, and four nodes put in or governed anew; 100,001 children, of whose names
-- none is ambivalent, and one node put in
pub example-ambivalent : list_budget 3 3 + 8 * 4 ≡ 544
example-ambivalent = refl

pub example-long : list_budget 100001 0 + 8 * 1 ≡ 584
example-long = refl
