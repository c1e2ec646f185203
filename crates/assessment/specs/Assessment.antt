-- Schema-validity assessment of a document, by one recursion from its root (Structures 5.2, 3.3.4, 3.3.5, 3.4.4).
use Rattle.std.specs.Prelude.{◌≡◌, ℕ, List, [], ◌∷◌, ◌++◌, map, Option}
use Rattle.xs_names.specs.Scope.{first_scope}
use Rattle.xs_codes.specs.declared.fault.Found.{Found}
use Rattle.simple_values.specs.declared.value.Value.{Value}
use Rattle.tree_rows.specs.Forest.{Forest, none, text, element}
use Rattle.tree_rows.specs.declared.row.Attribute.{Attribute}
use Rattle.assess_records.specs.Counts.{counts_of}
use Rattle.assess_records.specs.declared.record.AttrRecord.{AttrRecord}
use Rattle.assess_records.specs.declared.record.ElementRecord.{ElementRecord}
use Rattle.assess_records.specs.declared.shape.ElementShape.{ElementShape}
use Rattle.elem_governing.specs.Governing.{skipped, govern_root, govern_child}
use Rattle.elem_governing.specs.declared.pairs.Governing.{Governing}
use Rattle.elem_assess.specs.Local.{IsLocal}
use Rattle.elem_assess.specs.declared.records.Judged.{Judged}
use Rattle.assess_records.specs.Numbered.{Scope, Head, head_of, heads, names_of, named_texts, scope_in, characters, shape_of}
use Rattle.assessment.specs.Attribution.{SchemaSet, content_particle, AreTerms}

-- what is found out about an element and its attributes, under its number: what governs it, its record, and the records of its
-- attributes, each with the value of its text, where that is valid by a simple type
pub record Entry : Type 0 where
  pub number : ℕ
  pub governing : Governing
  pub element : ElementRecord
  pub value : Option Value
  pub attrs : List AttrRecord
  pub attr_values : List (Option Value)

-- the entries of the elements of a forest, in its shape
pub data Assessed : Type 0 where
  nothing : Assessed
  entry : (own : Entry) (below next : Assessed) → Assessed

-- the records of the elements among siblings
abbrev pub sibling_records : Assessed → List ElementRecord
sibling_records nothing = []
sibling_records (entry own below next) = own.element ∷ sibling_records next

-- all entries, in document order
abbrev pub entries : Assessed → List Entry
entries nothing = []
entries (entry own below next) = own ∷ (entries below ++ entries next)

-- the first of some siblings' governing pairs, and those of the others
abbrev pub first_pair : List Governing → Governing
first_pair [] = skipped
first_pair (g ∷ gs) = g

abbrev pub other_pairs : List Governing → List Governing
other_pairs [] = []
other_pairs (g ∷ gs) = gs

-- what was found of an element and its attributes by themselves
abbrev pub judged_of : Entry → Judged
judged_of own = record { element = own.element; value = own.value; attrs = own.attrs; attr_values = own.attr_values }

-- What is said elsewhere: the codes of the identity constraints and of the ids of the element of a number.
pub record Beside : Type 0 where
  pub identity : ℕ → List Found
  pub ids : ℕ → List Found

module _ (s : SchemaSet) where
  -- what governs siblings, by how their parent is governed, by the terms that they are attributed to, and by their heads
  abbrev pub governed : Governing → List (Option ℕ) → List Head → List Governing
  governed parent [] hs = []
  governed parent (term ∷ terms) [] = []
  governed parent (term ∷ terms) (h ∷ hs) = govern_child s.names s.parts parent.mode term h.name h.xsi h.scope ∷ governed parent terms hs

  -- the pairs of the root
  abbrev pub root_pairs : List Head → List Governing
  root_pairs hs = map (λ (h : Head). govern_root s.names s.parts h.name h.xsi h.scope) hs

  -- the records and the values of an element with this shape and of its attributes, by what governs it
  abbrev pub AreJudged : ElementShape → Entry → Type 0
  AreJudged shape own = IsLocal s.names s.parts own.governing shape (judged_of own)

module _ (s : SchemaSet) (b : Beside) where
  -- an element with this head, these attributes and children: what governs it is given; its child elements are attributed to the
  -- terms of its type's content model, all at once by their names, and have these governing pairs; how many of them are of each
  -- validity and attempt enters its record, and nothing else of them
  pub record IsEntry (g : Governing) (h : Head) (number : ℕ) (attributes : List Attribute) (children : Forest) (inner : List Governing) (below : Assessed) (own : Entry) : Type 0 where
    pub number_is : own.number ≡ number
    pub governing_is : own.governing ≡ g
    pub stuck : Option ℕ
    pub terms : List (Option ℕ)
    pub attributed : AreTerms s (content_particle s.parts g.of) (names_of (heads s.names h.scope children)) stuck terms
    pub inner_is : inner ≡ governed s g terms (heads s.names h.scope children)
    pub known : AreJudged s (shape_of h (named_texts s.names attributes) (characters children) stuck (counts_of (sibling_records below)) (b.identity number) (b.ids number)) own

  abbrev pub AreAssessed : Scope → List Governing → Forest → Assessed → Type 0
  AreAssessed scope pairs none found = found ≡ nothing
  AreAssessed scope pairs (text number chars next) found = AreAssessed scope pairs next found
  AreAssessed scope pairs (element number name bindings attributes children next) found =
      (own : Entry) × (inner : List Governing) × (below after : Assessed) × (found ≡ entry own below after) ×
      IsEntry (first_pair pairs) (head_of s.names scope name bindings attributes) number attributes children inner below own ×
      AreAssessed (scope_in s.names bindings scope) inner children below ×
      AreAssessed scope (other_pairs pairs) next after

  -- The assessment of a document: its root is governed by the declaration at the top with its name, and is assessed strictly.
  abbrev pub IsAssessment : Forest → Assessed → Type 0
  IsAssessment forest found = AreAssessed first_scope (root_pairs s (heads s.names first_scope forest)) forest found
