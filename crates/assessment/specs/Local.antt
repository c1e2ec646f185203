-- Records of elements by their numbers, which fit one another from each element to its child elements.
use Rattle.std.specs.Prelude.{◌≡◌, ◌⊎◌, ℕ, List, [], ◌∷◌, All, map, Option}
use Rattle.xs_names.specs.Scope.{first_scope}
use Rattle.tree_rows.specs.Forest.{Forest, none, text, element}
use Rattle.tree_rows.specs.declared.name.Expanded.{Expanded}
use Rattle.tree_rows.specs.declared.row.Attribute.{Attribute}
use Rattle.tree_rows.specs.declared.row.Binding.{Binding}
use Rattle.assess_records.specs.Counts.{counts_of}
use Rattle.assess_records.specs.declared.counts.ChildCounts.{ChildCounts}
use Rattle.assess_records.specs.declared.record.ElementRecord.{ElementRecord}
use Rattle.assess_records.specs.declared.shape.ElementShape.{ElementShape}
use Rattle.assess_records.specs.Instance.{instance_text}
use Rattle.assess_records.specs.declared.instance_names.InstanceAttribute.TheVariants.{TypeName}
use Rattle.elem_governing.specs.declared.pairs.Governing.{Governing}
use Rattle.assess_records.specs.Numbered.{Scope, Head, name_in, named_texts, scope_in, heads, names_of, characters, shape_of}
use Rattle.assessment.specs.Attribution.{SchemaSet, content_particle, AreTerms}
use Rattle.assessment.specs.Assessment.{Entry, Assessed, nothing, entry, Beside, governed, root_pairs, AreJudged}

-- ---- a document, read by the numbers of its elements

pub record Readers : Type 0 where
  pub name : ℕ → Expanded
  pub bindings : ℕ → List Binding
  pub attributes : ℕ → List Attribute
  -- the characters of its texts
  pub chars : ℕ → List ℕ
  -- its child elements, in order
  pub children : ℕ → List ℕ

-- the numbers of the elements among siblings
abbrev pub element_numbers : Forest → List ℕ
element_numbers none = []
element_numbers (text number chars next) = element_numbers next
element_numbers (element number name bindings attributes children next) = number ∷ element_numbers next

-- what is read of an element is what the tree has
pub record IsRead (r : Readers) (number : ℕ) (name : Expanded) (bindings : List Binding) (attributes : List Attribute) (children : Forest) : Type 0 where
  pub name_is : r.name number ≡ name
  pub bindings_are : r.bindings number ≡ bindings
  pub attributes_are : r.attributes number ≡ attributes
  pub chars_are : r.chars number ≡ characters children
  pub children_are : r.children number ≡ element_numbers children

abbrev pub AreRead : Readers → Forest → Type 0
AreRead r none = Unit {0}
AreRead r (text number chars next) = AreRead r next
AreRead r (element number name bindings attributes children next) = IsRead r number name bindings attributes children × AreRead r children × AreRead r next

-- the tree has an element of this number
abbrev pub HasElement : ℕ → Forest → Type 0
HasElement n none = ⊥
HasElement n (text number chars next) = HasElement n next
HasElement n (element number name bindings attributes children next) = (number ≡ n) ⊎ (HasElement n children ⊎ HasElement n next)

-- ---- what is kept of each element

-- its entry, its scope, the place where its child elements get stuck, and how many of them are of each kind
pub record Kept : Type 0 where
  pub found : Entry
  pub scope : Scope
  pub stuck : Option ℕ
  pub counts : ChildCounts

module _ (s : SchemaSet) (b : Beside) (r : Readers) (ks : ℕ → Kept) where
  abbrev pub head_at : ℕ → Head
  head_at n = record { name = name_in s.names (r.name n); xsi = instance_text s.names (named_texts s.names (r.attributes n)) TypeName; scope = (ks n).scope }

  abbrev pub pair_at : ℕ → Governing
  pair_at n = (ks n).found.governing

  abbrev pub record_at : ℕ → ElementRecord
  record_at n = (ks n).found.element

  abbrev pub shape_at : ℕ → ElementShape
  shape_at n = shape_of (head_at n) (named_texts s.names (r.attributes n)) (r.chars n) (ks n).stuck (ks n).counts (b.identity n) (b.ids n)

  -- the scope of an element, whose parent's is this one
  abbrev pub IsScoped : Scope → ℕ → Type 0
  IsScoped scope n = (ks n).scope ≡ scope_in s.names (r.bindings n) scope

  -- what is kept of an element fits what is kept of its child elements
  pub record IsSettled (n : ℕ) : Type 0 where
    pub number_is : (ks n).found.number ≡ n
    pub scopes : All (IsScoped (ks n).scope) (r.children n)
    pub terms : List (Option ℕ)
    pub attributed : AreTerms s (content_particle s.parts (pair_at n).of) (names_of (map head_at (r.children n))) (ks n).stuck terms
    pub pairs : map pair_at (r.children n) ≡ governed s (pair_at n) terms (map head_at (r.children n))
    pub counts_are : (ks n).counts ≡ counts_of (map record_at (r.children n))
    pub known : AreJudged s (shape_at n) (ks n).found

  -- what is kept of the root
  pub record AreRoots (f : Forest) : Type 0 where
    pub scopes : All (IsScoped first_scope) (element_numbers f)
    pub pairs : map pair_at (element_numbers f) ≡ root_pairs s (heads s.names first_scope f)

-- the entries that are kept of the elements of a tree
abbrev pub kept_entries : (ℕ → Kept) → Forest → Assessed
kept_entries ks none = nothing
kept_entries ks (text number chars next) = kept_entries ks next
kept_entries ks (element number name bindings attributes children next) = entry (ks number).found (kept_entries ks children) (kept_entries ks next)
