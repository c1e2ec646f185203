-- What governs the elements of a document (Structures 3.3.4, 3.4.4, 5.2), without what is found of them: one recursion from the root.
use Rattle.std.specs.Prelude.{◌≡◌, ℕ, ◌==◌, List, [], ◌∷◌, Option, if◌then◌else◌}
use Rattle.xs_names.specs.Scope.{first_scope}
use Rattle.tree_rows.specs.Forest.{Forest, none, text, element}
use Rattle.elem_governing.specs.Governing.{skipped}
use Rattle.elem_governing.specs.declared.pairs.Governing.{Governing}
use Rattle.assess_records.specs.Numbered.{Scope, Head, heads, names_of, scope_in}
use Rattle.assessment.specs.Attribution.{SchemaSet, content_particle, AreTerms}
use Rattle.assessment.specs.Assessment.{Entry, first_pair, other_pairs, governed, root_pairs}

module _ (s : SchemaSet) where
  -- the child elements of an element that is governed so, by their heads: they are attributed to the terms of its type's content model,
  -- all at once by their names, and these pairs govern them
  pub record AreInner (g : Governing) (hs : List Head) (inner : List Governing) : Type 0 where
    pub stuck : Option ℕ
    pub terms : List (Option ℕ)
    pub attributed : AreTerms s (content_particle s.parts g.of) (names_of hs) stuck terms
    pub inner_is : inner ≡ governed s g terms hs

  module _ (governs : ℕ → Governing) where
    -- what governs each element among siblings in this scope, by its number, where these pairs govern the siblings
    abbrev pub AreGoverned : Scope → List Governing → Forest → Type 0
    AreGoverned scope pairs none = Unit {0}
    AreGoverned scope pairs (text number chars next) = AreGoverned scope pairs next
    AreGoverned scope pairs (element number name bindings attributes children next) =
        (inner : List Governing) × (governs number ≡ first_pair pairs) ×
        AreInner (first_pair pairs) (heads s.names (scope_in s.names bindings scope) children) inner ×
        AreGoverned (scope_in s.names bindings scope) inner children ×
        AreGoverned scope (other_pairs pairs) next

    -- what governs each element of a document
    abbrev pub AreGovernings : Forest → Type 0
    AreGovernings forest = AreGoverned first_scope (root_pairs s (heads s.names first_scope forest)) forest

-- what governs the element of a number, by what is found of elements
abbrev pub governing_at : List Entry → ℕ → Governing
governing_at [] n = skipped
governing_at (e ∷ more) n = if e.number == n then e.governing else governing_at more n
