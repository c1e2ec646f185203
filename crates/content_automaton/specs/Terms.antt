-- What the terms of a content model accept (Structures 3.8.4, 3.9.4, 3.10.4), and the classes of what they give.
use Rattle.std.specs.Prelude.{◌≡◌, ℕ, Bool, IsTrue, List, [], ◌∷◌, map, slice_index_or, Contains}
use Rattle.std.specs.List.{list_any}
use Rattle.xs_names.specs.Names.{NameTable, same_name, absent_space}
use Rattle.xs_components.specs.Sets.{admits}
use Rattle.xs_components.specs.declared.namespace_constraint.NsConstraint.{NsConstraint}
use Rattle.xs_components.specs.declared.namespace_constraint.NsConstraint.TheVariants.{Any, Not, In}
use Rattle.content_automaton.specs.declared.symbol_terms.Given.{Given}
use Rattle.content_automaton.specs.declared.symbol_terms.Accepts.{Accepts}
use Rattle.content_automaton.specs.declared.symbol_terms.Accepts.TheVariants.{Element, Wildcard}

-- an expanded name (Namespaces in XML 1.0, 2.1): the number of its namespace, and its local part
abbrev pub ExpandedName : Type 0
ExpandedName = ℕ × List ℕ

-- the name of a number
abbrev pub name_at : NameTable → ℕ → ExpandedName
name_at t n = slice_index_or t.names n (0, [])

-- an element term accepts the names that are listed for it, a wildcard those whose namespace it admits
abbrev pub accepts_name : NameTable → Accepts → ExpandedName → Bool
accepts_name t (Element given) name = list_any (λ (g : Given). same_name (name_at t g.name) name) given
accepts_name t (Wildcard namespaces class) name = admits namespaces name.0

-- the term accepts the name, and what it then gives is of this class
abbrev pub Gives : NameTable → Accepts → ExpandedName → ℕ → Type 0
Gives t (Element given) name class = (g : Given) × Contains given g × (name_at t g.name ≡ name) × (g.class ≡ class)
Gives t (Wildcard namespaces own) name class = IsTrue (admits namespaces name.0) × (own ≡ class)

-- the names that an element term accepts
abbrev pub names_of : Accepts → List ℕ
names_of (Element given) = map (λ (g : Given). g.name) given
names_of (Wildcard namespaces class) = []

-- the namespaces that a constraint names: a negation names its own and the absent one
abbrev pub spaces_in : NsConstraint → List ℕ
spaces_in Any = []
spaces_in (Not excluded) = excluded ∷ absent_space ∷ []
spaces_in (In listed) = listed

-- the namespaces that a wildcard names
abbrev pub spaces_of : Accepts → List ℕ
spaces_of (Element given) = []
spaces_of (Wildcard namespaces class) = spaces_in namespaces
