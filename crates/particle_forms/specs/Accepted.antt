-- Which names the term of a particle accepts (Structures 3.9.4).
use Rattle.std.specs.Prelude.{ℕ, Bool, true, false, List, [], ◌∷◌, Option, None, Some, slice_get, slice_index_or}
use Rattle.std.specs.List.{list_any}
use Rattle.xs_names.specs.Names.{NameTable, same_name}
use Rattle.xs_components.specs.Sets.{admits}
use Rattle.xs_components.specs.Tables.{Tables}
use Rattle.xs_components.specs.declared.particle.Particle.{Particle as Part}
use Rattle.xs_components.specs.declared.particle.Term.{Term}
use Rattle.xs_components.specs.declared.particle.Term.TheVariants.{Element, Any, Group, Sequence, Choice, All}
use Rattle.xs_components.specs.declared.namespace_constraint.NsConstraint.{NsConstraint}
use Rattle.xs_components.specs.declared.namespace_constraint.NsConstraint.TheVariants.{Any as AnySpace, Not, In}
use Rattle.xs_components.specs.Heads.{names_of}

module _ (names : NameTable) (members : List (List ℕ)) where
  -- An element accepts the names of the members of its substitution group (Structures 3.3.6), a wildcard each name in a namespace
  -- that it admits (Structures 3.10.4).
  abbrev pub term_accepts : Term → ℕ × List ℕ → Bool
  term_accepts (Element element) name = list_any (λ n. same_name (slice_index_or names.names n (0, [])) name) (names_of members element)
  term_accepts (Any wildcard) name = admits wildcard.namespaces name.0
  term_accepts (Group group) name = false
  term_accepts (Sequence parts) name = false
  term_accepts (Choice parts) name = false
  term_accepts (All parts) name = false

  abbrev pub part_accepts : Option Part → ℕ × List ℕ → Bool
  part_accepts None name = false
  part_accepts (Some part) name = term_accepts part.term name

  -- the particle of a number is an element or a wildcard that accepts an expanded name
  abbrev pub accepts : Tables → ℕ → ℕ × List ℕ → Bool
  accepts t id name = part_accepts (slice_get t.particles.parts id) name

-- the list is not empty
abbrev pub has_some : List ℕ → Bool
has_some [] = false
has_some (n ∷ ns) = true

-- the constraint admits some namespace
abbrev pub admits_some : NsConstraint → Bool
admits_some AnySpace = true
admits_some (Not excluded) = true
admits_some (In listed) = has_some listed

module _ (members : List (List ℕ)) where
  abbrev pub term_is_inhabited : Term → Bool
  term_is_inhabited (Element element) = has_some (names_of members element)
  term_is_inhabited (Any wildcard) = admits_some wildcard.namespaces
  term_is_inhabited (Group group) = false
  term_is_inhabited (Sequence parts) = false
  term_is_inhabited (Choice parts) = false
  term_is_inhabited (All parts) = false

  abbrev pub part_is_inhabited : Option Part → Bool
  part_is_inhabited None = false
  part_is_inhabited (Some part) = term_is_inhabited part.term

  -- the particle of a number is an element or a wildcard that accepts some name
  abbrev pub is_inhabited : Tables → ℕ → Bool
  is_inhabited t id = part_is_inhabited (slice_get t.particles.parts id)
