-- The terms of particles, as their restriction compares them (Structures 3.9.6): element declarations by their numbers, and behind
-- them wildcards by the numbers of their particles.
use Rattle.std.specs.Prelude.{◌≡◌, ◌↔◌, ℕ, ◌+◌, ◌<◌, Bool, true, List, Option, None, Some, length, slice_get, slice_index_or}
use Rattle.xs_names.specs.Names.{NameTable, space_of}
use Rattle.xs_components.specs.Tables.{Tables}
use Rattle.xs_components.specs.declared.common.TypeId.{TypeId}
use Rattle.xs_components.specs.declared.common.Wildcard.{Wildcard}
use Rattle.xs_components.specs.declared.element.ElementDecl.{ElementDecl}
use Rattle.xs_components.specs.declared.particle.Particle.{Particle as Part}
use Rattle.xs_components.specs.declared.particle.Term.TheVariants as declared
use Rattle.component_tables.specs.Types.{type_of}
use Rattle.particle_restrict.specs.declared.terms.Declaration.{Declaration}
use Rattle.particle_restrict.specs.declared.terms.Term.{Term}
use Rattle.particle_restrict.specs.declared.terms.Term.TheVariants.{Element, Any}
use Rattle.derive_models.specs.AnyType.{IsOfAnyType}

-- an element declaration, with the number of its fixed value
module _ (t : Tables) (names : NameTable) (fixed : List (Option ℕ)) where
  abbrev pub declaration_of : ℕ → ElementDecl → Declaration
  declaration_of element part = record {
    name = part.name;
    space = space_of names part.name;
    nillable = part.nillable;
    fixed = slice_index_or fixed element None;
    constraints = part.constraints;
    blocks = part.blocks;
    of = type_of t element;
  }

-- the term of the wildcard of a particle
abbrev pub IsSpace : Tables → ℕ → Wildcard → Option Term → Type 0
IsSpace t particle wildcard term =
    (of_any_type : Bool) × ((of_any_type ≡ true) ↔ IsOfAnyType t particle) × (term ≡ Some (Any record { wildcard = wildcard; of_any_type = of_any_type }))

-- these are the terms by number
pub record AreTerms (t : Tables) (names : NameTable) (fixed : List (Option ℕ)) (terms : List Term) : Type 0 where
  pub elements : (n : ℕ) (part : ElementDecl) → slice_get t.elements.parts n ≡ Some part → slice_get terms n ≡ Some (Element (declaration_of t names fixed n part))
  pub wildcards : (n : ℕ) (part : Part) (wildcard : Wildcard) → slice_get t.particles.parts n ≡ Some part → part.term ≡ declared.Any wildcard →
      IsSpace t n wildcard (slice_get terms (length t.elements.parts + n))

-- the names of element declarations are of the table
abbrev pub AreElementsNamed : Tables → NameTable → Type 0
AreElementsNamed t names = (n : ℕ) (part : ElementDecl) → slice_get t.elements.parts n ≡ Some part → part.name < length names.names

-- the type of an element declaration that is there
abbrev pub IsElementType : Tables → TypeId → Type 0
IsElementType t of = (element : ℕ) × (element < length t.elements.parts) × (of ≡ type_of t element)
