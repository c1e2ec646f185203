-- The particles that contents add name no namespaces.
use Rattle.std.proofs.Common.{ℕ, ◌<◌, List, [], ◌∷◌, Bool, true, false, Option, None, Some, length}
use Rattle.std.specs.Prelude.{All, max, slice_get}
use Rattle.std.proofs.lemmas.List.Elements.{All-nil, All-push}
use Rattle.xs_names.specs.Names.{NameTable}
use Rattle.xs_components.specs.Tables.{Tables}
use Rattle.xs_components.specs.declared.common.Place.{Place}
use Rattle.xs_components.specs.declared.common.TypeId.{TypeId}
use Rattle.xs_components.specs.declared.common.TypeId.TheVariants.{AnyType, Builtin, Simple, Complex}
use Rattle.xs_components.specs.declared.complex.ComplexType.{ComplexType}
use Rattle.xs_components.specs.declared.particle.Particle.{Particle}
use Rattle.xs_components.specs.declared.particle.Term.TheVariants.{Sequence}
use Rattle.component_references.specs.References.{effective_of}
use Rattle.type_derivation.specs.Particles.{any_elements, goes_on, once}
use Rattle.type_derivation.specs.Filled.{above, with_particle, with_alone, base_filled, extended_filled, derived_filled, part_filled, with_content, number_filled, type_filled, all_filled}
use Rattle.told.proofs.Terms.{IsPartSpaced}

module _ (t : NameTable) where
  -- all particles of the tables name namespaces of the table of names
  abbrev pub AllSpaced : Tables → Type 0
  AllSpaced parts = All (IsPartSpaced t) parts.particles.parts

  none-named : All (λ (n : ℕ). n < length t.spaces) []
  none-named = All-nil (λ (n : ℕ). n < length t.spaces)

  more-spaced : (parts : Tables) (part : Particle) (rank : ℕ) → IsPartSpaced t part → AllSpaced parts → AllSpaced (with_particle parts part rank)
  more-spaced parts part rank own h = All-push (IsPartSpaced t) parts.particles.parts part h own

  alone-spaced : (parts : Tables) (at : Place) → AllSpaced parts → AllSpaced (with_alone parts at (any_elements at))
  alone-spaced parts at h =
      let first = with_particle parts (any_elements at) 0 in
      let any = length parts.particles.parts in
      more-spaced first (once at (Sequence (any ∷ []))) (above first any) none-named (more-spaced parts (any_elements at) 0 none-named h)

  base-spaced : (parts : Tables) (at : Place) (of : TypeId) → AllSpaced parts → AllSpaced (base_filled parts at of).tables
  base-spaced parts at AnyType h = alone-spaced parts at h
  base-spaced parts at (Builtin kind) h = h
  base-spaced parts at (Simple id) h = h
  base-spaced parts at (Complex id) h = h

  extended-spaced : (parts : Tables) (at : Place) (base effective : Option ℕ) → AllSpaced parts → AllSpaced (extended_filled parts at base effective).tables
  extended-spaced parts at None effective h = h
  extended-spaced parts at (Some base) None h = h
  extended-spaced parts at (Some base) (Some effective) h =
      more-spaced parts (once at (Sequence (base ∷ effective ∷ []))) (max (above parts base) (above parts effective)) none-named h

  derived-spaced : (parts : Tables) (on : Bool) (at : Place) (base : TypeId) (effective : Option ℕ) → AllSpaced parts → AllSpaced (derived_filled parts on at base effective).tables
  derived-spaced parts false at base effective h = h
  derived-spaced parts true at base effective h = extended-spaced (base_filled parts at base).tables at (base_filled parts at base).particle effective (base-spaced parts at base h)

  content-spaced : (parts : Tables) (n : ℕ) (p : Option ℕ) → AllSpaced parts → AllSpaced (with_content parts n p)
  content-spaced parts n None h = h
  content-spaced parts n (Some p) h = h

  number-spaced : (parts : Tables) (n : ℕ) (part : Option ComplexType) → AllSpaced parts → AllSpaced (number_filled parts n part)
  number-spaced parts n None h = h
  number-spaced parts n (Some part) h =
      content-spaced (part_filled parts part).tables n (part_filled parts part).particle
      (derived-spaced parts (goes_on part.by_extension part.content) part.at part.base (effective_of part.content) h)

  pub filled-spaced : (parts : Tables) (order : List ℕ) → AllSpaced parts → AllSpaced (all_filled parts order)
  filled-spaced parts [] h = h
  filled-spaced parts (n ∷ ns) h = filled-spaced (type_filled parts n) ns (number-spaced parts n (slice_get parts.complexes.parts n) h)
