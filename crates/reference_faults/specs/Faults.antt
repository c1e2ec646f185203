-- The faults of names and references of a schema set.
use Rattle.std.specs.Prelude.{◌≡◌, ◌⊎◌, ℕ, Bool, not, List, [], ◌∷◌, Option, Some, Contains, slice_get, if◌then◌else◌}
use Rattle.std.specs.List.{list_all}
use Rattle.xs_codes.specs.declared.code.Code.{Code}
use Rattle.xs_codes.specs.declared.code.Code.TheVariants.{SchPropsCorrect2, XLimitComponents, NoXmlns, NoXsi, SrcResolve, SrcResolve4}
use Rattle.xs_codes.specs.declared.fault.Fault.{Fault}
use Rattle.xs_components.specs.declared.common.Place.{Place}
use Rattle.xs_names.specs.Names.{NameTable}
use Rattle.representations.specs.declared.parts.Represented.{Represented}
use Rattle.representations.specs.declared.parts.Representation.{Representation}
use Rattle.representations.specs.declared.source.SymbolSpaces.{SymbolSpaces}
use Rattle.representations.specs.Names.{spaces_of}
use Rattle.representations.specs.declared.origins.Origin.{Origin}
use Rattle.reference_faults.specs.declared.lookup.Kinds.{Kinds}
use Rattle.reference_faults.specs.Attributes.{attribute_name, is_xmlns, is_xsi}
use Rattle.reference_faults.specs.Doubles.{is_double}
use Rattle.reference_faults.specs.Imports.{origin_at, are_imported}
use Rattle.reference_faults.specs.Limit.{component_places, IsPastLimit}
use Rattle.reference_faults.specs.References.{references}
use Rattle.reference_faults.specs.Resolution.{kinds_of, resolves}

-- the phase of compiling that looks at names
abbrev pub name_fault : Place → Code → Fault
name_fault at code = record { phase = 3; document = at.document; item = at.item; code = code }

-- the code before others, where the constraint is broken
abbrev pub code_if : Bool → Code → List Code → List Code
code_if broken code others = if broken then code ∷ others else others

module _ (t : NameTable) (spaces : SymbolSpaces) (kinds : Kinds) where
  -- src-resolve (Structures 3.15.3): no component of the kind that a reference needs has its name
  abbrev pub is_lost : Represented → Bool
  is_lost form = not (list_all (resolves spaces kinds) (references form))

  -- src-resolve.4 (Structures 3.15.3): the namespace of a reference is not the target, is not that of schema documents, and the
  -- document has no import of it
  abbrev pub is_foreign : Option Origin → Represented → Bool
  is_foreign origin form = not (are_imported t origin (references form))

  -- the codes of the constraints that the references of an element break, in their order
  abbrev pub reference_codes : Option Origin → Represented → List Code
  reference_codes origin form = code_if (is_lost form) SrcResolve (code_if (is_foreign origin form) SrcResolve4 [])

  -- the codes of the constraints that an element of a schema document breaks, in their order
  abbrev pub codes_of : Option Origin → ℕ → Represented → List Code
  codes_of origin place form =
      code_if (is_double spaces place) SchPropsCorrect2
      (code_if (is_xmlns t (attribute_name form)) NoXmlns (code_if (is_xsi t (attribute_name form)) NoXsi (reference_codes origin form)))

-- an element breaks one of these constraints
abbrev pub IsElementFault : NameTable → List Origin → List Representation → Fault → Type 0
IsElementFault t origins reps fault =
    (place : ℕ) × (rep : Representation) × (code : Code) × (slice_get reps place ≡ Some rep)
    × Contains (codes_of t (spaces_of reps) (kinds_of reps) (origin_at origins place) place rep.form) code × (fault ≡ name_fault rep.at code)

-- there is a component past the limit
abbrev pub IsLimitFault : List Representation → Fault → Type 0
IsLimitFault reps fault = (at : Place) × IsPastLimit (component_places reps) at × (fault ≡ name_fault at XLimitComponents)

abbrev pub IsBroken : NameTable → List Origin → List Representation → Fault → Type 0
IsBroken t origins reps fault = IsElementFault t origins reps fault ⊎ IsLimitFault reps fault
