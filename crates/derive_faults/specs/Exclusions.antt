-- What the declaration of a head excludes from its substitution group.
use Rattle.std.specs.Prelude.{◌≡◌, ℕ, ◌<◌, false, Option, None, Some, slice_get}
use Rattle.xs_codes.specs.declared.code.Code.TheVariants.{EPropsCorrect4}
use Rattle.xs_codes.specs.declared.fault.Fault.{Fault}
use Rattle.xs_components.specs.Tables.{Tables}
use Rattle.xs_components.specs.declared.common.Methods.{Methods}
use Rattle.xs_components.specs.declared.common.Place.{Place}
use Rattle.xs_components.specs.declared.element.ElementDecl.{ElementDecl}
use Rattle.component_tables.specs.Types.{type_of}
use Rattle.type_derivation.specs.Chains.{Derives}

abbrev pub part_exclusions : Option ElementDecl → Methods
part_exclusions None = record { extension = false; restriction = false; substitution = false; by_list = false; by_union = false }
part_exclusions (Some part) = part.finals

-- the {substitution group exclusions} of a declaration (Structures 3.3.1)
abbrev pub exclusions : Tables → ℕ → Methods
exclusions t element = part_exclusions (slice_get t.elements.parts element)

abbrev pub exclusion_fault : Place → Fault
exclusion_fault at = record { phase = 7; document = at.document; item = at.item; code = EPropsCorrect4 }

-- e-props-correct.4 (Structures 3.3.6): the type of the declaration of this number, which names a head, does not derive from the
-- head's type without the methods that the head excludes.
abbrev pub IsExcludedAt : Tables → ℕ → Fault → Type 0
IsExcludedAt t element fault =
    (part : ElementDecl) × (head : ℕ) × (slice_get t.elements.parts element ≡ Some part) × (part.head ≡ Some head)
    × (Derives t (exclusions t head) (type_of t element) (type_of t head) → ⊥) × (fault ≡ exclusion_fault part.at)

-- some declaration is so
abbrev pub IsExcluded : Tables → Fault → Type 0
IsExcluded t fault = (element : ℕ) × IsExcludedAt t element fault

-- ---- for proofs

-- one of the first declarations is so
abbrev pub IsExcludedBelow : Tables → ℕ → Fault → Type 0
IsExcludedBelow t count fault = (element : ℕ) × (element < count) × IsExcludedAt t element fault
