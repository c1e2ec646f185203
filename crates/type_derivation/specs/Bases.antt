-- Bases of the wrong kind.
use Rattle.std.specs.Prelude.{◌≡◌, ℕ, ◌&&◌, not, Bool, true, false, Option, None, Some, slice_get, if◌then◌else◌, is_some}
use Rattle.xs_codes.specs.declared.code.Code.{Code}
use Rattle.xs_codes.specs.declared.code.Code.TheVariants.{SrcCt1, SrcCt2}
use Rattle.xs_codes.specs.declared.fault.Fault.{Fault}
use Rattle.xs_components.specs.Tables.{Tables}
use Rattle.xs_components.specs.declared.common.Place.{Place}
use Rattle.xs_components.specs.declared.complex.ComplexType.{ComplexType}
use Rattle.xs_components.specs.declared.complex.ContentForm.{ContentForm}
use Rattle.xs_components.specs.declared.complex.ContentForm.TheVariants as forms
use Rattle.component_tables.specs.declared.content_types.ContentType.{ContentType}
use Rattle.component_tables.specs.declared.content_types.ContentType.TheVariants.{SimpleType, Empty, SimpleContent, ElementOnly, Mixed}
use Rattle.type_derivation.specs.Contents.{HasContent}

-- the phase of compiling that looks at bases
abbrev pub base_fault : Place → Code → Fault
base_fault at code = record { phase = 4; document = at.document; item = at.item; code = code }

-- src-ct.1 (Structures 3.4.3): the base of a type with complex content is a simple type
abbrev pub complex_code : ContentType → Option Code
complex_code SimpleType = Some SrcCt1
complex_code Empty = None
complex_code SimpleContent = None
complex_code ElementOnly = None
complex_code Mixed = None

-- the base of a type with simple content is a complex type with simple content; or by extension a simple type; or by
-- restriction, with a simple type of its own, a complex type with mixed content
abbrev pub fits : Bool → Bool → ContentType → Bool
fits by_extension has_own SimpleType = by_extension
fits by_extension has_own Empty = false
fits by_extension has_own SimpleContent = true
fits by_extension has_own ElementOnly = false
fits by_extension has_own Mixed = not by_extension && has_own

-- src-ct.2 (Structures 3.4.3): the base of a type with simple content is none of these
abbrev pub simple_code : Bool → Bool → ContentType → Option Code
simple_code by_extension has_own base = if fits by_extension has_own base then None else Some SrcCt2

abbrev pub base_code : Bool → ContentForm → ContentType → Option Code
base_code by_extension (forms.Simple own step) base = simple_code by_extension (is_some own) base
base_code by_extension (forms.Complex effective mixed) base = complex_code base

-- the base of a complex type is of the wrong kind
abbrev pub IsWrongBase : Tables → Fault → Type 0
IsWrongBase t fault =
    (n : ℕ) × (part : ComplexType) × (base : ContentType) × (code : Code) × (slice_get t.complexes.parts n ≡ Some part) × HasContent t part.base base
    × (base_code part.by_extension part.content base ≡ Some code) × (fault ≡ base_fault part.at code)
