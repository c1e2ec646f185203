-- Derivation Valid (Extension) (Structures 3.4.6).
use Rattle.std.specs.Prelude.{◌≡◌, ◌⊎◌, ℕ, Bool, true, false, not, Option, None, Some}
use Rattle.xs_codes.specs.declared.code.Code.{Code}
use Rattle.xs_codes.specs.declared.code.Code.TheVariants.{CosCtExtends1_1, CosCtExtends1_4}
use Rattle.xs_codes.specs.declared.fault.Fault.{Fault}
use Rattle.xs_components.specs.Tables.{Tables}
use Rattle.xs_components.specs.declared.complex.ComplexType.{ComplexType}
use Rattle.xs_components.specs.declared.complex.ContentForm.{ContentForm}
use Rattle.xs_components.specs.declared.complex.ContentForm.TheVariants as forms
use Rattle.component_tables.specs.ContentTypes.{content_of}
use Rattle.component_tables.specs.declared.content_types.ContentType.{ContentType}
use Rattle.component_tables.specs.declared.content_types.ContentType.TheVariants.{SimpleType, Empty, SimpleContent, ElementOnly, Mixed}
use Rattle.derive_faults.specs.Finals.{finals_of}
use Rattle.derive_faults.specs.TypeFaults.{IsTypeFault}

-- A content model goes with content that is empty, or that is mixed where the model is, or element-only where it is not.
abbrev pub model_fits : Bool → ContentType → Bool
model_fits mixed SimpleType = false
model_fits mixed Empty = true
model_fits mixed SimpleContent = false
model_fits mixed ElementOnly = not mixed
model_fits mixed Mixed = mixed

-- simple content goes with content that is simple or empty
abbrev pub simple_fits : ContentType → Bool
simple_fits SimpleType = true
simple_fits Empty = true
simple_fits SimpleContent = true
simple_fits ElementOnly = false
simple_fits Mixed = false

abbrev pub effective_fits : Option ℕ → Bool → ContentType → Bool
effective_fits None mixed base = true
effective_fits (Some particle) mixed base = model_fits mixed base

-- the content that a type adds goes with that of its base; without effective content it adds none
abbrev pub content_fits : ContentForm → ContentType → Bool
content_fits (forms.Simple own step) base = simple_fits base
content_fits (forms.Complex effective mixed) base = effective_fits effective mixed base

module _ (t : Tables) (part : ComplexType) where
  -- cos-ct-extends.1.1 (Structures 3.4.6): the {final} of the base has extension.
  abbrev pub IsBaseFinal : Code → Type 0
  IsBaseFinal code = ((finals_of t part.base).extension ≡ true) × (code ≡ CosCtExtends1_1)

  -- cos-ct-extends.1.4 (Structures 3.4.6): the type adds content to content of another kind.
  abbrev pub IsOtherContent : Code → Type 0
  IsOtherContent code = (content_fits part.content (content_of t part.base) ≡ false) × (code ≡ CosCtExtends1_4)

  abbrev pub BreaksAny : Code → Type 0
  BreaksAny code = IsBaseFinal code ⊎ IsOtherContent code

  -- the type is an extension, and breaks one of these
  abbrev pub BreaksExtension : Code → Type 0
  BreaksExtension code = (part.by_extension ≡ true) × BreaksAny code

abbrev pub Breaks : Tables → ℕ → ComplexType → Code → Type 0
Breaks t n part code = BreaksExtension t part code

-- a fault of some complex type in phase 7, of derivation
abbrev pub IsExtensionFault : Tables → Fault → Type 0
IsExtensionFault t fault = IsTypeFault 7 t (Breaks t) fault
