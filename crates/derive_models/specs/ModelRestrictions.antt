-- Content models that restrict others as these do not allow (Structures 3.4.6, Derivation Valid (Restriction, Complex), 5.4.2; 3.9.6).
use Rattle.std.specs.Prelude.{◌≡◌, ℕ, Bool, true, false, List, Option}
use Rattle.xs_codes.specs.declared.code.Code.{Code}
use Rattle.xs_codes.specs.declared.code.Code.TheVariants.{CosParticleRestrict2}
use Rattle.xs_codes.specs.declared.fault.Fault.{Fault}
use Rattle.xs_components.specs.Tables.{Tables}
use Rattle.xs_components.specs.declared.common.TypeId.{TypeId}
use Rattle.xs_components.specs.declared.common.TypeId.TheVariants.{Complex}
use Rattle.xs_components.specs.declared.complex.ComplexType.{ComplexType}
use Rattle.xs_components.specs.declared.complex.ContentForm.{ContentForm}
use Rattle.xs_components.specs.declared.complex.ContentForm.TheVariants as forms
use Rattle.component_tables.specs.ContentTypes.{content_of}
use Rattle.component_tables.specs.declared.content_types.ContentType.{ContentType}
use Rattle.component_tables.specs.declared.content_types.ContentType.TheVariants.{SimpleType, Empty, SimpleContent, ElementOnly, Mixed}
use Rattle.particle_models.specs.Trees.{Tree}
use Rattle.particle_restrict.specs.Codes.{code_of, form_case}
use Rattle.particle_restrict.specs.Restricts.{FormRestricts}
use Rattle.particle_restrict.specs.declared.terms.Term.{Term}
use Rattle.derive_models.specs.AnyType.{is_any_type}
use Rattle.derive_models.specs.Forms.{content_form}
use Rattle.derive_faults.specs.TypeFaults.{IsTypeFault}

-- a restriction with complexContent, whose base is not anyType
abbrev pub has_model : ContentForm → Bool
has_model (forms.Simple own step) = false
has_model (forms.Complex effective mixed) = true

pub record IsModelRestriction (part : ComplexType) : Type 0 where
  pub restricts : part.by_extension ≡ false
  pub model : has_model part.content ≡ true
  pub base : is_any_type part.base ≡ false

-- the terms of particles by number, and which types derive from which without extension, list and union
module _ (terms : List Term) (derives : TypeId → TypeId → Bool) where
  -- the code of the case of the two particles, where the one does not restrict the other
  abbrev pub BreaksForms : Option Tree → Option Tree → Code → Type 0
  BreaksForms own base code = (FormRestricts terms derives own base → ⊥) × (code ≡ code_of (form_case terms own base))

  -- cos-particle-restrict.2 (Structures 3.9.6): over simple content.
  abbrev pub BreaksContent : ContentType → Option Tree → Option Tree → Code → Type 0
  BreaksContent SimpleType own base code = code ≡ CosParticleRestrict2
  BreaksContent SimpleContent own base code = code ≡ CosParticleRestrict2
  BreaksContent Empty own base code = BreaksForms own base code
  BreaksContent ElementOnly own base code = BreaksForms own base code
  BreaksContent Mixed own base code = BreaksForms own base code

-- and the members of substitution groups by their names
module _ (t : Tables) (members : List (List ℕ)) (terms : List Term) (derives : TypeId → TypeId → Bool) where
  -- the content of the complex type of a number against that of a base
  abbrev pub BreaksModel : ℕ → TypeId → Code → Type 0
  BreaksModel n base code = BreaksContent terms derives (content_of t base) (content_form t members (Complex n)) (content_form t members base) code

  abbrev pub Breaks : ℕ → ComplexType → Code → Type 0
  Breaks n part code = IsModelRestriction part × BreaksModel n part.base code

  -- a fault of some complex type in phase 9, of the restriction of content models
  abbrev pub IsModelFault : Fault → Type 0
  IsModelFault fault = IsTypeFault 9 t Breaks fault
