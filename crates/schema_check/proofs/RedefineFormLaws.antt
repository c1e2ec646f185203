-- What the representation of an element declares and refers to.
use Rattle.std.proofs.Common.{◌≡◌, ℕ, Bool, true, not, ◌&&◌, List, [], ◌∷◌, Option, None, Some, if◌then◌else◌, refl, sym, ap, subst, ◌∙◌, true≢false, bytes_eq}
use Rattle.std.specs.Prelude.{is_some}
use Rattle.std.specs.Option.{option_map}
use Rattle.std.proofs.lemmas.Bool.{and_parts}
use Rattle.std.proofs.lemmas.Option.{none-some, same_Some}
use Rattle.std.proofs.lemmas.Slice.Eq.{bytes_eq-Decides}
use Rattle.tree_rows.specs.declared.name.Expanded.{Expanded}
use Rattle.xs_names.specs.Names.{NameTable}
use Rattle.schema_shape.specs.declared.forms.Compositor.{Compositor}
use Rattle.schema_shape.specs.declared.forms.Compositor.TheVariants as compositors
use Rattle.schema_shape.specs.declared.forms.Form.{Form}
use Rattle.schema_shape.specs.declared.forms.Form.TheVariants as shapes
use Rattle.schema_shape.specs.declared.forms.IdentityKind.{IdentityKind}
use Rattle.schema_shape.specs.declared.forms.IdentityKind.TheVariants as identities
use Rattle.schema_shape.specs.declared.forms.SchemaForm.{SchemaForm}
use Rattle.schema_shape.specs.declared.forms.Shape.{Shape}
use Rattle.schema_set.specs.EffectiveSet.{form_target}
use Rattle.schema_set.specs.Order.{same_target}
use Rattle.redefine_originals.specs.declared.versions.Redefinable.{Redefinable}
use Rattle.redefine_originals.specs.declared.versions.Redefinable.TheVariants as redefinable
use Rattle.redefine_originals.specs.Versions.{declared_as}
use Rattle.redefine_faults.specs.Redefinitions.{adopted, meant_space, is_to, is_self_reference}
use Rattle.representations.specs.declared.naming.Naming.{Naming}
use Rattle.representations.specs.Naming.{space_text, name_in, declared_number, reference_number, referred_space, naming_of, naming_in}
use Rattle.representations.specs.declared.defaults.Defaults.{Defaults}
use Rattle.representations.specs.ElementForms.{represented, identity_of, model_group}
use Rattle.redefine_names.specs.Components.{declared_by, declared_type}
use Rattle.redefine_names.specs.declared.declared.Declared.{Declared}
use Rattle.redefine_names.specs.declared.declared.VersionKind.{VersionKind}
use Rattle.redefine_names.specs.declared.declared.VersionKind.TheVariants as kinds
use Rattle.redefine_names.specs.Redefined.{referred}
use Rattle.schema_check.proofs.RedefineKindLaws.{is_plain, IsSpace, to_of, refers}
use Rattle.schema_check.proofs.TreeLaws.{BeginsWithSchema}

abbrev pub kind_of : Redefinable → VersionKind
kind_of redefinable.Type = kinds.Type
kind_of redefinable.Group = kinds.Group
kind_of redefinable.AttributeGroup = kinds.AttributeGroup

back : VersionKind → Redefinable
back kinds.Type = redefinable.Type
back kinds.Group = redefinable.Group
back kinds.AttributeGroup = redefinable.AttributeGroup

back-of : (of : Redefinable) → back (kind_of of) ≡ of
unfolding back
back-of redefinable.Type = refl
back-of redefinable.Group = refl
back-of redefinable.AttributeGroup = refl

pub kind-one : (of other : Redefinable) → kind_of of ≡ kind_of other → of ≡ other
kind-one of other same = sym (back-of of) ∙ (ap back same ∙ back-of other)

module _ (t : NameTable) (naming : Naming) (defaults : Defaults) where
  abbrev pub reference_of : Redefinable × Expanded → Declared
  reference_of to = record { kind = kind_of to.0; name = reference_number t naming to.1 }

  abbrev pub declaration_of : Redefinable × List ℕ → Declared
  declaration_of declared = record { kind = kind_of declared.0; name = name_in t naming.target declared.1 }

  identity-refers : (kind : IdentityKind) (name : List ℕ) (refer : Option Expanded) → referred (identity_of t naming defaults kind name refer) ≡ None
  identity-refers identities.Unique name refer = refl
  identity-refers identities.Key name refer = refl
  identity-refers identities.Keyref name refer = refl

  model-refers : (compositor : Compositor) → referred (model_group compositor) ≡ None
  model-refers compositors.All = refl
  model-refers compositors.Choice = refl
  model-refers compositors.Sequence = refl

  -- the references of representations are those of elements
  pub refers-to : (form : Form) → referred (represented t naming defaults form) ≡ option_map reference_of (refers form)
  refers-to (shapes.GroupReference None occurs) = refl
  refers-to (shapes.GroupReference (Some to) occurs) = refl
  refers-to (shapes.AttributeGroupReference None) = refl
  refers-to (shapes.AttributeGroupReference (Some to)) = refl
  refers-to (shapes.Identity kind name refer) = identity-refers kind name refer
  refers-to (shapes.ModelGroup compositor occurs) = model-refers compositor
  refers-to _ = refl

  identity-declares : (kind : IdentityKind) (name : List ℕ) (refer : Option Expanded) → declared_by (identity_of t naming defaults kind name refer) ≡ None
  identity-declares identities.Unique name refer = refl
  identity-declares identities.Key name refer = refl
  identity-declares identities.Keyref name refer = refl

  model-declares : (compositor : Compositor) → declared_by (model_group compositor) ≡ None
  model-declares compositors.All = refl
  model-declares compositors.Choice = refl
  model-declares compositors.Sequence = refl

  type-declares : (name : Option (List ℕ)) → declared_type (declared_number t naming true name) ≡ option_map declaration_of (option_map (λ (n : List ℕ). (redefinable.Type, n)) name)
  type-declares None = refl
  type-declares (Some name) = refl

  -- and so are the declarations
  pub declares-it : (form : Form) → declared_by (represented t naming defaults form) ≡ option_map declaration_of (declared_as form)
  declares-it (shapes.SimpleType name finals) = type-declares name
  declares-it (shapes.ComplexType head) = type-declares head.name
  declares-it (shapes.Identity kind name refer) = identity-declares kind name refer
  declares-it (shapes.ModelGroup compositor occurs) = model-declares compositor
  declares-it _ = refl

-- what refers declares nothing, and is no redefine
pub not-declared : (form : Form) (to : Redefinable × Expanded) (declared : Redefinable × List ℕ) → refers form ≡ Some to → declared_as form ≡ Some declared → ⊥
not-declared (shapes.GroupReference to occurs) other declared is are = none-some declared are
not-declared (shapes.AttributeGroupReference to) other declared is are = none-some declared are
not-declared _ other declared is are = none-some other is

pub declared-plain : (form : Form) (declared : Redefinable × List ℕ) → declared_as form ≡ Some declared → is_plain form ≡ true
declared-plain (shapes.Schema schema) declared is = absurd (none-some declared is)
declared-plain (shapes.Redefine location) declared is = absurd (none-some declared is)
declared-plain _ declared is = refl

-- ---- namespaces
pub naming-target : (target : Option (List ℕ)) (list : List Shape) → (naming_of target list).target ≡ target
naming-target target [] = refl
naming-target target (first ∷ rest) = by first.form
  where
    by : (form : Form) → (naming_in target form).target ≡ target
    by (shapes.Schema schema) = refl
    by _ = refl

-- the namespace that a reference means is the same by both definitions
pub space-meant : (target : Option (List ℕ)) (list : List Shape) → BeginsWithSchema list → (space : Option (List ℕ)) → referred_space (naming_of target list) space ≡ meant_space list target space
space-meant target list begins (Some space) = refl
space-meant target list (first, rest, schema, is, form) None =
    subst (λ (xs : List Shape). referred_space (naming_of target xs) None ≡ meant_space xs target None) (sym is) (of-form first.form schema form)
  where
    both : (own : Option (List ℕ)) → (if not (is_some own) then target else None) ≡ adopted own target
    both None = refl
    both (Some space) = refl

    of-form : (form : Form) (schema : SchemaForm) → form ≡ shapes.Schema schema → referred_space (naming_in target form) None ≡ adopted (form_target form) target
    of-form form schema is = subst (λ (f : Form). referred_space (naming_in target f) None ≡ adopted (form_target f) target) (sym is) (both schema.target)

-- namespaces with one name are one
pub space-one : (a b : Option (List ℕ)) → IsSpace a → IsSpace b → space_text a ≡ space_text b → a ≡ b
space-one None None one other same = refl
space-one None (Some []) one other same = absurd other
space-one None (Some (y ∷ ys)) one other same = absurd (cc)
space-one (Some []) b one other same = absurd one
space-one (Some (x ∷ xs)) None one other same = absurd (cc)
space-one (Some (x ∷ xs)) (Some b) one other same = ap (λ (s : List ℕ). Some s) same

pub target-refl : (target : Option (List ℕ)) → same_target target target ≡ true
target-refl None = refl
target-refl (Some space) = (bytes_eq-Decides space space).1 refl

pub target-one : (a b : Option (List ℕ)) → same_target a b ≡ true → a ≡ b
target-one None None is = refl
target-one None (Some b) is = absurd (true≢false (sym is))
target-one (Some a) None is = absurd (true≢false (sym is))
target-one (Some a) (Some b) is = ap (λ (x : List ℕ). Some x) ((bytes_eq-Decides a b).0 is)

-- ---- references of a component to itself
module _ (list : List Shape) (target : Option (List ℕ)) (name : List ℕ) where
  pub record IsTo (of : Redefinable) (form : Form) : Type 0 where
    pub to : Expanded
    pub is : refers form ≡ Some (of, to)
    pub space : meant_space list target to.namespace ≡ target
    pub local : to.local ≡ name

  to-from : (of : Redefinable) (form : Form) (to : Option Expanded) → refers form ≡ to_of of to → is_to list target name to ≡ true → IsTo of form
  to-from of form None e is = absurd (true≢false (sym is))
  to-from of form (Some to) e is =
      let tests = and_parts (same_target (meant_space list target to.namespace) target) (bytes_eq to.local name) is in
      record { to = to; is = e; space = target-one (meant_space list target to.namespace) target tests.0; local = (bytes_eq-Decides to.local name).0 tests.1 }

  pub self-from : (of : Redefinable) (form : Form) → is_self_reference list target of name form ≡ true → IsTo of form
  self-from redefinable.Group (shapes.GroupReference to occurs) is = to-from redefinable.Group (shapes.GroupReference to occurs) to refl is
  self-from redefinable.AttributeGroup (shapes.AttributeGroupReference to) is = to-from redefinable.AttributeGroup (shapes.AttributeGroupReference to) to refl is
  self-from _ _ is = absurd (true≢false (sym is))

  to-is : (to : Expanded) → meant_space list target to.namespace ≡ target → to.local ≡ name → is_to list target name (Some to) ≡ true
  to-is to space local =
      let one : same_target (meant_space list target to.namespace) target ≡ true = ap (λ (s : Option (List ℕ)). same_target s target) space ∙ target-refl target in
      let other : bytes_eq to.local name ≡ true = (bytes_eq-Decides to.local name).1 local in
      ap (λ (b : Bool). b && bytes_eq to.local name) one ∙ other

  to-some : (kind of : Redefinable) (found : Option Expanded) (to : Expanded) → to_of kind found ≡ Some (of, to) → (kind ≡ of) × (found ≡ Some to)
  to-some kind of None to is = absurd (none-some (of, to) is)
  to-some kind of (Some other) to is =
      let same = same_Some (kind, other) (of, to) is in
      (ap (λ (p : Redefinable × Expanded). p.0) same, ap (λ (p : Redefinable × Expanded). Some p.1) same)

  pub self-to : (of : Redefinable) (form : Form) → IsTo of form → is_self_reference list target of name form ≡ true
  self-to of (shapes.GroupReference found occurs) is =
      let found_is = to-some redefinable.Group of found is.to is.is in
      subst (λ (k : Redefinable). is_self_reference list target k name (shapes.GroupReference found occurs) ≡ true) found_is.0
      (ap (is_to list target name) found_is.1 ∙ to-is is.to is.space is.local)
  self-to of (shapes.AttributeGroupReference found) is =
      let found_is = to-some redefinable.AttributeGroup of found is.to is.is in
      subst (λ (k : Redefinable). is_self_reference list target k name (shapes.AttributeGroupReference found) ≡ true) found_is.0
      (ap (is_to list target name) found_is.1 ∙ to-is is.to is.space is.local)
  self-to of _ is = absurd (none-some (of, is.to) is.is)
