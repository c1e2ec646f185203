-- The names that stand in the documents of a set are in its table, and one number is that of one name.
use Rattle.std.proofs.Common.{◌≡◌, ℕ, zero, suc, ◌||◌, Bool, true, List, [], ◌∷◌, Option, None, Some, length, slice_get, refl, sym, ap, subst, ◌∙◌, bytes_eq}
use Rattle.std.specs.Option.{option_map, unwrap_or}
use Rattle.std.proofs.lemmas.Option.{none-some, same_Some}
use Rattle.std.proofs.lemmas.Slice.Eq.{bytes_eq-Decides}
use Rattle.std.specs.Bool.{Decides}
use Rattle.tree_rows.specs.declared.name.Expanded.{Expanded}
use Rattle.tree_rows.specs.declared.row.Binding.{Binding}
use Rattle.xs_names.specs.Names.{NameTable, Grown, absent_space, same_name, space_number, name_number, with_space, with_name}
use Rattle.xs_names.specs.Numbering.{number_of, with_item}
use Rattle.xs_names.proofs.GrownLaws.{Grown-refl, Grown-trans, Grown-with_space, Grown-with_name, space_number-Grown, name_number-Grown}
use Rattle.xs_names.proofs.NumberingLaws.{same_name-Decides, slice_get-number_of, with_item-old, with_item-new, number_of-new}
use Rattle.schema_values.specs.declared.spaces.SpaceToken.{SpaceToken}
use Rattle.schema_values.specs.declared.spaces.SpaceToken.TheVariants as tokens
use Rattle.schema_values.specs.declared.spaces.Spaces.{Spaces}
use Rattle.schema_values.specs.declared.spaces.Spaces.TheVariants as spaces
use Rattle.schema_shape.specs.declared.forms.AttributeForm.{AttributeForm}
use Rattle.schema_shape.specs.declared.forms.ElementForm.{ElementForm}
use Rattle.schema_shape.specs.declared.forms.Form.{Form}
use Rattle.schema_shape.specs.declared.forms.Form.TheVariants as forms
use Rattle.schema_shape.specs.declared.forms.Shape.{Shape}
use Rattle.schema_set.specs.declared.documents.SetDocument.{SetDocument}
use Rattle.redefine_originals.specs.declared.versions.Redefinable.{Redefinable}
use Rattle.redefine_originals.specs.declared.versions.Redefinable.TheVariants as redefinable
use Rattle.redefine_originals.specs.Versions.{declared_as}
use Rattle.representations.specs.declared.naming.Naming.{Naming}
use Rattle.representations.specs.Naming.{space_text, with_space_of, space_in, with_expanded, declared_space, with_declared, with_global, referred_space, with_reference, with_reference_if, name_in, naming_of}
use Rattle.representations.specs.Forms.{element_table, attribute_table, members_table, token_table, tokens_table, spaces_table, form_table}
use Rattle.representations.specs.Documents.{bindings_table, shape_table, shapes_table, document_table}
use Rattle.set_representations.specs.Documents.{shapes_of, set_table}
use Rattle.schema_check.proofs.RedefineKindLaws.{to_of, refers}

-- ---- tables grow
module _ (naming : Naming) where
  grown-expanded : (t : NameTable) (space : Option (List ℕ)) (local : List ℕ) → Grown t (with_expanded t space local)
  grown-expanded t space local =
      let own = with_space_of t space in
      Grown-trans t own (with_expanded t space local) (Grown-with_space t (space_text space)) (Grown-with_name own (space_in own space) local)

  grown-declared : (in_target : Bool) (local : Option (List ℕ)) (t : NameTable) → Grown t (with_declared naming in_target local t)
  grown-declared in_target None t = Grown-refl t
  grown-declared in_target (Some local) t = grown-expanded t (declared_space naming in_target) local

  grown-reference : (name : Option Expanded) (t : NameTable) → Grown t (with_reference_if naming name t)
  grown-reference None t = Grown-refl t
  grown-reference (Some name) t = grown-expanded t (referred_space naming name.namespace) name.local

  grown-element : (form : ElementForm) (t : NameTable) → Grown t (element_table naming form t)
  grown-element form t =
      let a = with_declared naming (form.global || unwrap_or form.qualified naming.elements_qualified) form.name t in
      let b = with_reference_if naming form.reference a in
      let c = with_reference_if naming form.of b in
      Grown-trans t a (element_table naming form t) (grown-declared (form.global || unwrap_or form.qualified naming.elements_qualified) form.name t)
      (Grown-trans a b (element_table naming form t) (grown-reference form.reference a)
      (Grown-trans b c (element_table naming form t) (grown-reference form.of b) (grown-reference form.head c)))

  grown-attribute : (form : AttributeForm) (t : NameTable) → Grown t (attribute_table naming form t)
  grown-attribute form t =
      let a = with_declared naming (form.global || unwrap_or form.qualified naming.attributes_qualified) form.name t in
      let b = with_reference_if naming form.reference a in
      Grown-trans t a (attribute_table naming form t) (grown-declared (form.global || unwrap_or form.qualified naming.attributes_qualified) form.name t)
      (Grown-trans a b (attribute_table naming form t) (grown-reference form.reference a) (grown-reference form.of b))

  grown-members : (members : List Expanded) (t : NameTable) → Grown t (members_table naming members t)
  grown-members [] t = Grown-refl t
  grown-members (member ∷ members) t =
      let a = with_reference naming member t in
      Grown-trans t a (members_table naming members a) (grown-expanded t (referred_space naming member.namespace) member.local) (grown-members members a)

  grown-token : (token : SpaceToken) (t : NameTable) → Grown t (token_table token t)
  grown-token tokens.Target t = Grown-refl t
  grown-token tokens.Local t = Grown-refl t
  grown-token (tokens.Named space) t = Grown-with_space t space

  grown-tokens : (listed : List SpaceToken) (t : NameTable) → Grown t (tokens_table listed t)
  grown-tokens [] t = Grown-refl t
  grown-tokens (token ∷ more) t = let a = token_table token t in Grown-trans t a (tokens_table more a) (grown-token token t) (grown-tokens more a)

  grown-spaces : (of : Spaces) (t : NameTable) → Grown t (spaces_table of t)
  grown-spaces spaces.Any t = Grown-refl t
  grown-spaces spaces.Other t = Grown-refl t
  grown-spaces (spaces.These listed) t = grown-tokens listed t

  grown-form : (form : Form) (t : NameTable) → Grown t (form_table naming form t)
  grown-form (forms.Import namespace location) t = Grown-with_space t (space_text namespace)
  grown-form (forms.Element form) t = grown-element form t
  grown-form (forms.Attribute form) t = grown-attribute form t
  grown-form (forms.ComplexType form) t = grown-declared true form.name t
  grown-form (forms.SimpleType name finals) t = grown-declared true name t
  grown-form (forms.Group name) t = grown-expanded t naming.target name
  grown-form (forms.AttributeGroup name) t = grown-expanded t naming.target name
  grown-form (forms.Identity kind name refer) t =
      let a = with_global naming name t in
      Grown-trans t a (with_reference_if naming refer a) (grown-expanded t naming.target name) (grown-reference refer a)
  grown-form (forms.Derivation by_extension base) t = grown-reference base t
  grown-form (forms.GroupReference to occurs) t = grown-reference to t
  grown-form (forms.AttributeGroupReference to) t = grown-reference to t
  grown-form (forms.Any wildcard occurs) t = grown-spaces wildcard.spaces t
  grown-form (forms.AnyAttribute wildcard) t = grown-spaces wildcard.spaces t
  grown-form (forms.Restriction base) t = grown-reference base t
  grown-form (forms.ItemType of) t = grown-reference of t
  grown-form (forms.Union members) t = grown-members members t
  grown-form _ t = Grown-refl t

  grown-bindings : (bindings : List Binding) (t : NameTable) → Grown t (bindings_table bindings t)
  grown-bindings [] t = Grown-refl t
  grown-bindings (binding ∷ bindings) t =
      let a = with_space t binding.namespace in
      Grown-trans t a (bindings_table bindings a) (Grown-with_space t binding.namespace) (grown-bindings bindings a)

  grown-shape : (shape : Shape) (t : NameTable) → Grown t (shape_table naming shape t)
  grown-shape shape t = let a = bindings_table shape.bindings t in Grown-trans t a (shape_table naming shape t) (grown-bindings shape.bindings t) (grown-form shape.form a)

  grown-shapes : (shapes : List Shape) (t : NameTable) → Grown t (shapes_table naming shapes t)
  grown-shapes [] t = Grown-refl t
  grown-shapes (shape ∷ shapes) t = let a = shape_table naming shape t in Grown-trans t a (shapes_table naming shapes a) (grown-shape shape t) (grown-shapes shapes a)

grown-document : (d : SetDocument) (t : NameTable) → Grown t (document_table d.target (shapes_of d) t)
grown-document d t =
    let a = with_space_of t d.target in
    Grown-trans t a (document_table d.target (shapes_of d) t) (Grown-with_space t (space_text d.target)) (grown-shapes (naming_of d.target (shapes_of d)) (shapes_of d) a)

grown-set : (ds : List SetDocument) (t : NameTable) → Grown t (set_table t ds)
grown-set [] t = Grown-refl t
grown-set (d ∷ ds) t = let a = document_table d.target (shapes_of d) t in Grown-trans t a (set_table a ds) (grown-document d t) (grown-set ds a)

-- ---- what the table has that each element puts in
module _ (Has : NameTable → Type 0) (later : (t u : NameTable) → Grown t u → Has t → Has u) where
  in-shapes : (naming : Naming) (form : Form) → ((t : NameTable) → Has (form_table naming form t)) → (shapes : List Shape) (n : ℕ) (s : Shape) → slice_get shapes n ≡ Some s → s.form ≡ form → (t : NameTable) → Has (shapes_table naming shapes t)
  in-shapes naming form put [] n s at is t = absurd (none-some s at)
  in-shapes naming form put (shape ∷ shapes) zero s at is t =
      let a = shape_table naming shape t in
      let own : shape.form ≡ form = ap (λ (x : Shape). x.form) (same_Some shape s at) ∙ is in
      later a (shapes_table naming shapes a) (grown-shapes naming shapes a) (subst (λ (f : Form). Has (form_table naming f (bindings_table shape.bindings t))) (sym own) (put (bindings_table shape.bindings t)))
  in-shapes naming form put (shape ∷ shapes) (suc n) s at is t = in-shapes naming form put shapes n s at is (shape_table naming shape t)

  pub in-set : (ds : List SetDocument) (i n : ℕ) (d : SetDocument) (s : Shape) → slice_get ds i ≡ Some d → slice_get (shapes_of d) n ≡ Some s
      → ((t : NameTable) → Has (form_table (naming_of d.target (shapes_of d)) s.form t)) → (t : NameTable) → Has (set_table t ds)
  in-set [] i n d s at there put t = absurd (none-some d at)
  in-set (e ∷ ds) zero n d s at there put t =
      let a = document_table e.target (shapes_of e) t in
      let same = same_Some e d at in
      let own = in-shapes (naming_of d.target (shapes_of d)) s.form put (shapes_of d) n s there refl (with_space_of t d.target) in
      later a (set_table a ds) (grown-set ds a) (subst (λ (x : SetDocument). Has (document_table x.target (shapes_of x) t)) (sym same) own)
  in-set (e ∷ ds) (suc i) n d s at there put t = in-set ds i n d s at there put (document_table e.target (shapes_of e) t)

-- ---- the number of a name
pub record HasName (space : Option (List ℕ)) (local : List ℕ) (t : NameTable) : Type 0 where
  pub ns : ℕ
  pub number : ℕ
  pub of_space : space_number t (space_text space) ≡ Some ns
  pub of_name : name_number t ns local ≡ Some number

pub name-later : (space : Option (List ℕ)) (local : List ℕ) (t u : NameTable) → Grown t u → HasName space local t → HasName space local u
name-later space local t u grown has = record {
  ns = has.ns;
  number = has.number;
  of_space = space_number-Grown t u grown (space_text space) has.ns has.of_space;
  of_name = name_number-Grown t u grown has.ns local has.number has.of_name;
}

module _ (space : Option (List ℕ)) (local : List ℕ) (t : NameTable) (has : HasName space local t) where
  space-is : space_in t space ≡ has.ns
  space-is = ap (λ (o : Option ℕ). unwrap_or o absent_space) has.of_space

  pub number-is : name_in t space local ≡ has.number
  number-is = ap (λ (ns : ℕ). unwrap_or (name_number t ns local) 0) space-is ∙ ap (λ (o : Option ℕ). unwrap_or o 0) has.of_name

  pub name-at : slice_get t.names has.number ≡ Some (has.ns, local)
  name-at = slice_get-number_of same_name same_name-Decides t.names (has.ns, local) has.number has.of_name

  pub space-at : slice_get t.spaces has.ns ≡ Some (space_text space)
  space-at = slice_get-number_of bytes_eq bytes_eq-Decides t.spaces (space_text space) has.ns has.of_space

-- one number is that of one name
pub one-name : (t : NameTable) (space other : Option (List ℕ)) (local word : List ℕ) (has : HasName space local t) (have : HasName other word t) → has.number ≡ have.number
    → (space_text space ≡ space_text other) × (local ≡ word)
one-name t space other local word has have same =
    let names : (has.ns, local) ≡ (have.ns, word) =
    same_Some (has.ns, local) (have.ns, word) (sym (name-at space local t has) ∙ ap (λ (n : ℕ). slice_get t.names n) same ∙ name-at other word t have) in
    let ns : has.ns ≡ have.ns = ap (λ (name : ℕ × List ℕ). name.0) names in (
      same_Some (space_text space) (space_text other) (sym (space-at space local t has) ∙ ap (λ (n : ℕ). slice_get t.spaces n) ns ∙ space-at other word t have),
      ap (λ (name : ℕ × List ℕ). name.1) names,
    )

module _ {X : Type 0} (same : X → X → Bool) (decides : (a b : X) → Decides (same a b) (a ≡ b)) where
  pub item-there : (xs : List X) (x : X) → (n : ℕ) × (number_of same (with_item same xs x) x ≡ Some n)
  item-there xs x = by (number_of same xs x) refl
    where
      by : (o : Option ℕ) → number_of same xs x ≡ o → (n : ℕ) × (number_of same (with_item same xs x) x ≡ Some n)
      by (Some n) is = (n, ap (λ (ys : List X). number_of same ys x) (with_item-old same decides xs x n is) ∙ is)
      by None is = (length xs, ap (λ (ys : List X). number_of same ys x) (with_item-new same decides xs x is) ∙ number_of-new same decides xs x is)

-- a name that is put in is there
pub name-put : (t : NameTable) (space : Option (List ℕ)) (local : List ℕ) → HasName space local (with_expanded t space local)
name-put t space local =
    let own = with_space_of t space in
    let ns = item-there bytes_eq bytes_eq-Decides t.spaces (space_text space) in
    let is : space_in own space ≡ ns.0 = ap (λ (o : Option ℕ). unwrap_or o absent_space) ns.1 in
    let number = item-there same_name same_name-Decides t.names (ns.0, local) in
    subst (λ (n : ℕ). HasName space local (with_name own n local)) (sym is) (record { ns = ns.0; number = number.0; of_space = ns.1; of_name = number.1 })

-- ---- the names of a form
module _ (naming : Naming) where
  abbrev Referred : Option (Redefinable × Expanded) → NameTable → Type 0
  Referred None t = Unit {0}
  Referred (Some to) t = HasName (referred_space naming to.1.namespace) to.1.local t

  to-put : (kind : Redefinable) (to : Option Expanded) (t : NameTable) → Referred (to_of kind to) (with_reference_if naming to t)
  to-put kind None t = tt
  to-put kind (Some name) t = name-put t (referred_space naming name.namespace) name.local

  form-refers : (form : Form) (t : NameTable) → Referred (refers form) (form_table naming form t)
  form-refers (forms.GroupReference to occurs) t = to-put redefinable.Group to t
  form-refers (forms.AttributeGroupReference to) t = to-put redefinable.AttributeGroup to t
  form-refers _ t = tt

  pub reference-put : (form : Form) (of : Redefinable) (name : Expanded) → refers form ≡ Some (of, name) → (t : NameTable) → HasName (referred_space naming name.namespace) name.local (form_table naming form t)
  reference-put form of name to t = subst (λ (o : Option (Redefinable × Expanded)). Referred o (form_table naming form t)) to (form-refers form t)

  abbrev Declares : Option (Redefinable × List ℕ) → NameTable → Type 0
  Declares None t = Unit {0}
  Declares (Some declared) t = HasName naming.target declared.1 t

  type-put : (name : Option (List ℕ)) (t : NameTable) → Declares (option_map (λ (n : List ℕ). (redefinable.Type, n)) name) (with_declared naming true name t)
  type-put None t = tt
  type-put (Some name) t = name-put t naming.target name

  form-declares : (form : Form) (t : NameTable) → Declares (declared_as form) (form_table naming form t)
  form-declares (forms.SimpleType name finals) t = type-put name t
  form-declares (forms.ComplexType head) t = type-put head.name t
  form-declares (forms.Group name) t = name-put t naming.target name
  form-declares (forms.AttributeGroup name) t = name-put t naming.target name
  form-declares _ t = tt

  pub declaration-put : (form : Form) (of : Redefinable) (name : List ℕ) → declared_as form ≡ Some (of, name) → (t : NameTable) → HasName naming.target name (form_table naming form t)
  declaration-put form of name declares t = subst (λ (o : Option (Redefinable × List ℕ)). Declares o (form_table naming form t)) declares (form-declares form t)
