-- What elements show by the numbers of a table that has grown.
use Rattle.std.proofs.Common.{◌≡◌, ℕ, ◌<◌, List, [], ◌∷◌, ◌++◌, map, reverse, length, refl, sym, ap, ◌∙◌, subst, append_assoc}
use Rattle.std.specs.Prelude.{All, Some}
use Rattle.std.proofs.lemmas.Grind.{reverse_onto}
use Rattle.std.proofs.lemmas.List.Elements.{All-nil, All-cons}
use Rattle.xs_names.specs.Names.{NameTable, Grown, IsSound, absent_space, space_number}
use Rattle.xs_names.proofs.GrownLaws.{within-space_number}
use Rattle.tree_rows.specs.Forest.{Forest, none, text, element}
use Rattle.tree_rows.specs.declared.name.Expanded.{Expanded}
use Rattle.tree_rows.specs.declared.row.Attribute.{Attribute}
use Rattle.tree_rows.specs.declared.row.Binding.{Binding}
use Rattle.plain_tree.specs.Found.{HasBindings, HasAttributes, HasTag, HasNames}
use Rattle.plain_tree.specs.Numbers.{name_in}
use Rattle.plain_tree.proofs.Numbers.{number_there, else_number, space_alike, name_alike, name_within}
use Rattle.assess_records.specs.Instance.{instance_text}
use Rattle.assess_records.specs.Numbered.{Scope, bound, named_texts, scope_in, head_of, heads}
use Rattle.assess_records.specs.declared.instance_names.InstanceAttribute.TheVariants.{TypeName}
use Rattle.assess_records.specs.declared.shape.NamedText.{NamedText}
use Rattle.elem_governing.specs.View.{AreKnown}
use Rattle.assessment_laws.proofs.Spaces.{instance-text-kept}

-- ---- by one table

pub texts-within : (t : NameTable) (attributes : List Attribute) → HasAttributes t attributes → All (λ (a : NamedText). a.name < length t.names) (named_texts t attributes)
texts-within t [] h = All-nil (λ (a : NamedText). a.name < length t.names)
texts-within t (a ∷ attributes) h =
    All-cons (λ (b : NamedText). b.name < length t.names) (record { name = name_in t a.name; text = a.value }) (named_texts t attributes)
    (name_within t a.name h.0) (texts-within t attributes h.1)

-- the namespaces of the scope in an element have names
pub scope-known : (t : NameTable) (bindings : List Binding) (scope : Scope) → HasBindings t bindings → AreKnown t scope → AreKnown t (scope_in t bindings scope)
scope-known t [] scope h known = known
scope-known t (b ∷ bindings) scope h known =
    let p = number_there (space_number t b.namespace) h.0 in
    let own : (bound t b).1 < length t.spaces = subst (λ (n : ℕ). n < length t.spaces) (sym (else_number (space_number t b.namespace) absent_space p.0 p.1)) (within-space_number t b.namespace p.0 p.1) in
    subst (AreKnown t)
    (sym (ap (λ l. l ++ scope) (reverse_onto (map (bound t) bindings) (bound t b) []) ∙ append_assoc (reverse (map (bound t) bindings)) (bound t b ∷ []) scope))
    (scope-known t bindings (bound t b ∷ scope) h.1 (All-cons (λ (c : List ℕ × ℕ). c.1 < length t.spaces) (bound t b) scope own known))

-- ---- by one that has grown

module _ (old new : NameTable) (g : Grown old new) where
  pub texts-kept : (attributes : List Attribute) → HasAttributes old attributes → named_texts new attributes ≡ named_texts old attributes
  texts-kept [] h = refl
  texts-kept (a ∷ attributes) h =
      let own = name_alike old new g a.name h.0 in
      let rest = texts-kept attributes h.1 in
      λ i. record { name = own i; text = a.value } ∷ rest i

  bindings-kept : (bindings : List Binding) → HasBindings old bindings → map (bound new) bindings ≡ map (bound old) bindings
  bindings-kept [] h = refl
  bindings-kept (b ∷ bindings) h =
      let own = space_alike old new g (Some b.namespace) h.0 in
      let rest = bindings-kept bindings h.1 in
      λ i. (b.prefix, own i) ∷ rest i

  pub scope-kept : (bindings : List Binding) (scope : Scope) → HasBindings old bindings → scope_in new bindings scope ≡ scope_in old bindings scope
  scope-kept bindings scope h = ap (λ (bs : Scope). reverse bs ++ scope) (bindings-kept bindings h)

  module _ (sound : IsSound old) where
    pub head-kept : (scope : Scope) (name : Expanded) (bindings : List Binding) (attributes : List Attribute) → HasTag old name bindings attributes → head_of new scope name bindings attributes ≡ head_of old scope name bindings attributes
    head-kept scope name bindings attributes h =
        let own = name_alike old new g name h.own in
        let xsi = ap (λ (ts : List NamedText). instance_text new ts TypeName) (texts-kept attributes h.names)
        ∙ instance-text-kept old new g sound TypeName (named_texts old attributes) (texts-within old attributes h.names) in
        let inner = scope-kept bindings scope h.spaces in
        λ i. record { name = own i; xsi = xsi i; scope = inner i }

    pub heads-kept : (scope : Scope) (f : Forest) → HasNames old f → heads new scope f ≡ heads old scope f
    heads-kept scope none h = refl
    heads-kept scope (text number chars next) h = heads-kept scope next h
    heads-kept scope (element number name bindings attributes children next) h =
        let own = head-kept scope name bindings attributes h.0 in
        let rest = heads-kept scope next h.2 in
        λ i. own i ∷ rest i
