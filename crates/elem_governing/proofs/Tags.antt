-- The names of a start tag, one after another.
use Rattle.std.proofs.Common.{◌≡◌, ℕ, zero, suc, ◌+◌, ◌<◌, List, [], ◌∷◌, ◌++◌, Option, Some, None, length, map, drop, get_or, reverse, refl, sym, ap, subst, ◌∙◌, arith, append_assoc}
use Rattle.std.specs.Prelude.{IsSome, All}
use Rattle.std.proofs.lemmas.Grind.{reverse_onto}
use Rattle.std.proofs.lemmas.List.Elements.{All-nil, All-cons}
use Rattle.xs_names.specs.Names.{NameTable, space_number}
use Rattle.xs_names.proofs.GrownLaws.{within-space_number}
use Rattle.tree_rows.specs.declared.name.Expanded.{Expanded}
use Rattle.tree_rows.specs.declared.row.Attribute.{Attribute}
use Rattle.tree_rows.specs.declared.row.Binding.{Binding}
use Rattle.assess_records.specs.declared.shape.NamedText.{NamedText}
use Rattle.elem_governing.specs.View.{AreKnown}
use Rattle.assess_records.specs.Numbered.{Scope, space_in, bound, scope_in, named_text, named_texts, name_in}
use Rattle.plain_tree.specs.Found.{HasName, HasBindings, HasAttributes, HasTag}
use Rattle.plain_tree.proofs.Numbers.{number_there, else_number, name_within}
use Rattle.plain_tree.proofs.RowLaws.{drop_next}
use Rattle.assess_records.specs.Instance.{instance_text}
use Rattle.assess_records.specs.declared.instance_names.InstanceAttribute.TheVariants.{TypeName}
use Rattle.elem_governing.specs.Heads.{IsHead}
use Rattle.elem_governing.specs.declared.head.ElementHead.{ElementHead}

-- ---- bindings

binding_at : (t : NameTable) (bs : List Binding) (i : ℕ) (b : Binding) → HasBindings t bs → i < length bs → b ≡ get_or bs i b → IsSome (space_number t b.namespace)
binding_at t [] i b h lt is = absurd (omega (arith, lt))
binding_at t (c ∷ bs) zero b h lt is = subst (λ (d : Binding). IsSome (space_number t d.namespace)) (sym is) h.0
binding_at t (c ∷ bs) (suc i) b h lt is = binding_at t bs i b h.1 (omega (arith, lt)) is

pub space_asked : (t u : NameTable) (bs : List Binding) (i : ℕ) (b : Binding) (space : List ℕ) → u ≡ t → HasBindings t bs → i < length bs → b ≡ get_or bs i b → space ≡ b.namespace → IsSome (space_number u space)
space_asked t u bs i b space same h lt is asked =
    subst (λ v. IsSome (space_number v space)) (sym same) (subst (λ x. IsSome (space_number t x)) (sym asked) (binding_at t bs i b h lt is))

-- one binding more in the scope
scope_more : (t : NameTable) (b : Binding) (bs : List Binding) (scope : Scope) → scope_in t (b ∷ bs) scope ≡ scope_in t bs (bound t b ∷ scope)
scope_more t b bs scope =
    ap (λ l. l ++ scope) (reverse_onto (map (bound t) bs) (bound t b) [])
    ∙ append_assoc (reverse (map (bound t) bs)) (bound t b ∷ []) scope

pub scope_next : (t u : NameTable) (bs : List Binding) (i : ℕ) (b : Binding) (scope new : Scope) (space prefix : List ℕ) (n : ℕ) → u ≡ t → i < length bs → b ≡ get_or bs i b
    → space ≡ b.namespace → prefix ≡ b.prefix → n ≡ space_in u (Some space) → new ≡ (prefix, n) ∷ scope → scope_in t (drop (i + 1) bs) new ≡ scope_in t (drop i bs) scope
scope_next t u bs i b scope new space prefix n same lt is asked first number e =
    let one : (prefix, n) ≡ bound t b =
    ap (λ p. (p, n)) first ∙ ap (λ m. (b.prefix, m)) (number ∙ ap (λ v. space_in v (Some space)) same ∙ ap (λ x. space_in t (Some x)) asked) in
    ap (scope_in t (drop (i + 1) bs)) (e ∙ ap (λ p. p ∷ scope) one)
    ∙ sym (scope_more t b (drop (i + 1) bs) scope) ∙ ap (λ l. scope_in t l scope) (sym (drop_next bs i b lt is))

-- the namespaces of the scope are known
bound_known : (t : NameTable) (bs : List Binding) (scope : Scope) → HasBindings t bs → AreKnown t scope → AreKnown t (scope_in t bs scope)
bound_known t [] scope h known = known
bound_known t (b ∷ bs) scope h known =
    let p = number_there (space_number t b.namespace) h.0 in
    subst (AreKnown t) (sym (scope_more t b bs scope))
    (bound_known t bs (bound t b ∷ scope) h.1
    (All-cons (λ (c : List ℕ × ℕ). c.1 < length t.spaces) (bound t b) scope (subst (λ n. n < length t.spaces) (sym (else_number (space_number t b.namespace) 0 p.0 p.1)) (within-space_number t b.namespace p.0 p.1)) known))

-- ---- attributes

attribute_at : (t : NameTable) (given : List Attribute) (i : ℕ) (a : Attribute) → HasAttributes t given → i < length given → a ≡ get_or given i a → HasName t a.name
attribute_at t [] i a h lt is = absurd (omega (arith, lt))
attribute_at t (c ∷ given) zero a h lt is = subst (λ (d : Attribute). HasName t d.name) (sym is) h.0
attribute_at t (c ∷ given) (suc i) a h lt is = attribute_at t given i a h.1 (omega (arith, lt)) is

pub name_asked : (t u : NameTable) (given : List Attribute) (i : ℕ) (a : Attribute) → u ≡ t → HasAttributes t given → i < length given → a ≡ get_or given i a → HasName u a.name
name_asked t u given i a same h lt is = subst (λ v. HasName v a.name) (sym same) (attribute_at t given i a h lt is)

pub attrs_next : (t u : NameTable) (given : List Attribute) (i : ℕ) (a : Attribute) (made new : List NamedText) (x : NamedText) → u ≡ t → i < length given → a ≡ get_or given i a → x ≡ named_text u a
    → new ≡ made ++ x ∷ [] → new ++ named_texts t (drop (i + 1) given) ≡ made ++ named_texts t (drop i given)
attrs_next t u given i a made new x same lt is named e =
    ap (λ l. l ++ named_texts t (drop (i + 1) given)) e ∙ append_assoc made (x ∷ []) (named_texts t (drop (i + 1) given))
    ∙ ap (λ y. made ++ y ∷ named_texts t (drop (i + 1) given)) (named ∙ ap (λ v. named_text v a) same) ∙ ap (λ l. made ++ named_texts t l) (sym (drop_next given i a lt is))

-- their names are numbers of the table
texts_named : (t : NameTable) (given : List Attribute) → HasAttributes t given → All (λ (a : NamedText). a.name < length t.names) (named_texts t given)
texts_named t [] h = All-nil (λ (a : NamedText). a.name < length t.names)
texts_named t (a ∷ given) h =
    All-cons (λ (a : NamedText). a.name < length t.names) (named_text t a) (named_texts t given) (name_within t a.name h.0) (texts_named t given h.1)

-- ---- a head by its parts

pub head : (t u v : NameTable) (outer : Scope) (name : Expanded) (bindings : List Binding) (attributes : List Attribute) (h : ElementHead) → HasTag t name bindings attributes → u ≡ t → v ≡ t
    → h.name ≡ name_in v name → h.attrs ≡ named_texts u attributes → h.scope ≡ scope_in t bindings outer → IsHead t outer name bindings attributes h
head t u v outer name bindings attributes h has same later name_is attrs_are scope_is =
    let named = name_is ∙ ap (λ w. name_in w name) later in
    let attrs = attrs_are ∙ ap (λ w. named_texts w attributes) same in
    record {
      head_is =
          ap (λ n. record { name = n; xsi = instance_text t h.attrs TypeName; scope = h.scope }) named
          ∙ ap (λ l. record { name = name_in t name; xsi = instance_text t l TypeName; scope = h.scope }) attrs
          ∙ ap (λ s. record { name = name_in t name; xsi = instance_text t (named_texts t attributes) TypeName; scope = s }) scope_is;
      attrs_are = attrs;
      named = subst (λ l. All (λ (a : NamedText). a.name < length t.names) l) (sym attrs) (texts_named t attributes has.names);
      known = λ known. subst (AreKnown t) (sym scope_is) (bound_known t bindings outer has.spaces known);
    }
