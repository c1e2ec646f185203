-- The elements of a document's tree: no two have one number, none is a member of two, and members come behind what they are in.
use Rattle.std.proofs.Common.{◌≡◌, ℕ, zero, suc, ◌+◌, ◌≤◌, ◌==◌, ◌||◌, ◌⊎◌, inl, inr, Bool, true, false, List, [], ◌∷◌, ◌++◌, Option, None, Some, if◌then◌else◌, slice_get, refl, sym, ap, subst, ◌∙◌, append_assoc, eq-eqb, arith}
use Rattle.std.specs.Option.{option_and_then}
use Rattle.std.proofs.lemmas.Option.{none-some, same_Some}
use Rattle.tag_names.specs.Scopes.{first_scope}
use Rattle.tree_rows.specs.Forest.{Document, Forest, none, text, element}
use Rattle.tree_rows.specs.Whole.{times, HasRoot, IsTree}
use Rattle.tree_rows.specs.declared.name.Expanded.{Expanded}
use Rattle.tree_rows.specs.declared.row.Attribute.{Attribute}
use Rattle.tree_rows.specs.declared.row.Binding.{Binding}
use Rattle.schema_values.specs.GrammarNames.{tag_of}
use Rattle.schema_values.specs.Places.{kind_below, root_kind}
use Rattle.schema_values.specs.Table.{is_in}
use Rattle.schema_values.specs.declared.grammar_kinds.Class.TheVariants as c
use Rattle.schema_values.specs.declared.grammar_kinds.Kind.{Kind}
use Rattle.schema_values.specs.declared.grammar_kinds.Kind.TheVariants as k
use Rattle.schema_values.specs.declared.grammar_kinds.Tag.{Tag}
use Rattle.schema_values.specs.declared.grammar_kinds.Tag.TheVariants as tags
use Rattle.schema_faults.specs.Constructs.{Construct, nearest, constructs}
use Rattle.schema_shape.specs.Shaped.{constructs_of}
use Rattle.schema_shape.specs.Shapes.{shape_of, shapes_of, shapes, declares, member_numbers, schema_form}
use Rattle.schema_shape.specs.declared.forms.Form.TheVariants as forms
use Rattle.schema_shape.specs.declared.forms.SchemaForm.{SchemaForm}
use Rattle.schema_shape.specs.declared.forms.Shape.{Shape}
use Rattle.schema_check.proofs.ListLaws.{split, one_if, count, count-append, counted, counted-once, Nests, nests-append, holds}
use Rattle.schema_set.specs.EffectiveSet.{own_target, form_target}
use Rattle.redefine_originals.specs.declared.versions.Redefinable.{Redefinable}
use Rattle.schema_check.proofs.RedefineKindLaws.{is_inner, is_plain, part-inner, below-part, part-plain, plain-inner, IsSpace, form-space, refers, IsWritten, form-written}

shapes-append : (es more : List Construct) → shapes (es ++ more) ≡ shapes es ++ shapes more
shapes-append [] more = refl
shapes-append (e ∷ es) more = ap (λ (xs : List Shape). shapes_of e ++ xs) (shapes-append es more) ∙ sym (append_assoc (shapes_of e) (shapes es) (shapes more))

-- an element of a forest
abbrev construct-of : Kind → ℕ → List Binding → ℕ → Expanded → List Binding → List Attribute → Forest → Construct
construct-of kind above scope number name bindings attributes children = record {
  item = number;
  kind = kind_below kind (tag_of name);
  above = above;
  bindings = bindings;
  scope = bindings ++ scope;
  attributes = attributes;
  children = children;
}

abbrev pub is_item : ℕ → Shape → Bool
is_item key shape = shape.item == key

abbrev pub has_member : ℕ → Shape → Bool
has_member key shape = holds key shape.members

-- ---- how many elements have a number, and in how many an element stands
if-declared : (test : Shape → Bool) (declared : Bool) (shape : Shape) → count test (if declared then shape ∷ [] else []) ≤ one_if (test shape)
if-declared test true shape = omega arith
if-declared test false shape = omega arith

own-is : (declared : Bool) (shape : Shape) (n : ℕ) (s : Shape) → slice_get (if declared then shape ∷ [] else []) n ≡ Some s → s ≡ shape
own-is true shape zero s at = sym (same_Some shape s at)
own-is true shape (suc n) s at = absurd (none-some s at)
own-is false shape n s at = absurd (none-some s at)

either-few : (annotation : Bool) (number key : ℕ) (numbers : List ℕ) → one_if (holds key (if annotation then numbers else number ∷ numbers)) ≤ one_if (number == key) + one_if (holds key numbers)
either-few true number key numbers = omega arith
either-few false number key numbers = by (number == key)
  where
    by : (b : Bool) → one_if (b || holds key numbers) ≤ one_if b + one_if (holds key numbers)
    by true = omega arith
    by false = omega arith

module _ (kind : Kind) (above : ℕ) (scope : List Binding) (number : ℕ) (name : Expanded) (bindings : List Binding) (attributes : List Attribute) (children next : Forest) where
  abbrev own : Kind
  own = kind_below kind (tag_of name)

  abbrev e : Construct
  e = construct-of kind above scope number name bindings attributes children

  abbrev below : List Shape
  below = shapes (constructs own (nearest above number bindings) (bindings ++ scope) children)

  abbrev beside : List Shape
  beside = shapes (constructs kind above scope next)

  laid : shapes (constructs kind above scope (element number name bindings attributes children next)) ≡ shapes_of e ++ (below ++ beside)
  laid = ap (λ (xs : List Shape). shapes_of e ++ xs) (shapes-append (constructs own (nearest above number bindings) (bindings ++ scope) children) (constructs kind above scope next))

  total : (test : Shape → Bool) → count test (shapes (constructs kind above scope (element number name bindings attributes children next))) ≤ one_if (test (shape_of e)) + (count test below + count test beside)
  total test =
      let all : count test (shapes (constructs kind above scope (element number name bindings attributes children next))) ≡ count test (shapes_of e) + count test (below ++ beside) =
      ap (count test) laid ∙ count-append test (shapes_of e) (below ++ beside) in
      let inner = count-append test below beside in
      let first = if-declared test (declares own) (shape_of e) in
      omega (arith, all, inner, first)

items-few : (key : ℕ) (f : Forest) (kind : Kind) (above : ℕ) (scope : List Binding) → count (is_item key) (shapes (constructs kind above scope f)) ≤ times key f
items-few key none kind above scope = omega arith
items-few key (text number chars next) kind above scope = let rest = items-few key next kind above scope in omega (arith, rest)
items-few key (element number name bindings attributes children next) kind above scope =
    let own = kind_below kind (tag_of name) in
    let all = total kind above scope number name bindings attributes children next (is_item key) in
    let inner = items-few key children own (nearest above number bindings) (bindings ++ scope) in
    let others = items-few key next kind above scope in
    omega (arith, all, inner, others)

members-few : (key : ℕ) (f : Forest) (kind : Kind) (above : ℕ) (scope : List Binding) → one_if (holds key (member_numbers f)) + count (has_member key) (shapes (constructs kind above scope f)) ≤ times key f
members-few key none kind above scope = omega arith
members-few key (text number chars next) kind above scope = let rest = members-few key next kind above scope in omega (arith, rest)
members-few key (element number name bindings attributes children next) kind above scope =
    let own = kind_below kind (tag_of name) in
    let all = total kind above scope number name bindings attributes children next (has_member key) in
    let first = either-few (is_in c.Annotation (tag_of name)) number key (member_numbers next) in
    let inner = members-few key children own (nearest above number bindings) (bindings ++ scope) in
    let others = members-few key next kind above scope in
    omega (arith, all, first, inner, others)

-- ---- what stands in an element is behind it
abbrev pub Holds : Shape → Shape → Type 0
Holds s x = has_member x.item s ≡ true

-- nor is it a redefine, unless the element is the schema
abbrev pub StaysPlain : Shape → Shape → Type 0
StaysPlain s x = is_plain s.form ≡ true → is_plain x.form ≡ true

parts-plain : (f : Forest) (kind : Kind) (above : ℕ) (scope : List Binding) → is_inner kind ≡ true → (n : ℕ) (s : Shape) → slice_get (shapes (constructs kind above scope f)) n ≡ Some s → is_plain s.form ≡ true
parts-plain none kind above scope inner n s at = absurd (none-some s at)
parts-plain (text number chars next) kind above scope inner n s at = parts-plain next kind above scope inner n s at
parts-plain (element number name bindings attributes children next) kind above scope inner n s at =
    let own = kind_below kind (tag_of name) in
    let e = construct-of kind above scope number name bindings attributes children in
    let below = shapes (constructs own (nearest above number bindings) (bindings ++ scope) children) in
    let beside = shapes (constructs kind above scope next) in
    let part = below-part kind (tag_of name) inner in
    let there : slice_get (shapes_of e ++ (below ++ beside)) n ≡ Some s = ap (λ (xs : List Shape). slice_get xs n) (sym (laid kind above scope number name bindings attributes children next)) ∙ at in
    elim (split (shapes_of e) (below ++ beside) n s there) [
      | inl first ↦ subst (λ (x : Shape). is_plain x.form ≡ true) (sym (own-is (declares own) (shape_of e) n s first)) (part-plain (bindings ++ scope) attributes own part)
      | inr rest ↦ elim (split below beside rest.0 s rest.2) [
        | inl one ↦ parts-plain children own (nearest above number bindings) (bindings ++ scope) (part-inner own part) rest.0 s one
        | inr other ↦ parts-plain next kind above scope inner other.0 s other.2
      ]
    ]

module _ (kind : Kind) (above : ℕ) (scope : List Binding) (number : ℕ) (name : Expanded) (bindings : List Binding) (attributes : List Attribute) (children next : Forest)
    (differ : (key : ℕ) → times key (element number name bindings attributes children next) ≤ 1)
  where
    abbrev itself : Construct
    itself = construct-of kind above scope number name bindings attributes children

    abbrev inner : List Shape
    inner = shapes (constructs (kind_below kind (tag_of name)) (nearest above number bindings) (bindings ++ scope) children)

    abbrev others : List Shape
    others = shapes (constructs kind above scope next)

    in-inner : (key m : ℕ) (s : Shape) → slice_get inner m ≡ Some s → has_member key s ≡ true → 1 ≤ times key children
    in-inner key m s at held =
        let some = counted (has_member key) inner m s at held in
        let few = members-few key children (kind_below kind (tag_of name)) (nearest above number bindings) (bindings ++ scope) in
        omega (arith, some, few)

    in-others : (key m : ℕ) (s : Shape) → slice_get others m ≡ Some s → has_member key s ≡ true → 1 ≤ times key next
    in-others key m s at held =
        let some = counted (has_member key) others m s at held in
        let few = members-few key next kind above scope in
        omega (arith, some, few)

    of-inner : (n : ℕ) (x : Shape) → slice_get inner n ≡ Some x → 1 ≤ times x.item children
    of-inner n x at =
        let some = counted (is_item x.item) inner n x at (eq-eqb x.item x.item refl) in
        let few = items-few x.item children (kind_below kind (tag_of name)) (nearest above number bindings) (bindings ++ scope) in
        omega (arith, some, few)

    of-others : (n : ℕ) (x : Shape) → slice_get others n ≡ Some x → 1 ≤ times x.item next
    of-others n x at =
        let some = counted (is_item x.item) others n x at (eq-eqb x.item x.item refl) in
        let few = items-few x.item next kind above scope in
        omega (arith, some, few)

    own-one : one_if (number == number) ≡ 1
    own-one = ap one_if (eq-eqb number number refl)

    child-one : (key : ℕ) → holds key (member_numbers children) ≡ true → 1 ≤ times key children
    child-one key held =
        let some : one_if (holds key (member_numbers children)) ≡ 1 = ap one_if held in
        let few = members-few key children (kind_below kind (tag_of name)) (nearest above number bindings) (bindings ++ scope) in
        omega (arith, some, few)

    own-nested : Nests Holds StaysPlain (shapes_of itself)
    own-nested m n s x one other held =
        let is_s = own-is (declares (kind_below kind (tag_of name))) (shape_of itself) m s one in
        let is_x = own-is (declares (kind_below kind (tag_of name))) (shape_of itself) n x other in
        let own : holds number (member_numbers children) ≡ true = ap (λ (t : Shape). holds t.item (member_numbers children)) (sym is_x) ∙ ap (λ (t : Shape). has_member x.item t) (sym is_s) ∙ held in
        absurd (omega (arith, differ number, own-one, child-one number own))

    across : (m n : ℕ) (s x : Shape) → slice_get (shapes_of itself) m ≡ Some s → slice_get (inner ++ others) n ≡ Some x → Holds s x → StaysPlain s x
    across m n s x one other held plain =
        let is_s = own-is (declares (kind_below kind (tag_of name))) (shape_of itself) m s one in
        let own : holds x.item (member_numbers children) ≡ true = ap (λ (t : Shape). has_member x.item t) (sym is_s) ∙ held in
        elim (split inner others n x other) [
          | inl child ↦ parts-plain children (kind_below kind (tag_of name)) (nearest above number bindings) (bindings ++ scope)
              (plain-inner (bindings ++ scope) attributes kind (tag_of name) (ap (λ (t : Shape). is_plain t.form) (sym is_s) ∙ plain)) n x child
          | inr beside ↦ absurd (omega (arith, differ x.item, child-one x.item own, of-others beside.0 x beside.2))
        ]

    never : (m n : ℕ) (s x : Shape) → slice_get (inner ++ others) m ≡ Some s → slice_get (shapes_of itself) n ≡ Some x → Holds s x → ⊥
    never m n s x one other held =
        let is_x = own-is (declares (kind_below kind (tag_of name))) (shape_of itself) n x other in
        let item : x.item ≡ number = ap (λ (t : Shape). t.item) is_x in
        let own : has_member number s ≡ true = ap (λ (key : ℕ). has_member key s) (sym item) ∙ held in
        elim (split inner others m s one) [
          | inl child ↦ omega (arith, differ number, own-one, in-inner number m s child own)
          | inr beside ↦ omega (arith, differ number, own-one, in-others number beside.0 s beside.2 own)
        ]

    element-nested : Nests Holds StaysPlain inner → Nests Holds StaysPlain others → Nests Holds StaysPlain (shapes_of itself ++ (inner ++ others))
    element-nested below beside =
        nests-append Holds StaysPlain (shapes_of itself) (inner ++ others) own-nested
        (nests-append Holds StaysPlain inner others below beside
        (λ m n s x one other held. absurd (omega (arith, differ x.item, in-inner x.item m s one held, of-others n x other)))
        (λ m n s x one other held. omega (arith, differ x.item, in-others x.item m s one held, of-inner n x other)))
        across never

nested : (f : Forest) (kind : Kind) (above : ℕ) (scope : List Binding) → ((key : ℕ) → times key f ≤ 1) → Nests Holds StaysPlain (shapes (constructs kind above scope f))
nested none kind above scope differ = λ m n s x one other held. absurd (none-some s one)
nested (text number chars next) kind above scope differ = nested next kind above scope (λ key. let few = differ key in omega (arith, few))
nested (element number name bindings attributes children next) kind above scope differ =
    subst (Nests Holds StaysPlain) (sym (laid kind above scope number name bindings attributes children next))
    (element-nested kind above scope number name bindings attributes children next differ
    (nested children (kind_below kind (tag_of name)) (nearest above number bindings) (bindings ++ scope) (λ key. let few = differ key in omega (arith, few)))
    (nested next kind above scope (λ key. let few = differ key in omega (arith, few))))

-- ---- the root
-- the first element is a schema
abbrev pub BeginsWithSchema : List Shape → Type 0
BeginsWithSchema list = (first : Shape) × (rest : List Shape) × (schema : SchemaForm) × (list ≡ first ∷ rest) × (first.form ≡ forms.Schema schema)

-- no element declares anything
abbrev pub DeclaresNothing : List Shape → Type 0
DeclaresNothing list = (n : ℕ) (s : Shape) → slice_get list n ≡ Some s → s.form ≡ forms.Nothing

root-is : (tag : Tag) → (root_kind tag ≡ k.Schema) ⊎ (root_kind tag ≡ k.NoSchema)
root-is tags.Schema = inl refl
root-is _ = inr refl

ignored-none : (f : Forest) (above : ℕ) (scope : List Binding) → shapes (constructs k.Ignored above scope f) ≡ []
ignored-none none above scope = refl
ignored-none (text number chars next) above scope = ignored-none next above scope
ignored-none (element number name bindings attributes children next) above scope =
    laid k.Ignored above scope number name bindings attributes children next
    ∙ ap (λ (xs : List Shape). xs ++ shapes (constructs k.Ignored above scope next)) (ignored-none children (nearest above number bindings) (bindings ++ scope)) ∙ ignored-none next above scope

no-schema-none : (f : Forest) (above : ℕ) (scope : List Binding) → shapes (constructs k.NoSchema above scope f) ≡ []
no-schema-none none above scope = refl
no-schema-none (text number chars next) above scope = no-schema-none next above scope
no-schema-none (element number name bindings attributes children next) above scope =
    laid k.NoSchema above scope number name bindings attributes children next
    ∙ ap (λ (xs : List Shape). xs ++ shapes (constructs k.NoSchema above scope next)) (ignored-none children (nearest above number bindings) (bindings ++ scope)) ∙ no-schema-none next above scope

module _ (number : ℕ) (bindings : List Binding) (attributes : List Attribute) (children : Forest) where
  -- a root of this kind
  abbrev root_of : Kind → Construct
  root_of kind = record { item = number; kind = kind; above = 0; bindings = bindings; scope = bindings ++ first_scope; attributes = attributes; children = children }

  abbrev root_shapes : Kind → List Shape
  root_shapes kind = shapes (root_of kind ∷ (constructs kind (nearest 0 number bindings) (bindings ++ first_scope) children ++ []))

  abbrev IsRooted : Kind → Type 0
  IsRooted kind = BeginsWithSchema (root_shapes kind) ⊎ DeclaresNothing (root_shapes kind)

  nothing-more : shapes (constructs k.NoSchema (nearest 0 number bindings) (bindings ++ first_scope) children ++ []) ≡ []
  nothing-more =
      shapes-append (constructs k.NoSchema (nearest 0 number bindings) (bindings ++ first_scope) children) []
      ∙ ap (λ (xs : List Shape). xs ++ []) (no-schema-none children (nearest 0 number bindings) (bindings ++ first_scope))

  declares-nothing : DeclaresNothing (root_shapes k.NoSchema)
  declares-nothing zero s at = ap (λ (t : Shape). t.form) (sym (same_Some (shape_of (root_of k.NoSchema)) s at))
  declares-nothing (suc n) s at = absurd (none-some s (ap (λ (xs : List Shape). slice_get xs n) (sym nothing-more) ∙ at))

  rooted : (kind : Kind) → (kind ≡ k.Schema) ⊎ (kind ≡ k.NoSchema) → IsRooted kind
  rooted kind (inl is) =
      subst IsRooted (sym is)
      (inl (shape_of (root_of k.Schema), shapes (constructs k.Schema (nearest 0 number bindings) (bindings ++ first_scope) children ++ []), schema_form attributes, refl, refl))
  rooted kind (inr is) = subst IsRooted (sym is) (inr declares-nothing)

tree-root : (f : Forest) → HasRoot f → BeginsWithSchema (shapes (constructs_of f)) ⊎ DeclaresNothing (shapes (constructs_of f))
tree-root none root = absurd root
tree-root (text number chars next) root = absurd root
tree-root (element number name bindings attributes children next) root =
    subst (λ (beside : Forest). BeginsWithSchema (shapes (constructs_of (element number name bindings attributes children beside))) ⊎ DeclaresNothing (shapes (constructs_of (element number name bindings attributes children beside))))
    (sym root.1) (rooted number bindings attributes children (root_kind (tag_of name)) (root-is (tag_of name)))

-- ---- the elements of a document
shape-of : (es : List Construct) (n : ℕ) (s : Shape) → slice_get (shapes es) n ≡ Some s → (e : Construct) × (s ≡ shape_of e)
shape-of [] n s at = absurd (none-some s at)
shape-of (e ∷ es) n s at = elim (split (shapes_of e) (shapes es) n s at) [
  | inl own ↦ (e, own-is (declares e.kind) (shape_of e) n s own)
  | inr later ↦ shape-of es later.0 s later.2
]

-- what is so of the elements of a document's tree
pub record AreElements (list : List Shape) : Type 0 where
  pub items : (key : ℕ) → count (is_item key) list ≤ 1
  pub members : (key : ℕ) → count (has_member key) list ≤ 1
  pub nested : Nests Holds StaysPlain list
  pub root : BeginsWithSchema list ⊎ DeclaresNothing list
  pub written : (n : ℕ) (s : Shape) (of : Redefinable) (name : Expanded) → slice_get list n ≡ Some s → refers s.form ≡ Some (of, name) → IsWritten name

pub elements-of : (tree : Document) → IsTree tree → AreElements (shapes (constructs_of tree.forest))
elements-of tree is = record {
  items = λ key. let few = items-few key tree.forest k.Document 0 first_scope in let one = is.differ key in omega (arith, few, one);
  members = λ key. let few = members-few key tree.forest k.Document 0 first_scope in let one = is.differ key in omega (arith, few, one);
  nested = nested tree.forest k.Document 0 first_scope is.differ;
  root = tree-root tree.forest is.root;
  written = λ n s of name at to.
      let e = shape-of (constructs_of tree.forest) n s at in
      form-written e.0.scope e.0.attributes e.0.kind of name (ap (λ (t : Shape). refers t.form) (sym e.1) ∙ to);
}

-- the target namespace that a document says
pub target-space : (es : List Construct) → IsSpace (own_target (shapes es))
target-space es = by (slice_get (shapes es) 0) (shape-of es 0)
  where
    by : (o : Option Shape) → ((s : Shape) → o ≡ Some s → (e : Construct) × (s ≡ shape_of e)) → IsSpace (option_and_then (λ (s : Shape). form_target s.form) o)
    by None each = tt
    by (Some s) each = let e = each s refl in subst (λ (t : Shape). IsSpace (form_target t.form)) (sym e.1) (form-space e.0.scope e.0.attributes e.0.kind)

module _ (list : List Shape) (are : AreElements list) where
  pub one-item : (m n : ℕ) (s x : Shape) → slice_get list m ≡ Some s → slice_get list n ≡ Some x → s.item ≡ x.item → m ≡ n
  one-item m n s x one other same = counted-once (is_item x.item) list (are.items x.item) m n s x one other (eq-eqb s.item x.item same) (eq-eqb x.item x.item refl)

  pub one-parent : (key m n : ℕ) (s x : Shape) → slice_get list m ≡ Some s → slice_get list n ≡ Some x → has_member key s ≡ true → has_member key x ≡ true → m ≡ n
  one-parent key m n s x one other is are_in = counted-once (has_member key) list (are.members key) m n s x one other is are_in
