-- Declarations have the same properties where they have one key.
use Rattle.std.proofs.Common.{◌≡◌, ℕ, inl, inr, Bool, true, false, Option, None, Some, Result, Ok, Err, length, slice_get, refl, sym, ap, ◌∙◌, subst}
use Rattle.std.proofs.lemmas.Option.{same_Some}
use Rattle.xs_codes.specs.declared.code.Code.{Code}
use Rattle.xs_components.specs.Tables.{Tables}
use Rattle.xs_components.specs.declared.common.TypeId.{TypeId}
use Rattle.xs_components.specs.declared.common.ValueConstraint.{ValueConstraint}
use Rattle.xs_components.specs.declared.element.ElementDecl.{ElementDecl}
use Rattle.component_references.specs.Heights.{IsType}
use Rattle.component_tables.specs.ContentTypes.{content_of}
use Rattle.component_tables.specs.declared.content_types.ContentType.{ContentType}
use Rattle.component_tables.specs.declared.content_types.ContentType.TheVariants.{SimpleType, Empty, SimpleContent, ElementOnly, Mixed}
use Rattle.component_tables.specs.Types.{type_of}
use Rattle.simple_values.specs.Same.{key_value}
use Rattle.simple_values.specs.declared.key.Key.{Key}
use Rattle.simple_values.specs.declared.value.Value.{Value}
use Rattle.simple_values.proofs.Keys.{key_is, key_back}
use Rattle.simple_types.specs.Trees.{type_tree}
use Rattle.simple_types.specs.SimpleTypes.{IsValueOf, IsWhole}
use Rattle.simple_types.specs.declared.types.SimpleTypes.{SimpleTypes}
use Rattle.simple_types.proofs.Valid.{one-outcome}
use Rattle.element_declarations.specs.Classes.{AreSameConstraints, AreAlike}
use Rattle.element_declarations.specs.Values.{text_type, read_type, HasValue, outcome_key, IsTextKey}
use Rattle.element_declarations.specs.declared.properties.Properties.{Properties}
use Rattle.element_declarations.specs.declared.values.ValueKey.{ValueKey}
use Rattle.element_declarations.specs.declared.values.ValueKey.TheVariants.{Absent}
use Rattle.element_declarations.specs.inside.Keys.{AreRead, key_with, constraint_key, IsReadKey, IsConstraintKey, IsValueKey, HasNoConstraints, joined, HasKey, IsKeyOf}

-- the literals of the type by which a text is read are known
pub text-whole : (t : Tables) (types : SimpleTypes) → AreRead t types → (of : TypeId) → IsType t of → (content : ContentType) → content_of t of ≡ content → IsWhole types (text_type of content)
text-whole t types read of there SimpleType e = read.whole of there (inl e)
text-whole t types read of there SimpleContent e = read.whole of there (inr e)
text-whole t types read of there Empty e = refl
text-whole t types read of there ElementOnly e = refl
text-whole t types read of there Mixed e = refl

not-refused : (value : Value) (code : Code) (r : Result Value Code) → r ≡ Ok value → r ≡ Err code → ⊥
not-refused value code r e f = cc

same-ok : (x y : Value) (r : Result Value Code) → r ≡ Ok x → r ≡ Ok y → x ≡ y
same-ok x y r e f = cc

key-same : (f g : Bool) (a b : Key) → key_with f a ≡ key_with g b → (f ≡ g) × (a ≡ b)
key-same true true a b e = let p : a ≡ b = cc in (refl, p)
key-same false false a b e = let p : a ≡ b = cc in (refl, p)
key-same true false a b e = cc
key-same false true a b e = cc

key-there : (f : Bool) (a : Key) → Absent ≡ key_with f a → ⊥
key-there true a e = cc
key-there false a e = cc

module _ (t : Tables) (element : ℕ) where
  pub one-value : (constraint : ValueConstraint) (x y : Value) → HasValue t element constraint x → HasValue t element constraint y → x ≡ y
  one-value constraint x y h g =
      same-ok x y (Ok x) refl (one-outcome t (read_type t element) constraint.scope constraint.text (Ok x) (Ok y) h g)

  by-outcome : (constraint : ValueConstraint) (outcome : Result Value Code) →
      IsValueOf (type_tree t (read_type t element)) constraint.scope constraint.text outcome →
      IsReadKey t element constraint (constraint_key constraint.fixed (outcome_key outcome))
  by-outcome constraint (Ok value) read = (value, read, refl)
  by-outcome constraint (Err code) read = λ value h. not-refused value code (Ok value) refl (one-outcome t (read_type t element) constraint.scope constraint.text (Ok value) (Err code) h read)

  -- the key of its text is that of the constraint
  pub read-key : (constraint : ValueConstraint) (key : Option Key) → IsTextKey t (read_type t element) constraint key → IsReadKey t element constraint (constraint_key constraint.fixed key)
  read-key constraint key x = subst (λ (k : Option Key). IsReadKey t element constraint (constraint_key constraint.fixed k)) (sym x.2) (by-outcome constraint x.0 x.1)

  -- a constraint has one key
  one-constraint-key : (constraint : Option ValueConstraint) (a b : ValueKey) → IsConstraintKey t element constraint (Some a) → IsConstraintKey t element constraint (Some b) → a ≡ b
  one-constraint-key None a b x y = same_Some a b (x ∙ sym y)
  one-constraint-key (Some constraint) a b x y =
      x.2 ∙ (ap (λ (v : Value). key_with constraint.fixed (key_value v)) (one-value constraint x.0 y.0 x.1 y.1) ∙ sym y.2)

  no-key : (constraint : Option ValueConstraint) (key : ValueKey) → IsConstraintKey t element constraint None → IsConstraintKey t element constraint (Some key) → ⊥
  no-key None key x y = absurd (none-is Absent x)
    where
      none-is : (k : ValueKey) → None ≡ Some k → ⊥
      none-is k e = cc
  no-key (Some constraint) key x y = x y.0 y.1

  -- a declaration has one key
  pub one-key : (a b : Properties) → HasKey t element a → HasKey t element b → a ≡ b
  one-key a b x y =
      let part : x.part ≡ y.part = same_Some x.part y.part (sym x.is ∙ y.is) in
      let value : x.value ≡ y.value = one-constraint-key y.part.value x.value y.value (subst (λ (p : ElementDecl). IsConstraintKey t element p.value (Some x.value)) part x.read) y.read in
      x.joins ∙ (ap (λ (p : ElementDecl). joined p (type_of t element) x.value) part ∙ (ap (λ (v : ValueKey). joined y.part (type_of t element) v) value ∙ sym y.joins))

  -- of a declaration that was looked up
  pub key-of : (value : Option ValueKey) → HasNoConstraints t element → IsValueKey t element value → (v : ValueKey) → value ≡ Some v → (part : ElementDecl) → slice_get t.elements.parts element ≡ Some part →
      HasKey t element (joined part (type_of t element) v)
  key-of value free is v e part at =
      let same : is.part ≡ part = same_Some is.part part (sym is.is ∙ at) in
      let read : IsConstraintKey t element part.value (Some v) =
      subst (λ (p : ElementDecl). IsConstraintKey t element p.value (Some v)) same (subst (λ (o : Option ValueKey). IsConstraintKey t element is.part.value o) e is.read) in
      record { part = part; value = v; is = at; free = free part at; read = read; joins = refl }

  pub no-key-of : (value : Option ValueKey) → IsValueKey t element value → value ≡ None → IsKeyOf t element None
  no-key-of value is e key has =
      let same : is.part ≡ has.part = same_Some is.part has.part (sym is.is ∙ has.is) in
      no-key has.part.value has.value (subst (λ (p : ElementDecl). IsConstraintKey t element p.value None) same (subst (λ (o : Option ValueKey). IsConstraintKey t element is.part.value o) e is.read)) has.read

  -- it has identity constraints
  pub not-free : (part : ElementDecl) → slice_get t.elements.parts element ≡ Some part → (length part.constraints ≡ 0 → ⊥) → IsKeyOf t element None
  not-free part at some key has = some (subst (λ (p : ElementDecl). length p.constraints ≡ 0) (same_Some has.part part (sym has.is ∙ at)) has.free)

module _ (t : Tables) (a b : ℕ) where
  same-constraints : (x y : Option ValueConstraint) (key : ValueKey) → IsConstraintKey t a x (Some key) → IsConstraintKey t b y (Some key) → AreSameConstraints t a b x y
  same-constraints None None key h g = tt
  same-constraints None (Some y) key h g = key-there y.fixed (key_value g.0) (same_Some _ _ (sym h) ∙ g.2)
  same-constraints (Some x) None key h g = key-there x.fixed (key_value h.0) (same_Some _ _ (sym g) ∙ h.2)
  same-constraints (Some x) (Some y) key h g =
      let one = key-same x.fixed y.fixed (key_value h.0) (key_value g.0) (sym h.2 ∙ g.2) in
      (one.0, h.0, g.0, h.1, g.1, key_back h.0 g.0 one.1)

  -- with one key they have the same properties
  pub alike-by : (key : Properties) → HasKey t a key → HasKey t b key → AreAlike t a b
  alike-by key x y =
      let e : joined x.part (type_of t a) x.value ≡ joined y.part (type_of t b) y.value = sym x.joins ∙ y.joins in
      let value : x.value ≡ y.value = ap (λ (p : Properties). p.value) e in
      record {
        one = x.part;
        other = y.part;
        is_one = x.is;
        is_other = y.is;
        name = ap (λ (p : Properties). p.name) e;
        of = ap (λ (p : Properties). p.of) e;
        value = same-constraints x.part.value y.part.value y.value (subst (λ (v : ValueKey). IsConstraintKey t a x.part.value (Some v)) value x.read) y.read;
        nillable = ap (λ (p : Properties). p.nillable) e;
        is_abstract = ap (λ (p : Properties). p.is_abstract) e;
        finals = ap (λ (p : Properties). p.finals) e;
        blocks = ap (λ (p : Properties). p.blocks) e;
        none = x.free;
        none_other = y.free;
      }

  -- the key of both constraints
  pub record SharedKey (x y : Option ValueConstraint) : Type 0 where
    pub key : ValueKey
    pub one : IsConstraintKey t a x (Some key)
    pub other : IsConstraintKey t b y (Some key)

  shared-key : (x y : Option ValueConstraint) → AreSameConstraints t a b x y → SharedKey x y
  shared-key None None s = record { key = Absent; one = refl; other = refl }
  shared-key None (Some y) s = absurd s
  shared-key (Some x) None s = absurd s
  shared-key (Some x) (Some y) (fixed, v, w, has, had, same_values) = record {
    key = key_with x.fixed (key_value v);
    one = (v, has, refl);
    other = (w, had, ap (λ (f : Bool). key_with f (key_value v)) fixed ∙ ap (key_with y.fixed) (key_is v w same_values));
  }

  -- the key of both declarations
  pub record BothHave : Type 0 where
    pub key : Properties
    pub one : HasKey t a key
    pub other : HasKey t b key

  pub key-shared : AreAlike t a b → BothHave
  key-shared s =
      let k = shared-key s.one.value s.other.value s.value in
      let name = s.name in
      let of = s.of in
      let nillable = s.nillable in
      let is_abstract = s.is_abstract in
      let finals = s.finals in
      let blocks = s.blocks in
      let same : joined s.one (type_of t a) k.key ≡ joined s.other (type_of t b) k.key =
      λ i. record { name = name i; of = of i; value = k.key; nillable = nillable i; is_abstract = is_abstract i; finals = finals i; blocks = blocks i } in
      record {
        key = joined s.one (type_of t a) k.key;
        one = record { part = s.one; value = k.key; is = s.is_one; free = s.none; read = k.one; joins = refl };
        other = record { part = s.other; value = k.key; is = s.is_other; free = s.none_other; read = k.other; joins = same };
      }
