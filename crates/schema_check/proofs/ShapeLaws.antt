-- What an element without a fault represents stands as it should.
use Rattle.std.proofs.Common.{◌≡◌, ℕ, Bool, true, false, List, [], ◌∷◌, Option, None, Some, All, map, refl, sym, ap, subst, ◌∙◌, true≢false}
use Rattle.std.specs.List.{list_any}
use Rattle.std.proofs.lemmas.List.Elements.{All-weaker}
use Rattle.tree_rows.specs.Forest.{Forest}
use Rattle.tree_rows.specs.declared.name.Expanded.{Expanded}
use Rattle.tree_rows.specs.declared.row.Attribute.{Attribute}
use Rattle.tree_rows.specs.declared.row.Binding.{Binding}
use Rattle.xs_names.specs.Names.{NameTable}
use Rattle.schema_values.specs.Table.{contents, is_in}
use Rattle.schema_values.specs.declared.grammar_kinds.AttributeName.TheVariants as an
use Rattle.schema_values.specs.declared.grammar_kinds.Class.{Class}
use Rattle.schema_values.specs.declared.grammar_kinds.Class.TheVariants as c
use Rattle.schema_values.specs.declared.grammar_kinds.Kind.{Kind}
use Rattle.schema_values.specs.declared.grammar_kinds.Kind.TheVariants as k
use Rattle.schema_values.specs.declared.grammar_kinds.Tag.{Tag}
use Rattle.schema_values.specs.Attributes.{has, name_of}
use Rattle.schema_faults.specs.Children.{child_tags}
use Rattle.schema_faults.specs.Constructs.{Construct}
use Rattle.schema_faults.specs.Faults.{code_of, is_ignored}
use Rattle.schema_faults.specs.Representation.{same}
use Rattle.schema_faults.specs.Unsupported as u
use Rattle.schema_shape.specs.Shapes.{member_numbers}
use Rattle.schema_shape.specs.declared.forms.Shape.{Shape}
use Rattle.representations.specs.declared.naming.Naming.{Naming}
use Rattle.representations.specs.declared.parts.Represented.{Represented}
use Rattle.representations.specs.declared.parts.Represented.TheVariants as forms
use Rattle.representations.specs.declared.parts.Representation.{Representation}
use Rattle.representations.specs.Members.{is_type_at}
use Rattle.representations.specs.declared.defaults.Defaults.{Defaults}
use Rattle.representations.specs.Types.{type_name_if}
use Rattle.set_representations.specs.Members.{place_from, places_of}
use Rattle.build_types.specs.SimpleTypes.{first_member}
use Rattle.schema_check.specs.Shaped.{IsShaped, is_simple_type, is_complex_type, is_variety, is_content, is_derivation, names_no_type, may_hold_complex, is_kind_in, is_kind_at}
use Rattle.schema_check.proofs.TagLaws.{holds_complex, tags-plain, annotated, first-child}
use Rattle.schema_check.proofs.KidLaws.{Kid, kids, name_of as kid_name, numbers-are, names-are, kids-plain, kids-simple}
use Rattle.schema_check.proofs.SoundLaws.{IsRight, right}
use Rattle.schema_check.proofs.WalkLaws.{KidIn}
use Rattle.schema_check.proofs.FormLaws.{form_at, include-nothing, redefine-nothing, may-hold, Becomes, top-variety, local-variety, simple-derivation, complex-derivation, restriction-type, list-type, variety-apart, derivation-apart}
use Rattle.schema_check.proofs.NameLaws.{no-base, no-item}
use Rattle.schema_check.proofs.LaidLaws.{AreLaid, IsPlaced, places, kid-placed, members-plain, members-first, members-type}

-- the first of a list by its name
uncons : (list : List Kid) (tag : Tag) (rest : List Tag) → map kid_name list ≡ tag ∷ rest → (kid : Kid) × (others : List Kid) × (list ≡ kid ∷ others) × (kid.1 ≡ tag)
uncons [] tag rest is = absurd (cc)
uncons (kid ∷ others) tag rest is = (kid, others, refl, first-same kid.1 tag (map kid_name others) rest is)
  where
    first-same : (x y : Tag) (xs ys : List Tag) → x ∷ xs ≡ y ∷ ys → x ≡ y
    first-same x y xs ys e = cc

-- what may not hold complex types is neither ignored nor a notation
not-ignored : (kind : Kind) → holds_complex kind ≡ false → (is_ignored kind ≡ false) × (u.is_notation kind ≡ false)
not-ignored k.Ignored is = absurd (true≢false is)
not-ignored k.Notation is = absurd (true≢false is)
not-ignored _ is = (refl, refl)

same-false : (b : Bool) → same false b ≡ false → b ≡ true
same-false true is = refl
same-false false is = absurd (true≢false is)

module _ (t : NameTable) (naming : Naming) (defaults : Defaults) (reps : List Representation) (look : ℕ → Option ℕ) (scope : List Binding) (attributes : List Attribute) (children : Forest) where
  abbrev form : Kind → Represented
  form kind = form_at t naming defaults kind scope attributes

  -- the members of the element
  abbrev list : List ℕ
  list = places look (kids children)

  abbrev ArePlaced : Kind → Type 0
  ArePlaced kind = All (IsPlaced t naming defaults reps look kind) (kids children)

  abbrev Right : Kind → Type 0
  Right kind = is_ignored kind ≡ false → u.is_notation kind ≡ false → IsRight kind scope attributes children

  first-made : (kind : Kind) (class : Class) (apart : (tag : Tag) → is_in class tag ≡ true → is_in c.Annotation tag ≡ false) (is_kind : Represented → Bool) → contents kind ≡ annotated class ∷ []
      → ((tag : Tag) → is_in class tag ≡ true → Becomes t naming defaults kind is_kind tag) → IsRight kind scope attributes children → ArePlaced kind → is_kind_in is_kind (first_member reps list) ≡ true
  first-made kind class apart is_kind grammar becomes fine placed =
      let first = first-child class apart kind (child_tags children) grammar fine.children_right in
      let kid = uncons (kids children) first.0 first.1 (sym (names-are children) ∙ first.2) in
      let tag : is_in class kid.0.1 ≡ true = ap (λ (x : Tag). is_in class x) kid.3 ∙ first.3 in
      let all : All (IsPlaced t naming defaults reps look kind) (kid.0 ∷ kid.1) = subst (All (IsPlaced t naming defaults reps look kind)) kid.2 placed in
      ap (λ (some : List Kid). is_kind_in is_kind (first_member reps (places look some))) kid.2
      ∙ members-first t naming defaults reps look kind is_kind kid.0 kid.1 all (becomes kid.0.1 tag)

  made : (kind : Kind) → Right kind → ArePlaced kind → is_simple_type (form kind) ≡ true → is_kind_in is_variety (first_member reps list) ≡ true
  made k.TopSimpleType fine placed is = first-made k.TopSimpleType c.Variety variety-apart is_variety refl (top-variety t naming defaults) (fine refl refl) placed
  made k.LocalSimpleType fine placed is = first-made k.LocalSimpleType c.Variety variety-apart is_variety refl (local-variety t naming defaults) (fine refl refl) placed
  made k.Include fine placed is = absurd (true≢false (sym is ∙ ap is_simple_type (include-nothing t naming defaults scope attributes)))
  made k.Redefine fine placed is = absurd (true≢false (sym is ∙ ap is_simple_type (redefine-nothing t naming defaults scope attributes)))
  made _ fine placed is = absurd (true≢false (sym is))

  derived : (kind : Kind) → Right kind → ArePlaced kind → is_content (form kind) ≡ true → is_kind_in is_derivation (first_member reps list) ≡ true
  derived k.SimpleContent fine placed is = first-made k.SimpleContent c.Derivation derivation-apart is_derivation refl (simple-derivation t naming defaults) (fine refl refl) placed
  derived k.ComplexContent fine placed is = first-made k.ComplexContent c.Derivation derivation-apart is_derivation refl (complex-derivation t naming defaults) (fine refl refl) placed
  derived k.Include fine placed is = absurd (true≢false (sym is ∙ ap is_content (include-nothing t naming defaults scope attributes)))
  derived k.Redefine fine placed is = absurd (true≢false (sym is ∙ ap is_content (redefine-nothing t naming defaults scope attributes)))
  derived _ fine placed is = absurd (true≢false (sym is))

  -- a name that is not there
  no-restriction-name : (name : Option Expanded) → names_no_type (forms.Restriction (type_name_if t naming name)) ≡ true → name ≡ None
  no-restriction-name None is = refl
  no-restriction-name (Some name) is = absurd (true≢false (sym is))

  no-list-name : (name : Option Expanded) → names_no_type (forms.ItemType (type_name_if t naming name)) ≡ true → name ≡ None
  no-list-name None is = refl
  no-list-name (Some name) is = absurd (true≢false (sym is))

  simple-child : (there : Bool) → there ≡ false → same there (list_any (is_in c.SimpleType) (child_tags children)) ≡ false → list_any (is_in c.SimpleType) (child_tags children) ≡ true
  simple-child true is differ = absurd (true≢false is)
  simple-child false is differ = same-false (list_any (is_in c.SimpleType) (child_tags children)) differ

  given : (kind : Kind) → Right kind → ArePlaced kind → names_no_type (form kind) ≡ true → list_any (is_type_at reps) list ≡ true
  given k.Restriction fine placed is =
      let here = fine refl refl in
      let missing = no-base scope attributes here.values (no-restriction-name (name_of an.Base scope attributes) is) in
      let child = simple-child (has an.Base attributes) missing here.base in
      members-type t naming defaults reps look k.Restriction (restriction-type t naming defaults) (kids children) placed (sym (kids-simple children) ∙ child)
  given k.List fine placed is =
      let here = fine refl refl in
      let missing = no-item scope attributes here.values (no-list-name (name_of an.ItemType scope attributes) is) in
      let child = simple-child (has an.ItemType attributes) missing here.item in
      members-type t naming defaults reps look k.List (list-type t naming defaults) (kids children) placed (sym (kids-simple children) ∙ child)
  given k.Include fine placed is = absurd (true≢false (sym is ∙ ap names_no_type (include-nothing t naming defaults scope attributes)))
  given k.Redefine fine placed is = absurd (true≢false (sym is ∙ ap names_no_type (redefine-nothing t naming defaults scope attributes)))
  given _ fine placed is = absurd (true≢false (sym is))

  plain : (kind : Kind) → Right kind → ArePlaced kind → may_hold_complex (form kind) ≡ false → list_any (is_kind_at is_complex_type reps) list ≡ false
  plain kind fine placed is =
      let holds = may-hold t naming defaults kind scope attributes is in
      let other = not-ignored kind holds in
      let here = fine other.0 other.1 in
      members-plain t naming defaults reps look kind (kids children) placed (kids-plain children (tags-plain kind (child_tags children) holds here.children_right))

  pub kind-shaped : (kind : Kind) → Right kind → ArePlaced kind → IsShaped reps list (form kind)
  kind-shaped kind fine placed = record { made = made kind fine placed; given = given kind fine placed; derived = derived kind fine placed; plain = plain kind fine placed }

-- an element, laid behind which are those that come after it
pub element-shaped : (t : NameTable) (naming : Naming) (defaults : Defaults) (reps : List Representation) (place : ℕ) (behind : List Shape) → AreLaid t naming defaults reps place behind
    → (e : Construct) → code_of e ≡ None → All (KidIn behind e.kind) (kids e.children)
    → IsShaped reps (places_of place behind (member_numbers e.children)) (form_at t naming defaults e.kind e.scope e.attributes)
element-shaped t naming defaults reps place behind laid e sound found =
    let look = place_from place behind in
    subst (λ (numbers : List ℕ). IsShaped reps (places_of place behind numbers) (form_at t naming defaults e.kind e.scope e.attributes)) (sym (numbers-are e.children))
    (kind-shaped t naming defaults reps look e.scope e.attributes e.children e.kind (λ one other. right e one other sound)
    (All-weaker (KidIn behind e.kind) (IsPlaced t naming defaults reps look e.kind) (λ kid is. kid-placed t naming defaults reps place behind e.kind kid laid is) (kids e.children) found))
