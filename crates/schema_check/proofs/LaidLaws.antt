-- What stands in the place of a member.
use Rattle.std.proofs.Common.{◌≡◌, ℕ, suc, ◌+◌, Bool, true, false, ◌||◌, cond, List, [], ◌∷◌, Option, None, Some, All, find, filter_map, map, slice_get, refl, sym, ap, subst, ◌∙◌, true≢false, arith}
use Rattle.std.specs.List.{list_any, position_from, cons_option}
use Rattle.std.proofs.lemmas.List.Elements.{All-head, All-tail}
use Rattle.tree_rows.specs.declared.row.Attribute.{Attribute}
use Rattle.tree_rows.specs.declared.row.Binding.{Binding}
use Rattle.xs_names.specs.Names.{NameTable}
use Rattle.schema_values.specs.Places.{kind_below}
use Rattle.schema_values.specs.Table.{is_in}
use Rattle.schema_values.specs.declared.grammar_kinds.Class.TheVariants as c
use Rattle.schema_values.specs.declared.grammar_kinds.Kind.{Kind}
use Rattle.schema_values.specs.declared.grammar_kinds.Tag.{Tag}
use Rattle.schema_shape.specs.Shapes.{declares}
use Rattle.schema_shape.specs.declared.forms.Shape.{Shape}
use Rattle.representations.specs.declared.naming.Naming.{Naming}
use Rattle.representations.specs.declared.parts.Represented.{Represented}
use Rattle.representations.specs.declared.parts.Representation.{Representation}
use Rattle.representations.specs.Members.{is_type, is_type_in, is_type_at}
use Rattle.representations.specs.declared.defaults.Defaults.{Defaults}
use Rattle.representations.specs.ElementForms.{represented}
use Rattle.set_representations.specs.Members.{place_from}
use Rattle.build_types.specs.SimpleTypes.{first_member}
use Rattle.schema_check.specs.Shaped.{is_complex_type, is_kind_in, is_kind_at}
use Rattle.schema_check.proofs.TagLaws.{is_complex_tag}
use Rattle.schema_check.proofs.KidLaws.{Kid, number_of, IsPlainKid, is_simple_kid}
use Rattle.schema_check.proofs.SoundLaws.{some-none}
use Rattle.schema_check.proofs.WalkLaws.{IsFound, KidIn, is_item}
use Rattle.schema_check.proofs.FormLaws.{form_at, below-plain, Becomes}

module _ {X : Type 0} (test : X → Bool) where
  position-none : (i : ℕ) (xs : List X) → find test xs ≡ None → position_from test i xs ≡ None
  position-none i [] is = refl
  position-none i (x ∷ xs) is = by (test x) refl (position-none (i + 1) xs)
    where
      by : (b : Bool) → test x ≡ b → (find test xs ≡ None → position_from test (i + 1) xs ≡ None) → position_from test i (x ∷ xs) ≡ None
      by true e rest = absurd (some-none x (sym (ap (λ (b : Bool). cond b (Some x) (find test xs)) e) ∙ is))
      by false e rest =
          ap (λ (b : Bool). cond b (Some i) (position_from test (i + 1) xs)) e
          ∙ rest (sym (ap (λ (b : Bool). cond b (Some x) (find test xs)) e) ∙ is)

  abbrev Stands : ℕ → List X → X → Type 0
  Stands i xs x = (n : ℕ) × (position_from test i xs ≡ Some (i + n)) × (slice_get xs n ≡ Some x)

  position-some : (i : ℕ) (xs : List X) (x : X) → find test xs ≡ Some x → Stands i xs x
  position-some i [] x is = absurd (some-none x (sym is))
  position-some i (y ∷ xs) x is = by (test y) refl (position-some (i + 1) xs x)
    where
      by : (b : Bool) → test y ≡ b → (find test xs ≡ Some x → Stands (i + 1) xs x) → Stands i (y ∷ xs) x
      by true e rest =
          let at : i ≡ i + 0 = omega arith in
          (0, ap (λ (b : Bool). cond b (Some i) (position_from test (i + 1) xs)) e ∙ ap (λ (n : ℕ). Some n) at, sym (ap (λ (b : Bool). cond b (Some y) (find test xs)) e) ∙ is)
      by false e rest =
          let later = rest (sym (ap (λ (b : Bool). cond b (Some y) (find test xs)) e) ∙ is) in
          let at : i + 1 + later.0 ≡ i + suc later.0 = omega arith in
          (suc later.0, ap (λ (b : Bool). cond b (Some i) (position_from test (i + 1) xs)) e ∙ later.1 ∙ ap (λ (n : ℕ). Some n) at, later.2)

-- the places of children that a look-up finds
abbrev pub places : (ℕ → Option ℕ) → List Kid → List ℕ
places look list = filter_map look (map number_of list)

module _ (t : NameTable) (naming : Naming) (defaults : Defaults) (reps : List Representation) where
  -- these shapes are represented from a place on
  abbrev pub AreLaid : ℕ → List Shape → Type 0
  AreLaid place list = (n : ℕ) (shape : Shape) → slice_get list n ≡ Some shape → (rep : Representation) × (slice_get reps (place + n) ≡ Some rep) × (rep.form ≡ represented t naming defaults shape.form)

  pub laid-tail : (place : ℕ) (shape : Shape) (list : List Shape) → AreLaid place (shape ∷ list) → AreLaid (place + 1) list
  laid-tail place shape list laid n other at =
      let here = laid (suc n) other at in
      let same : place + suc n ≡ place + 1 + n = omega arith in
      (here.0, ap (λ (p : ℕ). slice_get reps p) (sym same) ∙ here.1, here.2)

  -- an element of this kind is represented in the place, or it declares nothing and has none
  abbrev pub HasPlace : Option ℕ → Kind → Type 0
  HasPlace None kind = declares kind ≡ false
  HasPlace (Some place) kind = (rep : Representation) × (slice_get reps place ≡ Some rep) × (scope : List Binding) × (attributes : List Attribute) × (rep.form ≡ form_at t naming defaults kind scope attributes)

  pub kid-placed : (place : ℕ) (behind : List Shape) (parent : Kind) (kid : Kid) → AreLaid place behind → KidIn behind parent kid → HasPlace (place_from place behind kid.0) (kind_below parent kid.1)
  kid-placed place behind parent kid laid found = by (find (is_item kid.0) behind) refl found
    where
      by : (o : Option Shape) → find (is_item kid.0) behind ≡ o → IsFound o (kind_below parent kid.1) → HasPlace (place_from place behind kid.0) (kind_below parent kid.1)
      by None e is = subst (λ (p : Option ℕ). HasPlace p (kind_below parent kid.1)) (sym (position-none (is_item kid.0) place behind e)) is
      by (Some shape) e is =
          let at = position-some (is_item kid.0) place behind shape e in
          let rep = laid at.0 shape at.2 in
          let scope = is.0.scope in
          let attributes = is.0.attributes in
          let form : rep.0.form ≡ form_at t naming defaults (kind_below parent kid.1) scope attributes =
          rep.2 ∙ ap (λ (s : Shape). represented t naming defaults s.form) is.2 ∙ ap (λ (kind : Kind). form_at t naming defaults kind scope attributes) is.1 in
          subst (λ (p : Option ℕ). HasPlace p (kind_below parent kid.1)) (sym at.1) (rep.0, rep.1, scope, attributes, form)

  -- where members are found by a look-up
  module _ (look : ℕ → Option ℕ) (parent : Kind) where
    abbrev pub IsPlaced : Kid → Type 0
    IsPlaced kid = HasPlace (look kid.0) (kind_below parent kid.1)

    one-plain : (found : Option ℕ) (tag : Tag) (rest : List ℕ) → HasPlace found (kind_below parent tag) → is_complex_tag tag ≡ false → list_any (is_kind_at is_complex_type reps) rest ≡ false
        → list_any (is_kind_at is_complex_type reps) (cons_option found rest) ≡ false
    one-plain None tag rest has plain others = others
    one-plain (Some place) tag rest has plain others =
        let own : is_kind_at is_complex_type reps place ≡ false =
        ap (λ (o : Option Representation). is_kind_in is_complex_type o) has.1 ∙ ap is_complex_type has.4 ∙ below-plain t naming defaults parent tag plain has.2 has.3 in
        ap (λ (b : Bool). b || list_any (is_kind_at is_complex_type reps) rest) own ∙ others

    -- of children that are no complex types no member is
    pub members-plain : (list : List Kid) → All IsPlaced list → All IsPlainKid list → list_any (is_kind_at is_complex_type reps) (places look list) ≡ false
    members-plain [] placed plain = refl
    members-plain (kid ∷ list) placed plain =
        one-plain (look kid.0) kid.1 (places look list) (All-head IsPlaced kid list placed) (All-head IsPlainKid kid list plain)
        (members-plain list (All-tail IsPlaced kid list placed) (All-tail IsPlainKid kid list plain))

    first-of : (is_kind : Represented → Bool) (found : Option ℕ) (tag : Tag) (rest : List ℕ) → HasPlace found (kind_below parent tag) → Becomes t naming defaults parent is_kind tag
        → is_kind_in is_kind (first_member reps (cons_option found rest)) ≡ true
    first-of is_kind None tag rest has is = absurd (true≢false (sym is.0 ∙ has))
    first-of is_kind (Some place) tag rest has is = ap (λ (o : Option Representation). is_kind_in is_kind o) has.1 ∙ ap is_kind has.4 ∙ is.1 has.2 has.3

    -- the first member is what the first child is
    pub members-first : (is_kind : Represented → Bool) (kid : Kid) (list : List Kid) → All IsPlaced (kid ∷ list) → Becomes t naming defaults parent is_kind kid.1
        → is_kind_in is_kind (first_member reps (places look (kid ∷ list))) ≡ true
    members-first is_kind kid list placed is = first-of is_kind (look kid.0) kid.1 (places look list) (All-head IsPlaced kid list placed) is

    type-of : (found : Option ℕ) (tag : Tag) (rest : List ℕ) → HasPlace found (kind_below parent tag) → Becomes t naming defaults parent is_type tag → list_any (is_type_at reps) (cons_option found rest) ≡ true
    type-of None tag rest has is = absurd (true≢false (sym is.0 ∙ has))
    type-of (Some place) tag rest has is =
        let own : is_type_at reps place ≡ true = ap (λ (o : Option Representation). is_type_in o) has.1 ∙ ap is_type has.4 ∙ is.1 has.2 has.3 in
        ap (λ (b : Bool). b || list_any (is_type_at reps) rest) own

    or-later : (found : Option ℕ) (rest : List ℕ) → list_any (is_type_at reps) rest ≡ true → list_any (is_type_at reps) (cons_option found rest) ≡ true
    or-later None rest is = is
    or-later (Some place) rest is = by (is_type_at reps place)
      where
        by : (b : Bool) → (b || list_any (is_type_at reps) rest) ≡ true
        by true = refl
        by false = is

    -- a type among the children is one among the members
    pub members-type : ((tag : Tag) → is_in c.SimpleType tag ≡ true → Becomes t naming defaults parent is_type tag) → (list : List Kid) → All IsPlaced list → list_any is_simple_kid list ≡ true
        → list_any (is_type_at reps) (places look list) ≡ true
    members-type typed [] placed is = absurd (true≢false (sym is))
    members-type typed (kid ∷ list) placed is = by (is_simple_kid kid) refl (members-type typed list (All-tail IsPlaced kid list placed))
      where
        by : (b : Bool) → is_simple_kid kid ≡ b → (list_any is_simple_kid list ≡ true → list_any (is_type_at reps) (places look list) ≡ true) → list_any (is_type_at reps) (places look (kid ∷ list)) ≡ true
        by true e rest = type-of (look kid.0) kid.1 (places look list) (All-head IsPlaced kid list placed) (typed kid.1 e)
        by false e rest = or-later (look kid.0) (places look list) (rest (sym (ap (λ (b : Bool). b || list_any is_simple_kid list) e) ∙ is))
