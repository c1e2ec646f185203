-- What is so of an element on which no constraint is broken.
use Rattle.std.proofs.Common.{◌≡◌, Bool, true, false, nat_lt, List, [], ◌∷◌, ◌++◌, Option, None, Some, if◌then◌else◌, refl, sym, true≢false}
use Rattle.std.specs.Option.{option_map, option_or}
use Rattle.std.proofs.lemmas.Option.{none-some}
use Rattle.xs_codes.specs.declared.code.Code.{Code}
use Rattle.xs_codes.specs.declared.code.Code.TheVariants as code
use Rattle.tree_rows.specs.Forest.{Forest}
use Rattle.tree_rows.specs.declared.row.Attribute.{Attribute}
use Rattle.tree_rows.specs.declared.row.Binding.{Binding}
use Rattle.schema_values.specs.declared.grammar_kinds.Kind.{Kind}
use Rattle.schema_faults.specs.Children.{child_tags}
use Rattle.schema_faults.specs.Constructs.{Construct}
use Rattle.schema_faults.specs.Faults.{Test, first_broken, shape_tests, unsupported_tests, limit_tests, element_tests, attribute_tests, simple_tests, first_code, is_ignored, code_of, fault_of, lesser, least_fault}
use Rattle.schema_faults.specs.Representation.{has_not_one_base, has_not_one_item_type}
use Rattle.schema_faults.specs.ShapeFaults.{has_wrong_children, has_wrong_value}
use Rattle.schema_faults.specs.Unsupported as u
use Rattle.schema_faults.specs.declared.broken.Broken.{Broken}

-- each of these breaks none
abbrev pub AreSound : List Construct → Type 0
AreSound [] = Unit {0}
AreSound (e ∷ es) = (code_of e ≡ None) × AreSound es

pub sound-parts : (es more : List Construct) → AreSound (es ++ more) → AreSound es × AreSound more
sound-parts [] more sound = (tt, sound)
sound-parts (e ∷ es) more sound =
    let rest = sound-parts es more sound.1 in
    ((sound.0, rest.0), rest.1)

pub some-none : {X : Type 0} (x : X) → Some x ≡ None → ⊥
some-none x is = none-some x (sym is)

lesser-none : (one other : Option Broken) → lesser one other ≡ None → (one ≡ None) × (other ≡ None)
lesser-none None other is = (refl, is)
lesser-none (Some fault) None is = absurd (some-none fault is)
lesser-none (Some fault) (Some other) is = by (nat_lt other.item fault.item) is
  where
    by : (b : Bool) → (if b then Some other else Some fault) ≡ None → (Some fault ≡ None) × (Some other ≡ None)
    by true e = absurd (some-none other e)
    by false e = absurd (some-none fault e)

map-none : {X Y : Type 0} (f : X → Y) (o : Option X) → option_map f o ≡ None → o ≡ None
map-none f None is = refl
map-none f (Some x) is = absurd (some-none (f x) is)

pub all-sound : (es : List Construct) → least_fault es ≡ None → AreSound es
all-sound [] is = tt
all-sound (e ∷ es) is =
    let parts = lesser-none (fault_of e) (least_fault es) is in
    (map-none (λ (code : Code). record { item = e.item; code = code }) (code_of e) parts.0, all-sound es parts.1)

or-none : {X : Type 0} (one other : Option X) → option_or one other ≡ None → (one ≡ None) × (other ≡ None)
or-none None other is = (refl, is)
or-none (Some x) other is = absurd (some-none x is)

-- none of these is broken
abbrev AreUnbroken : List Test → Type 0
AreUnbroken [] = Unit {0}
AreUnbroken (t ∷ tests) = (t.broken ≡ false) × AreUnbroken tests

all-unbroken : (tests : List Test) → first_broken tests ≡ None → AreUnbroken tests
all-unbroken [] is = tt
all-unbroken (t ∷ tests) is = by t.broken is (all-unbroken tests)
  where
    by : (b : Bool) → (if b then Some t.code else first_broken tests) ≡ None → (first_broken tests ≡ None → AreUnbroken tests) → (b ≡ false) × AreUnbroken tests
    by true e rest = absurd (some-none t.code e)
    by false e rest = (refl, rest e)

-- of six the first and the last
ends-none : (a b c d e f : Option Code) → option_or a (option_or b (option_or c (option_or d (option_or e f)))) ≡ None → (a ≡ None) × (f ≡ None)
ends-none a b c d e f is =
    let first = or-none a (option_or b (option_or c (option_or d (option_or e f)))) is in
    let second = or-none b (option_or c (option_or d (option_or e f))) first.1 in
    let third = or-none c (option_or d (option_or e f)) second.1 in
    let fourth = or-none d (option_or e f) third.1 in
    (first.0, (or-none e f fourth.1).1)

-- what is so where no constraint on shape or on simple types is broken
pub record IsRight (kind : Kind) (scope : List Binding) (attributes : List Attribute) (children : Forest) : Type 0 where
  pub children_right : has_wrong_children kind (child_tags children) ≡ false
  pub values : has_wrong_value scope kind attributes ≡ false
  pub base : has_not_one_base kind attributes (child_tags children) ≡ false
  pub item : has_not_one_item_type kind attributes (child_tags children) ≡ false

first-none : (ignored notation : Bool) (first : Option Code) → ignored ≡ false → notation ≡ false
    → (if ignored then None else (if notation then Some code.XUnsupportedNotationElement else first)) ≡ None → first ≡ None
first-none true notation first one other is = absurd (true≢false one)
first-none false true first one other is = absurd (true≢false other)
first-none false false first one other is = is

pub right : (e : Construct) → is_ignored e.kind ≡ false → u.is_notation e.kind ≡ false → code_of e ≡ None → IsRight e.kind e.scope e.attributes e.children
unfolding code_of first_code shape_tests simple_tests
right e never other is =
    let tags = child_tags e.children in
    let ends = ends-none (first_broken (shape_tests e)) (first_broken (unsupported_tests (u.type_names e.scope e.attributes))) (first_broken (limit_tests e.kind e.attributes tags))
    (first_broken (element_tests e.kind e.attributes tags)) (first_broken (attribute_tests e.kind e.attributes tags)) (first_broken (simple_tests e.kind e.attributes tags))
    (first-none (is_ignored e.kind) (u.is_notation e.kind) (first_code e) never other is) in
    let shape = all-unbroken (shape_tests e) ends.0 in
    let simple = all-unbroken (simple_tests e.kind e.attributes tags) ends.1 in
    record { children_right = shape.1.0; values = shape.1.1.1.1.0; base = simple.0; item = simple.1.0 }
