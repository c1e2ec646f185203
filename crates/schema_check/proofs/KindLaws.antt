-- Simple types by places, names and members.
use Rattle.std.proofs.Common.{◌≡◌, ℕ, zero, suc, ◌+◌, Bool, true, false, ◌||◌, cond, List, [], ◌∷◌, Option, None, Some, IfSome, find, is_some, slice_get, slice_index_or, refl, sym, ap, subst, ◌∙◌, ltb-false, nat_lt, arith}
use Rattle.std.specs.List.{list_any}
use Rattle.std.proofs.lemmas.Bool.{or_parts}
use Rattle.std.proofs.lemmas.Option.{none-some}
use Rattle.component_tables.specs.Symbols.{first_place}
use Rattle.type_derivation.specs.Derives.{is_simple}
use Rattle.representations.specs.declared.parts.Represented.{Represented}
use Rattle.representations.specs.declared.parts.Represented.TheVariants as forms
use Rattle.representations.specs.declared.parts.Representation.{Representation}
use Rattle.representations.specs.Members.{is_type, is_type_in, is_type_at}
use Rattle.representations.specs.Names.{type_symbol, spaces_of}
use Rattle.reference_faults.specs.Doubles.{is_before, is_earlier, is_later_one}
use Rattle.reference_faults.specs.Resolution.{simple_symbol, kinds_of, is_named}
use Rattle.build_types.specs.Numbers.{type_id, type_ids, simples_in, complexes_in}
use Rattle.build_types.specs.Types.{type_at}
use Rattle.build_types.specs.SimpleTypes.{first_member}
use Rattle.schema_check.specs.Resolved.{AreResolved}
use Rattle.schema_check.specs.Shaped.{is_simple_type, is_complex_type, is_kind_in, is_kind_at}
use Rattle.schema_check.proofs.FirstLaws.{first-has, first-found, map-has, map-at}

-- the type at the place of a simple type is simple
form-simple : (simples complexes : ℕ) (form : Represented) → is_simple_type form ≡ true → is_simple (type_id simples complexes form) ≡ true
form-simple simples complexes (forms.SimpleType name finals) is = refl
form-simple simples complexes _ is = absurd (cc)

pub simple-at : (simples complexes : ℕ) (reps : List Representation) (place : ℕ) → is_kind_at is_simple_type reps place ≡ true → is_simple (type_at (type_ids simples complexes reps) place) ≡ true
simple-at simples complexes [] place is = absurd (cc)
simple-at simples complexes (rep ∷ reps) zero is = form-simple simples complexes rep.form is
simple-at simples complexes (rep ∷ reps) (suc place) is = simple-at (simples + simples_in rep.form) (complexes + complexes_in rep.form) reps place is

-- a type that is no complex type is a simple one
other-kind : (form : Represented) → is_type form ≡ true → is_complex_type form ≡ false → is_simple_type form ≡ true
other-kind (forms.SimpleType name finals) is never = refl
other-kind (forms.ComplexType head) is never = absurd (cc)
other-kind _ is never = is

one-kind : (found : Option Representation) → is_type_in found ≡ true → is_kind_in is_complex_type found ≡ false → is_kind_in is_simple_type found ≡ true
one-kind None is never = is
one-kind (Some rep) is never = other-kind rep.form is never

-- what is found by a test, if something passes it
pub any-found : {A : Type 0} (test : A → Bool) (xs : List A) → list_any test xs ≡ true → (x : A) × (find test xs ≡ Some x)
any-found test [] is = absurd (cc)
any-found {A} test (x ∷ xs) is = by (test x) refl (any-found test xs)
  where
    by : (here : Bool) → test x ≡ here → (list_any test xs ≡ true → (y : A) × (find test xs ≡ Some y)) → (y : A) × (find test (x ∷ xs) ≡ Some y)
    by true e later = (x, ap (λ (here : Bool). cond here (Some x) (find test xs)) e)
    by false e later =
        let rest = later (sym (ap (λ (here : Bool). here || list_any test xs) e) ∙ is) in
        (rest.0, ap (λ (here : Bool). cond here (Some x) (find test xs)) e ∙ rest.1)

module _ (reps : List Representation) where
  abbrev pub IsSimplePlace : ℕ → Type 0
  IsSimplePlace place = is_kind_at is_simple_type reps place ≡ true

  -- of members without complex types the first type is simple
  pub first-simple : (members : List ℕ) → list_any (is_kind_at is_complex_type reps) members ≡ false → IfSome (find (is_type_at reps) members) IsSimplePlace
  first-simple [] plain = tt
  first-simple (member ∷ members) plain = by (is_type_at reps member) refl (first-simple members)
    where
      parts : (is_kind_at is_complex_type reps member ≡ false) × (list_any (is_kind_at is_complex_type reps) members ≡ false)
      parts = or_parts (is_kind_at is_complex_type reps member) (list_any (is_kind_at is_complex_type reps) members) plain

      by : (here : Bool) → is_type_at reps member ≡ here
          → (list_any (is_kind_at is_complex_type reps) members ≡ false → IfSome (find (is_type_at reps) members) IsSimplePlace) → IfSome (find (is_type_at reps) (member ∷ members)) IsSimplePlace
      by true e rest =
          subst (λ (here : Bool). IfSome (cond here (Some member) (find (is_type_at reps) members)) IsSimplePlace) (sym e)
          (one-kind (slice_get reps member) e parts.0)
      by false e rest =
          subst (λ (here : Bool). IfSome (cond here (Some member) (find (is_type_at reps) members)) IsSimplePlace) (sym e)
          (rest parts.1)

  -- a type among these is simple
  pub type-simple : (place : ℕ) → is_type_at reps place ≡ true → is_kind_at is_complex_type reps place ≡ false → IsSimplePlace place
  type-simple place is plain = one-kind (slice_get reps place) is plain

  -- the first of members stands somewhere
  pub first-stands : (members : List ℕ) (rep : Representation) → first_member reps members ≡ Some rep → (place : ℕ) × (slice_get reps place ≡ Some rep)
  first-stands [] rep is = absurd (none-some rep is)
  first-stands (member ∷ members) rep is = (member, is)

  module _ (resolved : AreResolved reps) where
    simple-of : (form : Represented) (name : ℕ) → simple_symbol form ≡ Some name → (type_symbol form ≡ Some name) × (is_simple_type form ≡ true)
    simple-of (forms.SimpleType own finals) name is = (is, refl)
    simple-of _ name is = absurd (none-some name is)

    -- where a simple type has the name, the first type of the name stands in the same place
    at-place : (name k : ℕ) (rep : Representation) → slice_get reps k ≡ Some rep → simple_symbol rep.form ≡ Some name
        → (place : ℕ) × (first_place (spaces_of reps).types name ≡ Some place) × IsSimplePlace place
    at-place name k rep at own =
        let types = (spaces_of reps).types in
        let of = simple-of rep.form name own in
        let here : slice_index_or types k None ≡ Some name = map-at (λ (r : Representation). type_symbol r.form) reps k rep at ∙ of.0 in
        let found = first-found types 0 name k here in
        let once : is_later_one types k ≡ false = (or_parts (is_later_one types k) _ (resolved.once k rep at)).0 in
        let not_before : nat_lt found.0 k ≡ false =
        sym (ap (λ (o : Option ℕ). is_before o k) found.1) ∙ sym (ap (λ (o : Option ℕ). is_earlier types o k) here) ∙ once in
        let same : found.0 ≡ k = omega (arith, found.2, ltb-false found.0 k not_before) in
        (k, found.1 ∙ ap (λ (p : ℕ). Some p) same, ap (λ (o : Option Representation). is_kind_in is_simple_type o) at ∙ of.1)

    pub named-simple : (name : ℕ) → is_named (kinds_of reps).simples name ≡ true → (place : ℕ) × (first_place (spaces_of reps).types name ≡ Some place) × IsSimplePlace place
    named-simple name is = by (first_place (kinds_of reps).simples name) refl is
      where
        by : (found : Option ℕ) → first_place (kinds_of reps).simples name ≡ found → is_some found ≡ true
            → (place : ℕ) × (first_place (spaces_of reps).types name ≡ Some place) × IsSimplePlace place
        by None e is = absurd (cc)
        by (Some p) e is =
            let has = first-has (kinds_of reps).simples 0 name p e in
            let rep = map-has (λ (r : Representation). simple_symbol r.form) reps has.0 name has.2 in
            at-place name has.0 rep.0 rep.1 rep.2
