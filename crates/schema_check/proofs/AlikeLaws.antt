-- What stands where is known by representations without names.
use Rattle.std.proofs.Common.{◌≡◌, ℕ, zero, suc, ◌||◌, Bool, List, [], ◌∷◌, Option, None, Some, refl, sym, ap, subst, ◌∙◌}
use Rattle.std.specs.Prelude.{slice_get}
use Rattle.std.specs.List.{list_any}
use Rattle.std.specs.Option.{option_map, option_and_then}
use Rattle.std.proofs.lemmas.Option.{none-some, same_Some}
use Rattle.representations.specs.declared.parts.Represented.{Represented}
use Rattle.representations.specs.declared.parts.Represented.TheVariants as forms
use Rattle.representations.specs.declared.parts.Representation.{Representation}
use Rattle.representations.specs.Members.{is_type, is_type_in, is_type_at}
use Rattle.build_types.specs.SimpleTypes.{first_member}
use Rattle.redefine_names.specs.Unnamed.{unnamed, unnamed_rep, unnamed_reps}
use Rattle.schema_check.specs.Shaped.{is_simple_type, is_complex_type, is_variety, names_no_type, is_content, is_derivation, may_hold_complex, is_kind_in, is_kind_at, IsShaped, AreShaped}

simple-alike : (form : Represented) → is_simple_type (unnamed form) ≡ is_simple_type form
simple-alike (forms.SimpleType name finals) = refl
simple-alike _ = refl

complex-alike : (form : Represented) → is_complex_type (unnamed form) ≡ is_complex_type form
complex-alike (forms.ComplexType head) = refl
complex-alike _ = refl

variety-alike : (form : Represented) → is_variety (unnamed form) ≡ is_variety form
variety-alike (forms.Restriction base) = refl
variety-alike _ = refl

type-alike : (form : Represented) → is_type (unnamed form) ≡ is_type form
type-alike (forms.SimpleType name finals) = refl
type-alike _ = refl

nameless-alike : (form : Represented) → names_no_type (unnamed form) ≡ names_no_type form
nameless-alike (forms.Restriction None) = refl
nameless-alike (forms.Restriction (Some of)) = refl
nameless-alike (forms.ItemType None) = refl
nameless-alike (forms.ItemType (Some of)) = refl
nameless-alike _ = refl

content-alike : (form : Represented) → is_content (unnamed form) ≡ is_content form
content-alike forms.SimpleContent = refl
content-alike _ = refl

derivation-alike : (form : Represented) → is_derivation (unnamed form) ≡ is_derivation form
derivation-alike (forms.Derivation by_extension base) = refl
derivation-alike _ = refl

holds-alike : (form : Represented) → may_hold_complex (unnamed form) ≡ may_hold_complex form
holds-alike (forms.Element element) = refl
holds-alike _ = refl

get-unnamed : (reps : List Representation) (place : ℕ) → slice_get (unnamed_reps reps) place ≡ option_map unnamed_rep (slice_get reps place)
get-unnamed [] place = refl
get-unnamed (rep ∷ reps) zero = refl
get-unnamed (rep ∷ reps) (suc place) = get-unnamed reps place

any-same : (f g : ℕ → Bool) (xs : List ℕ) → ((x : ℕ) → f x ≡ g x) → list_any f xs ≡ list_any g xs
any-same f g [] same = refl
any-same f g (x ∷ xs) same = ap (λ (b : Bool). b || list_any f xs) (same x) ∙ ap (λ (b : Bool). g x || b) (any-same f g xs same)

-- a kind that is told without names
module _ (kind : Represented → Bool) (alike : (form : Represented) → kind (unnamed form) ≡ kind form) where
  in-alike : (rep : Option Representation) → is_kind_in kind (option_map unnamed_rep rep) ≡ is_kind_in kind rep
  in-alike None = refl
  in-alike (Some rep) = alike rep.form

  at-alike : (reps : List Representation) (place : ℕ) → is_kind_at kind (unnamed_reps reps) place ≡ is_kind_at kind reps place
  at-alike reps place = ap (is_kind_in kind) (get-unnamed reps place) ∙ in-alike (slice_get reps place)

  first-of : (reps : List Representation) (member : Option ℕ) → is_kind_in kind (option_and_then (slice_get (unnamed_reps reps)) member) ≡ is_kind_in kind (option_and_then (slice_get reps) member)
  first-of reps None = refl
  first-of reps (Some member) = at-alike reps member

  first-alike : (reps : List Representation) (members : List ℕ) → is_kind_in kind (first_member (unnamed_reps reps) members) ≡ is_kind_in kind (first_member reps members)
  first-alike reps members = first-of reps (slice_get members 0)

types-in : (rep : Option Representation) → is_type_in (option_map unnamed_rep rep) ≡ is_type_in rep
types-in None = refl
types-in (Some rep) = type-alike rep.form

types-at : (reps : List Representation) (place : ℕ) → is_type_at (unnamed_reps reps) place ≡ is_type_at reps place
types-at reps place = ap is_type_in (get-unnamed reps place) ∙ types-in (slice_get reps place)

module _ (reps other : List Representation) (same : unnamed_reps other ≡ unnamed_reps reps) where
  first-same : (kind : Represented → Bool) → ((form : Represented) → kind (unnamed form) ≡ kind form) → (members : List ℕ) → is_kind_in kind (first_member other members) ≡ is_kind_in kind (first_member reps members)
  first-same kind alike members =
      sym (first-alike kind alike other members) ∙ (ap (λ (l : List Representation). is_kind_in kind (first_member l members)) same ∙ first-alike kind alike reps members)

  types-same : (members : List ℕ) → list_any (is_type_at other) members ≡ list_any (is_type_at reps) members
  types-same members =
      any-same (is_type_at other) (is_type_at reps) members
      (λ place. sym (types-at other place) ∙ (ap (λ (l : List Representation). is_type_at l place) same ∙ types-at reps place))

  complex-same : (members : List ℕ) → list_any (is_kind_at is_complex_type other) members ≡ list_any (is_kind_at is_complex_type reps) members
  complex-same members =
      any-same (is_kind_at is_complex_type other) (is_kind_at is_complex_type reps) members
      (λ place. sym (at-alike is_complex_type complex-alike other place) ∙ (ap (λ (l : List Representation). is_kind_at is_complex_type l place) same ∙ at-alike is_complex_type complex-alike reps place))

  form-same : (kind : Represented → Bool) → ((form : Represented) → kind (unnamed form) ≡ kind form) → (one two : Represented) → unnamed two ≡ unnamed one → kind two ≡ kind one
  form-same kind alike one two is = sym (alike two) ∙ (ap kind is ∙ alike one)

  shaped-same : (members : List ℕ) (one two : Represented) → unnamed two ≡ unnamed one → IsShaped reps members one → IsShaped other members two
  shaped-same members one two is shape = record {
    made = λ h. first-same is_variety variety-alike members ∙ shape.made (sym (form-same is_simple_type simple-alike one two is) ∙ h);
    given = λ h. types-same members ∙ shape.given (sym (form-same names_no_type nameless-alike one two is) ∙ h);
    derived = λ h. first-same is_derivation derivation-alike members ∙ shape.derived (sym (form-same is_content content-alike one two is) ∙ h);
    plain = λ h. complex-same members ∙ shape.plain (sym (form-same may_hold_complex holds-alike one two is) ∙ h);
  }

  -- what stands at a place of the other stands there
  rep-same : (place : ℕ) (rep : Representation) (own : Option Representation) → slice_get reps place ≡ own → option_map unnamed_rep own ≡ Some (unnamed_rep rep) → AreShaped reps → IsShaped other rep.members rep.form
  rep-same place rep None at is shaped = absurd (none-some (unnamed_rep rep) is)
  rep-same place rep (Some own) at is shaped =
      let e = same_Some (unnamed_rep own) (unnamed_rep rep) is in
      subst (λ (members : List ℕ). IsShaped other members rep.form) (ap (λ (r : Representation). r.members) e)
      (shaped-same own.members own.form rep.form (sym (ap (λ (r : Representation). r.form) e)) (shaped place own at))

  pub all-same : AreShaped reps → AreShaped other
  all-same shaped = λ place rep at.
      rep-same place rep (slice_get reps place) refl
      (sym (get-unnamed reps place) ∙ (ap (λ (l : List Representation). slice_get l place) (sym same) ∙ (get-unnamed other place ∙ ap (option_map unnamed_rep) at))) shaped
