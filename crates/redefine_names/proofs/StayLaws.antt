-- Names of renamed representations stay in the table.
use Rattle.std.proofs.Common.{◌≡◌, ℕ, suc, ◌<◌, ◌++◌, ◌&&◌, ◌==◌, Bool, true, false, List, [], ◌∷◌, Option, None, Some, length, map, refl}
use Rattle.std.specs.Prelude.{IfSome, if◌then◌else◌}
use Rattle.std.specs.List.{flat_map}
use Rattle.std.specs.Option.{option_map, option_and_then}
use Rattle.std.proofs.lemmas.List.Elements.{All-nil, All-cons, All-head, All-tail, All-append}
use Rattle.xs_names.specs.Names.{NameTable, name_number, space_of, local_of}
use Rattle.xs_names.proofs.GrownLaws.{within-name_number}
use Rattle.representations.specs.Named.{given_name, type_name, given_type, names_of, AreIn, AreNamed}
use Rattle.representations.specs.declared.parts.Represented.{Represented}
use Rattle.representations.specs.declared.parts.Represented.TheVariants as forms
use Rattle.representations.specs.declared.parts.Representation.{Representation}
use Rattle.representations.specs.declared.parts.TypeName.{TypeName}
use Rattle.representations.specs.declared.parts.TypeName.TheVariants as types
use Rattle.redefine_names.specs.declared.declared.Declared.{Declared}
use Rattle.redefine_names.specs.declared.declared.VersionKind.{VersionKind}
use Rattle.redefine_names.specs.declared.declared.VersionKind.TheVariants as kinds
use Rattle.redefine_names.specs.declared.redirections.Redirection.{Redirection}
use Rattle.redefine_names.specs.Components.{declared_at}
use Rattle.redefine_names.specs.VersionNames.{version_local, number_of, version_at, original_at}
use Rattle.redefine_names.specs.Redirections.{same_kind, meant, meant_type, redirected_by, redirected, redirection_of, redirection_to, redirection_if, own_redirection, version_around, redirection_at}
use Rattle.redefine_names.specs.Renamed.{named_by, named, is_original, original_name, renamed_as, renamed_from}

module _ (t : NameTable) where
  abbrev pub IsIn : ℕ → Type 0
  IsIn name = name < length t.names

  front : (xs ys : List ℕ) → AreIn t (xs ++ ys) → AreIn t xs
  front [] ys h = All-nil IsIn
  front (x ∷ xs) ys h = All-cons IsIn x xs (All-head IsIn x (xs ++ ys) h) (front xs ys (All-tail IsIn x (xs ++ ys) h))

  back : (xs ys : List ℕ) → AreIn t (xs ++ ys) → AreIn t ys
  back [] ys h = h
  back (x ∷ xs) ys h = back xs ys (All-tail IsIn x (xs ++ ys) h)

  one : (name : ℕ) → IsIn name → AreIn t (name ∷ [])
  one name h = All-cons IsIn name [] h (All-nil IsIn)

  either : (b : Bool) (x y : ℕ) → IsIn x → IsIn y → IsIn (if b then x else y)
  either true x y one other = one
  either false x y one other = other

  module _ (r : Redirection) (to : IsIn r.to) where
    meant-in : (kind : VersionKind) (name : ℕ) → IsIn name → IsIn (meant r kind name)
    meant-in kind name h = either (same_kind kind r.kind && r.from == name) r.to name to h

    type-in : (of : TypeName) → AreIn t (type_name of) → AreIn t (type_name (meant_type r of))
    type-in types.AnyType h = h
    type-in (types.Builtin of) h = h
    type-in (types.Named name) h = one (meant r kinds.Type name) (meant-in kinds.Type name (All-head IsIn name [] h))

    type-if-in : (of : Option TypeName) → AreIn t (given_type of) → AreIn t (given_type (option_map (meant_type r) of))
    type-if-in None h = h
    type-if-in (Some of) h = type-in of h

    given-in : (kind : VersionKind) (name : Option ℕ) → AreIn t (given_name name) → AreIn t (given_name (option_map (meant r kind) name))
    given-in kind None h = h
    given-in kind (Some name) h = one (meant r kind name) (meant-in kind name (All-head IsIn name [] h))

    types-in : (members : List TypeName) → AreIn t (flat_map type_name members) → AreIn t (flat_map type_name (map (meant_type r) members))
    types-in [] h = h
    types-in (member ∷ members) h =
        All-append IsIn (type_name (meant_type r member)) (flat_map type_name (map (meant_type r) members))
        (type-in member (front (type_name member) (flat_map type_name members) h)) (types-in members (back (type_name member) (flat_map type_name members) h))

    redirected-in : (form : Represented) → AreIn t (names_of form) → AreIn t (names_of (redirected_by r form))
    redirected-in (forms.Element element) h =
        let own = given_name element.name in
        let reference = given_name element.reference in
        let of = given_type element.of in
        let new = given_type (option_map (meant_type r) element.of) in
        let head = given_name element.head in
        let later = back own (reference ++ (of ++ head)) h in
        let last = back reference (of ++ head) later in
        All-append IsIn own (reference ++ (new ++ head)) (front own (reference ++ (of ++ head)) h)
        (All-append IsIn reference (new ++ head) (front reference (of ++ head) later)
        (All-append IsIn new head (type-if-in element.of (front of head last)) (back of head last)))
    redirected-in (forms.Attribute attribute) h =
        let own = given_name attribute.name in
        let reference = given_name attribute.reference in
        let of = given_type attribute.of in
        let new = given_type (option_map (meant_type r) attribute.of) in
        let later = back own (reference ++ of) h in
        All-append IsIn own (reference ++ new) (front own (reference ++ of) h)
        (All-append IsIn reference new (front reference of later) (type-if-in attribute.of (back reference of later)))
    redirected-in (forms.Restriction base) h = type-if-in base h
    redirected-in (forms.ItemType of) h = type-if-in of h
    redirected-in (forms.Union members) h = types-in members h
    redirected-in (forms.Derivation by_extension base) h = type-if-in base h
    redirected-in (forms.GroupReference name) h = given-in kinds.Group name h
    redirected-in (forms.AttributeGroupReference name) h = given-in kinds.AttributeGroup name h
    redirected-in _ h = h

  redirected-if-in : (r : Option Redirection) → IfSome r (λ x. IsIn x.to) → (form : Represented) → AreIn t (names_of form) → AreIn t (names_of (redirected r form))
  redirected-if-in None to form h = h
  redirected-if-in (Some r) to form h = redirected-in r to form h

  named-by-in : (name : ℕ) → IsIn name → (form : Represented) → AreIn t (names_of form) → AreIn t (names_of (named_by name form))
  named-by-in name is (forms.SimpleType own finals) h = one name is
  named-by-in name is (forms.ComplexType head) h = one name is
  named-by-in name is (forms.Group own) h = one name is
  named-by-in name is (forms.AttributeGroup own) h = one name is
  named-by-in name is _ h = h

  named-in : (name : Option ℕ) → IfSome name IsIn → (form : Represented) → AreIn t (names_of form) → AreIn t (names_of (named name form))
  named-in None is form h = h
  named-in (Some name) is form h = named-by-in name is form h

  -- a number that is found in the table
  number-in : (found : Option ℕ) → ((n : ℕ) → found ≡ Some n → IsIn n) → IfSome found IsIn
  number-in None each = tt
  number-in (Some n) each = each n refl

  number-of-in : (place : ℕ) (declared : Option Declared) → IfSome (number_of t place declared) IsIn
  number-of-in place None = tt
  number-of-in place (Some declared) =
      let local = version_local (local_of t declared.name) place in
      number-in (name_number t (space_of t declared.name) local) (within-name_number t (space_of t declared.name) local)

  module _ (reps : List Representation) (originals : List (Option ℕ)) where
    pub name-if : (b : Bool) (place : ℕ) → IfSome (if b then version_at t reps place else None) IsIn
    name-if true place = number-of-in place (declared_at reps place)
    name-if false place = tt

    abbrev GoesIn : Redirection → Type 0
    GoesIn r = IsIn r.to

    of-in : (declared : Declared) (to : Option ℕ) → IfSome to IsIn → IfSome (redirection_of declared to) GoesIn
    of-in declared None h = tt
    of-in declared (Some to) h = h

    to-in : (declared : Option Declared) (original : ℕ) → IfSome (redirection_to t reps declared original) GoesIn
    to-in None original = tt
    to-in (Some declared) original = of-in declared (version_at t reps original) (number-of-in original (declared_at reps original))

    if-in : (place : ℕ) (original : Option ℕ) → IfSome (redirection_if t reps place original) GoesIn
    if-in place None = tt
    if-in place (Some original) = to-in (declared_at reps place) original

    around-in : (version : Option ℕ) → IfSome (option_and_then (own_redirection t reps originals) version) GoesIn
    around-in None = tt
    around-in (Some place) = if-in place (original_at originals place)

    from-in : (place : ℕ) (some : List Representation) → AreNamed t some → AreNamed t (renamed_from t reps originals place some)
    from-in place [] h = h
    from-in place (rep ∷ some) h =
        All-cons (λ x. AreIn t (names_of x.form)) (renamed_as (original_name t reps originals place) (redirection_at t reps originals place) rep) (renamed_from t reps originals (suc place) some)
        (named-in (original_name t reps originals place) (name-if (is_original originals place) place) (redirected (redirection_at t reps originals place) rep.form)
        (redirected-if-in (redirection_at t reps originals place) (around-in (version_around reps originals place)) rep.form (All-head (λ x. AreIn t (names_of x.form)) rep some h)))
        (from-in (suc place) some (All-tail (λ x. AreIn t (names_of x.form)) rep some h))

    pub renamed-in : AreNamed t reps → AreNamed t (renamed_from t reps originals 0 reps)
    renamed-in h = from-in 0 reps h
