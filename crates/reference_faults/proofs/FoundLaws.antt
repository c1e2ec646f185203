-- Where nothing is broken, references resolve.
use Rattle.std.proofs.Common.{◌≡◌, ◌≢◌, ℕ, zero, suc, inl, Bool, true, false, ◌&&◌, not, List, [], ◌∷◌, Option, None, Some, slice_get, refl, sym, ap, ◌∙◌, arith}
use Rattle.std.specs.Prelude.{Contains, is_some, map}
use Rattle.std.specs.List.{list_all}
use Rattle.std.specs.Option.{option_or}
use Rattle.std.proofs.lemmas.Bool.{true≢false}
use Rattle.xs_codes.specs.Least.{IsLeast}
use Rattle.xs_codes.specs.declared.code.Code.{Code}
use Rattle.xs_codes.specs.declared.code.Code.TheVariants.{SchPropsCorrect2, NoXmlns, NoXsi, SrcResolve, SrcResolve4}
use Rattle.xs_names.specs.Names.{NameTable}
use Rattle.component_tables.specs.Symbols.{if_named, first_from, first_place}
use Rattle.representations.specs.Names.{type_symbol, constraint_symbol, spaces_of}
use Rattle.representations.specs.declared.origins.Origin.{Origin}
use Rattle.representations.specs.declared.parts.Represented.{Represented}
use Rattle.representations.specs.declared.parts.Represented.TheVariants as forms
use Rattle.representations.specs.declared.parts.Representation.{Representation}
use Rattle.reference_faults.specs.Attributes.{attribute_name, is_xmlns, is_xsi}
use Rattle.reference_faults.specs.Doubles.{is_double}
use Rattle.reference_faults.specs.Faults.{name_fault, code_if, is_lost, is_foreign, reference_codes, codes_of, IsBroken}
use Rattle.reference_faults.specs.Imports.{origin_at}
use Rattle.reference_faults.specs.References.{references}
use Rattle.reference_faults.specs.Resolution.{simple_symbol, key_symbol, kinds_of, resolves, place_of}
use Rattle.reference_faults.specs.declared.reference.Reference.{Reference}
use Rattle.reference_faults.specs.declared.reference.Reference.TheVariants.{ToElement, ToAttribute, ToType, ToSimpleType, ToAnyTypeAsSimple, ToGroup, ToAttributeGroup, ToKey}

-- one that fails is no element of a list whose elements all pass
all-pass : {X : Type 0} (f : X → Bool) (xs : List X) (x : X) → f x ≡ false → Contains xs x → list_all f xs ≡ false
all-pass f [] x e c = absurd (omega (arith, c.1))
all-pass f (y ∷ ys) x e (zero, l, is) = ap (λ b. b && list_all f ys) (ap f is ∙ e)
all-pass f (y ∷ ys) x e (suc k, l, is) = and-false (f y) (list_all f ys) (all-pass f ys x e (k, omega (arith, l), is))
  where
    and-false : (a b : Bool) → b ≡ false → (a && b) ≡ false
    and-false true b e = e
    and-false false b e = refl

-- a code stays behind others
kept : (broken : Bool) (code other : Code) (codes : List Code) → Contains codes other → Contains (code_if broken code codes) other
kept true code other codes c = (suc c.0, (let l = c.1 in omega arith), c.2)
kept false code other codes c = c

first-kept : (broken : Bool) (code : Code) (codes : List Code) → broken ≡ true → Contains (code_if broken code codes) code
first-kept true code codes e = (0, omega arith, refl)
first-kept false code codes e = absurd (true≢false (sym e))

module _ (t : NameTable) (origins : List Origin) (reps : List Representation) (none : IsLeast (IsBroken t origins reps) None) where
  module _ (place : ℕ) (rep : Representation) (to : Reference) (at : slice_get reps place ≡ Some rep) (among : Contains (references rep.form) to) where
    lost : resolves (spaces_of reps) (kinds_of reps) to ≡ false → ⊥
    lost e =
        let spaces = spaces_of reps in
        let kinds = kinds_of reps in
        let origin = origin_at origins place in
        let is : is_lost t spaces kinds rep.form ≡ true = ap not (all-pass (resolves spaces kinds) (references rep.form) to e among) in
        let last = code_if (is_foreign t spaces kinds origin rep.form) SrcResolve4 [] in
        let third = reference_codes t spaces kinds origin rep.form in
        let second = code_if (is_xsi t (attribute_name rep.form)) NoXsi third in
        let first = code_if (is_xmlns t (attribute_name rep.form)) NoXmlns second in
        let here : Contains (codes_of t spaces kinds origin place rep.form) SrcResolve =
        kept (is_double spaces place) SchPropsCorrect2 SrcResolve first
        (kept (is_xmlns t (attribute_name rep.form)) NoXmlns SrcResolve second
        (kept (is_xsi t (attribute_name rep.form)) NoXsi SrcResolve third (first-kept (is_lost t spaces kinds rep.form) SrcResolve last is))) in
        none (name_fault rep.at SrcResolve) (inl (place, rep, SrcResolve, at, here, refl))

    by-answer : (b : Bool) → resolves (spaces_of reps) (kinds_of reps) to ≡ b → resolves (spaces_of reps) (kinds_of reps) to ≡ true
    by-answer true e = e
    by-answer false e = absurd (lost e)

    pub found : resolves (spaces_of reps) (kinds_of reps) to ≡ true
    found = by-answer (resolves (spaces_of reps) (kinds_of reps) to) refl

pub all-resolve : (t : NameTable) (origins : List Origin) (reps : List Representation) → IsLeast (IsBroken t origins reps) None → (place : ℕ) (rep : Representation) (to : Reference) →
    slice_get reps place ≡ Some rep → Contains (references rep.form) to → resolves (spaces_of reps) (kinds_of reps) to ≡ true
all-resolve t origins reps none place rep to at among = found t origins reps none place rep to at among

some-not-none : (o : Option ℕ) → is_some o ≡ true → o ≡ None → ⊥
some-not-none None e f = true≢false (sym e)
some-not-none (Some n) e f = cc

or-right : (a b : Option ℕ) → option_or a b ≡ None → b ≡ None
or-right None b e = e
or-right (Some n) b e = cc

or-left : (a b : Option ℕ) → option_or a b ≡ None → a ≡ None
or-left None b e = refl
or-left (Some n) b e = cc

none-is : (n : ℕ) → None ≡ Some n → ⊥
none-is n e = cc

-- what is among some symbols is among those that have them too
module _ (narrow wide : Represented → Option ℕ) (within : (form : Represented) (name : ℕ) → narrow form ≡ Some name → wide form ≡ Some name) where
  abbrev first_of : (Represented → Option ℕ) → List Representation → ℕ → ℕ → Option ℕ
  first_of symbol reps place name = first_from (map (λ r. symbol r.form) reps) place name

  more-named : (reps : List Representation) (place name : ℕ) → first_of wide reps place name ≡ None → first_of narrow reps place name ≡ None
  more-named [] place name e = refl
  more-named (rep ∷ reps) place name e =
      by-symbol (narrow rep.form) refl (more-named reps (suc place) name (or-right (if_named (wide rep.form) place name) (first_of wide reps (suc place) name) e))
    where
      here : if_named (wide rep.form) place name ≡ None
      here = or-left (if_named (wide rep.form) place name) (first_of wide reps (suc place) name) e

      by-symbol : (o : Option ℕ) → narrow rep.form ≡ o → first_of narrow reps (suc place) name ≡ None → option_or (if_named (narrow rep.form) place name) (first_of narrow reps (suc place) name) ≡ None
      by-symbol None f rest = ap (λ s. option_or (if_named s place name) (first_of narrow reps (suc place) name)) f ∙ rest
      by-symbol (Some own) f rest =
          let same : narrow rep.form ≡ wide rep.form = f ∙ sym (within rep.form own f) in
          ap (λ s. option_or (if_named s place name) (first_of narrow reps (suc place) name)) same
          ∙ (ap (λ o. option_or o (first_of narrow reps (suc place) name)) here ∙ rest)

-- the symbol of a simple type is that of a type
simple-within : (form : Represented) (name : ℕ) → simple_symbol form ≡ Some name → type_symbol form ≡ Some name
simple-within (forms.SimpleType own finals) name e = e
simple-within form name e = absurd (none-is name e)

key-within : (form : Represented) (name : ℕ) → key_symbol form ≡ Some name → constraint_symbol form ≡ Some name
key-within (forms.Unique own) name e = e
key-within (forms.Key own) name e = e
key-within form name e = absurd (none-is name e)

pub place-found : (reps : List Representation) (to : Reference) → resolves (spaces_of reps) (kinds_of reps) to ≡ true → place_of (spaces_of reps) to ≢ None
place-found reps (ToElement name) e f = some-not-none (first_place (spaces_of reps).elements name) e f
place-found reps (ToAttribute name) e f = some-not-none (first_place (spaces_of reps).attributes name) e f
place-found reps (ToType name) e f = some-not-none (first_place (spaces_of reps).types name) e f
place-found reps (ToSimpleType name) e f = some-not-none (first_place (kinds_of reps).simples name) e (more-named simple_symbol type_symbol simple-within reps 0 name f)
place-found reps ToAnyTypeAsSimple e f = true≢false (sym e)
place-found reps (ToGroup name) e f = some-not-none (first_place (spaces_of reps).groups name) e f
place-found reps (ToAttributeGroup name) e f = some-not-none (first_place (spaces_of reps).attr_groups name) e f
place-found reps (ToKey name) e f = some-not-none (first_place (kinds_of reps).keys name) e (more-named key_symbol constraint_symbol key-within reps 0 name f)
