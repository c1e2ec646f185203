-- References of redefining components to themselves where originals have names of their own.
use Rattle.std.proofs.Common.{◌≡◌, ℕ, zero, suc, ◌+◌, ◌<◌, ◌==◌, ◌&&◌, ◌||◌, Bool, true, false, List, [], ◌∷◌, Option, None, Some, if◌then◌else◌, length, slice_get, refl, sym, ap, subst, ◌∙◌, true≢false, eq-eqb, arith}
use Rattle.std.specs.Option.{option_map, option_and_then}
use Rattle.std.specs.Str.{IsUtf8, chars}
use Rattle.std.proofs.lemmas.Bool.{eqb-true, and_parts}
use Rattle.std.proofs.lemmas.Option.{none-some, same_Some}
use Rattle.xs_names.specs.Characters.{is_ncname}
use Rattle.xs_names.specs.Names.{NameTable, Grown, name_number, space_of, local_of, with_name, same_name}
use Rattle.xs_names.proofs.GrownLaws.{Grown-refl, Grown-trans, Grown-with_name, name_number-Grown, space_of-Grown, local_of-Grown, slice_get-names-Grown}
use Rattle.xs_names.proofs.NumberingLaws.{same_name-Decides, slice_get-number_of}
use Rattle.representations.specs.declared.parts.Represented.{Represented}
use Rattle.representations.specs.declared.parts.Represented.TheVariants as forms
use Rattle.representations.specs.declared.parts.Representation.{Representation}
use Rattle.redefine_names.specs.Components.{declared_type, declared_by, declared_in, declared_at}
use Rattle.redefine_names.specs.VersionNames.{version_local, with_name_of, number_of, original_at, with_version, with_versions, version_at}
use Rattle.redefine_names.specs.Redirections.{same_kind, meant, redirected_by, redirected, redirection_of, redirection_to, redirection_if, is_in, version_or, version_above, version_around, own_redirection, redirection_at}
use Rattle.redefine_names.specs.Renamed.{named_by, named, is_place, is_original, renamed_as, original_name, renamed_from, renamed}
use Rattle.redefine_names.specs.Redefined.{of_name, referred, redefined_by, IsSelfReference}
use Rattle.redefine_names.specs.declared.declared.Declared.{Declared}
use Rattle.redefine_names.specs.declared.declared.VersionKind.{VersionKind}
use Rattle.redefine_names.specs.declared.declared.VersionKind.TheVariants as kinds
use Rattle.redefine_names.specs.declared.redirections.Redirection.{Redirection}
use Rattle.redefine_names.proofs.SpaceLaws.{original-spaced}
use Rattle.schema_check.proofs.ListLaws.{not-both, index-some}
use Rattle.schema_check.proofs.TableLaws.{item-there}

-- ---- kinds and forms
kinds-same : (a b : VersionKind) → same_kind a b ≡ true → a ≡ b
kinds-same kinds.Type kinds.Type is = refl
kinds-same kinds.Group kinds.Group is = refl
kinds-same kinds.AttributeGroup kinds.AttributeGroup is = refl
kinds-same _ _ is = absurd (true≢false (sym is))

kind-same : (a : VersionKind) → same_kind a a ≡ true
kind-same kinds.Type = refl
kind-same kinds.Group = refl
kind-same kinds.AttributeGroup = refl

abbrev pub meant_declared : Redirection → Declared → Declared
meant_declared r declared = record { kind = declared.kind; name = meant r declared.kind declared.name }

module _ (r : Redirection) where
  given-refers : (kind : VersionKind) (to : Option ℕ) → of_name kind (option_map (meant r kind) to) ≡ option_map (meant_declared r) (of_name kind to)
  given-refers kind None = refl
  given-refers kind (Some name) = refl

  by-refers : (form : Represented) → referred (redirected_by r form) ≡ option_map (meant_declared r) (referred form)
  by-refers (forms.GroupReference to) = given-refers kinds.Group to
  by-refers (forms.AttributeGroupReference to) = given-refers kinds.AttributeGroup to
  by-refers _ = refl

  by-declares : (form : Represented) → declared_by (redirected_by r form) ≡ declared_by form
  by-declares (forms.Element element) = refl
  by-declares _ = refl

redirected-declares : (r : Option Redirection) (form : Represented) → declared_by (redirected r form) ≡ declared_by form
redirected-declares None form = refl
redirected-declares (Some r) form = by-declares r form

named-refers : (name : Option ℕ) (form : Represented) → referred (named name form) ≡ referred form
named-refers None form = refl
named-refers (Some name) (forms.SimpleType own finals) = refl
named-refers (Some name) (forms.ComplexType head) = refl
named-refers (Some name) (forms.Group own) = refl
named-refers (Some name) (forms.AttributeGroup own) = refl
named-refers (Some name) _ = refl

-- what declares something declares the same under another name
type-declares : (name : Option ℕ) (to : ℕ) (declared : Declared) → declared_type name ≡ Some declared → declared_type (Some to) ≡ Some (record declared { name = to })
type-declares None to declared is = absurd (none-some declared is)
type-declares (Some name) to declared is = ap (λ (d : Declared). Some (record d { name = to })) (same_Some (record { kind = kinds.Type; name = name }) declared is)

named-declares : (form : Represented) (to : ℕ) (declared : Declared) → declared_by form ≡ Some declared → declared_by (named_by to form) ≡ Some (record declared { name = to })
named-declares (forms.SimpleType name finals) to declared is = type-declares name to declared is
named-declares (forms.ComplexType head) to declared is = type-declares head.name to declared is
named-declares (forms.Group name) to declared is = ap (λ (d : Declared). Some (record d { name = to })) (same_Some (record { kind = kinds.Group; name = name }) declared is)
named-declares (forms.AttributeGroup name) to declared is = ap (λ (d : Declared). Some (record d { name = to })) (same_Some (record { kind = kinds.AttributeGroup; name = name }) declared is)
named-declares _ to declared is = absurd (none-some declared is)

-- ---- tables with the names of originals
module _ (reps : List Representation) where
  grown-version : (t : NameTable) (original : Option ℕ) → Grown t (with_version t reps original)
  grown-version t None = Grown-refl t
  grown-version t (Some original) = by (declared_at reps original)
    where
      by : (o : Option Declared) → Grown t (with_name_of t original o)
      by None = Grown-refl t
      by (Some declared) = Grown-with_name t (space_of t declared.name) (version_local (local_of t declared.name) original)

  pub grown-versions : (t : NameTable) (originals : List (Option ℕ)) → Grown t (with_versions t reps originals)
  grown-versions t [] = Grown-refl t
  grown-versions t (original ∷ originals) =
      let a = with_version t reps original in
      Grown-trans t a (with_versions a reps originals) (grown-version t original) (grown-versions a originals)

  -- the name of an original has a number
  version-there : (t : NameTable) (originals : List (Option ℕ)) (n original : ℕ) (declared : Declared) → slice_get originals n ≡ Some (Some original) → declared_at reps original ≡ Some declared → declared.name < length t.names
      → (h : ℕ) × (version_at (with_versions t reps originals) reps original ≡ Some h)
  version-there t [] n original declared at is within = absurd (none-some (Some original) at)
  version-there t (first ∷ originals) zero original declared at is within =
      let own = with_name t (space_of t declared.name) (version_local (local_of t declared.name) original) in
      let whole = with_versions own reps originals in
      let put = item-there same_name same_name-Decides t.names (space_of t declared.name, version_local (local_of t declared.name) original) in
      let grown = grown-versions own originals in
      let all = Grown-trans t own whole (Grown-with_name t (space_of t declared.name) (version_local (local_of t declared.name) original)) grown in
      let later = name_number-Grown own whole grown (space_of t declared.name) (version_local (local_of t declared.name) original) put.0 put.1 in
      let named : number_of whole original (Some declared) ≡ Some put.0 =
      ap (λ (space : ℕ). name_number whole space (version_local (local_of whole declared.name) original)) (space_of-Grown t whole all declared.name within)
      ∙ (ap (λ (local : List ℕ). name_number whole (space_of t declared.name) (version_local local original)) (local_of-Grown t whole all declared.name within) ∙ later) in
      let same : with_version t reps first ≡ own =
      ap (with_version t reps) (same_Some first (Some original) at) ∙ ap (with_name_of t original) is in (
        put.0,
        ap (λ (u : NameTable). version_at (with_versions u reps originals) reps original) same ∙ (ap (number_of whole original) is ∙ named),
      )
  version-there t (first ∷ originals) (suc n) original declared at is within =
      version-there (with_version t reps first) originals n original declared at is (omega (arith, within, (grown-version t first).more_names))

-- ---- representations with originals under names of their own
among : (xs : List (Option ℕ)) (n original : ℕ) → slice_get xs n ≡ Some (Some original) → is_original xs original ≡ true
among [] n original at = absurd (none-some (Some original) at)
among (x ∷ xs) zero original at =
    ap (λ (o : Option ℕ). is_place original o || is_original xs original) (same_Some x (Some original) at)
    ∙ ap (λ (b : Bool). b || is_original xs original) (eq-eqb original original refl)
among (x ∷ xs) (suc n) original at = by (is_place original x) (among xs n original at)
  where
    by : (b : Bool) → is_original xs original ≡ true → (b || is_original xs original) ≡ true
    by true is = refl
    by false is = is

module _ (t : NameTable) (reps : List Representation) (originals : List (Option ℕ)) where
  abbrev pub whole : NameTable
  whole = with_versions t reps originals

  abbrev pub apart : List Representation
  apart = renamed whole reps originals

  abbrev new_at : ℕ → Representation → Representation
  new_at place rep = renamed_as (original_name whole reps originals place) (redirection_at whole reps originals place) rep

  renamed-at : (place : ℕ) (some : List Representation) (n : ℕ) (rep : Representation) → slice_get some n ≡ Some rep → slice_get (renamed_from whole reps originals place some) n ≡ Some (new_at (place + n) rep)
  renamed-at place [] n rep at = absurd (none-some rep at)
  renamed-at place (first ∷ some) zero rep at =
      let here : place ≡ place + 0 = omega arith in
      ap (λ (r : Representation). Some (new_at place r)) (same_Some first rep at) ∙ ap (λ (p : ℕ). Some (new_at p rep)) here
  renamed-at place (first ∷ some) (suc n) rep at =
      let on : suc place + n ≡ place + suc n = omega arith in
      renamed-at (suc place) some n rep at ∙ ap (λ (p : ℕ). Some (new_at p rep)) on

  renamed-from : (place : ℕ) (some : List Representation) (n : ℕ) (new : Representation) → slice_get (renamed_from whole reps originals place some) n ≡ Some new → (rep : Representation) × (slice_get some n ≡ Some rep)
  renamed-from place [] n new at = absurd (none-some new at)
  renamed-from place (first ∷ some) zero new at = (first, refl)
  renamed-from place (first ∷ some) (suc n) new at = renamed-from (suc place) some n new at

  new-at : (place : ℕ) (rep : Representation) → slice_get reps place ≡ Some rep → slice_get apart place ≡ Some (new_at place rep)
  new-at place rep at = let same : 0 + place ≡ place = omega arith in renamed-at 0 reps place rep at ∙ ap (λ (p : ℕ). Some (new_at p rep)) same

  in-same : (place : ℕ) (some : List Representation) (n q : ℕ) → is_in q (slice_get (renamed_from whole reps originals place some) n) ≡ is_in q (slice_get some n)
  in-same place [] n q = refl
  in-same place (first ∷ some) zero q = refl
  in-same place (first ∷ some) (suc n) q = in-same (suc place) some n q

  above-same : (n q : ℕ) → version_above apart originals n q ≡ version_above reps originals n q
  above-same zero q = refl
  above-same (suc n) q =
      let held = in-same 0 reps n q in
      let own = above-same n n in
      let other = above-same n q in
      λ i. if held i then version_or n (original_at originals n) (own i) else other i

  around-same : (place : ℕ) → version_around apart originals place ≡ version_around reps originals place
  around-same place = ap (version_or place (original_at originals place)) (above-same place place)

  -- a name that documents may write
  pub record IsPlain (name : ℕ) : Type 0 where
    pub ns : ℕ
    pub local : List ℕ
    pub at : slice_get t.names name ≡ Some (ns, local)
    pub plain : is_ncname (chars local) ≡ true

  abbrev pub ArePlain : Type 0
  ArePlain = (place : ℕ) (rep : Representation) (to : Declared) → slice_get reps place ≡ Some rep → referred rep.form ≡ Some to → IsPlain to.name

  module _ (plain : ArePlain) (version original : ℕ) (has : original_at originals version ≡ Some original) (d : Declared) (own : declared_at reps version ≡ Some d) (its : declared_at reps original ≡ Some d)
      (within : d.name < length t.names) (text : IsUtf8 (local_of t d.name))
    where
      abbrev h : (n : ℕ) × (version_at whole reps original ≡ Some n)
      h = version-there reps t originals version original d (index-some originals version original has) its within

      abbrev r : Redirection
      r = record { kind = d.kind; from = d.name; to = h.0 }

      abbrev hidden : Declared
      hidden = record d { name = h.0 }

      own-redirected : own_redirection whole reps originals version ≡ Some r
      own-redirected =
          ap (redirection_if whole reps version) has
          ∙ (ap (λ (o : Option Declared). redirection_to whole reps o original) own ∙ ap (redirection_of d) h.1)

      at-redirected : (place : ℕ) → version_around reps originals place ≡ Some version → redirection_at whole reps originals place ≡ Some r
      at-redirected place around = ap (option_and_then (own_redirection whole reps originals)) around ∙ own-redirected

      new-refers : (place : ℕ) (rep : Representation) → version_around reps originals place ≡ Some version → referred (new_at place rep).form ≡ option_map (meant_declared r) (referred rep.form)
      new-refers place rep around =
          named-refers (original_name whole reps originals place) (redirected (redirection_at whole reps originals place) rep.form)
          ∙ (ap (λ (o : Option Redirection). referred (redirected o rep.form)) (at-redirected place around) ∙ by-refers r rep.form)

      name-is : original_name whole reps originals original ≡ Some h.0
      name-is =
          ap (λ (b : Bool). if b then version_at whole reps original else None) (among originals version original (index-some originals version original has)) ∙ h.1

      declared-new : declared_at apart original ≡ Some hidden
      declared-new = by (slice_get reps original) refl its
        where
          by : (o : Option Representation) → slice_get reps original ≡ o → declared_in o ≡ Some d → declared_at apart original ≡ Some hidden
          by None at is = absurd (none-some d is)
          by (Some rep) at is =
              let redirection = redirection_at whole reps originals original in
              ap declared_in (new-at original rep at)
              ∙ (ap (λ (name : Option ℕ). declared_by (named name (redirected redirection rep.form))) name-is
              ∙ named-declares (redirected redirection rep.form) h.0 d (redirected-declares redirection rep.form ∙ is))

      redefined-new : redefined_by apart originals version ≡ Some hidden
      redefined-new = ap (option_and_then (declared_at apart)) has ∙ declared-new

      redefined-old : redefined_by reps originals version ≡ Some d
      redefined-old = ap (option_and_then (declared_at reps)) has ∙ its

      meant-it : meant_declared r d ≡ hidden
      meant-it =
          let test : (same_kind d.kind d.kind && d.name == d.name) ≡ true =
          ap (λ (b : Bool). b && d.name == d.name) (kind-same d.kind) ∙ eq-eqb d.name d.name refl in
          ap (λ (b : Bool). record d { name = if b then h.0 else d.name }) test

      -- no document writes the name of an original
      never-written : IsPlain h.0 → ⊥
      never-written written =
          let grown = grown-versions reps t originals in
          let local = version_local (local_of whole d.name) original in
          let named : name_number whole (space_of whole d.name) local ≡ Some h.0 = ap (number_of whole original) (sym its) ∙ h.1 in
          let at = slice_get-number_of same_name same_name-Decides whole.names (space_of whole d.name, local) h.0 named in
          let old = slice_get-names-Grown t whole grown h.0 (written.ns, written.local) written.at in
          let same : written.local ≡ local = ap (λ (name : ℕ × List ℕ). name.1) (same_Some (written.ns, written.local) (space_of whole d.name, local) (sym old ∙ at)) in
          let utf : IsUtf8 (local_of whole d.name) = subst IsUtf8 (sym (local_of-Grown t whole grown d.name within)) text in
          not-both (ap (λ (l : List ℕ). is_ncname (chars l)) (sym same) ∙ written.plain) (original-spaced (local_of whole d.name) original utf)

      meant-from : (to : Declared) → IsPlain to.name → meant_declared r to ≡ hidden → to ≡ d
      meant-from to written same = by (same_kind to.kind d.kind && d.name == to.name) refl (ap (λ (x : Declared). x.name) same)
        where
          by : (b : Bool) → (same_kind to.kind d.kind && d.name == to.name) ≡ b → (if b then h.0 else to.name) ≡ h.0 → to ≡ d
          by true e is =
              let tests = and_parts (same_kind to.kind d.kind) (d.name == to.name) e in
              let kind = kinds-same to.kind d.kind tests.0 in
              let name : to.name ≡ d.name = sym (eqb-true d.name to.name tests.1) in
              λ i. record { kind = kind i; name = name i }
          by false e is = absurd (never-written (subst IsPlain is written))

      pub hidden-to : (place : ℕ) → IsSelfReference apart originals version place → IsSelfReference reps originals version place
      hidden-to place is =
          let from = renamed-from 0 reps place is.rep is.there in
          let rep = from.0 in
          let around : version_around reps originals place ≡ Some version = sym (around-same place) ∙ is.within in
          let same : is.rep ≡ new_at place rep = same_Some is.rep (new_at place rep) (sym is.there ∙ new-at place rep from.1) in
          let to : is.to ≡ hidden = same_Some is.to hidden (sym is.original ∙ redefined-new) in
          let found : option_map (meant_declared r) (referred rep.form) ≡ Some hidden =
          sym (new-refers place rep around) ∙ (ap (λ (x : Representation). referred x.form) (sym same) ∙ (is.refers ∙ ap (λ (x : Declared). Some x) to)) in
          by rep from.1 around (referred rep.form) refl found
        where
          by : (rep : Representation) → slice_get reps place ≡ Some rep → version_around reps originals place ≡ Some version → (o : Option Declared) → referred rep.form ≡ o → option_map (meant_declared r) o ≡ Some hidden → IsSelfReference reps originals version place
          by rep at around None e found = absurd (none-some hidden found)
          by rep at around (Some to) e found =
              let is_d = meant-from to (plain place rep to at e) (same_Some (meant_declared r to) hidden found) in
              record { rep = rep; to = d; there = at; within = around; refers = e ∙ ap (λ (x : Declared). Some x) is_d; original = redefined-old }

      pub hidden-from : (place : ℕ) → IsSelfReference reps originals version place → IsSelfReference apart originals version place
      hidden-from place is =
          let to : is.to ≡ d = same_Some is.to d (sym is.original ∙ redefined-old) in
          record {
            rep = new_at place is.rep;
            to = hidden;
            there = new-at place is.rep is.there;
            within = around-same place ∙ is.within;
            refers = new-refers place is.rep is.within
                ∙ (ap (option_map (meant_declared r)) (is.refers ∙ ap (λ (x : Declared). Some x) to) ∙ ap (λ (x : Declared). Some x) meant-it);
            original = redefined-new;
          }
