-- The uses of one name after another.
use Rattle.std.proofs.Common.{◌≡◌, ◌⊎◌, inl, inr, ℕ, ◌+◌, ◌^◌, ◌<◌, ◌≤◌, Bool, true, false, Option, None, Some, refl, sym, ap, ◌∙◌, subst, arith}
use Rattle.std.specs.Prelude.{◌↔◌, ◌&&◌, not, IsTrue, IfOk, IfSome, Result, Ok, Err, slice_get}
use Rattle.std.specs.Option.{option_map, option_and_then}
use Rattle.std.proofs.lemmas.Option.{same_Some, none-some}
use Rattle.attr_uses.specs.declared.entry.UseAt.{UseAt}
use Rattle.xs_components.specs.declared.attribute.AttributeDecl.{AttributeDecl}
use Rattle.xs_components.specs.declared.attribute.AttrUse.{AttrUse}
use Rattle.attr_uses.specs.Written.{use_at}
use Rattle.derive_restriction.specs.declared.uses.DeclaredUse.{DeclaredUse}
use Rattle.derive_restriction.specs.Given.{AreGiven, IsDeclaration}
use Rattle.std.proofs.lemmas.Bool.{false≢true, cases_eq, cases_lt}
use Rattle.xs_codes.specs.declared.code.Code.{Code}
use Rattle.xs_names.specs.Names.{NameTable, space_of}
use Rattle.xs_components.specs.Tables.{Tables}
use Rattle.xs_components.specs.declared.common.Wildcard.{Wildcard}
use Rattle.attr_uses.specs.Uses.{AttrUses, use_named}
use Rattle.attr_uses.specs.Tables.{AreAlike, IsNextUnlike, IsWildcard}
use Rattle.type_derivation.specs.Chains.{Derives, same}
use Rattle.derive_faults.specs.Finals.{no_methods}
use Rattle.xs_codes.specs.declared.code.Code.TheVariants.{DerivationOkRestriction2_1_1, DerivationOkRestriction2_1_2, DerivationOkRestriction2_1_3}
use Rattle.derive_faults.specs.TypeFaults.{IsFirstCode, earlier, when}
use Rattle.derive_faults.proofs.FaultLaws.{earlier-first, both-first, first-same, when-true, when-first, when-refuted}
use Rattle.derive_faults.specs.Values.{effective, LosesFixed}
use Rattle.derive_restriction.specs.Uses.{Declared, declared, with_declaration, declared_at, use_for, is_admitted, IsLoosened, IsOtherType, IsFixedLost, three_codes, BreaksName, BreaksBelow, IsFoundBefore, numbers_left}
use Rattle.derive_faults.proofs.ValueLaws.{not-lost}

not-both : (b : Bool) → (b && not b) ≡ true → ⊥
not-both true e = false≢true e
not-both false e = false≢true e

-- the first code of two uses of one name
pub three-first : (t : Tables) (names : NameTable) (wildcard : Option Wildcard) (own base : Declared) (derived lost : Bool) (r : Option Code) → r ≡ three_codes base.part.required own.part.required derived lost →
    IsTrue derived ↔ Derives t no_methods own.decl.of base.decl.of → IsTrue lost ↔ LosesFixed t own.decl.of base.decl.of (effective own.part own.decl) (effective base.part base.decl) → IsFirstCode (BreaksName t names wildcard (Some own) (Some base)) r
three-first t names wildcard own base derived lost r is told found =
    both-first (IsLoosened t names own base) (λ code. IsOtherType t names own base code ⊎ IsFixedLost t names own base code)
    (when (base.part.required && not own.part.required) DerivationOkRestriction2_1_1) (earlier (when (not derived) DerivationOkRestriction2_1_2) (when lost DerivationOkRestriction2_1_3)) r is
    (when-true (base.part.required && not own.part.required) (base.part.required && not own.part.required) DerivationOkRestriction2_1_1 refl)
    (earlier-first (IsOtherType t names own base) (IsFixedLost t names own base) (when (not derived) DerivationOkRestriction2_1_2) (when lost DerivationOkRestriction2_1_3)
    (when-refuted (Derives t no_methods own.decl.of base.decl.of) derived DerivationOkRestriction2_1_2 told)
    (when-first (LosesFixed t own.decl.of base.decl.of (effective own.part own.decl) (effective base.part base.decl)) lost DerivationOkRestriction2_1_3 found))

module _ (t : Tables) (names : NameTable) where
  -- a use breaks nothing against itself
  pub nothing-itself : (wildcard : Option Wildcard) (x : Option Declared) (code : Code) → BreaksName t names wildcard x x code → ⊥
  nothing-itself wildcard None code broken = broken
  nothing-itself wildcard (Some x) code (inl (loosened, is)) = not-both x.part.required loosened
  nothing-itself wildcard (Some x) code (inr (inl (never, is))) = never (same x.decl.of)
  nothing-itself wildcard (Some x) code (inr (inr (lost, is))) = not-lost t x.decl.of (effective x.part x.decl) lost

  -- wildcards that are like another admit the same
  pub admitted-same : (a b : Option Wildcard) → IsWildcard a b → (space : ℕ) → is_admitted a space ≡ is_admitted b space
  admitted-same None None like space = refl
  admitted-same None (Some b) like space = absurd like
  admitted-same (Some a) None like space = absurd like
  admitted-same (Some a) (Some b) like space = like.same space

  pub name-like : (a b : Option Wildcard) → IsWildcard a b → (own base : Option Declared) (code : Code) → BreaksName t names a own base code → BreaksName t names b own base code
  name-like a b like None None code broken = broken
  name-like a b like None (Some y) code broken = broken
  name-like a b like (Some x) None code (never, is) = (sym (admitted-same a b like (space_of names x.decl.name)) ∙ never, is)
  name-like a b like (Some x) (Some y) code broken = broken

  pub name-back : (a b : Option Wildcard) → IsWildcard a b → (own base : Option Declared) (code : Code) → BreaksName t names b own base code → BreaksName t names a own base code
  name-back a b like None None code broken = broken
  name-back a b like None (Some y) code broken = broken
  name-back a b like (Some x) None code (never, is) = (admitted-same a b like (space_of names x.decl.name) ∙ never, is)
  name-back a b like (Some x) (Some y) code broken = broken

  -- what the two codes of a name are by one wildcard, they are by one like it
  pub first-like : (a b : Option Wildcard) → IsWildcard a b → (own base : Option Declared) (r : Option Code) → IsFirstCode (BreaksName t names a own base) r → IsFirstCode (BreaksName t names b own base) r
  first-like a b like own base r is = first-same (BreaksName t names a own base) (BreaksName t names b own base) (name-like a b like own base) (name-back a b like own base) r is

  module _ (own base : AttrUses) where
    -- where both have the same use, nothing is broken
    pub nothing-alike : (name : ℕ) (code : Code) → use_named t own.uses name ≡ use_named t base.uses name → BreaksName t names base.wildcard (use_for t own.uses name) (use_for t base.uses name) code → ⊥
    nothing-alike name code e broken =
        nothing-itself base.wildcard (use_for t base.uses name) code (subst (λ u. BreaksName t names base.wildcard (declared_at t u) (use_for t base.uses name) code) e broken)

    -- names that are passed over
    passed : (from bound : ℕ) → from ≤ bound → AreAlike t own.uses base.uses from bound → (r : Option Code) → IsFirstCode (BreaksBelow t names own base from) r → IsFirstCode (BreaksBelow t names own base bound) r
    passed from bound le alike r is =
        first-same (BreaksBelow t names own base from) (BreaksBelow t names own base bound)
        (λ code x. let l = x.1 in (x.0, omega (arith, l, le), x.2))
        (λ code x. elim (cases_lt x.0 from) [ inl l ↦ (x.0, l, x.2) | inr g ↦ absurd (nothing-alike x.0 code (alike x.0 g x.1) x.2) ])
        r is

    pub before-next : (from : ℕ) → from ≤ 2 ^ 32 → (next : Option ℕ) (best : Option Code) → IsNextUnlike t own.uses base.uses from next → IsFirstCode (BreaksBelow t names own base from) best → IsFoundBefore t names own base next best
    before-next from le None best alike is = passed from (2 ^ 32) le alike best is
    before-next from le (Some name) best unlike is = (unlike.within, passed from name unlike.behind unlike.alike best is)

    pub none-before : (next : Option ℕ) → IsNextUnlike t own.uses base.uses 0 next → IsFoundBefore t names own base next None
    none-before next is = before-next 0 (omega arith) next None is (λ code x. absurd (omega (arith, x.1)))

    -- one name more
    one-more : (name : ℕ) (best found : Option Code) → IsFirstCode (BreaksBelow t names own base name) best → IsFirstCode (BreaksName t names base.wildcard (use_for t own.uses name) (use_for t base.uses name)) found → IsFirstCode (BreaksBelow t names own base (name + 1)) (earlier best found)
    one-more name best found is at =
        first-same (λ code. BreaksBelow t names own base name code ⊎ BreaksName t names base.wildcard (use_for t own.uses name) (use_for t base.uses name) code) (BreaksBelow t names own base (name + 1))
        (λ code either. elim either [ inl x ↦ (let l = x.1 in (x.0, omega (arith, l), x.2)) | inr x ↦ (name, omega arith, x) ])
        (λ code x. elim (cases_eq x.0 name) [
          | inl equal ↦ inr (subst (λ n. BreaksName t names base.wildcard (use_for t own.uses n) (use_for t base.uses n) code) equal x.2)
          | inr differ ↦ (let l = x.1 in inl (x.0, omega (arith, l, differ), x.2))
        ])
        (earlier best found)
        (earlier-first (BreaksBelow t names own base name) (BreaksName t names base.wildcard (use_for t own.uses name) (use_for t base.uses name)) best found is at)

    pub before-more : (name : ℕ) (best found new : Option Code) (next : Option ℕ) → new ≡ earlier best found → IsFoundBefore t names own base (Some name) best → IsFirstCode (BreaksName t names base.wildcard (use_for t own.uses name) (use_for t base.uses name)) found →
        IsNextUnlike t own.uses base.uses (name + 1) next → IsFoundBefore t names own base next new
    before-more name best found new next e before at is =
        let small = before.0 in
        subst (IsFoundBefore t names own base next) (sym e) (before-next (name + 1) (omega (arith, small)) next (earlier best found) is (one-more name best found before.1 at))

pub unlike-smaller : (t : Tables) (own base : AttrUses) (name : ℕ) (next : Option ℕ) → name < 2 ^ 32 → IsNextUnlike t own.uses base.uses (name + 1) next → numbers_left next < numbers_left (Some name)
unlike-smaller t own base name None h is = omega arith
unlike-smaller t own base name (Some next) h is = omega (arith, is.behind, is.within)

-- a declaration of the schema set is as it must be
pub declaration-given : (t : Tables) (names : NameTable) → AreGiven t names → (o : Option DeclaredUse) (u : Option UseAt) → option_map declared o ≡ declared_at t u → IfSome o (λ x. IsDeclaration t names x.decl.now)
declaration-given t names given None u e = tt
declaration-given t names given (Some x) None e = absurd (none-some (declared x) (sym e))
declaration-given t names given (Some x) (Some u) e = of-use (use_at t u) e
  where
    of-decl : (part : AttrUse) (o : Option AttributeDecl) → slice_get t.attributes.parts part.attribute ≡ o → Some (declared x) ≡ option_map (λ decl. record { part = part; decl = decl }) o → IsDeclaration t names x.decl.now
    of-decl part None is equal = absurd (none-some (declared x) (sym equal))
    of-decl part (Some decl) is equal =
        subst (IsDeclaration t names) (sym (ap (λ (d : Declared). d.decl) (same_Some (declared x) record { part = part; decl = decl } equal))) (given.attributes part.attribute decl is)

    of-use : (o : Option AttrUse) → Some (declared x) ≡ option_and_then (with_declaration t) o → IsDeclaration t names x.decl.now
    of-use None equal = absurd (none-some (declared x) (sym equal))
    of-use (Some part) equal = of-decl part (slice_get t.attributes.parts part.attribute) refl equal

-- the codes of a name, by what is known of it
pub name-in : {E : Type 0} (t : Tables) (names : NameTable) (a b : Option Wildcard) → IsWildcard a b → (x own : Option Declared) → x ≡ own → (y base : Option Declared) → y ≡ base → (r : Result (Option Code) E) →
    IfOk r (IsFirstCode (BreaksName t names a x y)) → IfOk r (IsFirstCode (BreaksName t names b own base))
name-in t names a b like x own e y base f (Ok code) is =
    first-like t names a b like own base code (subst (λ o. IsFirstCode (BreaksName t names a o base) code) e (subst (λ o. IsFirstCode (BreaksName t names a x o) code) f is))
name-in t names a b like x own e y base f (Err error) is = tt
