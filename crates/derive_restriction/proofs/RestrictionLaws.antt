-- Tables of attribute uses that are there, or refused.
use Rattle.std.proofs.Common.{◌≡◌, ◌⊎◌, inl, inr, ℕ, Bool, true, List, Option, None, Some, Result, Ok, Err, refl, sym, subst}
use Rattle.std.proofs.lemmas.Bool.{false≢true}
use Rattle.xs_codes.specs.declared.code.Code.{Code}
use Rattle.xs_codes.specs.declared.fault.Fault.{Fault}
use Rattle.xs_names.specs.Names.{NameTable}
use Rattle.xs_components.specs.Tables.{Tables}
use Rattle.xs_components.specs.declared.common.TypeId.{TypeId}
use Rattle.xs_components.specs.declared.common.TypeId.TheVariants.{AnyType, Builtin, Simple, Complex}
use Rattle.attr_uses.specs.Uses.{AttrUses, uses_of, any_wildcard, any_type_uses}
use Rattle.attr_uses.proofs.DefLaws.{any_type_is}
use Rattle.attr_uses.specs.Tables.{StandsFor, Answers}
use Rattle.attr_uses.specs.declared.store.KeptTable.{KeptTable}
use Rattle.attr_uses.specs.declared.store.Store.{Store}
use Rattle.derive_faults.specs.TypeFaults.{IsFirstCode}
use Rattle.std.specs.Prelude.{IfOk}
use Rattle.derive_faults.proofs.FaultLaws.{first-same, given-first}
use Rattle.derive_restriction.specs.Uses.{Declared, use_for, BreaksName, BreaksUses}
use Rattle.derive_restriction.specs.Wildcards.{BreaksWildcard}
use Rattle.derive_restriction.specs.Restrictions.{is_any_type, BreaksTables}

not-Ok : (f : Fault) (a : AttrUses) → Err f ≡ Ok a → ⊥
not-Ok f a e = cc

module _ (t : Tables) (ids : List Bool) (store : Store) where
  -- what a table that is there stands for
  pub answered : (table : KeptTable) (r : Result AttrUses Fault) → Answers t ids store (Ok table) r → (value : AttrUses) × (r ≡ Ok value) × StandsFor t ids store table value
  answered table (Ok value) is = (value, refl, is)
  answered table (Err fault) is = absurd is

  pub refused : (fault : Fault) (r : Result AttrUses Fault) → Answers t ids store (Err fault) r → (value : AttrUses) → r ≡ Ok value → ⊥
  refused fault (Ok value) is other e = is
  refused fault (Err other) is value e = not-Ok other value e

  -- the same of an answer that is one of these
  pub answered-by : (answer : Result KeptTable Fault) (table : KeptTable) → answer ≡ Ok table → (r : Result AttrUses Fault) → Answers t ids store answer r → (value : AttrUses) × (r ≡ Ok value) × StandsFor t ids store table value
  answered-by answer table e r is = answered table r (subst (λ a. Answers t ids store a r) e is)

  pub refused-by : (answer : Result KeptTable Fault) (fault : Fault) → answer ≡ Err fault → (r : Result AttrUses Fault) → Answers t ids store answer r → (value : AttrUses) → r ≡ Ok value → ⊥
  refused-by answer fault e r is = refused fault r (subst (λ a. Answers t ids store a r) e is)

same_Ok : (a b : AttrUses) (x : Result AttrUses Fault) → x ≡ Ok a → x ≡ Ok b → a ≡ b
same_Ok a b x e f = cc

module _ (t : Tables) (names : NameTable) (n : ℕ) (base : TypeId) where
  -- without the one table or the other nothing is broken
  pub none-own : ((value : AttrUses) → uses_of t (Complex n) ≡ Ok value → ⊥) → IsFirstCode (BreaksTables t names n base) None
  none-own never = λ code x. never x.0 x.2

  pub none-base : ((value : AttrUses) → uses_of t base ≡ Ok value → ⊥) → IsFirstCode (BreaksTables t names n base) None
  none-base never = λ code x. never x.1 x.3

  pub tables-first : (own also : AttrUses) → uses_of t (Complex n) ≡ Ok own → uses_of t base ≡ Ok also → (r : Option Code) →
      IsFirstCode (λ code. BreaksUses t names own also code ⊎ BreaksWildcard (is_any_type base) own.wildcard also.wildcard code) r → IsFirstCode (BreaksTables t names n base) r
  tables-first own also e f r is =
      first-same (λ code. BreaksUses t names own also code ⊎ BreaksWildcard (is_any_type base) own.wildcard also.wildcard code) (BreaksTables t names n base)
      (λ code x. (own, also, e, f, x))
      (λ code x.
      let one : x.0 ≡ own = same_Ok x.0 own (uses_of t (Complex n)) x.2 e in
      let two : x.1 ≡ also = same_Ok x.1 also (uses_of t base) x.3 f in
      subst (λ (a : AttrUses). BreaksUses t names own a code ⊎ BreaksWildcard (is_any_type base) own.wildcard a.wildcard code) two
      (subst (λ (o : AttrUses). BreaksUses t names o x.1 code ⊎ BreaksWildcard (is_any_type base) o.wildcard x.1.wildcard code) one x.4))
      r is

-- anyType allows each attribute use
by-name : (t : Tables) (names : NameTable) (own : Option Declared) (code : Code) → BreaksName t names (Some any_wildcard) own None code → ⊥
by-name t names None code x = x
by-name t names (Some own) code x = false≢true (sym x.0)

pub any-first : (t : Tables) (names : NameTable) (own : AttrUses) (r : Option Code) → IsFirstCode (BreaksWildcard true own.wildcard any_type_uses.wildcard) r
    → IsFirstCode (λ code. BreaksUses t names own any_type_uses code ⊎ BreaksWildcard true own.wildcard any_type_uses.wildcard code) r
any-first t names own r is =
    first-same (BreaksWildcard true own.wildcard any_type_uses.wildcard) (λ code. BreaksUses t names own any_type_uses code ⊎ BreaksWildcard true own.wildcard any_type_uses.wildcard code)
    (λ code x. inr x)
    (λ code x. elim x [
      | inl u ↦ absurd (by-name t names (use_for t own.uses u.0) code u.2)
      | inr w ↦ w
    ])
    r is

pub of-any-type : (t : Tables) (base : TypeId) (also : AttrUses) → is_any_type base ≡ true → uses_of t base ≡ Ok also → (base ≡ AnyType) × (also ≡ any_type_uses)
of-any-type t AnyType also any is = (refl, same_Ok also any_type_uses (uses_of t AnyType) is (any_type_is t))
of-any-type t (Builtin kind) also any is = absurd (false≢true any)
of-any-type t (Simple id) also any is = absurd (false≢true any)
of-any-type t (Complex id) also any is = absurd (false≢true any)

-- a type that is a restriction
pub given-in : {E : Type 0} (P : Type 0) (A : Code → Type 0) → P → (r : Result (Option Code) E) → IfOk r (IsFirstCode A) → IfOk r (IsFirstCode (λ c. P × A c))
given-in P A here (Ok code) is = given-first P A here code is
given-in P A here (Err e) is = tt

pub tables-in : {E : Type 0} (t : Tables) (names : NameTable) (n : ℕ) (base : TypeId) (own also : AttrUses) → uses_of t (Complex n) ≡ Ok own → uses_of t base ≡ Ok also → (any : Bool) → any ≡ is_any_type base → (r : Result (Option Code) E) →
    IfOk r (IsFirstCode (λ code. BreaksUses t names own also code ⊎ BreaksWildcard any own.wildcard also.wildcard code)) → IfOk r (IsFirstCode (BreaksTables t names n base))
tables-in t names n base own also e f any is (Ok code) first =
    tables-first t names n base own also e f code (subst (λ (b : Bool). IsFirstCode (λ code. BreaksUses t names own also code ⊎ BreaksWildcard b own.wildcard also.wildcard code) code) is first)
tables-in t names n base own also e f any is (Err error) first = tt
