-- The first fault of a component that is refused, or has a table.
use Rattle.std.proofs.Common.{◌≡◌, ◌⊎◌, ◌↔◌, inl, inr, ℕ, ◌+◌, ◌<◌, ◌≤◌, Bool, true, false, List, [], ◌∷◌, ◌++◌, Option, Some, Result, Ok, Err, length, slice_get, refl, sym, ap, ◌∙◌, subst, arith}
use Rattle.std.specs.Prelude.{IsTrue, slice_index_or}
use Rattle.std.specs.Option.{option_map}
use Rattle.std.proofs.lemmas.Option.{same_Some, slice_get_within}
use Rattle.xs_codes.specs.declared.code.Code.{Code}
use Rattle.xs_codes.specs.declared.code.Code.TheVariants.{CtPropsCorrect4, CtPropsCorrect5, AgPropsCorrect2, AgPropsCorrect3}
use Rattle.xs_codes.specs.declared.fault.Fault.{Fault}
use Rattle.xs_components.specs.Tables.{Tables}
use Rattle.xs_components.specs.declared.attr_group.AttrGroupDef.{AttrGroupDef}
use Rattle.xs_components.specs.declared.common.TypeId.TheVariants.{Builtin, Complex}
use Rattle.xs_components.specs.declared.complex.ComplexType.{ComplexType}
use Rattle.xs_codes.specs.Least.{IsLeast, is_before}
use Rattle.xs_codes.proofs.LeastLaws.{fault_not_itself, least-same}
use Rattle.attr_uses.specs.Uses.{AttrUses, uses_of, group_uses}
use Rattle.attr_uses.specs.Tables.{StandsFor, Answers}
use Rattle.attr_uses.specs.declared.store.KeptTable.{KeptTable}
use Rattle.attr_uses.specs.declared.store.Store.{Store}
use Rattle.std.proofs.lemmas.Bool.{cases_lt, false≢true}
use Rattle.std.proofs.lemmas.List.{get_or_append_left, get_or_past}
use Rattle.xs_codes.specs.declared.builtin.Builtin.TheVariants.{Id}
use Rattle.xs_components.specs.declared.attribute.AttributeDecl.{AttributeDecl}
use Rattle.type_derivation.specs.Chains.{Derives}
use Rattle.derive_faults.specs.Finals.{no_methods}
use Rattle.derive_faults.specs.TypeFaults.{type_fault, IsFaultAt, IsFirstCode}
use Rattle.derive_faults.proofs.FaultLaws.{place-least, coded-least, first-same}
use Rattle.derive_faults.specs.AttrFaults.{BreaksProps, BreaksType, IsGroupFault, IsTypeAt, IsGroupAt, IsOfId, AreIdMarks}

same_Ok : (a b : AttrUses) (x : Result AttrUses Fault) → x ≡ Ok a → x ≡ Ok b → a ≡ b
same_Ok a b x e f = cc

not-Err : (a : AttrUses) (f : Fault) (x : Result AttrUses Fault) → x ≡ Ok a → x ≡ Err f → ⊥
not-Err a f x e g = cc

same_Err : (f g : Fault) (x : Result AttrUses Fault) → x ≡ Err f → x ≡ Err g → f ≡ g
same_Err f g x e h = cc

module _ (t : Tables) (ids : List Bool) (store : Store) where
  pub accepted : (answer : Result KeptTable Fault) (table : KeptTable) → answer ≡ Ok table → (r : Result AttrUses Fault) → Answers t ids store answer r → (value : AttrUses) × (r ≡ Ok value) × StandsFor t ids store table value
  accepted answer table e r is = by r (subst (λ a. Answers t ids store a r) e is)
    where
      by : (r : Result AttrUses Fault) → Answers t ids store (Ok table) r → (value : AttrUses) × (r ≡ Ok value) × StandsFor t ids store table value
      by (Ok value) is = (value, refl, is)
      by (Err fault) is = absurd is

  pub refused : (answer : Result KeptTable Fault) (fault : Fault) → answer ≡ Err fault → (r : Result AttrUses Fault) → Answers t ids store answer r → r ≡ Err fault
  refused answer fault e r is = by r (subst (λ a. Answers t ids store a r) e is)
    where
      by : (r : Result AttrUses Fault) → Answers t ids store (Err fault) r → r ≡ Err fault
      by (Ok value) is = absurd is
      by (Err other) is = ap Err (sym is)

module _ (t : Tables) (ids : List Bool) (n : ℕ) where
  pub type-refused : (fault : Fault) → n < length t.complexes.parts → uses_of t (Complex n) ≡ Err fault → IsLeast (IsTypeAt t ids n) (Some fault)
  type-refused fault there e = ((there, inl e), λ g x. by g x.1)
    where
      by : (g : Fault) → ((uses_of t (Complex n) ≡ Err g) ⊎ IsFaultAt 6 t (BreaksType t ids) n g) → is_before g fault ≡ false
      by g (inl f) = subst (λ h. is_before h fault ≡ false) (same_Err fault g _ e f) (fault_not_itself fault)
      by g (inr x) = absurd (not-Err x.3.0 fault _ x.3.1 e)

  pub type-accepted : (part : ComplexType) (value : AttrUses) → slice_get t.complexes.parts n ≡ Some part → uses_of t (Complex n) ≡ Ok value → (code : Option Code) (found : Option Fault) → found ≡ option_map (type_fault 6 part.at) code →
      IsFirstCode (BreaksProps t ids CtPropsCorrect4 CtPropsCorrect5 value) code → IsLeast (IsTypeAt t ids n) found
  type-accepted part value is e code found f first =
      least-same (IsFaultAt 6 t (BreaksType t ids) n) (IsTypeAt t ids n)
      (λ g x. (slice_get_within t.complexes.parts n part is, inr x))
      (λ g x. elim x.1 [ inl refusal ↦ absurd (not-Err value g _ e refusal) | inr y ↦ y ])
      found
      (coded-least 6 t (BreaksType t ids) refl n part is code found f
      (first-same (BreaksProps t ids CtPropsCorrect4 CtPropsCorrect5 value) (BreaksType t ids n part)
      (λ c x. (value, e, x))
      (λ c x. subst (λ (v : AttrUses). BreaksProps t ids CtPropsCorrect4 CtPropsCorrect5 v c) (same_Ok x.0 value _ x.1 e) x.2)
      code first))

  pub group-refused : (fault : Fault) → n < length t.attr_groups.parts → group_uses t n ≡ Err fault → IsLeast (IsGroupAt t ids n) (Some fault)
  group-refused fault there e = ((there, inl e), λ g x. by g x.1)
    where
      by : (g : Fault) → ((group_uses t n ≡ Err g) ⊎ IsGroupFault t ids n g) → is_before g fault ≡ false
      by g (inl f) = subst (λ h. is_before h fault ≡ false) (same_Err fault g _ e f) (fault_not_itself fault)
      by g (inr x) = absurd (not-Err x.3.0 fault _ x.3.1 e)

  pub group-accepted : (part : AttrGroupDef) (value : AttrUses) → slice_get t.attr_groups.parts n ≡ Some part → group_uses t n ≡ Ok value → (code : Option Code) (found : Option Fault) → found ≡ option_map (type_fault 6 part.at) code →
      IsFirstCode (BreaksProps t ids AgPropsCorrect2 AgPropsCorrect3 value) code → IsLeast (IsGroupAt t ids n) found
  group-accepted part value is e code found f first =
      least-same (λ g. (c : Code) × BreaksProps t ids AgPropsCorrect2 AgPropsCorrect3 value c × (g ≡ type_fault 6 part.at c)) (IsGroupAt t ids n)
      (λ g x. (slice_get_within t.attr_groups.parts n part is, inr (part, x.0, is, (value, e, x.1), x.2)))
      (λ g x. elim x.1 [
        | inl refusal ↦ absurd (not-Err value g _ e refusal)
        | inr y ↦ (y.1, subst (λ (v : AttrUses). BreaksProps t ids AgPropsCorrect2 AgPropsCorrect3 v y.1) (same_Ok y.3.0 value _ y.3.1 e) y.3.2, subst (λ (p : AttrGroupDef). g ≡ type_fault 6 p.at y.1) (same_Some y.0 part (sym y.2 ∙ is)) y.4)
      ])
      found (place-least 6 refl part.at (BreaksProps t ids AgPropsCorrect2 AgPropsCorrect3 value) code found f first)

-- one mark more
pub marked-more : (t : Tables) (marks : List Bool) (mark : Bool) (decl : AttributeDecl) → slice_get t.attributes.parts (length marks) ≡ Some decl → IsTrue mark ↔ Derives t no_methods decl.of (Builtin Id) →
    ((n : ℕ) → n < length marks → (slice_index_or marks n false ≡ true) ↔ IsOfId t n) → (n : ℕ) → n < length marks + 1 → (slice_index_or (marks ++ mark ∷ []) n false ≡ true) ↔ IsOfId t n
marked-more t marks mark decl is told are n l = elim (cases_lt n (length marks)) [
  | inl before ↦ subst (λ (b : Bool). (b ≡ true) ↔ IsOfId t n) (sym (get_or_append_left marks (mark ∷ []) false n before)) (are n before)
  | inr past ↦
      (let same : n ≡ length marks = omega (arith, l, past) in
      subst (λ k. (slice_index_or (marks ++ mark ∷ []) k false ≡ true) ↔ IsOfId t k) (sym same)
      (subst (λ (b : Bool). (b ≡ true) ↔ IsOfId t (length marks)) (sym (get_or-append-here marks mark))
      ((λ e. (decl, is, told.0 e)), (λ x. told.1 (subst (λ (d : AttributeDecl). Derives t no_methods d.of (Builtin Id)) (same_Some x.0 decl (sym x.1 ∙ is)) x.2)))))
]
  where
    get_or-append-here : (xs : List Bool) (x : Bool) → slice_index_or (xs ++ x ∷ []) (length xs) false ≡ x
    get_or-append-here [] x = refl
    get_or-append-here (y ∷ ys) x = get_or-append-here ys x

pub marked-all : (t : Tables) (marks : List Bool) → length t.attributes.parts ≤ length marks → ((n : ℕ) → n < length marks → (slice_index_or marks n false ≡ true) ↔ IsOfId t n) → AreIdMarks t marks
marked-all t marks count are n = elim (cases_lt n (length marks)) [
  | inl within ↦ are n within
  | inr past ↦ (
    (λ e. absurd (false≢true (sym (get_or_past marks n false past) ∙ e))),
    (λ x. let l = slice_get_within t.attributes.parts n x.0 x.1 in absurd (omega (arith, l, past, count))),
  )
]
