-- The declarations that their heads exclude, one after another.
use Rattle.std.proofs.Common.{◌≡◌, ◌↔◌, ◌⊎◌, inl, inr, ℕ, ◌+◌, ◌≤◌, Bool, false, Option, None, Some, length, slice_get, sym, ◌∙◌, subst, ap, arith}
use Rattle.std.specs.Prelude.{IfOk, IsTrue}
use Rattle.std.specs.declared.result.Result.{Result}
use Rattle.std.specs.declared.result.Result.TheVariants.{Ok, Err}
use Rattle.std.proofs.lemmas.Bool.{cases_eq}
use Rattle.std.proofs.lemmas.Option.{none-some, same_Some, slice_get_within}
use Rattle.xs_codes.specs.declared.fault.Fault.{Fault}
use Rattle.xs_components.specs.Tables.{Tables}
use Rattle.xs_components.specs.declared.common.TypeId.{TypeId}
use Rattle.xs_components.specs.declared.element.ElementDecl.{ElementDecl}
use Rattle.xs_codes.specs.Least.{IsLeast, is_before, sooner}
use Rattle.xs_codes.proofs.LeastLaws.{fault_not_itself, least-sum, least-same}
use Rattle.component_tables.specs.Types.{type_of}
use Rattle.type_derivation.specs.Chains.{Derives}
use Rattle.derive_faults.specs.Exclusions.{exclusions, part_exclusions, exclusion_fault, IsExcludedAt, IsExcluded, IsExcludedBelow}

module _ (t : Tables) where
  -- what was asked of derivation
  pub derived : {E : Type 0} (element head : ℕ) (part : ElementDecl) (sub base : TypeId) → slice_get t.elements.parts head ≡ Some part → sub ≡ type_of t element → base ≡ type_of t head → (result : Result Bool E) →
      IfOk result (λ answer. IsTrue answer ↔ Derives t part.finals sub base) → IfOk result (λ answer. IsTrue answer ↔ Derives t (exclusions t head) (type_of t element) (type_of t head))
  derived element head part sub base is es eb (Ok answer) iff =
      subst (λ m. IsTrue answer ↔ Derives t m (type_of t element) (type_of t head)) (sym (ap part_exclusions is))
      (subst (λ y. IsTrue answer ↔ Derives t part.finals (type_of t element) y) eb (subst (λ x. IsTrue answer ↔ Derives t part.finals x base) es iff))
  derived element head part sub base is es eb (Err e) iff = tt

  module _ (element : ℕ) (part : ElementDecl) (is : slice_get t.elements.parts element ≡ Some part) where
    same-part : (f : Fault) (x : IsExcludedAt t element f) → part ≡ x.0
    same-part f x = same_Some part x.0 (sym is ∙ x.2)

    -- without a head
    pub no-head : part.head ≡ None → IsLeast (IsExcludedAt t element) None
    no-head none f x = none-some x.1 (sym none ∙ (ap (λ p. p.head) (same-part f x) ∙ x.3))

    module _ (head : ℕ) (has : part.head ≡ Some head) where
      same-head : (f : Fault) (x : IsExcludedAt t element f) → head ≡ x.1
      same-head f x = same_Some head x.1 (sym has ∙ (ap (λ p. p.head) (same-part f x) ∙ x.3))

      -- where the type derives
      pub fits : Derives t (exclusions t head) (type_of t element) (type_of t head) → IsLeast (IsExcludedAt t element) None
      fits d f x = x.4 (subst (λ h. Derives t (exclusions t h) (type_of t element) (type_of t h)) (same-head f x) d)

      -- where it does not
      pub excluded : (Derives t (exclusions t head) (type_of t element) (type_of t head) → ⊥) → (fault : Fault) → fault ≡ exclusion_fault part.at → IsLeast (IsExcludedAt t element) (Some fault)
      excluded never fault here = (
        (part, head, is, has, never, here),
        (λ g x. subst (λ y. is_before y fault ≡ false) (here ∙ (ap (λ p. exclusion_fault p.at) (same-part g x) ∙ sym x.5)) (fault_not_itself fault)),
      )

  pub none-below : IsLeast (IsExcludedBelow t 0) None
  none-below f x = absurd (omega (arith, x.1))

  -- with the next declaration
  pub one-more : (n : ℕ) (best found new : Option Fault) → new ≡ sooner best found → IsLeast (IsExcludedBelow t n) best → IsLeast (IsExcludedAt t n) found → IsLeast (IsExcludedBelow t (n + 1)) new
  one-more n best found new is before own =
      subst (IsLeast (IsExcludedBelow t (n + 1))) (sym is)
      (least-same (λ f. IsExcludedBelow t n f ⊎ IsExcludedAt t n f) (IsExcludedBelow t (n + 1))
      (λ f either. elim either [ inl x ↦ (x.0, omega (arith, x.1), x.2) | inr x ↦ (n, omega arith, x) ])
      (λ f x. elim (cases_eq x.0 n) [ inl same ↦ inr (subst (λ e. IsExcludedAt t e f) same x.2) | inr differ ↦ inl (x.0, omega (arith, x.1, differ), x.2) ])
      (sooner best found) (least-sum (IsExcludedBelow t n) (IsExcludedAt t n) best found before own))

  -- all declarations
  pub all-below : (n : ℕ) (best : Option Fault) → length t.elements.parts ≤ n → IsLeast (IsExcludedBelow t n) best → IsLeast (IsExcluded t) best
  all-below n best l least =
      least-same (IsExcludedBelow t n) (IsExcluded t) (λ f x. (x.0, x.2))
      (λ f x. let there = slice_get_within t.elements.parts x.0 x.1.0 x.1.2 in (x.0, omega (arith, l, there), x.1)) best least
