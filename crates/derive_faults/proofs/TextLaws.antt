-- The code of the text of a constraint, by what the text comes to.
use Rattle.std.proofs.Common.{◌≡◌, false, Option, Result, Ok, Err, refl, sym, ap, ◌∙◌, subst}
use Rattle.xs_codes.specs.declared.code.Code.{Code}
use Rattle.xs_components.specs.Tables.{Tables}
use Rattle.xs_components.specs.declared.common.TypeId.{TypeId}
use Rattle.xs_components.specs.declared.common.ValueConstraint.{ValueConstraint}
use Rattle.simple_values.specs.declared.value.Value.{Value}
use Rattle.simple_types.specs.Trees.{type_tree}
use Rattle.simple_types.specs.SimpleTypes.{IsValueOf}
use Rattle.simple_types.proofs.Valid.{one-outcome}
use Rattle.derive_faults.specs.TypeFaults.{IsFirstCode, stands_before}
use Rattle.derive_faults.proofs.FaultLaws.{not-itself}
use Rattle.derive_faults.specs.Texts.{refused_code, refusal, IsRefused}

not-refused : (value : Value) (code : Code) (r : Result Value Code) → r ≡ Ok value → r ≡ Err code → ⊥
not-refused value code r e f = cc

same-code : (a b : Code) (r : Result Value Code) → r ≡ Err a → r ≡ Err b → a ≡ b
same-code a b r e f = cc

module _ (t : Tables) (broken : Code) (of : TypeId) (constraint : ValueConstraint) where
  abbrev Comes : Result Value Code → Type 0
  Comes outcome = IsValueOf (type_tree t of) constraint.scope constraint.text outcome

  one : (a b : Result Value Code) → Comes a → Comes b → a ≡ b
  one = one-outcome t of constraint.scope constraint.text

  by-outcome : (outcome : Result Value Code) → Comes outcome → IsFirstCode (IsRefused t broken of constraint) (refusal broken outcome)
  by-outcome (Ok value) is = λ code x. not-refused value x.0 (Ok value) refl (one (Ok value) (Err x.0) is x.1)
  by-outcome (Err code) is = (
    (code, is, refl),
    λ other x.
        let same : code ≡ x.0 = same-code code x.0 (Err code) refl (one (Err code) (Err x.0) is x.1) in
        subst (λ c. stands_before c (refused_code broken code) ≡ false) (ap (refused_code broken) same ∙ sym x.2) (not-itself (refused_code broken code)),
  )

  pub refused-first : (outcome : Result Value Code) → Comes outcome → (code : Option Code) → code ≡ refusal broken outcome → IsFirstCode (IsRefused t broken of constraint) code
  refused-first outcome is code e = subst (IsFirstCode (IsRefused t broken of constraint)) (sym e) (by-outcome outcome is)
