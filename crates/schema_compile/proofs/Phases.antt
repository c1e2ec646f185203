-- Each phase behind simple types has at most one answer, and so has the first of them that has a fault.
use Rattle.std.proofs.Common.{◌≡◌, inl, inr, ℕ, Bool, List, [], ◌∷◌, Option, None, Some, refl, subst}
use Rattle.std.proofs.lemmas.Option.{none-some}
use Rattle.xs_codes.specs.declared.fault.Fault.{Fault}
use Rattle.xs_codes.specs.Least.{IsLeast}
use Rattle.xs_codes.proofs.LeastLaws.{least-same}
use Rattle.xs_components.specs.Tables.{Tables}
use Rattle.derive_faults.specs.AttrFaults.{IsAttrFault}
use Rattle.derive_restriction.specs.DerivationFaults.{IsDerivationFault}
use Rattle.derive_models.specs.ModelFaults.{IsFirstModelFault}
use Rattle.schema_models.specs.SetModels.{IsBroken}
use Rattle.xpath_subset.specs.Faults.{IsIdentityFault}
use Rattle.xs_codes.proofs.Firsts.{least-one}
use Rattle.derive_models.proofs.LeastFaults.{one-first}
use Rattle.schema_check.specs.Phases.{IsFirstOfPhases}
use Rattle.schema_check.specs.declared.documents.CompiledSet.{CompiledSet}
use Rattle.schema_compile.specs.Outcomes.{IsPropertyFault, attr_phase, derivation_phase, model_phase, restriction_phase, identity_phase, late_phases}
use Rattle.schema_compile.proofs.Numbers.{property-six, derivation-seven, model-eight, identity-ten}
use Rattle.schema_compile.proofs.Marks.{marks-same, attr-too}
use Rattle.schema_compile.proofs.Members.{groups-same}
use Rattle.schema_compile.proofs.Classes.{classes-same}

-- a phase has at most one answer
abbrev HasOne : (Option Fault → Type 0) → Type 0
HasOne phase = (a b : Option Fault) → phase a → phase b → a ≡ b

abbrev EachHasOne : List (Option Fault → Type 0) → Type 0
EachHasOne [] = Unit {0}
EachHasOne (phase ∷ later) = HasOne phase × EachHasOne later

first-one : (phases : List (Option Fault → Type 0)) → EachHasOne phases → (a b : Option Fault) → IsFirstOfPhases phases a → IsFirstOfPhases phases b → a ≡ b
first-one [] each None None p q = refl
first-one [] each None (Some g) p q = absurd q
first-one [] each (Some f) b p q = absurd p
first-one (phase ∷ later) each None None p q = refl
first-one (phase ∷ later) each None (Some g) p (inl q) = each.0 None (Some g) p.0 q
first-one (phase ∷ later) each None (Some g) p (inr q) = first-one later each.1 None (Some g) p.1 q.1
first-one (phase ∷ later) each (Some f) None (inl p) q = each.0 (Some f) None p q.0
first-one (phase ∷ later) each (Some f) None (inr p) q = first-one later each.1 (Some f) None p.1 q.1
first-one (phase ∷ later) each (Some f) (Some g) (inl p) (inl q) = each.0 (Some f) (Some g) p q
first-one (phase ∷ later) each (Some f) (Some g) (inl p) (inr q) = absurd (none-some f (each.0 None (Some f) q.0 p))
first-one (phase ∷ later) each (Some f) (Some g) (inr p) (inl q) = absurd (none-some g (each.0 None (Some g) p.0 q))
first-one (phase ∷ later) each (Some f) (Some g) (inr p) (inr q) = first-one later each.1 (Some f) (Some g) p.1 q.1

property-too : (t : Tables) (f g : List Bool) → ((fault : Fault) → IsAttrFault t f fault → IsAttrFault t g fault) → (fault : Fault) → IsPropertyFault t f fault → IsPropertyFault t g fault
property-too t f g too fault (inl h) = inl (too fault h)
property-too t f g too fault (inr h) = inr h

module _ (made : CompiledSet) where
  pub attrs-one : HasOne (attr_phase made)
  attrs-one a b p q =
      let Broken = IsPropertyFault made.parts q.0 in
      let to = property-too made.parts p.0 q.0 (attr-too made.parts p.0 q.0 (marks-same made.parts p.0 q.0 p.1 q.1)) in
      let from = property-too made.parts q.0 p.0 (attr-too made.parts q.0 p.0 (marks-same made.parts q.0 p.0 q.1 p.1)) in
      least-one Broken 6 (property-six made.parts q.0) a b (least-same (IsPropertyFault made.parts p.0) Broken to from a p.2) q.2

  pub derivation-one : HasOne (derivation_phase made)
  derivation-one a b p q =
      least-one (IsDerivationFault made.parts made.names made.redefined.attr_groups.items) 7 (derivation-seven made.parts made.names made.redefined.attr_groups.items) a b p q

  pub models-one : HasOne (model_phase made)
  models-one a b p q =
      let members : p.0 ≡ q.0 = groups-same made.parts p.0 q.0 p.2 q.2 in
      let classes : p.1 ≡ q.1 = classes-same made.parts p.1 q.1 p.3 q.3 in
      let at_members : IsLeast (IsBroken made.names made.parts q.0 p.1) a = subst (λ (ms : List (List ℕ)). IsLeast (IsBroken made.names made.parts ms p.1) a) members p.4 in
      let at_both : IsLeast (IsBroken made.names made.parts q.0 q.1) a = subst (λ (cs : List ℕ). IsLeast (IsBroken made.names made.parts q.0 cs) a) classes at_members in
      least-one (IsBroken made.names made.parts q.0 q.1) 8 (model-eight made.names made.parts q.0 q.1) a b at_both q.4

  pub restriction-one : HasOne (restriction_phase made)
  restriction-one a b p q =
      let pairs = made.redefined.groups.items in
      let members : p.0 ≡ q.0 = groups-same made.parts p.0 q.0 p.1 q.1 in
      let at_members : IsFirstModelFault made.parts made.names q.0 pairs a = subst (λ (ms : List (List ℕ)). IsFirstModelFault made.parts made.names ms pairs a) members p.2 in
      one-first made.parts made.names q.0 pairs a b q.1.each at_members q.2

  pub identity-one : HasOne (identity_phase made)
  identity-one a b p q = least-one (IsIdentityFault made.parts) 10 (identity-ten made.parts) a b p q

  pub late-one : (a b : Option Fault) → IsFirstOfPhases (late_phases made) a → IsFirstOfPhases (late_phases made) b → a ≡ b
  late-one = first-one (late_phases made) (attrs-one, (derivation-one, (models-one, (restriction-one, (identity-one, tt)))))
