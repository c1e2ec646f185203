-- The least of the faults of derivation.
use Rattle.std.proofs.Common.{◌≡◌, ◌⊎◌, Bool, true, false, List, Option, None, Some, if◌then◌else◌, sym, subst}
use Rattle.std.specs.Prelude.{IfNone}
use Rattle.xs_codes.specs.declared.fault.Fault.{Fault}
use Rattle.xs_names.specs.Names.{NameTable}
use Rattle.xs_components.specs.Tables.{Tables}
use Rattle.xs_codes.specs.Least.{is_before, sooner, IsLeast}
use Rattle.xs_codes.proofs.LeastLaws.{least-sum}
use Rattle.schema_models.specs.AllLimits.{IsUnlimited}
use Rattle.derive_restriction.specs.AttrGroupRestrictions.{IsAttrGroupFault}
use Rattle.derive_faults.specs.Extensions.{IsExtensionFault}
use Rattle.derive_restriction.specs.Restrictions.{IsRestrictionFault}
use Rattle.derive_faults.specs.Exclusions.{IsExcluded}
use Rattle.redefine_names.specs.declared.pairs.RedefinedPair.{RedefinedPair}
use Rattle.derive_restriction.specs.DerivationFaults.{IsComparisonFault, IsDerivationFault, IsPlacingFault}

-- where the sooner of two is none, the second is
if-none-either : (P : Type 0) (which : Bool) (x y : Fault) → IfNone (if which then Some x else Some y) P
if-none-either P true x y = tt
if-none-either P false x y = tt

pub none-of-two : (P : Type 0) (a b result : Option Fault) → result ≡ sooner a b → IfNone b P → IfNone result P
none-of-two P a b result is h = subst (λ (o : Option Fault). IfNone o P) (sym is) (by a b h)
  where
    by : (c d : Option Fault) → IfNone d P → IfNone (sooner c d) P
    by None d k = k
    by (Some x) None k = tt
    by (Some x) (Some y) k = if-none-either P (is_before y x) y x

pub least-placing : (t : Tables) (a b result : Option Fault) → result ≡ sooner a b → IsLeast (IsExcluded t) a → IsLeast (IsUnlimited t) b → IsLeast (IsPlacingFault t) result
least-placing t a b result is x y = subst (λ (o : Option Fault). IsLeast (IsPlacingFault t) o) (sym is) (least-sum (IsExcluded t) (IsUnlimited t) a b x y)

module _ (t : Tables) (names : NameTable) (redefined : List RedefinedPair) where
  pub least-comparison : (restriction group result : Option Fault) → result ≡ sooner restriction group → IsLeast (IsRestrictionFault t names) restriction → IsLeast (IsAttrGroupFault t names redefined) group →
      IsLeast (IsComparisonFault t names redefined) result
  least-comparison restriction group result is x y =
      subst (λ (o : Option Fault). IsLeast (IsComparisonFault t names redefined) o) (sym is) (least-sum (IsRestrictionFault t names) (IsAttrGroupFault t names redefined) restriction group x y)

  abbrev IsOther : Fault → Type 0
  IsOther f = IsComparisonFault t names redefined f ⊎ IsPlacingFault t f

  pub least-derivation : (extension comparison placing behind result : Option Fault) → behind ≡ sooner comparison placing → result ≡ sooner extension behind
      → IsLeast (IsExtensionFault t) extension → IsLeast (IsComparisonFault t names redefined) comparison → IsLeast (IsPlacingFault t) placing → IsLeast (IsDerivationFault t names redefined) result
  least-derivation extension comparison placing behind result first is x y z =
      let late = subst (λ (o : Option Fault). IsLeast IsOther o) (sym first) (least-sum (IsComparisonFault t names redefined) (IsPlacingFault t) comparison placing y z) in
      subst (λ (o : Option Fault). IsLeast (IsDerivationFault t names redefined) o) (sym is) (least-sum (IsExtensionFault t) IsOther extension behind x late)
