-- The first fault by the numbers of fixed values that were found.
use Rattle.std.proofs.Common.{◌≡◌, ℕ, List, Option, subst}
use Rattle.std.specs.Prelude.{Result, IfOk}
use Rattle.xs_codes.specs.declared.fault.Fault.{Fault}
use Rattle.xs_codes.specs.Least.{IsLeast}
use Rattle.xs_names.specs.Names.{NameTable}
use Rattle.xs_components.specs.Tables.{Tables}
use Rattle.elem_governing.specs.Derived.{derives}
use Rattle.derive_models.specs.Derivation.{excluded}
use Rattle.derive_models.specs.Fixed.{AreFixedNumbers}
use Rattle.particle_restrict.specs.declared.terms.Term.{Term}
use Rattle.derive_models.specs.Terms.{AreTerms}
use Rattle.derive_models.specs.GroupRestrictions.{IsRestrictionFault}
use Rattle.redefine_names.specs.declared.pairs.RedefinedPair.{RedefinedPair}
use Rattle.derive_models.proofs.RestrictionLaws.{if-ok}
use Rattle.derive_models.specs.ModelFaults.{IsFirstModelFault}

module _ (t : Tables) (names : NameTable) (members : List (List ℕ)) (fixed : List (Option ℕ)) (pairs : List RedefinedPair) where
  pub first-read : {E : Type 0} (u : Tables) → u ≡ t → AreFixedNumbers t fixed → (r : Result (Option Fault) E) →
      IfOk r (λ found. (terms : List Term) × AreTerms t names fixed terms × IsLeast (IsRestrictionFault t members terms (derives u excluded) pairs) found) → IfOk r (IsFirstModelFault t names members pairs)
  first-read u e numbers r found =
      if-ok r (λ found. (terms : List Term) × AreTerms t names fixed terms × IsLeast (IsRestrictionFault t members terms (derives u excluded) pairs) found) (IsFirstModelFault t names members pairs)
      (λ fault x. (x.0, record { fixed = fixed; numbers = numbers; right = x.1 }, subst (λ u. IsLeast (IsRestrictionFault t members x.0 (derives u excluded) pairs) fault) e x.2)) found
