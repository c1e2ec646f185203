use Rattle.std.proofs.Common.{ℕ, List, take}
use Rattle.xs_codes.specs.Least.{IsLeast}
use Rattle.redefine_names.specs.Each.{IsOfSome}
use Rattle.derive_models.specs.Standing.{AreStanding}
use Rattle.derive_models.specs.GroupRestrictions.{IsPairFault}
use Rattle.derive_models.proofs.group_faults.first_group_fault.Given as goal

abbrev pub invariant-loop-pair : goal.invariant-loop-pair
invariant-loop-pair g l = (members : List (List ℕ)) → AreStanding l.set.parts.now members l.set.stands_for.now →
    IsLeast (IsOfSome (IsPairFault l.set.parts.now members l.set.terms.now (g.T.Derivation.derives l.set.types.now)) (take l.pair-index l.pairs)) l.best
