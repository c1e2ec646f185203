use Rattle.std.proofs.Common.{◌≡◌, take}
use Rattle.xs_codes.specs.Least.{IsLeast}
use Rattle.redefine_names.specs.Each.{IsOfSome}
use Rattle.derive_restriction.specs.AttrGroupRestrictions.{IsPairFault}
use Rattle.derive_restriction.proofs.group_faults.first_attr_group_fault.Given as goal

abbrev pub invariant-loop-pair : goal.invariant-loop-pair
invariant-loop-pair l = record {
  least : IsLeast (IsOfSome (IsPairFault l.set.parts.now l.set.names.now) (take l.pair-index l.pairs)) l.best;
  same : l.types ≡ l.fn.types;
}
