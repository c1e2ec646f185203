use Rattle.std.proofs.Common.{Option, sym, subst}
use Rattle.xs_codes.specs.declared.fault.Fault.{Fault}
use Rattle.xs_codes.specs.Least.{IsLeast}
use Rattle.xs_codes.proofs.LeastLaws.{least-sum}
use Rattle.reference_faults.specs.Faults.{IsBroken}
use Rattle.redefine_names.specs.Shared.{IsShared}
use Rattle.schema_check.specs.Components.{IsFault}
use Rattle.schema_check.proofs.building.first_of_both.Goals as goal

pub returns : goal.returns
returns c =
    let reps = c.args.source.now.reps.now in
    let originals = c.args.originals.now in
    record {
      least = subst (λ (o : Option Fault). IsLeast (IsFault c.args.names.now c.args.origins.now reps originals) o) (sym c.sooner.ensures.sooner)
          (least-sum (IsShared reps originals) (IsBroken c.args.names.now c.args.origins.now reps) c.in_ok-shared.shared c.in_ok-broken.broken
          c.in_ok-shared.ensures.least c.in_ok-broken.ensures.least);
    }
