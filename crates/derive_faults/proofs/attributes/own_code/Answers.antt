use Rattle.derive_faults.proofs.FaultLaws.{both-first}
use Rattle.derive_faults.specs.Attributes.{BreaksValue, IsNotKept}
use Rattle.derive_faults.proofs.attributes.own_code.Goals as goal

pub returns-clause-first : goal.returns-clause-first
returns-clause-first c =
    let t = c.args.set.now.parts.now in
    let decl = c.args.decl.now in
    both-first (BreaksValue t decl.of c.args.own.now) (IsNotKept t decl c.args.own.now) c.in_ok-value.value c.in_ok-kept.kept c.earlier.result c.earlier.ensures c.in_ok-value.ensures.first c.in_ok-kept.ensures.first
