use Rattle.derive_models.proofs.GroupLaws.{read-part, pair-least}
use Rattle.derive_models.proofs.group_faults.fault_of.Goals as goal

pub returns-in_ok-code-in-Some : goal.returns-in_ok-code-in-Some
returns-in_ok-code-in-Some g c = record {
  least = λ members are. pair-least c.args.set.now.parts.now members c.args.set.now.terms.now (g.T.Derivation.derives c.args.set.now.types.now) c.args.pair.now c.in-Some.part.now
      (read-part c.args.set.now.parts.now c.groups.result.now c.groups.ensures.parts c.args.pair.now.own c.in-Some.part.now c.in-Some.ensures.lookup.3.0 c.in-Some.ensures.lookup.1)
      c.in_ok-code-in-Some.code c.coded.result c.coded.ensures (c.in_ok-code-in-Some.ensures.first members are);
}
