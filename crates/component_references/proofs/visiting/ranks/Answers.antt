use Rattle.std.proofs.Common.{arith}
use Rattle.component_references.proofs.FirstLaws.{ranking}
use Rattle.component_references.proofs.visiting.ranks.Goals as goal

pub returns : goal.returns
returns c = record { ranks = ranking c.args.refs.now c.in_ok-heights_of.field-0.items (omega (arith, c.in_ok-heights_of.field-0.ok.0, c.in_ok-heights_of.ensures.len)) c.in_ok-heights_of.ensures.heights }
