use Rattle.std.proofs.Common.{◌-◌, refl, arith}
use Rattle.tree_assess.proofs.assessing.finish.Goals as goal

pub returns-clause-finished : goal.returns-clause-finished
returns-clause-finished c =
    let entry = c.in_ok-entry.entry in
    let is = c.in_ok-entry.ensures in
    let outcome = c.outcome_of-outcome.ensures in
    let size = c.len.ensures in
    let kept = c.requires.kept in
    record {
      own = record entry { below = c.len.result - c.args.place - 1 };
      judged = is.judged;
      number_is = is.number;
      bearer_is = is.bearer;
      governing_is = is.governing;
      placed = refl;
      below_is = omega arith;
      validity_is = outcome.validity;
      attempted_is = outcome.attempted;
    }
