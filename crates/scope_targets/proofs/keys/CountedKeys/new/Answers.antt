use Rattle.std.proofs.Common.{sym, ap, subst, ◌∙◌}
use Rattle.key_records.specs.Tables.{AreParents, parent_in}
use Rattle.key_records.specs.Counted.{Counted}
use Rattle.key_records.specs.Records.{AreRecords}
use Rattle.scope_targets.specs.Counted.{targets_at}
use Rattle.scope_targets.proofs.Keeping.{none-at, none-counted}
use Rattle.scope_targets.proofs.Parents.{none-in}
use Rattle.scope_targets.proofs.keys.CountedKeys.new.Goals as goal

pub returns-clause-kept : goal.returns-clause-kept
returns-clause-kept c = λ t parents. record {
  sound = c.requires;
  parents = subst (AreParents t) (sym c.new-parents.ensures.items) parents;
  records = subst (λ (d : Counted). AreRecords t c.args.references d c.in_ok-records.records) (none-counted c.new-targets.result c.new-targets.ensures) (c.in_ok-records.ensures t c.args.references);
}

pub returns-clause-none : goal.returns-clause-none
returns-clause-none c = λ n. (ap (λ ps. parent_in ps n) c.new-parents.ensures.items ∙ none-in n, ap (λ slots. targets_at slots n) c.new-targets.ensures ∙ none-at n)
