use Rattle.std.proofs.Common.{refl, ap, ◌∙◌}
use Rattle.key_records.specs.Tables.{parent_in}
use Rattle.scope_targets.proofs.Parents.{set-here, set-others}
use Rattle.scope_targets.proofs.keys.CountedKeys.set_parent.Goals as goal

pub returns-clause-parent : goal.returns-clause-parent
returns-clause-parent c =
    let n = c.args.number in
    let made = c.reach.new.parents.items in
    record {
      here = ap (λ ps. parent_in ps n) c.write.ensures ∙ set-here made n c.args.parent c.in_ok-reach.ensures.within;
      others = λ m off. ap (λ ps. parent_in ps m) c.write.ensures ∙ set-others made n c.args.parent m off ∙ c.in_ok-reach.ensures.same m;
      targets = refl;
      references = refl;
      records = refl;
    }
