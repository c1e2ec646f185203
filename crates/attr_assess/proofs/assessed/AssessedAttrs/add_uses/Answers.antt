use Rattle.std.proofs.Common.{sym, ◌∙◌, subst}
use Rattle.std.proofs.lemmas.List.Elements.{All-get_or}
use Rattle.attr_assess.specs.inside.Lists.{IsUse, IsUseJudged}
use Rattle.attr_assess.proofs.Held.{each-next}
use Rattle.attr_assess.proofs.assessed.AssessedAttrs.add_uses.Goals as goal

pub judged_use-requires-clause-written : goal.judged_use-requires-clause-written
judged_use-requires-clause-written c =
    let t = c.args.schema.now.parts.now in
    subst (IsUse t) (sym c.added-item.is) (All-get_or (IsUse t) c.args.uses.now c.loop-added.added-index c.added-item.result c.loop-added-test.true c.requires.written)

pub loop-added-preserved : goal.loop-added-preserved
loop-added-preserved c =
    record {
      held = each-next (IsUseJudged c.args.schema.now.parts.now) c.args.uses.now c.loop-added.added-index c.added-item.result c.args.self.now c.loop-added.self c.push.new.self c.in_ok-judged.judged
          c.loop-added-test.true c.added-item.is c.loop-added.invariant.held c.in_ok-judged.ensures.judged c.in_ok-push.ensures;
      same = c.judged_use.ensures.same ∙ c.loop-added.invariant.same;
    }
