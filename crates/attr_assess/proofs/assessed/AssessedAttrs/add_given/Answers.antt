use Rattle.std.proofs.Common.{List, ℕ, ◌∙◌, subst}
use Rattle.assess_records.specs.declared.outcome.ValueSource.TheVariants.{Given}
use Rattle.attr_assess.specs.declared.governing.AttrGoverning.{AttrGoverning}
use Rattle.attr_assess.specs.Records.{IsAttrJudged}
use Rattle.attr_assess.specs.Assessed.{IsGivenJudged}
use Rattle.attr_assess.proofs.Held.{each-next}
use Rattle.attr_assess.proofs.assessed.AssessedAttrs.add_given.Goals as goal

pub loop-attr-preserved : goal.loop-attr-preserved
loop-attr-preserved c =
    let names = c.args.schema.now.names.now in
    let t = c.args.schema.now.parts.now in
    let attr = c.attr-item.result in
    let judged = c.in_ok-judged.judged in
    let by_text = subst (λ (text : List ℕ). IsAttrJudged t attr.name Given c.args.scope.now text c.governing-governing.result judged) c.as_str.ensures c.in_ok-judged.ensures.judged in
    let known = subst (λ (g : AttrGoverning). IsAttrJudged t attr.name Given c.args.scope.now attr.text g judged) c.governing-governing.ensures.governing by_text in
    record {
      held = each-next (IsGivenJudged names t c.args.of.now c.args.scope.now) c.args.attrs.now c.loop-attr.attr-index attr c.args.self.now c.loop-attr.self c.push.new.self judged
          c.loop-attr-test.true c.attr-item.is c.loop-attr.invariant.held known c.in_ok-push.ensures;
      same = c.judge.ensures.same ∙ c.loop-attr.invariant.same;
    }
