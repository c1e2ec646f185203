use Rattle.std.proofs.lemmas.Result.{on_ok_weaker}
use Rattle.attr_assess.specs.Governing.{uses_for}
use Rattle.attr_assess.specs.inside.Lists.{HoldsLacking}
use Rattle.attr_assess.proofs.Whole.{skipped-assessed, typed-assessed}
use Rattle.attr_assess.proofs.assessed.AssessedAttrs.add_all.Goals as goal

pub returns-in-None-clause-assessed : goal.returns-in-None-clause-assessed
returns-in-None-clause-assessed c =
    skipped-assessed c.args.schema.now.names.now c.args.schema.now.parts.now c.args.scope.now c.args.attrs.now c.args.self.now c.requires.records c.requires.values c.requires.missing
    c.args.of.now c.add_given.new.self c.in-None.is c.in_ok-add_given.ensures.held

pub returns-in-Some-clause-assessed : goal.returns-in-Some-clause-assessed
returns-in-Some-clause-assessed c =
    let names = c.args.schema.now.names.now in
    let t = c.args.schema.now.parts.now in
    on_ok_weaker c.add_lacking.result
    (λ (held : HoldsLacking names t (uses_for t c.in-Some.of).uses c.args.attrs.now c.add_given.new.self c.add_lacking.new.self).
    typed-assessed names t c.args.scope.now c.args.attrs.now c.args.self.now c.requires.records c.requires.values c.requires.missing
    c.args.of.now c.in-Some.of c.add_given.new.self c.add_lacking.new.self c.in-Some.is c.in_ok-add_given.ensures.held held)
    c.add_lacking.ensures.lacking
