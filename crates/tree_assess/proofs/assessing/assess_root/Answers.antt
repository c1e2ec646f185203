use Rattle.std.proofs.Common.{◌∙◌}
use Rattle.tree_assess.proofs.Below.{root_from}
use Rattle.tree_assess.proofs.assessing.assess_root.Goals as goal

pub returns-clause-assessed : goal.returns-clause-assessed
returns-clause-assessed c =
    let root = c.in_ok-root.ensures in
    root_from c.args.compiled.now c.root_of.new.compiled c.outer-outer.result.now c.governing-governing.result.now c.args.name.now c.args.row.now c.args.children c.new-found.result.items c.assess_element.new.found.items c.in_ok-assess_element.field-0
    c.root_of.ensures.same (c.outer-outer.ensures ∙ root.outer) (c.governing-governing.ensures ∙ root.pair) c.new-found.ensures.items c.in_ok-assess_element.ensures.done
