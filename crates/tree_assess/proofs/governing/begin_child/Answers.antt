use Rattle.std.proofs.Common.{◌∙◌}
use Rattle.tree_assess.proofs.Same.{names_same, usable_still, known_still, named_still}
use Rattle.tree_assess.proofs.Governed.{child_is}
use Rattle.tree_assess.proofs.governing.begin_child.Goals as goal

pub child_pair-requires-clause-usable : goal.child_pair-requires-clause-usable
child_pair-requires-clause-usable c = usable_still c.args.compiled.now c.read_head.new.names c.read_head.ensures.same c.requires.usable

pub child_pair-requires-clause-known : goal.child_pair-requires-clause-known
child_pair-requires-clause-known c =
    known_still c.args.compiled.now c.read_head.new.names c.read_head.ensures.same c.in_ok-head.head.scope (c.in_ok-head.ensures.head.known c.requires.known)

pub child_pair-requires-clause-named : goal.child_pair-requires-clause-named
child_pair-requires-clause-named c = named_still c.args.compiled.now c.read_head.new.names c.read_head.ensures.same c.in_ok-head.head.attrs c.in_ok-head.ensures.head.named

pub returns-clause-pair : goal.returns-clause-pair
returns-clause-pair c =
    c.begun.ensures ∙ child_is c.args.compiled.now c.read_head.new.names c.read_head.ensures.same c.in_ok-head.head _ c.in_ok-head.ensures.head.head_is c.args.parent.now c.args.term c.in_ok-governing.governing c.in_ok-governing.ensures.pair

pub returns-in_err-governing-clause-same : goal.returns-in_err-governing-clause-same
returns-in_err-governing-clause-same c = names_same c.args.compiled.now c.read_head.new.names c.read_head.ensures.same

pub returns-clause-same : goal.returns-clause-same
returns-clause-same c = names_same c.args.compiled.now c.read_head.new.names c.read_head.ensures.same

pub returns-in_err-head-clause-same : goal.returns-in_err-head-clause-same
returns-in_err-head-clause-same c = names_same c.args.compiled.now c.read_head.new.names c.read_head.ensures.same
