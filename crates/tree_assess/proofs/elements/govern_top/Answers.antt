use Rattle.tree_assess.proofs.Same.{names_same, usable_still, known_still, named_still}
use Rattle.tree_assess.proofs.Governed.{root_by}
use Rattle.tree_assess.proofs.elements.govern_top.Goals as goal

pub root_pair-requires-clause-usable : goal.root_pair-requires-clause-usable
root_pair-requires-clause-usable c = usable_still c.args.compiled.now c.read_head.new.names c.read_head.ensures.same c.requires.usable

pub root_pair-requires-clause-known : goal.root_pair-requires-clause-known
root_pair-requires-clause-known c =
    known_still c.args.compiled.now c.read_head.new.names c.read_head.ensures.same c.in_ok-head.head.scope (c.in_ok-head.ensures.head.known c.requires.known)

pub root_pair-requires-clause-named : goal.root_pair-requires-clause-named
root_pair-requires-clause-named c = named_still c.args.compiled.now c.read_head.new.names c.read_head.ensures.same c.in_ok-head.head.attrs c.in_ok-head.ensures.head.named

pub returns-clause-pair : goal.returns-clause-pair
returns-clause-pair c =
    root_by c.args.compiled.now c.read_head.new.names c.read_head.ensures.same c.in_ok-head.head _ c.in_ok-head.ensures.head.head_is c.root_pair.result c.root_pair.ensures.pair

pub returns-clause-same : goal.returns-clause-same
returns-clause-same c = names_same c.args.compiled.now c.read_head.new.names c.read_head.ensures.same

pub returns-in_err-head-clause-same : goal.returns-in_err-head-clause-same
returns-in_err-head-clause-same c = names_same c.args.compiled.now c.read_head.new.names c.read_head.ensures.same
