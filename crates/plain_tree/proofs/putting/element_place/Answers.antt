use Rattle.plain_tree.proofs.Adding.{there}
use Rattle.plain_tree.proofs.putting.element_place.Goals as goal

pub returns-clause-within : goal.returns-clause-within
returns-clause-within c = there c.args.rows.now c.args.node c.place_of.result c.requires.whole c.requires.element c.place_of.ensures
