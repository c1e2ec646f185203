use Rattle.plain_tree.proofs.Sound.{after_item}
use Rattle.plain_tree.proofs.builder.Builder.item.Goals as goal

pub invariant_of-self : goal.invariant_of-self
invariant_of-self c = after_item c.item.result c.self.inside.inner c.item.new.self c.args.item.now c.item.ensures.after c.item.ensures.err c.self.invariant
