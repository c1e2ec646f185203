use Rattle.std.proofs.Common.{sym, ◌∙◌}
use Rattle.plain_tree.proofs.Sound.{end_sound}
use Rattle.plain_tree.proofs.builder.Builder.finish.Goals as goal

pub tree_of-requires : goal.tree_of-requires
tree_of-requires c = end_sound c.self.inside.inner c.in-Ok.built c.self.invariant (sym c.in_ok-built.ensures ∙ c.in-Ok.is)
