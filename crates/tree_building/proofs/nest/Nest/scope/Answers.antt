use Rattle.std.proofs.Common.{reverse, sym}
use Rattle.tree_building.proofs.NestLaws.{scope-all}
use Rattle.tree_building.proofs.nest.Nest.scope.Goals as goal

pub returns : goal.returns
returns c = rw (← c.self.view_is) (sym (scope-all c.self.inside.prefixes (reverse c.self.inside.marks.items)))
