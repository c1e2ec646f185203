use Rattle.std.proofs.Common.{◌≡◌}
use Rattle.redefine_names.specs.inside.Tables.{renamed_by}
use Rattle.redefine_names.proofs.renaming.Renaming.rename_all.Given as goal

abbrev pub invariant-loop-rep : goal.invariant-loop-rep
invariant-loop-rep l = l.made ≡ renamed_by l.self.names.items l.self.redirections.items 0 l.yielded
