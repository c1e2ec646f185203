use Rattle.attr_uses.proofs.read.+needed_under.Given as goal

abbrev pub decreases-needed_under : goal.decreases-needed_under
decreases-needed_under l = l.levels
