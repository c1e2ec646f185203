use Rattle.attr_uses.proofs.read.+unlike_under.Given as goal

abbrev pub decreases-unlike_under : goal.decreases-unlike_under
decreases-unlike_under l = l.levels
