use Rattle.attr_uses.proofs.grow.+combine_under.Given as goal

abbrev pub decreases-combine_under : goal.decreases-combine_under
decreases-combine_under l = l.levels
