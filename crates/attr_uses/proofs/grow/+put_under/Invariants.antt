use Rattle.attr_uses.proofs.grow.+put_under.Given as goal

abbrev pub decreases-put_under : goal.decreases-put_under
decreases-put_under l = l.levels
