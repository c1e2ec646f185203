use Rattle.std.proofs.Common.{◌∙◌}
use Rattle.key_sets.proofs.Placing.{found-within}
use Rattle.key_sets.proofs.keys.KeySet.get_index_of.Goals as goal

pub returns-clause-index : goal.returns-clause-index
returns-clause-index g c = rw (← c.self.view_is) (c.copied.ensures ∙ c.get.ensures.value ∙ c.self.invariant c.args.key.now)

pub returns-clause-within : goal.returns-clause-within
returns-clause-within g c =
    rw (← c.self.view_is) (found-within (g.T.PartialEq.eq c.args.key.now) c.self.inside.keys.items c.copied.result (c.copied.ensures ∙ c.get.ensures.value ∙ c.self.invariant c.args.key.now))
