use Rattle.std.proofs.Common.{bytes_eq, map, ◌∙◌}
use Rattle.std.specs.Rc.{rc_str_bytes}
use Rattle.key_sets.proofs.Placing.{found-within}
use Rattle.key_sets.proofs.texts.TextSet.get_index_of.Goals as goal

pub returns-clause-index : goal.returns-clause-index
returns-clause-index c = rw (← c.self.view_is) (c.copied.ensures ∙ c.get.ensures.value ∙ c.self.invariant c.args.text.now)

pub returns-clause-within : goal.returns-clause-within
returns-clause-within c =
    rw (← c.self.view_is) (found-within (bytes_eq c.args.text.now) (map rc_str_bytes c.self.inside.texts.items) c.copied.result (c.copied.ensures ∙ c.get.ensures.value ∙ c.self.invariant c.args.text.now))
