use Rattle.std.proofs.Common.{sym, ◌∙◌}
use Rattle.ground_tests.proofs.ListHolding.{reached}
use Rattle.ground_tests.proofs.list_held.Held.reaches.Goals as goal

pub returns-else-place-eq0 : goal.returns-else-place-eq0
returns-else-place-eq0 c = rw (← c.self.view_is) (λ e.
    reached c.self.inside.seqs c.args.seq c.args.place c.at.result c.at.ensures (sym c.is_some.ensures ∙ e))
