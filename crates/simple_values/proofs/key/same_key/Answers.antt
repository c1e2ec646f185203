use Rattle.std.proofs.Common.{sym, ◌∙◌}
use Rattle.simple_values.proofs.Keys.{key_decides}
use Rattle.simple_values.proofs.key.same_key.Goals as goal

pub returns-clause-equal : goal.returns-clause-equal
returns-clause-equal c =
    let d = key_decides c.args.a.now c.args.b.now in
    (λ e. d.0 (sym c.eq.ensures ∙ e), λ e. c.eq.ensures ∙ d.1 e)
