use Rattle.std.proofs.Common.{sym, ◌∙◌}
use Rattle.xs_names.proofs.Bare.{bare_kept}
use Rattle.xs_names.proofs.handling.is_bare.Goals as goal

pub returns-clause-kept : goal.returns-clause-kept
returns-clause-kept c = λ yes. bare_kept c.args.text.now (sym c.has_no_white.ensures ∙ yes)
