use Rattle.std.proofs.Common.{◌∙◌}
use Rattle.xs_codes.proofs.Apart.{apart}
use Rattle.xs_codes.proofs.text.code_text.Goals as goal

pub returns-clause-apart : goal.returns-clause-apart
returns-clause-apart c = λ other e. apart other c.args.code (e ∙ c.printed.ensures)
