use Rattle.std.proofs.Common.{ap, ◌∙◌}
use Rattle.std.proofs.lemmas.Result.{IfErr-weaker}
use Rattle.clap.specs.Words.{App, takes}
use Rattle.command_words.specs.inside.Command.{texts}
use Rattle.command_words.proofs.parsing.parse.Goals as goal

pub returns-clause-memory : goal.returns-clause-memory
returns-clause-memory c = IfErr-weaker c.try_get_matches_from.result _ _
    (λ e h t. h (ap (λ (a : App). takes a (texts c.args.words.now)) c.in_ok-command.ensures ∙ t)) c.try_get_matches_from.ensures.passes
