-- The one command as clap reads it, and what its matches ask for.
use Rattle.std.specs.Prelude.{List, [], ◌∷◌, Option, Some, None, map, true, codes}
use Rattle.std.specs.Borrow.{Bor}
use Rattle.clap.specs.Words.{App, Rule, Text, new_app, new_rule, with_rule}
use Rattle.clap.specs.Simple.{on_top}
use Rattle.command_words.specs.Requests.{asked_by}
use Rattle.command_words.specs.declared.request.Request.{Request}

abbrev pub command_rule : Rule
command_rule = record (new_rule (codes "COMMAND")) { required = true }

abbrev pub option_rule : Rule
option_rule = record (new_rule (codes "max-errors")) { long = Some (codes "max-errors") }

-- no name of the program comes first, and there is no help
abbrev pub bare : App
bare = on_top (λ s. record s { no_binary_name = true; disable_help_flag = true; disable_version_flag = true }) (new_app (codes "xsv"))

abbrev pub xsv : App
xsv = with_rule (with_rule (with_rule (with_rule bare command_rule) (new_rule (codes "NUMBER"))) (new_rule (codes "COUNT"))) option_rule

abbrev pub texts : List (Bor Text) → List Text
texts = map (λ w. w.now)

-- what is asked for by the command, the number, the count and the option's value
abbrev pub given_by : Option Text → Option Text → Option Text → Option Text → Option Request
given_by None start items value = None
given_by (Some command) None items value = asked_by value (command ∷ [])
given_by (Some command) (Some start) None value = None
given_by (Some command) (Some start) (Some items) value = asked_by None (command ∷ start ∷ items ∷ [])
