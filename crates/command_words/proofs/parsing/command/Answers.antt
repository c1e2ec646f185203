use Rattle.std.proofs.Common.{rules, ap, ap₂, true, ◌≡◌, ◌∙◌}
use Rattle.std.proofs.lemmas.Result.{IfOk-weaker}
use Rattle.clap.specs.Words.{Shape, app_of, new_rule, rule_of, with_rule}
use Rattle.clap.specs.Simple.{app_of_fields, on_top}
use Rattle.std.specs.Prelude.{codes}
use Rattle.command_words.specs.inside.Command.{bare, command_rule, option_rule, xsv}
use Rattle.command_words.proofs.parsing.command.Goals as goal

pub returns : goal.returns
returns c =
    let bare_is : app_of c.disable_version_flag.result ≡ bare = ap app_of_fields c.disable_version_flag.ensures
    ∙ ap (on_top (λ (s : Shape). record s { disable_version_flag = true })) (ap app_of_fields c.disable_help_flag.ensures
    ∙ ap (on_top (λ (s : Shape). record s { disable_help_flag = true })) (ap app_of_fields c.no_binary_name.ensures
    ∙ ap (on_top (λ (s : Shape). record s { no_binary_name = true })) c.new.ensures.app)) in
    let command_is : rule_of c.required.result ≡ command_rule = search rules in
    let number_is : rule_of c.new-3.result ≡ new_rule (codes "NUMBER") = search rules in
    let count_is : rule_of c.new-4.result ≡ new_rule (codes "COUNT") = search rules in
    let option_is : rule_of c.long.result ≡ option_rule = search rules in
    let one : app_of c.in_ok-arg.field-0 ≡ with_rule bare command_rule = c.in_ok-arg.ensures.shape (search rules) ∙ ap₂ with_rule bare_is command_is in
    let two : app_of c.in_ok-arg-2.field-0 ≡ with_rule (with_rule bare command_rule) (new_rule (codes "NUMBER")) =
    c.in_ok-arg-2.ensures.shape (search rules) ∙ ap₂ with_rule one number_is in
    let three : app_of c.in_ok-arg-3.field-0 ≡ with_rule (with_rule (with_rule bare command_rule) (new_rule (codes "NUMBER"))) (new_rule (codes "COUNT")) =
    c.in_ok-arg-3.ensures.shape (search rules) ∙ ap₂ with_rule two count_is in
    IfOk-weaker c.arg-4.result _ (λ d. app_of d ≡ xsv) (λ d h. h.shape (search rules) ∙ ap₂ with_rule three option_is) c.arg-4.ensures
