use Rattle.std.proofs.Common.{◌++◌, ap, ◌∙◌}
use Rattle.std.specs.Option.{option_copied}
use Rattle.tag_names.specs.Faults.{is_no_qname}
use Rattle.tag_names.specs.Resolving.{lines_with}
use Rattle.tag_names.specs.Scopes.{own_of}
use Rattle.tag_names.proofs.TagLaws.{lines-more, lines-bound}
use Rattle.tag_names.proofs.named.JudgedLines.put.Goals as goal

pub returns-in-Some : goal.returns-in-Some
returns-in-Some c =
    λ more. ap (λ l. lines_with (own_of (option_copied c.args.own) ++ c.args.scope.now) l more) c.put_binding.ensures
    ∙ lines-bound (own_of (option_copied c.args.own) ++ c.args.scope.now) c.args.self.now c.args.line.now c.is_no_qname.result _ c.in-Some.ensures
    (c.is_no_qname.ensures ∙ ap is_no_qname c.as_str-name.ensures) more

pub returns-in_ok-put_attribute-in-None : goal.returns-in_ok-put_attribute-in-None
returns-in_ok-put_attribute-in-None c =
    λ more. lines-more (own_of (option_copied c.args.own) ++ c.args.scope.now) c.args.self.now c.put_attribute.new.self c.args.line.now c.in_ok-judged-in-None.judged
    c.in-None.ensures c.in_ok-put_attribute-in-None.ensures
    c.in_ok-judged-in-None.ensures more
