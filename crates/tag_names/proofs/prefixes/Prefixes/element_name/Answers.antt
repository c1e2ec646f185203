use Rattle.std.proofs.Common.{[], refl, ap, ◌∙◌}
use Rattle.tag_names.specs.Resolving.{element_resolved}
use Rattle.tag_names.proofs.TagLaws.{element-end}
use Rattle.tag_names.proofs.prefixes.Prefixes.element_name.Goals as goal

pub returns : goal.returns
returns c = c.end.ensures ∙ element-end [] c.args.self.now c.in_ok-name.name c.in_ok-judged.judged refl c.in_ok-judged.ensures ∙ ap (element_resolved c.args.self.now) c.in_ok-name.ensures
