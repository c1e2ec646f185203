use Rattle.std.proofs.Common.{[], refl, ap, ◌∙◌}
use Rattle.tag_names.specs.Resolving.{attribute_resolved}
use Rattle.tag_names.proofs.TagLaws.{attribute-end}
use Rattle.tag_names.proofs.prefixes.Prefixes.attribute_name.Goals as goal

pub returns : goal.returns
returns c = c.end.ensures ∙ attribute-end [] c.args.self.now c.in_ok-name.name c.in_ok-judged.judged refl c.in_ok-judged.ensures ∙ ap (attribute_resolved c.args.self.now) c.in_ok-name.ensures
