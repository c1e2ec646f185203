use Rattle.std.proofs.Common.{◌∙◌, ap}
use Rattle.component_tables.specs.ContentTypes.{form_content}
use Rattle.component_tables.proofs.ContentLaws.{part-read, rule-content}
use Rattle.component_tables.proofs.content_types.ContentRuleRuleContentType.value.Goals as goal

pub returns : goal.returns
returns c =
    let is = part-read _ _ c.args.x _ c.complexes.ensures.parts c.index-complexes-x.is c.requires.there in
    record {
      value = c.form_content.ensures ∙
          (ap (form_content c.index-complexes-x.result.by_extension c.index-complexes-x.result.content) c.base_content.ensures ∙
          rule-content c.args.self.now.parts.now c.requires.valid c.args.x c.index-complexes-x.result is c.args.table.now c.requires.filled);
    }
