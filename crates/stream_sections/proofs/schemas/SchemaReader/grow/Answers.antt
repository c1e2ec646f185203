use Rattle.std.proofs.Common.{◌∙◌, sym}
use Rattle.stream_sections.proofs.Growing.{grows}
use Rattle.stream_sections.proofs.schemas.SchemaReader.grow.Goals as goal

pub returns-in-Ok : goal.returns-in-Ok
returns-in-Ok c = grows c.args.line c.args.self.now.sections c.args.item.now c.in-Some.section c.args.self.now.begun c.item.new.self c.in-Ok.field-0
    (sym c.take.ensures.value ∙ c.in-Some.is) c.in_ok-item.ensures.after (sym c.in-Ok.is ∙ c.in_ok-item.ensures.answer)
