use Rattle.stream_answers.proofs.Sectioned.{sectioned}
use Rattle.stream_answers.proofs.laws.places_answer_sections.Goals as goal

pub returns : goal.returns
returns c =
    let e = c.readers_give_sections.ensures in
    record { sectioned = sectioned e.schemas_alone e.with_document e.document e.commands }
