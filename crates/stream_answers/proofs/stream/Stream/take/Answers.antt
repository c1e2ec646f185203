use Rattle.told.proofs.Going.{answers_as}
use Rattle.told.proofs.Saying.{memory_breaks}
use Rattle.stream_answers.proofs.Moved.{ready_basis, open_document, turn_ends}
use Rattle.stream_answers.proofs.Standing.{schemas_turn, document_turn, commands_turn, ended_turn, is_ready, is_open, are_some}
use Rattle.stream_answers.proofs.stream.Stream.take.Goals as goal

pub answer_schemas-requires : goal.answer_schemas-requires
answer_schemas-requires g c = record { some = are_some c.args.self.now.wanted.asked c.args.line c.in-Schemas.reader c.args.item c.in-Ok.turn c.take.new.self c.in-Ok.ensures }

pub returns-in-Ok-clause-takes : goal.returns-in-Ok-clause-takes
returns-in-Ok-clause-takes g c next =
    answers_as _ _ c.answer_schemas.result _ _ _
    (schemas_turn c.args.self.now.wanted c.args.line c.args.item next c.args.self.now.place c.args.self.now.work _ c.in-Schemas.is)
    (c.answer_schemas.ensures.takes _ c.take.new.self c.args.steps.now next c.in-Ok.ensures)

pub answer_document-requires : goal.answer_document-requires
answer_document-requires g c = is_ready c.args.self.now.place c.args.self.now.work c.requires _ c.in-Document.is

pub returns-in-Ok-take-clause-takes : goal.returns-in-Ok-take-clause-takes
returns-in-Ok-take-clause-takes g c next =
    let basis = ready_basis c.args.self.now.work (is_ready c.args.self.now.place c.args.self.now.work c.requires _ c.in-Document.is) in
    answers_as _ _ c.answer_document.result _ _ _
    (document_turn c.args.self.now.wanted c.args.line c.args.item next c.args.self.now.place c.args.self.now.work _ basis.0 c.in-Document.is basis.1)
    (c.answer_document.ensures.takes basis.0 _ c.take-in-Document.new.self next basis.1 c.in-Ok-take.ensures)

pub answer_commands-requires : goal.answer_commands-requires
answer_commands-requires g c = is_open c.args.self.now.place c.args.self.now.work c.requires _ c.in-Commands.is

pub returns-in-Ok-take-2-clause-takes : goal.returns-in-Ok-take-2-clause-takes
returns-in-Ok-take-2-clause-takes g c next =
    let s = open_document c.args.self.now.work (is_open c.args.self.now.place c.args.self.now.work c.requires _ c.in-Commands.is) in
    answers_as _ _ c.answer_commands.result _ _ _
    (commands_turn c.args.self.now.wanted c.args.line c.args.item next c.args.self.now.place c.args.self.now.work _ s.0 c.in-Commands.is s.1)
    (c.answer_commands.ensures.takes s.0 _ c.take-in-Commands.new.self next s.1 c.in-Ok-take-2.ensures)

pub returns-in-Ended-clause-takes : goal.returns-in-Ended-clause-takes
returns-in-Ended-clause-takes g c next =
    answers_as _ _ c.refuse.result _ _ _
    (ended_turn c.args.self.now.wanted c.args.line c.args.item next c.args.self.now.place c.args.self.now.work _ c.in-Ended.is)
    (turn_ends next c.args.self.now.place c.args.self.now.work _ _ c.refuse.result _ _ c.args.steps.now c.refuse.ensures.tells.wrote c.refuse.ensures.ends)

pub returns-in-Err-clause-takes : goal.returns-in-Err-clause-takes
returns-in-Err-clause-takes g c next = memory_breaks _ _

pub returns-in-Err-take-clause-takes : goal.returns-in-Err-take-clause-takes
returns-in-Err-take-clause-takes g c next = memory_breaks _ _

pub returns-in-Err-take-2-clause-takes : goal.returns-in-Err-take-2-clause-takes
returns-in-Err-take-2-clause-takes g c next = memory_breaks _ _
