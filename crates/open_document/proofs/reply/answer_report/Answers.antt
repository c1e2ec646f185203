use Rattle.open_document.proofs.reply.answer_report.Goals as goal

pub returns-in-Err-clause-wrote : goal.returns-in-Err-clause-wrote
returns-in-Err-clause-wrote g c = c.in-Err.ensures.written.front
