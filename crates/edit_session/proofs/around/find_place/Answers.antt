use Rattle.edit_session.specs.Held.{state_by}
use Rattle.edit_session.proofs.Standing.{settled}
use Rattle.edit_session.proofs.around.find_place.Goals as goal

pub returns-in-Err-clause-refused : goal.returns-in-Err-clause-refused
returns-in-Err-clause-refused c = λ other revision closed.
    c.in-Err.ensures.refused (state_by c.args.set.now c.args.doc.now c.args.kept.now revision closed) (settled c.args.set.now c.args.doc.now c.args.kept.now c.requires.present.whole).over.stands
