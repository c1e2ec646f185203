use Rattle.std.proofs.Common.{[]}
use Rattle.edit_history.specs.Log.{log_of}
use Rattle.edit_history.specs.declared.log.Taken.TheVariants.{Nothing}
use Rattle.xsv_run.specs.from_open_document.Answers.{opened}
use Rattle.xsv_run.specs.from_open_document.State.{kept_trees}
use Rattle.turn_laws.proofs.Along.{opened_so, turns_so}
use Rattle.turn_laws.proofs.laws.steps_touch_what_their_edits_did.Goals as goal

pub returns : goal.returns
returns c = λ most basis d found reads said last right ready h.
    turns_so 0 (log_of kept_trees [] [] Nothing) (opened most basis d found) (opened_so 0 most basis d found right) reads said last ready h
