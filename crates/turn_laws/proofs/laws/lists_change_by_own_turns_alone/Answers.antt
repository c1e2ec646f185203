use Rattle.std.proofs.Common.{[]}
use Rattle.edit_history.specs.Log.{log_of}
use Rattle.edit_history.specs.declared.log.Taken.TheVariants.{Nothing}
use Rattle.xsv_run.specs.from_open_document.Answers.{opened}
use Rattle.xsv_run.specs.from_open_document.State.{kept_trees}
use Rattle.turn_laws.proofs.Along.{opened_so, traced_so}
use Rattle.turn_laws.proofs.Owned.{lists_so}
use Rattle.turn_laws.proofs.laws.lists_change_by_own_turns_alone.Goals as goal

pub returns : goal.returns
returns c = λ most basis d found before answers seen reads said last author parent edit old new right first ready h k few puts unfaulty was is.
    let there = traced_so parent (log_of kept_trees [] [] Nothing) (opened most basis d found) (opened_so parent most basis d found right) before answers seen first h in
    lists_so there.0 seen author parent there.1 reads said last ready k few edit puts unfaulty old new was is
