use Rattle.open_document.proofs.Touching.{touched_so}
use Rattle.open_document.proofs.laws.edits_touch_what_their_changes_do.Goals as goal

pub returns : goal.returns
returns c = touched_so
