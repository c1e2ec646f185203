use Rattle.model_summaries.proofs.MaskRunning.{letter_is, letters_are}
use Rattle.model_summaries.proofs.mask_laws.summaries_are_runs.Goals as goal

pub returns-clause-letter : goal.returns-clause-letter
returns-clause-letter c = letter_is

pub returns-clause-letters : goal.returns-clause-letters
returns-clause-letters c = letters_are
