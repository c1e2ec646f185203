use Rattle.session_model.proofs.NamedEntries.{all-named}
use Rattle.session_model.proofs.laws.entries_are_named.Goals as goal

pub returns : goal.returns
returns c = record { named = all-named }
