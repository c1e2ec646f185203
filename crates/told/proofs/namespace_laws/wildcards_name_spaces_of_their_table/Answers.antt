use Rattle.told.proofs.Wildcards.{outcome-spaced}
use Rattle.told.proofs.namespace_laws.wildcards_name_spaces_of_their_table.Goals as goal

pub returns : goal.returns
returns c = λ documents start set is sound. outcome-spaced set sound documents start is
