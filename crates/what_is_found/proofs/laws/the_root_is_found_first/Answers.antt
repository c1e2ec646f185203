use Rattle.what_is_found.proofs.Numbers.{found-first}
use Rattle.what_is_found.proofs.laws.the_root_is_found_first.Goals as goal

pub returns : goal.returns
returns c = record { first = found-first }
