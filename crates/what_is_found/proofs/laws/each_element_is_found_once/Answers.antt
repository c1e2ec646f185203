use Rattle.what_is_found.proofs.Numbers.{found-once}
use Rattle.what_is_found.proofs.laws.each_element_is_found_once.Goals as goal

pub returns : goal.returns
returns c = record { once = found-once }
