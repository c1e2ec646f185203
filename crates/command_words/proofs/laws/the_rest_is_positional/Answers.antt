use Rattle.command_words.proofs.Anywhere.{none, once, twice}
use Rattle.command_words.proofs.laws.the_rest_is_positional.Goals as goal

pub returns : goal.returns
returns c = record { none = none; once = once; twice = twice }
