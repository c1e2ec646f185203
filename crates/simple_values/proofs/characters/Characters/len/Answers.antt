use Rattle.std.proofs.Common.{rules}
use Rattle.std.proofs.lemmas.Str.{chars_from_encodes}
use Rattle.simple_values.proofs.characters.Characters.len.Goals as goal

pub returns : goal.returns
returns c = rw (← c.self.view_is) (search (rules, chars_from_encodes))
