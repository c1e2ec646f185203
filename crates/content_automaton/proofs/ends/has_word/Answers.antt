use Rattle.content_automaton.proofs.Ending.{some_first}
use Rattle.content_automaton.proofs.ends.has_word.Goals as goal

pub returns : goal.returns
returns c = some_first _ _ _ c.is_empty.result c.first.ensures c.is_empty.ensures c.if-is_empty.false
