use Rattle.std.proofs.Common.{◌≡◌, take, Some}
use Rattle.pattern_syntax.specs.Machine.{start, after}
use Rattle.pattern_syntax.specs.ReaderViews.{state_of}
use Rattle.pattern_syntax.proofs.read.read_characters.Given as goal

abbrev pub invariant-characters : goal.invariant-characters
invariant-characters l = after (Some start) (take l.place l.text) ≡ Some (state_of l.reader)
