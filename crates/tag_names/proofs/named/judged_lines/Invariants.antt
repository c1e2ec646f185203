use Rattle.std.proofs.Common.{◌≡◌, ◌++◌, drop}
use Rattle.std.specs.Option.{option_copied}
use Rattle.tag_names.specs.Scopes.{own_of}
use Rattle.tag_names.specs.Resolving.{lines_with, judged_lines}
use Rattle.tag_names.proofs.named.judged_lines.Given as goal

abbrev pub invariant-loop-line : goal.invariant-loop-line
invariant-loop-line l = lines_with (own_of (option_copied l.own) ++ l.scope) l.judged (drop l.line-index l.lines) ≡ judged_lines (own_of (option_copied l.own) ++ l.scope) l.lines
