use Rattle.std.proofs.Common.{◌≡◌, ◌++◌, drop}
use Rattle.tag_names.specs.Tags.{bindings_in}
use Rattle.tag_names.proofs.named.bindings_in.Given as goal

abbrev pub invariant-loop-line : goal.invariant-loop-line
invariant-loop-line l = l.bindings ++ bindings_in (drop l.line-index l.lines) ≡ bindings_in l.lines
