use Rattle.std.proofs.Common.{◌≡◌, ◌++◌, drop}
use Rattle.elem_codes.proofs.element.push_all.Given as goal

abbrev pub invariant-loop-found : goal.invariant-loop-found
invariant-loop-found l = l.codes ++ drop l.found-index l.more ≡ l.initial.codes ++ l.more
