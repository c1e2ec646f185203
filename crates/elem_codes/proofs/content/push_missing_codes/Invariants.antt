use Rattle.std.proofs.Common.{◌≡◌, ◌++◌, drop}
use Rattle.elem_codes.specs.Codes.{missing_codes}
use Rattle.elem_codes.proofs.content.push_missing_codes.Given as goal

abbrev pub invariant-loop-name : goal.invariant-loop-name
invariant-loop-name l = l.codes ++ missing_codes (drop l.name-index l.missing) ≡ l.initial.codes ++ missing_codes l.missing
