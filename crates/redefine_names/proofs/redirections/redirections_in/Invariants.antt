use Rattle.std.proofs.Common.{◌≡◌, map, take}
use Rattle.std.specs.Option.{option_and_then}
use Rattle.redefine_names.specs.Redirections.{own_redirection}
use Rattle.redefine_names.proofs.redirections.redirections_in.Given as goal

abbrev pub invariant-loop-version : goal.invariant-loop-version
invariant-loop-version l = l.table.items ≡ map (option_and_then (own_redirection l.names l.reps l.originals)) (take l.version-index l.versions)
