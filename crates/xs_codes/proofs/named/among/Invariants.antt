use Rattle.std.proofs.Common.{◌≡◌, map}
use Rattle.std.specs.Prelude.{drop}
use Rattle.xs_codes.specs.Builtins.{among}
use Rattle.xs_codes.proofs.named.among.Given as goal

-- the name is not in the entries so far
abbrev pub invariant-loop-entry : goal.invariant-loop-entry
invariant-loop-entry l = among (map (λ entry. (entry.0.now, entry.1)) l.table) l.name ≡ among (map (λ entry. (entry.0.now, entry.1)) (drop l.entry-index l.table)) l.name
