use Rattle.std.proofs.Common.{◌≡◌, map}
use Rattle.std.specs.Prelude.{drop}
use Rattle.schema_values.specs.GrammarNames.{by_name}
use Rattle.schema_values.specs.declared.grammar_kinds.Tag.TheVariants.{Other}
use Rattle.schema_values.proofs.grammar_names.tag_among.Given as goal

-- the name is not in the entries so far
abbrev pub invariant-loop-entry : goal.invariant-loop-entry
invariant-loop-entry l =
    by_name Other (map (λ entry. (entry.0.now, entry.1)) l.table) l.local ≡ by_name Other (map (λ entry. (entry.0.now, entry.1)) (drop l.entry-index l.table)) l.local
