use Rattle.std.proofs.Common.{◌≡◌, drop}
use Rattle.xs_names.specs.Names.{NameTable, Grown}
use Rattle.representations.specs.Documents.{bindings_table}
use Rattle.set_representations.specs.Scopes.{bound}
use Rattle.set_representations.proofs.scope_list.bind_all.Given as goal

abbrev pub invariant-loop-binding : goal.invariant-loop-binding
invariant-loop-binding l = record {
  table : bindings_table (drop l.binding-index l.bindings) l.names ≡ bindings_table l.bindings l.initial.names;
  bound : (later : NameTable) → Grown l.names later → bound later (drop l.binding-index l.bindings) l.scope ≡ bound later l.bindings l.initial.scope;
  grown : Grown l.initial.names l.names;
}
