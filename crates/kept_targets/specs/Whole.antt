-- All that is kept of a document's elements is right.
use Rattle.std.specs.Prelude.{[]}
use Rattle.compiled_schema.specs.Usable.{set_of}
use Rattle.compiled_schema.specs.declared.compiled.Compiled.{Compiled}
use Rattle.doc_nodes.specs.Nodes.{Nodes}
use Rattle.child_lists.specs.from_kept_records.Fit.{IsTop}
use Rattle.child_lists.specs.from_kept_state.Kept.{FitBut, IsBeside}
use Rattle.child_lists.specs.from_kept_state.KeptState.{KeptState}

-- all that is kept fits, from the root on
pub record IsWhole (c : Compiled) (ns : Nodes) (k : KeptState) : Type 0 where
  pub beside : IsBeside c ns k
  pub fit : FitBut c ns k []
  pub top : IsTop (set_of c) ns k.records.slots
