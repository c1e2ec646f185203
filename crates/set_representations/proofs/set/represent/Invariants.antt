use Rattle.std.proofs.Common.{◌≡◌, ◌++◌, Some, drop, length}
use Rattle.std.specs.Prelude.{slice_get}
use Rattle.std.specs.List.{flat_map}
use Rattle.xs_names.specs.Names.{NameTable, Grown}
use Rattle.xs_names.specs.Scope.{first_scope}
use Rattle.representations.specs.Named.{AreNamed}
use Rattle.set_representations.specs.Documents.{set_table, document_scopes, representations_of, origins_of, representations, scopes, origins}
use Rattle.set_representations.proofs.set.represent.Given as goal

abbrev pub invariant-loop-document : goal.invariant-loop-document
invariant-loop-document l = record {
  begins : slice_get l.made.scopes 0 ≡ Some first_scope;
  table : set_table l.names (drop l.document-index l.documents) ≡ set_table l.initial.names l.documents;
  reps : (later : NameTable) → Grown l.names later
      → l.made.reps ++ representations_of later (length l.made.reps) (length l.made.scopes) (drop l.document-index l.documents) ≡ representations later l.documents;
  scopes : (later : NameTable) → Grown l.names later
      → l.made.scopes ++ flat_map (document_scopes later) (drop l.document-index l.documents) ≡ scopes later l.documents;
  origins : (later : NameTable) → Grown l.names later
      → l.made.origins ++ origins_of later (length l.made.reps) (drop l.document-index l.documents) ≡ origins later l.documents;
  named : AreNamed l.names l.made.reps;
  grown : Grown l.initial.names l.names;
}
