use Rattle.std.proofs.Common.{◌≡◌, ◌+◌, ◌++◌, drop, map}
use Rattle.schema_set.specs.Documents.{available_of}
use Rattle.schema_set.specs.inside.Reads.{faults_from}
use Rattle.schema_set.proofs.reading.read_all.Given as goal

abbrev pub invariant-loop-input : goal.invariant-loop-input
invariant-loop-input l = record {
  counted : l.number ≡ l.input-index + 1;
  available : l.documents.available ++ map available_of (drop l.input-index l.inputs) ≡ map available_of l.inputs;
  faults : l.documents.faults ++ faults_from l.number (drop l.input-index l.inputs) ≡ faults_from 1 l.inputs;
}
