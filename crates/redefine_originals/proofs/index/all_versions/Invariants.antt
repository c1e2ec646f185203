use Rattle.std.proofs.Common.{◌≡◌, ℕ, ◌+◌, length}
use Rattle.std.specs.Prelude.{slice_get, Some}
use Rattle.redefine_originals.specs.declared.document_versions.DocumentVersions.{DocumentVersions}
use Rattle.redefine_originals.specs.Versions.{shapes_at}
use Rattle.redefine_originals.specs.inside.DocumentVersions.{HasVersions}
use Rattle.redefine_originals.proofs.index.all_versions.Given as goal

abbrev pub invariant-loop-document : goal.invariant-loop-document
invariant-loop-document l = record {
  counted : l.number ≡ l.document-index + 1;
  len : length l.versions.items ≡ l.document-index;
  each : (place : ℕ) (x : DocumentVersions) → slice_get l.versions.items place ≡ Some x → HasVersions (place + 1) (shapes_at l.available (place + 1)) x;
}
