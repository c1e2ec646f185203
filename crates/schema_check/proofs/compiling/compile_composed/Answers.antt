use Rattle.std.proofs.Common.{List, Option, ℕ, subst}
use Rattle.std.specs.Prelude.{IfOk}
use Rattle.schema_set.specs.declared.documents.SetDocument.{SetDocument}
use Rattle.schema_check.specs.SetPhases.{IsSetCompiled}
use Rattle.redefine_originals.specs.Originals.{AreOriginals}
use Rattle.schema_check.proofs.CompilationLaws.{composed-set}
use Rattle.schema_check.proofs.compiling.compile_composed.Goals as goal

pub returns : goal.returns
returns c =
    let available = c.args.available.now in
    let set = c.args.set.now.documents in
    let originals = c.in_ok-originals.originals.items in
    composed-set c.compile_set.result available set originals
    (subst (λ (l : List SetDocument). AreOriginals available l originals) c.as_slice.ensures c.in_ok-originals.ensures.originals)
    (subst (λ (l : List (Option ℕ)). IfOk c.compile_set.result (IsSetCompiled set l)) c.as_slice-2.ensures.value c.compile_set.ensures)
