use Rattle.std.proofs.Common.{inl, refl, subst}
use Rattle.schema_check.specs.Compilation.{IsCompilation}
use Rattle.schema_compile.proofs.OutcomeLaws.{set-outcome}
use Rattle.schema_compile.proofs.compiling.compile_from.Goals as goal

pub complete-requires : goal.complete-requires
complete-requires c =
    let documents = c.args.documents.now in
    let start = c.args.start in
    record { fit = c.compiled_parts_are_fit.ensures.fit documents start c.in-Ok.set c.requires.trees (subst (IsCompilation documents start) c.in-Ok.is c.in_ok-compiled.ensures) }

pub returns-in-Ok : goal.returns-in-Ok
returns-in-Ok c =
    let documents = c.args.documents.now in
    let start = c.args.start in
    record { outcome = set-outcome documents start c.complete.result c.in-Ok.set (subst (IsCompilation documents start) c.in-Ok.is c.in_ok-compiled.ensures) c.complete.ensures }

pub returns-in-Err : goal.returns-in-Err
returns-in-Err c = record { outcome = inl (c.in-Err.fault, subst (IsCompilation c.args.documents.now c.args.start) c.in-Err.is c.in_ok-compiled.ensures, refl) }
