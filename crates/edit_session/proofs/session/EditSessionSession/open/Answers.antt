use Rattle.std.proofs.Common.{◌≡◌, subst}
use Rattle.compiled_schema.specs.Usable.{set_of}
use Rattle.compiled_schema.specs.declared.compiled.Compiled.{Compiled}
use Rattle.session_model.specs.State.{with_names}
use Rattle.edit_session.proofs.Applying.{opened-so}
use Rattle.edit_session.proofs.session.EditSessionSession.open.Goals as goal

pub returns-in-Ok-clause-opened : goal.returns-in-Ok-clause-opened
returns-in-Ok-clause-opened g c =
    opened-so (set_of c.args.set.value) c.open_document.new.set c.in-Ok.opened.doc c.in-Ok.opened.kept c.args.tree c.in-Ok.ensures.stands c.in-Ok.ensures.present
    (subst (λ (x : Compiled). set_of c.open_document.new.set ≡ with_names (set_of x) c.args.tree.forest) c.deref_mut.ensures.value c.in-Ok.ensures.named)
