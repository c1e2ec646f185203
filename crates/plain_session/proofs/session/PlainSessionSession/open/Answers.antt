use Rattle.std.proofs.Common.{◌≡◌, subst}
use Rattle.compiled_schema.specs.Usable.{set_of}
use Rattle.compiled_schema.specs.declared.compiled.Compiled.{Compiled}
use Rattle.session_model.specs.State.{with_names}
use Rattle.plain_session.proofs.Known.{opened_so}
use Rattle.plain_session.proofs.session.PlainSessionSession.open.Goals as goal

pub returns-in-Ok-clause-opened : goal.returns-in-Ok-clause-opened
returns-in-Ok-clause-opened g c =
    opened_so (set_of c.args.set.value) c.first_stock.new.set c.args.tree c.in-Ok.stock
    (subst (λ (x : Compiled). set_of c.first_stock.new.set ≡ with_names (set_of x) c.args.tree.forest) c.deref_mut.ensures.value c.in-Ok.ensures.named) c.in-Ok.ensures.stock
