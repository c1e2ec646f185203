use Rattle.std.proofs.Common.{ap, ◌∙◌}
use Rattle.compiled_schema.specs.Usable.{set_of}
use Rattle.session_model.specs.State.{with_names}
use Rattle.plain_session.proofs.Known.{edited_so}
use Rattle.plain_session.proofs.session.PlainSessionSession.apply.Goals as goal

pub returns-in-Ok-take_stock-clause-applies : goal.returns-in-Ok-take_stock-clause-applies
returns-in-Ok-take_stock-clause-applies g c =
    edited_so c.self.inside c.args.self.now c.self.view_is c.args.edit.now c.take_stock.new.set c.apply_edit.new.self c.in-Ok-take_stock.stock
    c.saturating_add-self-inside.result c.self.inside.closed c.if-self.false c.if-self.false c.in-Ok.ensures.ok
    (c.in-Ok-take_stock.ensures.named ∙ ap (λ set. with_names (set_of set) c.apply_edit.new.self.forest) c.deref_mut.ensures.value)
    c.in-Ok-take_stock.ensures.stock c.saturating_add-self-inside.ensures
