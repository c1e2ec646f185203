use Rattle.std.proofs.Common.{sym, ◌∙◌}
use Rattle.facets.proofs.Bounding.{read_past, read_value, read_fault}
use Rattle.facets.proofs.literal.read_treated.Goals as goal

pub returns-then-has_too_many : goal.returns-then-has_too_many
returns-then-has_too_many c = read_past c.args.kind c.args.scope.now c.args.text.now (sym c.has_too_many.ensures ∙ c.if-has_too_many.true)

pub returns-in-Ok : goal.returns-in-Ok
returns-in-Ok c =
    read_value c.args.kind c.args.scope.now c.args.text.now c.in-Ok.value c.within_bounds.result (sym c.has_too_many.ensures ∙ c.if-has_too_many.false)
    (sym c.in_ok-value.ensures.value ∙ c.in-Ok.is) c.within_bounds.ensures

pub returns-in-Err : goal.returns-in-Err
returns-in-Err c =
    read_fault c.args.kind c.args.scope.now c.args.text.now c.in-Err.fault c.code_of.result (sym c.has_too_many.ensures ∙ c.if-has_too_many.false)
    (sym c.in_ok-value.ensures.value ∙ c.in-Err.is) c.code_of.ensures
