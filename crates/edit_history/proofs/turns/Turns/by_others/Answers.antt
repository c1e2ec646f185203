use Rattle.std.proofs.Common.{sym, ◌∙◌}
use Rattle.std.proofs.lemmas.Bool.{eq-eqb, ne_eqb, cond-true, cond-false}
use Rattle.edit_history.proofs.Tables.{told}
use Rattle.edit_history.proofs.turns.Turns.by_others.Goals as goal

pub returns-then-touch-author : goal.returns-then-touch-author
returns-then-touch-author c =
    let is = told c.self.inside.touches.entries c.args.author c.args.key c.in_ok-key.field-0 c.in_ok-touch.touch.now c.in_ok-key.was c.in_ok-touch.ensures.value in
    rw (← c.self.view_is) (sym (is ∙ cond-true _ _ _ (eq-eqb _ _ c.if-touch-author.true)))

pub returns-else-touch-author : goal.returns-else-touch-author
returns-else-touch-author c =
    let is = told c.self.inside.touches.entries c.args.author c.args.key c.in_ok-key.field-0 c.in_ok-touch.touch.now c.in_ok-key.was c.in_ok-touch.ensures.value in
    rw (← c.self.view_is) (sym (is ∙ cond-false _ _ _ (ne_eqb _ _ c.if-touch-author.false)))
