use Rattle.std.proofs.Common.{List, ℕ, subst}
use Rattle.tree_edits.specs.Spots.{Rewords}
use Rattle.tree_edits.proofs.Outcomes.{err_same}
use Rattle.tree_edits.proofs.apply.set_text.Goals as goal

pub returns-in_err-place-clause-err : goal.returns-in_err-place-clause-err
returns-in_err-place-clause-err c =
    let refuses = rw c.deref.ensures.value at c.in_err-place.ensures.err in
    err_same c.from_residual.result c.in_err-place.field-0.0 _ c.from_residual.ensures.1 (λ next. refuses c.args.text.now next)

pub returns-clause-ok : goal.returns-clause-ok
returns-clause-ok c =
    let place = rw c.deref.ensures.value at c.in_ok-place.ensures.ok in
    subst (λ (chars : List ℕ). Rewords c.args.rows.now.items c.write_text.new.rows.items c.args.node chars) c.in_ok-text.ensures
    (place.rewords c.write_text.new.rows.items c.in_ok-text.text (c.write_text.ensures place.row place.reads))
