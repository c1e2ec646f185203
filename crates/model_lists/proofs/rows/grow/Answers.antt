use Rattle.std.proofs.Common.{◌≡◌, suc, length, sym, subst, ◌∙◌, arith}
use Rattle.model_lists.specs.Lists.{RowLists}
use Rattle.model_lists.specs.Inside.{AreShaped, GrowTo}
use Rattle.model_lists.proofs.Growing.{shaped-more, grown-more, more-many}
use Rattle.model_lists.proofs.rows.grow.Goals as goal

pub more-preserved : goal.more-preserved
more-preserved c =
    let xs = c.more.rows.items in
    let x : RowLists = c.new-in-more.result in
    let now = c.in_ok-push.ensures.items in
    let shape : x.shape ≡ suc (length xs) =
    (λ i. (c.new-in-more.ensures i).shape) ∙ ((λ i. (c.in_ok-summary.ensures i).width) ∙ omega (arith, c.len-in-more.ensures, c.more.rows.ok.0)) in
    record {
      shaped = subst AreShaped (sym now) (shaped-more xs x c.more.invariant.shaped shape);
      grown = subst (GrowTo c.args.rows.now.items) (sym now) (grown-more c.args.rows.now.items xs x c.more.invariant.grown c.more.invariant.more);
      more = more-many c.args.rows.now.items xs x c.push.new.self.items now c.more.invariant.more;
    }
