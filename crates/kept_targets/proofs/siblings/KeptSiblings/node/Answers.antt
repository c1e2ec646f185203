use Rattle.std.proofs.Common.{◌≡◌, ℕ, Option, None, sym, subst, arith}
use Rattle.std.specs.Prelude.{slice_get}
use Rattle.kept_targets.specs.Seen.{elements_under}
use Rattle.kept_targets.proofs.Firsts.{past-children}
use Rattle.kept_targets.proofs.siblings.KeptSiblings.node.Goals as goal

pub returns-in_default-2-clause-node : goal.returns-in_default-2-clause-node
returns-in_default-2-clause-node c =
    let s = c.args.self.now in
    let count = c.child_count.ensures.count in
    let past = c.if-self-child_count.false in
    subst (λ (o : Option ℕ). None ≡ slice_get (elements_under s.doc.now o) s.place) (sym c.in-Some.is) (sym (past-children s.doc.now c.in-Some.parent s.place (omega (arith, count, past))))
