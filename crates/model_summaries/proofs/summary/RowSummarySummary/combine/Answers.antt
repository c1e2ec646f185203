use Rattle.std.proofs.Common.{◌≡◌, ◌+◌, Some, sym, ap, subst, ◌∙◌}
use Rattle.map_rows.specs.Rows.{RowMap, get, Updates, composed}
use Rattle.model_summaries.specs.Lawful.{maps_laws}
use Rattle.model_summaries.proofs.Keeping.{kept, now-live}
use Rattle.model_summaries.proofs.summary.RowSummarySummary.combine.Goals as goal

pub invariant_of-self : goal.invariant_of-self
invariant_of-self g c =
    let u = c.compose_into.ensures.row c.requires.left.row c.requires.right.row
    (subst (λ (v : RowMap). get v c.args.left.now ≡ Some c.requires.left.row) (sym c.self.view_is) c.requires.left.is)
    (subst (λ (v : RowMap). get v c.args.right.now ≡ Some c.requires.right.row) (sym c.self.view_is) c.requires.right.is) in
    (u.width ∙ c.self.invariant.0, ap (λ n. n + 1) u.cap ∙ c.self.invariant.1)

pub returns-clause-live : goal.returns-clause-live
returns-clause-live g c =
    let u = c.compose_into.ensures.row c.requires.left.row c.requires.right.row
    (subst (λ (v : RowMap). get v c.args.left.now ≡ Some c.requires.left.row) (sym c.self.view_is) c.requires.left.is)
    (subst (λ (v : RowMap). get v c.args.right.now ≡ Some c.requires.right.row) (sym c.self.view_is) c.requires.right.is) in
    let w = subst (λ (v : RowMap). Updates v c.compose_into.new.self c.args.into.now (Some (composed c.requires.left.row c.requires.right.row))) c.self.view_is u in
    now-live c.args.self.now c.compose_into.new.self c.args.into.now (composed c.requires.left.row c.requires.right.row) w
    (maps_laws.join_is c.args.self.now.width c.requires.left.row c.requires.right.row c.requires.left.lawful c.requires.right.lawful)

pub returns-clause-shape : goal.returns-clause-shape
returns-clause-shape g c =
    let u = c.compose_into.ensures.row c.requires.left.row c.requires.right.row
    (subst (λ (v : RowMap). get v c.args.left.now ≡ Some c.requires.left.row) (sym c.self.view_is) c.requires.left.is)
    (subst (λ (v : RowMap). get v c.args.right.now ≡ Some c.requires.right.row) (sym c.self.view_is) c.requires.right.is) in
    u.width ∙ ap (λ (v : RowMap). v.width) c.self.view_is

pub returns-clause-others : goal.returns-clause-others
returns-clause-others g c =
    let u = c.compose_into.ensures.row c.requires.left.row c.requires.right.row
    (subst (λ (v : RowMap). get v c.args.left.now ≡ Some c.requires.left.row) (sym c.self.view_is) c.requires.left.is)
    (subst (λ (v : RowMap). get v c.args.right.now ≡ Some c.requires.right.row) (sym c.self.view_is) c.requires.right.is) in
    kept c.args.self.now c.compose_into.new.self c.args.into.now (Some (composed c.requires.left.row c.requires.right.row))
    (subst (λ (v : RowMap). Updates v c.compose_into.new.self c.args.into.now (Some (composed c.requires.left.row c.requires.right.row))) c.self.view_is u)
