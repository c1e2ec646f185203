use Rattle.std.proofs.Common.{◌≡◌, ◌⊎◌, ℕ, Some, inl, inr, sym, ap, ◌∙◌}
use Rattle.std.proofs.lemmas.Result.{IfOk-weaker}
use Rattle.doc_nodes.specs.Nodes.{Has, element_children}
use Rattle.doc_changes.specs.Held.{parent_at}
use Rattle.kept_targets.specs.Turned.{list_of, own_of}
use Rattle.kept_targets.proofs.Rooted.{only-by}
use Rattle.kept_targets.proofs.finding.moved_by.Goals as goal

pub returns-in-Own-clause-only : goal.returns-in-Own-clause-only
returns-in-Own-clause-only c =
    IfOk-weaker c.own_moved.result _ _ (λ moved adds. only-by c.args.by.now.doc.now c.args.turn.now (λ m. m ≡ c.in-Own.node) (λ m e. inl (ap own_of c.in-Own.is ∙ ap Some (sym e))) moved.items adds) c.own_moved.ensures.adds

pub returns-in-Listed-clause-marked : goal.returns-in-Listed-clause-marked
returns-in-Listed-clause-marked c =
    IfOk-weaker c.listed_moved.result _ _ (λ moved looked p n e off marked. looked p n (sym (ap (list_of c.args.by.now.doc.now) c.in-Listed.is) ∙ e) (λ q. off (ap own_of c.in-Listed.is ∙ ap Some q)) marked) c.listed_moved.ensures.marked

pub returns-in-Listed-clause-only : goal.returns-in-Listed-clause-only
returns-in-Listed-clause-only c =
    let ns = c.args.by.now.doc.now in
    let node = c.in-Listed.node in
    IfOk-weaker c.listed_moved.result _ _ (λ moved adds. only-by ns c.args.turn.now (λ m. (m ≡ node) ⊎ ((p : ℕ) × (parent_at ns node ≡ Some p) × Has m (element_children ns p))) (λ m root. elim root [
      | inl e ↦ inl (ap own_of c.in-Listed.is ∙ ap Some (sym e))
      | inr below ↦ inr (below.0, ap (list_of ns) c.in-Listed.is ∙ below.1, below.2)
    ]) moved.items adds) c.listed_moved.ensures.adds

pub returns-in-Gone-clause-only : goal.returns-in-Gone-clause-only
returns-in-Gone-clause-only c =
    let ns = c.args.by.now.doc.now in
    IfOk-weaker c.marked_moved.result _ _ (λ moved adds. only-by ns c.args.turn.now (λ m. Has m (element_children ns c.in-Gone.parent)) (λ m has. inr (c.in-Gone.parent, ap (list_of ns) c.in-Gone.is, has)) moved.items adds) c.marked_moved.ensures.adds
