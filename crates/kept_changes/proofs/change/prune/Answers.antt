use Rattle.std.proofs.Common.{◌≡◌, ◌+◌, ℕ, true, Option, Some, sym, ap, ◌∙◌, subst}
use Rattle.std.specs.Prelude.{unwrap_or}
use Rattle.kept_children.specs.from_kept_records.KeptElement.{KeptElement}
use Rattle.kept_children.specs.from_kept_records.Slots.{blank}
use Rattle.std.proofs.lemmas.Option.{same_Some}
use Rattle.tree_rows.specs.Forest.{Forest}
use Rattle.tree_edits.specs.Tests.{made}
use Rattle.tree_edits.specs.declared.edit.Edit.TheVariants as edits
use Rattle.doc_nodes.specs.Nodes.{IsChildAt, is_element_at}
use Rattle.doc_changes.specs.Held.{parent_at}
use Rattle.doc_changes.specs.Parts.{IsOver, Prunes}
use Rattle.kept_children.specs.from_kept_state.Kept.{outcome_at}
use Rattle.kept_children.specs.from_kept_forgetting.Forgotten.{Forgets}
use Rattle.kept_children.specs.Steps.{width}
use Rattle.kept_changes.specs.Steps.{TakesBelow}
use Rattle.std.proofs.lemmas.Result.{on_ok_weaker}
use Rattle.kept_changes.proofs.Reread.{right-made}
use Rattle.kept_changes.specs.Turned.{Goes}
use Rattle.kept_changes.proofs.Gone.{goes, gone-beside, gone-pruned, gone-takes}
use Rattle.kept_changes.proofs.change.prune.Goals as goal

pub place_of-requires : goal.place_of-requires
place_of-requires g c = c.requires.element

pub unreachable-requires : goal.unreachable-requires
unreachable-requires g c = c.requires.below c.in-None.ensures

pub outcome-outcome-requires : goal.outcome-outcome-requires
outcome-outcome-requires g c = right-made c.args.set.now c.args.doc.now c.args.kept.now c.requires.right c.args.node c.requires.element

pub forget_below-requires-clause-beside : goal.forget_below-requires-clause-beside
forget_below-requires-clause-beside g c = (c.args.set.now, c.requires.right.beside)

pub remove-requires-clause-stands : goal.remove-requires-clause-stands
remove-requires-clause-stands g c = (c.args.set.now.names, c.requires.right.beside.over.0, c.requires.right.beside.over.1.stands)

pub take_child-requires-clause-beside : goal.take_child-requires-clause-beside
take_child-requires-clause-beside g c =
    let set = c.args.set.now in
    let old = c.args.doc.now in
    let same = c.in-Some.ensures.0 in
    let right = c.requires.right in
    gone-beside set old c.args.kept.now right c.in-Some.at c.in-Some.ensures.1 (subst (λ (n : ℕ). is_element_at old n ≡ true) (sym same) c.requires.element) c.forget_below.new.kept
    (subst (Forgets old c.args.kept.now c.forget_below.new.kept) (sym same) c.forget_below.ensures.forgets) (c.forget_below.ensures.beside set right.beside) c.remove.new.self
    (made right.beside.over.0 (edits.Remove c.args.node)) (c.remove.ensures.tree set.names right.beside.over.0 right.beside.over.1.stands)
    (subst (λ (n : ℕ). (below : Forest) → IsOver set.names old n below → (p place : ℕ) → IsChildAt old p place n → Prunes old c.remove.new.self p place n below) (sym same) (c.remove.ensures.change set.names))

pub take_child-requires-clause-pruned : goal.take_child-requires-clause-pruned
take_child-requires-clause-pruned g c =
    let set = c.args.set.now in
    let old = c.args.doc.now in
    let same = c.in-Some.ensures.0 in
    let right = c.requires.right in
    gone-pruned set old c.args.kept.now right c.in-Some.at c.in-Some.ensures.1 (subst (λ (n : ℕ). is_element_at old n ≡ true) (sym same) c.requires.element) c.forget_below.new.kept
    (subst (Forgets old c.args.kept.now c.forget_below.new.kept) (sym same) c.forget_below.ensures.forgets) (c.forget_below.ensures.beside set right.beside) c.remove.new.self
    (made right.beside.over.0 (edits.Remove c.args.node)) (c.remove.ensures.tree set.names right.beside.over.0 right.beside.over.1.stands)
    (subst (λ (n : ℕ). (below : Forest) → IsOver set.names old n below → (p place : ℕ) → IsChildAt old p place n → Prunes old c.remove.new.self p place n below) (sym same) (c.remove.ensures.change set.names))
    c.outcome-outcome.result (c.outcome-outcome.ensures ∙ ap (outcome_at c.args.kept.now.records.slots) (sym same))

pub returns-clause-steps : goal.returns-clause-steps
returns-clause-steps g c = λ parent up.
    let set = c.args.set.now in
    let old = c.args.doc.now in
    let same = c.in-Some.ensures.0 in
    let right = c.requires.right in
    let takes = gone-takes set old c.args.kept.now right c.in-Some.at c.in-Some.ensures.1 (subst (λ (n : ℕ). is_element_at old n ≡ true) (sym same) c.requires.element) c.forget_below.new.kept
    (subst (Forgets old c.args.kept.now c.forget_below.new.kept) (sym same) c.forget_below.ensures.forgets) (c.forget_below.ensures.beside set right.beside) c.remove.new.self
    (made right.beside.over.0 (edits.Remove c.args.node)) (c.remove.ensures.tree set.names right.beside.over.0 right.beside.over.1.stands)
    (subst (λ (n : ℕ). (below : Forest) → IsOver set.names old n below → (p place : ℕ) → IsChildAt old p place n → Prunes old c.remove.new.self p place n below) (sym same) (c.remove.ensures.change set.names))
    c.args.steps.now c.take_child.new.steps c.take_child.ensures.steps in
    subst (λ (p : ℕ). TakesBelow set c.remove.new.self c.args.kept.now p (width c.remove.new.self p + 1) c.args.steps.now c.take_child.new.steps)
    (same_Some c.in-Some.at.parent parent (sym (subst (λ (n : ℕ). parent_at old n ≡ Some c.in-Some.at.parent) same c.in-Some.ensures.1.parent_is) ∙ up)) takes

pub returns-clause-identity : goal.returns-clause-identity
returns-clause-identity g c =
    on_ok_weaker c.take_child.result (λ same n out. same n ∙ ap (λ (o : Option KeptElement). (unwrap_or o blank).identity) (c.forget_below.ensures.forgets.rest.slots n out)) c.take_child.ensures.identity

pub returns-clause-turned : goal.returns-clause-turned
returns-clause-turned g c =
    let set = c.args.set.now in
    let old = c.args.doc.now in
    let same = c.in-Some.ensures.0 in
    let right = c.requires.right in
    subst (Goes set.names old c.remove.new.self) same
    (goes set old c.args.kept.now right c.in-Some.at c.in-Some.ensures.1 (subst (λ (n : ℕ). is_element_at old n ≡ true) (sym same) c.requires.element) c.forget_below.new.kept
    (subst (Forgets old c.args.kept.now c.forget_below.new.kept) (sym same) c.forget_below.ensures.forgets) (c.forget_below.ensures.beside set right.beside) c.remove.new.self
    (made right.beside.over.0 (edits.Remove c.args.node)) (c.remove.ensures.tree set.names right.beside.over.0 right.beside.over.1.stands)
    (subst (λ (n : ℕ). (below : Forest) → IsOver set.names old n below → (p place : ℕ) → IsChildAt old p place n → Prunes old c.remove.new.self p place n below) (sym same) (c.remove.ensures.change set.names)))
