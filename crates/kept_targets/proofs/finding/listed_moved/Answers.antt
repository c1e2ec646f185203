use Rattle.std.proofs.Common.{◌≡◌, ◌⊎◌, [], ℕ, Some, inl, inr, sym, ◌∙◌, subst}
use Rattle.std.proofs.lemmas.Option.{none-some, same_Some}
use Rattle.doc_nodes.specs.Nodes.{Has, element_children}
use Rattle.doc_changes.specs.Held.{parent_at}
use Rattle.kept_slots.specs.Slots.{at}
use Rattle.kept_targets.specs.Moved.{IsMarked}
use Rattle.kept_targets.proofs.Adding.{adds-then, adds-wider, looked-more}
use Rattle.kept_targets.proofs.Looking.{above-there}
use Rattle.kept_targets.proofs.finding.listed_moved.Goals as goal

pub returns-in-None-clause-marked : goal.returns-in-None-clause-marked
returns-in-None-clause-marked c = λ p n up off marked. absurd (none-some p (c.in-None.ensures.parent ∙ up))

pub add_marked-requires-clause-element : goal.add_marked-requires-clause-element
add_marked-requires-clause-element c = let by = c.args.by.now in above-there by.set.now by.doc.now by.state.now c.requires.whole c.args.node c.in-Some.parent (sym c.in-Some.ensures.parent)

pub returns-in_ok-add_marked-in-Some-clause-looked : goal.returns-in_ok-add_marked-in-Some-clause-looked
returns-in_ok-add_marked-in-Some-clause-looked c =
    let by = c.args.by.now in
    looked-more by.set.now.parts by.doc.now by.state.now.records.slots (at c.args.keys.now.signs) c.in_ok-moved.moved.items c.add_marked.new.moved.items c.in_ok-add_marked-in-Some.ensures.adds.still c.args.node c.in_ok-moved.ensures.looked

pub returns-in_ok-add_marked-in-Some-clause-marked : goal.returns-in_ok-add_marked-in-Some-clause-marked
returns-in_ok-add_marked-in-Some-clause-marked c = λ p n up off marked.
    let by = c.args.by.now in
    let same = same_Some p c.in-Some.parent (sym up ∙ sym c.in-Some.ensures.parent) in
    c.in_ok-add_marked-in-Some.ensures.looked n (subst (λ (q : ℕ). IsMarked by.set.now by.doc.now by.state.now q n) same marked) (λ e. off (same_Some c.args.node n e))

pub returns-in_ok-add_marked-in-Some-clause-adds : goal.returns-in_ok-add_marked-in-Some-clause-adds
returns-in_ok-add_marked-in-Some-clause-adds c =
    let by = c.args.by.now in
    let ns = by.doc.now in
    let roots = λ (m : ℕ). (m ≡ c.args.node) ⊎ ((p : ℕ) × (parent_at ns c.args.node ≡ Some p) × Has m (element_children ns p)) in
    adds-then ns [] c.in_ok-moved.moved.items c.add_marked.new.moved.items roots (λ m. Has m (element_children ns c.in-Some.parent)) (adds-wider ns [] c.in_ok-moved.moved.items (λ m. m ≡ c.args.node) roots (λ m e. inl e) c.in_ok-moved.ensures.adds)
    c.in_ok-add_marked-in-Some.ensures.adds (λ m h. inl (inr (c.in-Some.parent, sym c.in-Some.ensures.parent, h)))
