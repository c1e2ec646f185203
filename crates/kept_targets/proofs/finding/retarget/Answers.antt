use Rattle.std.proofs.Common.{◌≡◌, ◌++◌, ℕ, List, Some, true, inl, inr, sym, ap, ◌∙◌, subst}
use Rattle.doc_nodes.specs.Nodes.{Has, is_element_at}
use Rattle.scope_targets.specs.Kept.{parent_of}
use Rattle.kept_targets.specs.Counting.{Adopts, CanAdopt, Finds, Forgets}
use Rattle.kept_targets.specs.Kept.{IsTargetOf}
use Rattle.kept_targets.specs.Touched.{IsTouching}
use Rattle.kept_targets.proofs.Bridged.{can-adopt-all, codes-rest, counting-before, gone-before, lowest-there, scopes-before, scopes-elements, targets-all}
use Rattle.kept_targets.proofs.finding.retarget.Goals as goal

pub moved_by-requires-clause-lowest : goal.moved_by-requires-clause-lowest
moved_by-requires-clause-lowest c = lowest-there c.args.set.now c.args.doc.now c.args.state.now c.requires.whole c.args.keys.now c.args.turn.now c.requires.before

pub touched_by-requires-clause-element : goal.touched_by-requires-clause-element
touched_by-requires-clause-element c =
    subst (λ (n : ℕ). is_element_at c.args.doc.now n ≡ true) (sym c.lowest.ensures) (lowest-there c.args.set.now c.args.doc.now c.args.state.now c.requires.whole c.args.keys.now c.args.turn.now c.requires.before)

pub forget-requires-clause-counting : goal.forget-requires-clause-counting
forget-requires-clause-counting c = counting-before c.args.set.now c.args.doc.now c.args.state.now c.requires.whole c.args.keys.now c.args.turn.now c.requires.before

pub forget-requires-clause-above : goal.forget-requires-clause-above
forget-requires-clause-above c = scopes-before c.args.set.now c.args.doc.now c.args.state.now c.requires.whole c.args.keys.now c.args.turn.now c.requires.before

pub forget-requires-clause-whole : goal.forget-requires-clause-whole
forget-requires-clause-whole c =
    subst (λ (gone : List ℕ). (n x : ℕ) → Has n gone → parent_of c.args.keys.now.counted x ≡ Some n → Has x gone) (sym c.gone.ensures)
    (gone-before c.args.set.now c.args.doc.now c.args.state.now c.requires.whole c.args.keys.now c.args.turn.now c.requires.before)

pub adopt-requires-clause-elements : goal.adopt-requires-clause-elements
adopt-requires-clause-elements c = λ n has. (c.in_ok-moved.ensures.only n (subst (Has n) c.as_slice.ensures.value has)).0

pub adopt-requires-clause-counting : goal.adopt-requires-clause-counting
adopt-requires-clause-counting c = c.in_ok-forget.ensures.counting

pub adopt-requires-clause-can : goal.adopt-requires-clause-can
adopt-requires-clause-can c =
    let moved = c.in_ok-moved.ensures in
    subst (CanAdopt c.args.doc.now c.forget.new.keys) (sym c.as_slice.ensures.value)
    (can-adopt-all c.args.set.now c.args.doc.now c.args.state.now c.requires.whole c.args.keys.now c.args.turn.now c.requires.before c.forget.new.keys
    (subst (Forgets c.args.keys.now c.forget.new.keys) c.gone.ensures c.in_ok-forget.ensures.forgets) c.in_ok-moved.moved.items moved.own moved.marked moved.only)

pub find_again-requires-clause-elements : goal.find_again-requires-clause-elements
find_again-requires-clause-elements c = λ n has. (c.in_ok-moved.ensures.only n (subst (Has n) c.as_slice-2.ensures.value has)).0

pub find_again-requires-clause-counting : goal.find_again-requires-clause-counting
find_again-requires-clause-counting c = c.in_ok-adopt.ensures.counting

pub find_again-requires-2-clause-elements : goal.find_again-requires-2-clause-elements
find_again-requires-2-clause-elements c = λ n has.
    let touched = c.in_ok-touched.ensures in
    elim (touched.3.only_targets n (subst (Has n) c.as_slice-3.ensures.value has)) [
      | inl old ↦ absurd (subst (Has n) touched.1 old)
      | inr is ↦ is
    ]

pub find_again-requires-2-clause-counting : goal.find_again-requires-2-clause-counting
find_again-requires-2-clause-counting c = c.in_ok-find_again.ensures.counting

pub returns-clause-targets : goal.returns-clause-targets
returns-clause-targets c =
    let set = c.args.set.now in
    let doc = c.args.doc.now in
    let ks = c.args.state.now.records.slots in
    let keys = c.args.keys.now in
    let moved = c.in_ok-moved.ensures in
    let touched = c.in_ok-touched.ensures in
    let forgets = subst (Forgets keys c.forget.new.keys) c.gone.ensures c.in_ok-forget.ensures.forgets in
    let touching = subst (λ (n : ℕ). IsTouching set doc ks keys n touched.0 c.in_ok-touched.touched) c.lowest.ensures touched.3 in
    let adopts = subst (Adopts doc ks c.forget.new.keys c.adopt.new.keys) c.as_slice.ensures.value c.in_ok-adopt.ensures.adopts in
    let first = subst (Finds (IsTargetOf set doc ks) c.adopt.new.keys c.find_again.new.keys) c.as_slice-2.ensures.value c.in_ok-find_again.ensures.finds in
    let second = subst (Finds (IsTargetOf set doc ks) c.find_again.new.keys c.find_again-2.new.keys) c.as_slice-3.ensures.value c.in_ok-find_again-2.ensures.finds in
    targets-all set doc c.args.state.now c.requires.whole keys c.args.turn.now c.requires.before c.forget.new.keys forgets c.in_ok-moved.moved.items moved.own moved.marked moved.only touched.0 c.in_ok-touched.touched touched.1 touched.2 touching
    c.adopt.new.keys c.find_again.new.keys c.find_again-2.new.keys adopts first second c.in_ok-find_again-2.ensures.counting

pub returns-clause-scopes : goal.returns-clause-scopes
returns-clause-scopes c =
    let set = c.args.set.now in
    let doc = c.args.doc.now in
    let ks = c.args.state.now.records.slots in
    let keys = c.args.keys.now in
    let moved = c.in_ok-moved.ensures in
    let touched = c.in_ok-touched.ensures in
    let forgets = subst (Forgets keys c.forget.new.keys) c.gone.ensures c.in_ok-forget.ensures.forgets in
    let touching = subst (λ (n : ℕ). IsTouching set doc ks keys n touched.0 c.in_ok-touched.touched) c.lowest.ensures touched.3 in
    let all = c.in_ok-extend_from_slice.ensures.items ∙ ap (λ (xs : List ℕ). c.in_ok-touched.touched.scopes.items ++ xs) c.as_slice-4.ensures.value in
    scopes-elements set doc c.args.state.now c.requires.whole keys c.args.turn.now c.requires.before c.forget.new.keys forgets c.in_ok-moved.moved.items moved.own moved.marked moved.only touched.0 c.in_ok-touched.touched touched.1 touched.2 touching
    c.extend_from_slice.new.self.items all

pub returns-clause-rest : goal.returns-clause-rest
returns-clause-rest c =
    let set = c.args.set.now in
    let doc = c.args.doc.now in
    let ks = c.args.state.now.records.slots in
    let keys = c.args.keys.now in
    let moved = c.in_ok-moved.ensures in
    let touched = c.in_ok-touched.ensures in
    let forgets = subst (Forgets keys c.forget.new.keys) c.gone.ensures c.in_ok-forget.ensures.forgets in
    let touching = subst (λ (n : ℕ). IsTouching set doc ks keys n touched.0 c.in_ok-touched.touched) c.lowest.ensures touched.3 in
    let all = c.in_ok-extend_from_slice.ensures.items ∙ ap (λ (xs : List ℕ). c.in_ok-touched.touched.scopes.items ++ xs) c.as_slice-4.ensures.value in
    codes-rest set doc c.args.state.now c.requires.whole keys c.args.turn.now c.requires.before c.forget.new.keys forgets c.in_ok-moved.moved.items moved.own moved.marked moved.only touched.0 c.in_ok-touched.touched touched.1 touched.2 touching
    c.extend_from_slice.new.self.items all
