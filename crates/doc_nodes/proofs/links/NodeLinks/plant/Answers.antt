use Rattle.std.proofs.Common.{◌≡◌, ◌<◌, [], ◌∷◌, ◌++◌, length, None, sym, ap, ◌∙◌, subst, refl, arith}
use Rattle.doc_nodes.specs.declared.slots.Slot.{Slot}
use Rattle.doc_nodes.specs.Slots.{slot}
use Rattle.doc_nodes.specs.Linked.{nodes_of, IsLinked}
use Rattle.doc_nodes.proofs.Rooted.{no_nodes, is_free, are_free, root_slots, root_linked, root_seen}
use Rattle.doc_nodes.proofs.Seen.{sound}
use Rattle.doc_nodes.proofs.links.NodeLinks.plant.Goals as goal

pub invariant_of-self : goal.invariant_of-self
invariant_of-self c = subst (λ x. IsLinked x c.self.inside.lists) (sym c.in_err-add_number.ensures.err) c.self.invariant

pub invariant_of-self-in_err-add_number-2 : goal.invariant_of-self-in_err-add_number-2
invariant_of-self-in_err-add_number-2 c =
    let ss = c.self.inside.slots.slots in let v = c.self.inside.lists in
    let empty = no_nodes ss v (rw (← c.self.view_is) at c.requires) in
    let one : c.add_number.new.self.slots ≡ None ∷ [] = c.in_ok-add_number.ensures.ok ∙ ap (λ x. x ++ None ∷ []) empty in
    is_free c.add_number-2.new.self.slots v (c.in_err-add_number-2.ensures.err ∙ one)

pub invariant_of-self-in_err-reserve : goal.invariant_of-self-in_err-reserve
invariant_of-self-in_err-reserve c =
    let ss = c.self.inside.slots.slots in let v = c.self.inside.lists in
    let empty = no_nodes ss v (rw (← c.self.view_is) at c.requires) in
    let one : c.add_number.new.self.slots ≡ None ∷ [] = c.in_ok-add_number.ensures.ok ∙ ap (λ x. x ++ None ∷ []) empty in
    let two : c.add_number-2.new.self.slots ≡ None ∷ None ∷ [] = c.in_ok-add_number-2.ensures.ok ∙ ap (λ x. x ++ None ∷ []) one in
    are_free c.reserve.new.self.slots v (c.reserve.ensures.slots ∙ two)

pub invariant_of-self-in_err-list : goal.invariant_of-self-in_err-list
invariant_of-self-in_err-list c =
    let ss = c.self.inside.slots.slots in let v = c.self.inside.lists in
    let empty = no_nodes ss v (rw (← c.self.view_is) at c.requires) in
    let one : c.add_number.new.self.slots ≡ None ∷ [] = c.in_ok-add_number.ensures.ok ∙ ap (λ x. x ++ None ∷ []) empty in
    let two : c.add_number-2.new.self.slots ≡ None ∷ None ∷ [] = c.in_ok-add_number-2.ensures.ok ∙ ap (λ x. x ++ None ∷ []) one in
    are_free c.reserve.new.self.slots c.new_seq.new.self (c.reserve.ensures.slots ∙ two)

pub put-requires-clause-within : goal.put-requires-clause-within
put-requires-clause-within c =
    let ss = c.self.inside.slots.slots in let v = c.self.inside.lists in
    let empty = no_nodes ss v (rw (← c.self.view_is) at c.requires) in
    let one : c.add_number.new.self.slots ≡ None ∷ [] = c.in_ok-add_number.ensures.ok ∙ ap (λ x. x ++ None ∷ []) empty in
    let two : c.add_number-2.new.self.slots ≡ None ∷ None ∷ [] = c.in_ok-add_number-2.ensures.ok ∙ ap (λ x. x ++ None ∷ []) one in
    subst (λ x. 1 < length x) (sym (c.reserve.ensures.slots ∙ two)) (omega arith)

pub put-requires-clause-free : goal.put-requires-clause-free
put-requires-clause-free c =
    let ss = c.self.inside.slots.slots in let v = c.self.inside.lists in
    let empty = no_nodes ss v (rw (← c.self.view_is) at c.requires) in
    let one : c.add_number.new.self.slots ≡ None ∷ [] = c.in_ok-add_number.ensures.ok ∙ ap (λ x. x ++ None ∷ []) empty in
    let two : c.add_number-2.new.self.slots ≡ None ∷ None ∷ [] = c.in_ok-add_number-2.ensures.ok ∙ ap (λ x. x ++ None ∷ []) one in
    ap (λ x. slot x 1) (c.reserve.ensures.slots ∙ two)

pub invariant_of-self-2 : goal.invariant_of-self-2
invariant_of-self-2 c =
    let ss = c.self.inside.slots.slots in let v = c.self.inside.lists in
    let empty = no_nodes ss v (rw (← c.self.view_is) at c.requires) in
    let one : c.add_number.new.self.slots ≡ None ∷ [] = c.in_ok-add_number.ensures.ok ∙ ap (λ x. x ++ None ∷ []) empty in
    let two : c.add_number-2.new.self.slots ≡ None ∷ None ∷ [] = c.in_ok-add_number-2.ensures.ok ∙ ap (λ x. x ++ None ∷ []) one in
    let s : Slot = record { number = 1; hook = None; depth = 1; list = c.in_ok-list.list; count = 0; content = c.args.content } in
    let e = root_slots c.reserve.new.self.slots c.put.new.self.slots s (c.reserve.ensures.slots ∙ two) c.put.ensures.change in
    subst (λ x. IsLinked x c.new_seq.new.self) (sym e) (root_linked s c.new_seq.new.self refl refl refl c.in_ok-list.ensures.ok.changed)

pub returns-clause-root : goal.returns-clause-root
returns-clause-root c =
    let ss = c.self.inside.slots.slots in let v = c.self.inside.lists in
    let empty = no_nodes ss v (rw (← c.self.view_is) at c.requires) in
    let one : c.add_number.new.self.slots ≡ None ∷ [] = c.in_ok-add_number.ensures.ok ∙ ap (λ x. x ++ None ∷ []) empty in
    let two : c.add_number-2.new.self.slots ≡ None ∷ None ∷ [] = c.in_ok-add_number-2.ensures.ok ∙ ap (λ x. x ++ None ∷ []) one in
    let s : Slot = record { number = 1; hook = None; depth = 1; list = c.in_ok-list.list; count = 0; content = c.args.content } in
    let e = root_slots c.reserve.new.self.slots c.put.new.self.slots s (c.reserve.ensures.slots ∙ two) c.put.ensures.change in
    ap (λ x. nodes_of x c.new_seq.new.self) e ∙ root_seen s c.new_seq.new.self c.args.content refl refl refl c.in_ok-list.ensures.ok.changed

pub returns-clause-sound : goal.returns-clause-sound
returns-clause-sound c =
    let ss = c.self.inside.slots.slots in let v = c.self.inside.lists in
    let empty = no_nodes ss v (rw (← c.self.view_is) at c.requires) in
    let one : c.add_number.new.self.slots ≡ None ∷ [] = c.in_ok-add_number.ensures.ok ∙ ap (λ x. x ++ None ∷ []) empty in
    let two : c.add_number-2.new.self.slots ≡ None ∷ None ∷ [] = c.in_ok-add_number-2.ensures.ok ∙ ap (λ x. x ++ None ∷ []) one in
    let s : Slot = record { number = 1; hook = None; depth = 1; list = c.in_ok-list.list; count = 0; content = c.args.content } in
    let e = root_slots c.reserve.new.self.slots c.put.new.self.slots s (c.reserve.ensures.slots ∙ two) c.put.ensures.change in
    sound c.put.new.self.slots c.new_seq.new.self
    (subst (λ x. IsLinked x c.new_seq.new.self) (sym e) (root_linked s c.new_seq.new.self refl refl refl c.in_ok-list.ensures.ok.changed))
