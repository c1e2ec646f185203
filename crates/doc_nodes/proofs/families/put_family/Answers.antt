use Rattle.std.proofs.Common.{List, ◌≤◌, length, sym, ap, ◌∙◌, subst}
use Rattle.std.proofs.lemmas.Result.{err_from_is_err_and}
use Rattle.doc_nodes.specs.Slots.{slot}
use Rattle.doc_nodes.specs.Linked.{entries, nodes_of, IsLinked}
use Rattle.doc_nodes.specs.declared.content.NewNode.{NewNode}
use Rattle.doc_nodes.specs.Families.{AreUnused, HangsAll, Settles}
use Rattle.doc_nodes.proofs.Hanging.{hung_many}
use Rattle.doc_nodes.proofs.Placed.{live_list}
use Rattle.doc_nodes.proofs.Seen.{linked_lists, seen_same_lists}
use Rattle.doc_nodes.proofs.Settling.{family_linked, family_inserts}
use Rattle.doc_nodes.proofs.families.put_family.Goals as goal

pub returns-in_err-family-clause-linked : goal.returns-in_err-family-clause-linked
returns-in_err-family-clause-linked c =
    let ss = c.args.slots.now.slots in let v = c.args.lists.now in let w = c.found.new.lists in let i = c.requires.linked in
    subst (λ x. IsLinked x w) (sym c.found.ensures.slots) (linked_lists ss v w (λ n s h. c.in_err-family.ensures.err s.list (entries v s.list, live_list ss v n s i h)) i)

pub returns-in_err-family-clause-err : goal.returns-in_err-family-clause-err
returns-in_err-family-clause-err c =
    let ss = c.args.slots.now.slots in let v = c.args.lists.now in let w = c.found.new.lists in let i = c.requires.linked in
    let r = err_from_is_err_and c.from_residual.result c.from_residual.ensures.1 in
    rw r.1 (ap (λ x. nodes_of x w) c.found.ensures.slots ∙ seen_same_lists ss v w (λ n s h. c.in_err-family.ensures.err s.list (entries v s.list, live_list ss v n s i h)))

pub settle-requires-clause-many : goal.settle-requires-clause-many
settle-requires-clause-many c = hung_many c.args.lists.now c.found.new.lists c.args.children.items c.in_ok-family.family (subst (λ l. HangsAll c.args.lists.now c.found.new.lists l c.in_ok-family.family) c.as_slice.ensures.value c.in_ok-family.ensures.ok)

pub settle-requires-clause-room : goal.settle-requires-clause-room
settle-requires-clause-room c = subst (λ (l : List NewNode). length l ≤ c.found.new.slots.room) c.as_slice.ensures.value c.in_ok-family.ensures.room

pub settle-requires-clause-free : goal.settle-requires-clause-free
settle-requires-clause-free c = subst (λ x. AreUnused x c.args.children.items) (sym c.found.ensures.slots) c.requires.free

pub settle-requires-clause-parent : goal.settle-requires-clause-parent
settle-requires-clause-parent c =
    let ss = c.args.slots.now.slots in let v = c.args.lists.now in let q = c.requires.parent in let i = c.requires.linked in
    let live = live_list ss v c.args.parent q.0 i q.1 in (
      q.0,
      ap (λ x. slot x c.args.parent) c.found.ensures.slots ∙ q.1,
      i.own c.args.parent q.0 q.1,
      q.3,
      (entries v q.0.list, c.in_ok-family.ensures.ok.keeps q.0.list (entries v q.0.list, live) ∙ live),
    )

pub returns-clause-ok : goal.returns-clause-ok
returns-clause-ok c =
    let ss = c.args.slots.now.slots in let v = c.args.lists.now in let q = c.requires.parent in
    family_inserts ss c.settle.new.slots.slots v c.found.new.lists c.settle.new.lists c.args.parent q.0 c.args.children.items c.in_ok-family.family c.requires.linked q.1 q.2 (subst (λ l. HangsAll c.args.lists.now c.found.new.lists l c.in_ok-family.family) c.as_slice.ensures.value c.in_ok-family.ensures.ok) c.requires.free c.requires.distinct
    (subst (λ x. Settles x c.settle.new.slots.slots c.found.new.lists c.settle.new.lists c.args.parent q.0 c.args.children.items c.in_ok-family.family) c.found.ensures.slots
    (c.settle.ensures q.0 (ap (λ x. slot x c.args.parent) c.found.ensures.slots ∙ q.1)))

pub returns-clause-linked : goal.returns-clause-linked
returns-clause-linked c =
    let ss = c.args.slots.now.slots in let v = c.args.lists.now in let q = c.requires.parent in
    family_linked ss c.settle.new.slots.slots v c.found.new.lists c.settle.new.lists c.args.parent q.0 c.args.children.items c.in_ok-family.family c.requires.linked q.1 q.2 (subst (λ l. HangsAll c.args.lists.now c.found.new.lists l c.in_ok-family.family) c.as_slice.ensures.value c.in_ok-family.ensures.ok) c.requires.free c.requires.distinct
    (subst (λ x. Settles x c.settle.new.slots.slots c.found.new.lists c.settle.new.lists c.args.parent q.0 c.args.children.items c.in_ok-family.family) c.found.ensures.slots
    (c.settle.ensures q.0 (ap (λ x. slot x c.args.parent) c.found.ensures.slots ∙ q.1)))
