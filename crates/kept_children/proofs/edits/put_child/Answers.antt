use Rattle.std.proofs.Common.{◌+◌, ◌*◌, ◌≤◌, [], ◌∷◌, sym, ap, subst, ◌∙◌}
use Rattle.std.specs.Prelude.{remove}
use Rattle.std.proofs.lemmas.Result.{on_ok_weaker}
use Rattle.compiled_schema.specs.declared.compiled.Compiled.{Compiled}
use Rattle.doc_nodes.specs.Nodes.{element_children}
use Rattle.child_lists.specs.from_kept_records.Slots.{pair_at}
use Rattle.child_lists.specs.from_kept_state.Kept.{children_at}
use Rattle.child_lists.specs.from_kept_state.KeptChildren.{KeptChildren}
use Rattle.kept_below.specs.Moved.{moved}
use Rattle.child_lists.specs.Family.{AreGivenBut, IsAttributed, IsMidway}
use Rattle.kept_children.specs.Edited.{IsRightFor}
use Rattle.kept_children.specs.Steps.{GovernsBelow, digits, marked_count, places_of, width}
use Rattle.kept_below.proofs.Identity.{identity-records, identity-then}
use Rattle.kept_children.proofs.Asking.{places-stay}
use Rattle.kept_children.proofs.Planted.{planted-midway, planted-listed, planted-counted, planted-given}
use Rattle.kept_children.proofs.Same.{same-pair, same-counted, same-given, same-moved, governs-still, count-stays, whole-steps, steps-so-far}
use Rattle.kept_children.proofs.Settling.{all-suffice}
use Rattle.kept_children.proofs.Siblings.{moved-but-parent}
use Rattle.kept_children.proofs.edits.put_child.Goals as goal

pub children-was-requires : goal.children-was-requires
children-was-requires g c = (planted-midway c.args.set.now c.args.doc.now c.args.kept.now c.args.at.now c.requires.place c.requires.beside c.requires.planted).made

pub list_child-requires-clause-midway : goal.list_child-requires-clause-midway
list_child-requires-clause-midway g c =
    (children_at c.args.kept.now.records.slots c.args.at.now.parent, [], planted-midway c.args.set.now c.args.doc.now c.args.kept.now c.args.at.now c.requires.place c.requires.beside c.requires.planted)

pub list_child-requires-clause-listed : goal.list_child-requires-clause-listed
list_child-requires-clause-listed g c = planted-listed c.args.set.now c.args.doc.now c.args.kept.now c.args.at.now c.requires.place c.requires.beside c.requires.planted

pub note_stuck-requires-clause-midway : goal.note_stuck-requires-clause-midway
note_stuck-requires-clause-midway g c =
    let was = children_at c.args.kept.now.records.slots c.args.at.now.parent in
    (was, [], c.in_ok-list_child.ensures.midway was [] (planted-midway c.args.set.now c.args.doc.now c.args.kept.now c.args.at.now c.requires.place c.requires.beside c.requires.planted))

pub note_stuck-requires-clause-listed : goal.note_stuck-requires-clause-listed
note_stuck-requires-clause-listed g c = c.in_ok-list_child.ensures.listed

pub settle_new-requires-clause-midway : goal.settle_new-requires-clause-midway
settle_new-requires-clause-midway g c =
    let was = children_at c.args.kept.now.records.slots c.args.at.now.parent in
    (was, c.note_stuck.ensures.midway was [] (c.in_ok-list_child.ensures.midway was [] (planted-midway c.args.set.now c.args.doc.now c.args.kept.now c.args.at.now c.requires.place c.requires.beside c.requires.planted)))

pub settle_new-requires-clause-attributed : goal.settle_new-requires-clause-attributed
settle_new-requires-clause-attributed g c = c.note_stuck.ensures.attributed

pub settle_new-requires-clause-counted : goal.settle_new-requires-clause-counted
settle_new-requires-clause-counted g c =
    let p = c.args.at.now.parent in
    c.note_stuck.ensures.counted (remove (element_children c.args.doc.now p) c.args.at.now.place)
    (same-counted c.args.kept.now c.list_child.new.kept c.in_ok-list_child.ensures.records p (remove (element_children c.args.doc.now p) c.args.at.now.place)
    (planted-counted c.args.set.now c.args.doc.now c.args.kept.now c.args.at.now c.requires.place c.requires.beside c.requires.planted))

pub settle_rest-requires-clause-midway : goal.settle_rest-requires-clause-midway
settle_rest-requires-clause-midway g c =
    let ns = c.args.doc.now in
    let p = c.args.at.now.parent in
    let k = c.settle_new.new.kept in
    let was = children_at c.args.kept.now.records.slots p in
    let done = c.in_ok-settle_new.ensures in
    subst (λ (s : Compiled). IsMidway s ns k p c.children-was.result []) (sym done.same)
    (subst (λ (x : KeptChildren). IsMidway c.args.set.now ns k p x []) (sym c.children-was.ensures)
    (done.midway was (c.note_stuck.ensures.midway was [] (c.in_ok-list_child.ensures.midway was [] (planted-midway c.args.set.now c.args.doc.now c.args.kept.now c.args.at.now c.requires.place c.requires.beside c.requires.planted)))))

pub settle_rest-requires-clause-attributed : goal.settle_rest-requires-clause-attributed
settle_rest-requires-clause-attributed g c =
    let done = c.in_ok-settle_new.ensures in
    subst (λ (s : Compiled). IsAttributed s c.args.doc.now c.settle_new.new.kept c.args.at.now.parent) (sym done.same) done.attributed

pub settle_rest-requires-clause-counted : goal.settle_rest-requires-clause-counted
settle_rest-requires-clause-counted g c = c.in_ok-settle_new.ensures.counted

pub settle_rest-requires-clause-given : goal.settle_rest-requires-clause-given
settle_rest-requires-clause-given g c =
    let set = c.args.set.now in
    let ns = c.args.doc.now in
    let p = c.args.at.now.parent in
    let old = c.args.kept.now in
    let k = c.settle_new.new.kept in
    let done = c.in_ok-settle_new.ensures in
    let pair = done.pair ∙ c.note_stuck.ensures.pair ∙ same-pair old c.list_child.new.kept c.in_ok-list_child.ensures.records p in
    let places = c.args.at.now.place ∷ places_of set ns old p in
    subst (λ (s : Compiled). AreGivenBut s ns k p (places_of s ns k p)) (sym done.same)
    (subst (AreGivenBut set ns k p) (sym (places-stay set ns old k p pair))
    (done.given (places_of set ns old p) (c.note_stuck.ensures.given places (same-given old c.list_child.new.kept c.in_ok-list_child.ensures.records p set ns places
    (planted-given c.args.set.now c.args.doc.now c.args.kept.now c.args.at.now c.requires.place c.requires.beside c.requires.planted)))))

pub returns-clause-right : goal.returns-clause-right
returns-clause-right g c =
    on_ok_weaker c.settle_rest.result (subst (λ (s : Compiled). IsRightFor s c.args.doc.now c.settle_rest.new.kept) c.in_ok-settle_new.ensures.same) c.settle_rest.ensures.right

pub returns-clause-same : goal.returns-clause-same
returns-clause-same g c = c.settle_rest.ensures.same ∙ c.in_ok-settle_new.ensures.same

pub returns-in_err-settle_new-clause-steps : goal.returns-in_err-settle_new-clause-steps
returns-in_err-settle_new-clause-steps g c = λ siblings governs below.
    let set = c.args.set.now in
    let ns = c.args.doc.now in
    let p = c.args.at.now.parent in
    let old = c.args.kept.now in
    let listed = c.list_child.new.kept in
    let noted = c.note_stuck.new.kept in
    let d = digits (width ns p) in
    let count = marked_count set ns old p in
    let sound = c.requires.beside.over.1.stands.links in
    let element = c.requires.beside.over.1.only p (planted-midway c.args.set.now c.args.doc.now c.args.kept.now c.args.at.now c.requires.place c.requires.beside c.requires.planted).made in
    let pair = c.note_stuck.ensures.pair ∙ same-pair old listed c.in_ok-list_child.ensures.records p in
    let here = governs-still set ns old noted p pair governs siblings below in
    let few = count-stays set ns old noted p pair in
    let was = moved-but-parent set ns sound p element (pair_at old.records.slots p) governs siblings below listed.records.slots noted.records.slots c.note_stuck.ensures.rest ∙ same-moved old listed c.in_ok-list_child.ensures.records p governs siblings in
    let took = c.in_err-settle_new.ensures.steps (8 * d * marked_count set ns noted p) siblings governs (all-suffice set ns noted c.args.at.now) here in
    steps-so-far d count c.args.steps.now c.list_child.new.steps c.note_stuck.new.steps c.settle_new.new.steps (moved old.records.slots governs siblings) c.list_child.ensures.steps c.note_stuck.ensures.steps
    (subst (λ m. c.settle_new.new.steps ≤ c.note_stuck.new.steps + (8 * d * m + 3 * moved old.records.slots governs siblings)) few
    (subst (λ m. c.settle_new.new.steps ≤ c.note_stuck.new.steps + (8 * d * marked_count set ns noted p + 3 * m)) was took))

pub returns-clause-steps : goal.returns-clause-steps
returns-clause-steps g c = λ siblings governs below.
    let set = c.args.set.now in
    let ns = c.args.doc.now in
    let p = c.args.at.now.parent in
    let old = c.args.kept.now in
    let listed = c.list_child.new.kept in
    let noted = c.note_stuck.new.kept in
    let d = digits (width ns p) in
    let count = marked_count set ns old p in
    let sound = c.requires.beside.over.1.stands.links in
    let element = c.requires.beside.over.1.only p (planted-midway c.args.set.now c.args.doc.now c.args.kept.now c.args.at.now c.requires.place c.requires.beside c.requires.planted).made in
    let pair = c.note_stuck.ensures.pair ∙ same-pair old listed c.in_ok-list_child.ensures.records p in
    let here = governs-still set ns old noted p pair governs siblings below in
    let few = count-stays set ns old noted p pair in
    let was = moved-but-parent set ns sound p element (pair_at old.records.slots p) governs siblings below listed.records.slots noted.records.slots c.note_stuck.ensures.rest ∙ same-moved old listed c.in_ok-list_child.ensures.records p governs siblings in
    let k = c.settle_new.new.kept in
    let done = c.in_ok-settle_new.ensures in
    let left = done.left (8 * d * marked_count set ns noted p) siblings governs (all-suffice set ns noted c.args.at.now) here in
    let last = c.settle_rest.ensures.steps siblings governs (subst (λ (s : Compiled). GovernsBelow s ns (pair_at k.records.slots p) p governs siblings) (sym done.same)
    (governs-still set ns noted k p done.pair governs siblings here)) in
    let so-few = ap (λ (s : Compiled). marked_count s ns k p) done.same ∙ count-stays set ns noted k p done.pair ∙ few in
    whole-steps d count c.args.steps.now c.list_child.new.steps c.note_stuck.new.steps c.settle_new.new.steps c.settle_rest.new.steps (moved old.records.slots governs siblings) (moved k.records.slots governs siblings)
    c.list_child.ensures.steps c.note_stuck.ensures.steps
    (subst (λ m. c.settle_new.new.steps + 3 * moved k.records.slots governs siblings ≤ c.note_stuck.new.steps + (8 * d * m + 3 * moved old.records.slots governs siblings)) few
    (subst (λ m. c.settle_new.new.steps + 3 * moved k.records.slots governs siblings ≤ c.note_stuck.new.steps + (8 * d * marked_count set ns noted p + 3 * m)) was left))
    (subst (λ m. c.settle_rest.new.steps ≤ c.settle_new.new.steps + (8 * d * m + 3 * moved k.records.slots governs siblings)) so-few last)

pub returns-clause-identity : goal.returns-clause-identity
returns-clause-identity g c =
    let old = c.args.kept.now in
    let listed = c.list_child.new.kept in
    let noted = c.note_stuck.new.kept in
    let own = c.settle_new.new.kept in
    on_ok_weaker c.settle_rest.result (identity-then old own c.settle_rest.new.kept
    (identity-then old noted own (identity-then old listed noted (identity-records old listed c.in_ok-list_child.ensures.records) c.note_stuck.ensures.identity) c.in_ok-settle_new.ensures.identity)) c.settle_rest.ensures.identity
