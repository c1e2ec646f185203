use Rattle.std.proofs.Common.{◌+◌, ◌*◌, ◌≤◌, [], sym, subst, ◌∙◌}
use Rattle.doc_nodes.specs.Nodes.{element_children}
use Rattle.child_lists.specs.from_kept_records.Slots.{pair_at}
use Rattle.child_lists.specs.from_kept_state.Kept.{children_at}
use Rattle.child_lists.specs.from_kept_state.KeptChildren.{KeptChildren}
use Rattle.kept_below.specs.Moved.{moved}
use Rattle.child_lists.specs.Family.{AreGivenBut, IsMidway, symbols_of}
use Rattle.kept_children.specs.Steps.{digits, marked_count, places_of, width}
use Rattle.kept_below.proofs.Identity.{identity-then}
use Rattle.std.proofs.lemmas.Result.{on_ok_weaker}
use Rattle.kept_children.proofs.Asking.{places-stay}
use Rattle.kept_children.proofs.Pruned.{pruned-made, pruned-listed, pruned-within}
use Rattle.kept_children.proofs.Same.{governs-still, count-stays, fewer-steps}
use Rattle.kept_children.proofs.Siblings.{moved-but-parent}
use Rattle.kept_children.proofs.Unlisted.{taken-identity, taken-made, taken-counted, taken-pair, taken-rest, taken-all, taken-given, taken-listed, taken-midway, taken-steps, fewer-digits}
use Rattle.kept_children.proofs.edits.take_child.Goals as goal

pub children-was-requires : goal.children-was-requires
children-was-requires g c = pruned-made c.args.set.now c.args.doc.now c.args.kept.now c.args.taken.0.now c.args.taken.1 c.requires.beside c.requires.pruned

pub unlist_child-requires-clause-made : goal.unlist_child-requires-clause-made
unlist_child-requires-clause-made g c = pruned-made c.args.set.now c.args.doc.now c.args.kept.now c.args.taken.0.now c.args.taken.1 c.requires.beside c.requires.pruned

pub unlist_child-requires-clause-own : goal.unlist_child-requires-clause-own
unlist_child-requires-clause-own g c = c.requires.beside.own

pub unlist_child-requires-clause-listed : goal.unlist_child-requires-clause-listed
unlist_child-requires-clause-listed g c = (
  symbols_of c.args.set.now c.requires.pruned.old c.args.kept.now c.args.taken.0.now.parent,
  pruned-listed c.args.set.now c.args.doc.now c.args.kept.now c.args.taken.0.now c.args.taken.1 c.requires.beside c.requires.pruned,
  pruned-within c.args.set.now c.args.doc.now c.args.kept.now c.args.taken.0.now c.args.taken.1 c.requires.beside c.requires.pruned,
)

pub count_out-requires-clause-made : goal.count_out-requires-clause-made
count_out-requires-clause-made g c = taken-made c.args.set.now c.args.doc.now c.args.kept.now c.args.taken.0.now c.args.taken.1 c.requires.beside c.requires.pruned c.unlist_child.new.kept c.unlist_child.ensures.records

pub count_out-requires-clause-counted : goal.count_out-requires-clause-counted
count_out-requires-clause-counted g c = taken-counted c.args.set.now c.args.doc.now c.args.kept.now c.args.taken.0.now c.args.taken.1 c.requires.beside c.requires.pruned c.unlist_child.new.kept c.unlist_child.ensures.records

pub note_stuck-requires-clause-midway : goal.note_stuck-requires-clause-midway
note_stuck-requires-clause-midway g c = (
  children_at c.args.kept.now.records.slots c.args.taken.0.now.parent,
  [],
  taken-midway c.args.set.now c.args.doc.now c.args.kept.now c.args.taken.0.now c.args.taken.1 c.requires.beside c.requires.pruned c.unlist_child.new.kept c.unlist_child.ensures.records c.count_out.new.kept c.count_out.ensures.change
      (c.unlist_child.ensures.midway c.args.doc.now) c.count_out.ensures.booked,
)

pub note_stuck-requires-clause-listed : goal.note_stuck-requires-clause-listed
note_stuck-requires-clause-listed g c =
    taken-listed c.args.set.now c.args.doc.now c.args.kept.now c.args.taken.0.now c.args.taken.1 c.requires.beside c.requires.pruned c.unlist_child.new.kept c.unlist_child.ensures.records c.count_out.new.kept c.count_out.ensures.change c.unlist_child.ensures.listed

pub settle_rest-requires-clause-midway : goal.settle_rest-requires-clause-midway
settle_rest-requires-clause-midway g c =
    let p = c.args.taken.0.now.parent in
    subst (λ (x : KeptChildren). IsMidway c.args.set.now c.args.doc.now c.note_stuck.new.kept p x []) (sym c.children-was.ensures)
    (c.note_stuck.ensures.midway (children_at c.args.kept.now.records.slots p) []
    (taken-midway c.args.set.now c.args.doc.now c.args.kept.now c.args.taken.0.now c.args.taken.1 c.requires.beside c.requires.pruned c.unlist_child.new.kept c.unlist_child.ensures.records c.count_out.new.kept c.count_out.ensures.change
    (c.unlist_child.ensures.midway c.args.doc.now) c.count_out.ensures.booked))

pub settle_rest-requires-clause-attributed : goal.settle_rest-requires-clause-attributed
settle_rest-requires-clause-attributed g c = c.note_stuck.ensures.attributed

pub settle_rest-requires-clause-counted : goal.settle_rest-requires-clause-counted
settle_rest-requires-clause-counted g c =
    c.note_stuck.ensures.counted (element_children c.args.doc.now c.args.taken.0.now.parent)
    (taken-all c.args.set.now c.args.doc.now c.args.kept.now c.args.taken.0.now c.args.taken.1 c.requires.beside c.requires.pruned c.unlist_child.new.kept c.unlist_child.ensures.records c.count_out.new.kept c.count_out.ensures.change)

pub settle_rest-requires-clause-given : goal.settle_rest-requires-clause-given
settle_rest-requires-clause-given g c =
    let set = c.args.set.now in
    let ns = c.args.doc.now in
    let p = c.args.taken.0.now.parent in
    let pair = c.note_stuck.ensures.pair ∙ taken-pair c.args.set.now c.args.doc.now c.args.kept.now c.args.taken.0.now c.args.taken.1 c.requires.beside c.requires.pruned c.unlist_child.new.kept c.unlist_child.ensures.records c.count_out.new.kept c.count_out.ensures.change in
    subst (AreGivenBut set ns c.note_stuck.new.kept p) (sym (places-stay set ns c.args.kept.now c.note_stuck.new.kept p pair))
    (c.note_stuck.ensures.given (places_of set ns c.args.kept.now p)
    (taken-given c.args.set.now c.args.doc.now c.args.kept.now c.args.taken.0.now c.args.taken.1 c.requires.beside c.requires.pruned c.unlist_child.new.kept c.unlist_child.ensures.records c.count_out.new.kept c.count_out.ensures.change))

pub returns-clause-steps : goal.returns-clause-steps
returns-clause-steps g c = λ siblings governs below.
    let set = c.args.set.now in
    let ns = c.args.doc.now in
    let p = c.args.taken.0.now.parent in
    let old = c.args.kept.now in
    let noted = c.note_stuck.new.kept in
    let d = digits (width ns p) in
    let sound = c.requires.beside.over.1.stands.links in
    let element = c.requires.beside.over.1.only p (pruned-made c.args.set.now c.args.doc.now c.args.kept.now c.args.taken.0.now c.args.taken.1 c.requires.beside c.requires.pruned) in
    let pair = c.note_stuck.ensures.pair ∙ taken-pair c.args.set.now c.args.doc.now c.args.kept.now c.args.taken.0.now c.args.taken.1 c.requires.beside c.requires.pruned c.unlist_child.new.kept c.unlist_child.ensures.records c.count_out.new.kept c.count_out.ensures.change in
    let here = governs-still set ns old noted p pair governs siblings below in
    let few = count-stays set ns old noted p pair in
    let was =
    moved-but-parent set ns sound p element (pair_at old.records.slots p) governs siblings below old.records.slots noted.records.slots
    (λ m other. c.note_stuck.ensures.rest m other ∙ taken-rest c.args.set.now c.args.doc.now c.args.kept.now c.args.taken.0.now c.args.taken.1 c.requires.beside c.requires.pruned c.unlist_child.new.kept c.unlist_child.ensures.records c.count_out.new.kept c.count_out.ensures.change m other) in
    fewer-steps (digits (width ns p + 1)) d (marked_count set ns old p) c.args.steps.now c.unlist_child.new.steps c.note_stuck.new.steps c.settle_rest.new.steps (moved old.records.slots governs siblings)
    (fewer-digits c.args.set.now c.args.doc.now c.args.kept.now c.args.taken.0.now c.args.taken.1 c.requires.beside c.requires.pruned)
    (taken-steps c.args.set.now c.args.doc.now c.args.kept.now c.args.taken.0.now c.args.taken.1 c.requires.beside c.requires.pruned c.args.steps.now c.unlist_child.new.steps
    (c.unlist_child.ensures.steps (symbols_of set c.requires.pruned.old old p) (pruned-listed c.args.set.now c.args.doc.now c.args.kept.now c.args.taken.0.now c.args.taken.1 c.requires.beside c.requires.pruned)))
    c.note_stuck.ensures.steps
    (subst (λ m. c.settle_rest.new.steps ≤ c.note_stuck.new.steps + (8 * d * m + 3 * moved old.records.slots governs siblings)) few
    (subst (λ m. c.settle_rest.new.steps ≤ c.note_stuck.new.steps + (8 * d * marked_count set ns noted p + 3 * m)) was (c.settle_rest.ensures.steps siblings governs here)))

pub returns-clause-identity : goal.returns-clause-identity
returns-clause-identity g c =
    let old = c.args.kept.now in
    let out = c.count_out.new.kept in
    let noted = c.note_stuck.new.kept in
    on_ok_weaker c.settle_rest.result (identity-then old noted c.settle_rest.new.kept (identity-then old out noted
    (taken-identity c.args.set.now c.args.doc.now c.args.kept.now c.args.taken.0.now c.args.taken.1 c.requires.beside c.requires.pruned c.unlist_child.new.kept c.unlist_child.ensures.records c.count_out.new.kept c.count_out.ensures.change)
    c.note_stuck.ensures.identity)) c.settle_rest.ensures.identity
