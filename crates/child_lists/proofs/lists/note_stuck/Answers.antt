use Rattle.std.proofs.Common.{ap, ◌∙◌}
use Rattle.child_listing.specs.from_kept_records.KeptElement.{KeptElement}
use Rattle.child_listing.specs.from_kept_state.KeptChildren.{KeptChildren}
use Rattle.child_listing.proofs.from_kept_state.Beside.{kept-there}
use Rattle.child_lists.proofs.Written.{midway-written, stuck-written, given-written, counted-written, identity-stays, pair-stays}
use Rattle.child_lists.proofs.lists.note_stuck.Goals as goal

pub children-children-requires : goal.children-children-requires
children-children-requires g c = c.requires.midway.2.made

pub stuck_place-children-requires-clause-made : goal.stuck_place-children-requires-clause-made
stuck_place-children-requires-clause-made g c = c.requires.midway.2.made

pub stuck_place-children-requires-clause-listed : goal.stuck_place-children-requires-clause-listed
stuck_place-children-requires-clause-listed g c = c.requires.listed

pub set_children-requires : goal.set_children-requires
set_children-requires g c = c.requires.midway.2.made

pub returns-clause-midway : goal.returns-clause-midway
returns-clause-midway g c = λ was waiting m.
    let made = c.requires.midway.2.made in
    midway-written c.args.set.now c.args.doc.now c.args.kept.now c.set_children.new.self c.args.parent made.0 made.1 c.stuck_place-children.result c.children-children.result.counts
    (c.set_children.ensures.change made.0 made.1) (c.set_children.ensures.booked m.beside.booked) was waiting m

pub returns-clause-attributed : goal.returns-clause-attributed
returns-clause-attributed g c =
    let made = c.requires.midway.2.made in
    stuck-written c.args.set.now c.args.doc.now c.args.kept.now c.set_children.new.self c.args.parent made.0 made.1 c.stuck_place-children.result c.children-children.result.counts
    (c.set_children.ensures.change made.0 made.1) c.requires.listed c.stuck_place-children.ensures.stuck

pub returns-clause-given : goal.returns-clause-given
returns-clause-given g c =
    let made = c.requires.midway.2.made in
    given-written c.args.set.now c.args.doc.now c.args.kept.now c.set_children.new.self c.args.parent made.0 made.1 c.stuck_place-children.result c.children-children.result.counts
    (c.set_children.ensures.change made.0 made.1)

pub returns-clause-pair : goal.returns-clause-pair
returns-clause-pair g c =
    let made = c.requires.midway.2.made in
    pair-stays c.args.set.now c.args.doc.now c.args.kept.now c.set_children.new.self c.args.parent made.0 made.1 c.stuck_place-children.result c.children-children.result.counts
    (c.set_children.ensures.change made.0 made.1) c.args.parent

pub returns-clause-counted : goal.returns-clause-counted
returns-clause-counted g c =
    let made = c.requires.midway.2.made in
    counted-written c.args.set.now c.args.doc.now c.args.kept.now c.set_children.new.self c.args.parent made.0 made.1 c.stuck_place-children.result c.children-children.result.counts
    (c.set_children.ensures.change made.0 made.1)
    (ap (λ (x : KeptChildren). x.counts) c.children-children.ensures ∙ ap (λ (x : KeptElement). x.counts) (kept-there c.args.kept.now.records.slots c.args.parent made.0 made.1))

pub returns-clause-rest : goal.returns-clause-rest
returns-clause-rest g c = let made = c.requires.midway.2.made in (c.set_children.ensures.change made.0 made.1).slots.others

pub returns-clause-identity : goal.returns-clause-identity
returns-clause-identity g c =
    let made = c.requires.midway.2.made in
    identity-stays c.args.set.now c.args.doc.now c.args.kept.now c.set_children.new.self c.args.parent made.0 made.1 c.stuck_place-children.result c.children-children.result.counts
    (c.set_children.ensures.change made.0 made.1)

pub returns-clause-least : goal.returns-clause-least
returns-clause-least g c = c.stuck_place-children.ensures.least

pub returns-clause-steps : goal.returns-clause-steps
returns-clause-steps g c = c.stuck_place-children.ensures.steps
