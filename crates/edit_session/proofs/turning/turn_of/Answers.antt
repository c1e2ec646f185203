use Rattle.std.proofs.Common.{sym, subst}
use Rattle.kept_inverses.specs.from_kept_changes.Spot.{Spot}
use Rattle.kept_keys.specs.from_kept_targets.Turn.TheVariants as turns
use Rattle.edit_session.specs.Turning.{IsTurnOf}
use Rattle.edit_session.proofs.Turned.{gone-is}
use Rattle.edit_session.proofs.turning.turn_of.Goals as goal

pub add_below-requires-clause-stands : goal.add_below-requires-clause-stands
add_below-requires-clause-stands c = c.requires.stands

pub add_below-requires-clause-element : goal.add_below-requires-clause-element
add_below-requires-clause-element c = (c.requires.pruned c.in-Pruned.node c.in-Pruned.is).0

pub owner_of-requires : goal.owner_of-requires
owner_of-requires c = (c.requires.pruned c.in-Pruned.node c.in-Pruned.is).1

pub returns-in_ok-add_below-in-Pruned : goal.returns-in_ok-add_below-in-Pruned
returns-in_ok-add_below-in-Pruned c =
    let below = c.in_ok-add_below-in-Pruned.ensures in
    subst (λ (spot : Spot). IsTurnOf c.args.doc.now spot (turns.Gone c.owner_of.result c.add_below.new.numbers)) (sym c.in-Pruned.is)
    (gone-is c.args.doc.now c.requires.stands.2.links c.in-Pruned.node c.owner_of.result c.owner_of.ensures c.add_below.new.numbers below.all c.new-numbers.result.items c.new-numbers.ensures.items below.adds)
