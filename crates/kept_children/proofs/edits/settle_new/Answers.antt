use Rattle.std.proofs.Common.{[], refl}
use Rattle.kept_above.specs.Climbing.{with_outcome}
use Rattle.kept_below.proofs.Identity.{identity-rewritten, identity-then}
use Rattle.kept_children.proofs.Counted.{few-less, fewer-less, made-parent, count-written, count-is, settled-midway, settled-attributed, settled-given, counted-all, settled-pair, settled-left}
use Rattle.kept_children.proofs.edits.settle_new.Goals as goal

pub outcome-outcome-requires : goal.outcome-outcome-requires
outcome-outcome-requires g c = c.in_ok-settle_at.ensures.settled.made

pub count_in-requires-clause-made : goal.count_in-requires-clause-made
count_in-requires-clause-made g c =
    made-parent c.args.set.now c.args.doc.now c.args.kept.now c.settle_at.new.kept c.args.at.now c.requires.place c.in_ok-settle_at.ensures.settled c.requires.midway.1.beside c.in_ok-settle_at.ensures.beside c.requires.midway.1.made

pub count_in-requires-clause-few : goal.count_in-requires-clause-few
count_in-requires-clause-few g c =
    few-less c.args.set.now c.args.doc.now c.args.kept.now c.settle_at.new.kept c.args.at.now c.requires.place c.in_ok-settle_at.ensures.settled c.requires.midway.1.beside c.in_ok-settle_at.ensures.beside c.requires.midway.1.made c.requires.counted

pub count_in-requires-clause-fewer : goal.count_in-requires-clause-fewer
count_in-requires-clause-fewer g c =
    fewer-less c.args.set.now c.args.doc.now c.args.kept.now c.settle_at.new.kept c.args.at.now c.requires.place c.in_ok-settle_at.ensures.settled c.requires.midway.1.beside c.in_ok-settle_at.ensures.beside c.requires.midway.1.made c.requires.counted

pub returns-clause-midway : goal.returns-clause-midway
returns-clause-midway g c = λ was m.
    let written =
    count-written c.args.set.now c.args.doc.now c.args.kept.now c.settle_at.new.kept c.args.at.now c.requires.place c.in_ok-settle_at.ensures.settled c.requires.midway.1.beside c.in_ok-settle_at.ensures.beside c.requires.midway.1.made c.count_in.new.kept c.outcome-outcome.result c.outcome-outcome.ensures c.requires.counted c.count_in.ensures.change in
    let is =
    count-is c.args.set.now c.args.doc.now c.args.kept.now c.settle_at.new.kept c.args.at.now c.requires.place c.in_ok-settle_at.ensures.settled c.requires.midway.1.beside c.in_ok-settle_at.ensures.beside c.requires.midway.1.made c.count_in.new.kept c.outcome-outcome.result c.outcome-outcome.ensures c.requires.counted c.count_in.ensures.change in
    let counts = with_outcome c.outcome-outcome.result (made-parent c.args.set.now c.args.doc.now c.args.kept.now c.settle_at.new.kept c.args.at.now c.requires.place c.in_ok-settle_at.ensures.settled c.requires.midway.1.beside c.in_ok-settle_at.ensures.beside c.requires.midway.1.made).0.counts in
    settled-midway c.args.set.now c.args.doc.now c.args.kept.now c.settle_at.new.kept c.args.at.now c.requires.place c.in_ok-settle_at.ensures.settled c.requires.midway.1.beside c.in_ok-settle_at.ensures.beside c.requires.midway.1.made c.count_in.new.kept counts written is
    (c.count_in.ensures.booked c.in_ok-settle_at.ensures.beside.booked) c.in_ok-settle_at.ensures.fit was [] m

pub returns-clause-attributed : goal.returns-clause-attributed
returns-clause-attributed g c =
    let written =
    count-written c.args.set.now c.args.doc.now c.args.kept.now c.settle_at.new.kept c.args.at.now c.requires.place c.in_ok-settle_at.ensures.settled c.requires.midway.1.beside c.in_ok-settle_at.ensures.beside c.requires.midway.1.made c.count_in.new.kept c.outcome-outcome.result c.outcome-outcome.ensures c.requires.counted c.count_in.ensures.change in
    let is =
    count-is c.args.set.now c.args.doc.now c.args.kept.now c.settle_at.new.kept c.args.at.now c.requires.place c.in_ok-settle_at.ensures.settled c.requires.midway.1.beside c.in_ok-settle_at.ensures.beside c.requires.midway.1.made c.count_in.new.kept c.outcome-outcome.result c.outcome-outcome.ensures c.requires.counted c.count_in.ensures.change in
    let counts = with_outcome c.outcome-outcome.result (made-parent c.args.set.now c.args.doc.now c.args.kept.now c.settle_at.new.kept c.args.at.now c.requires.place c.in_ok-settle_at.ensures.settled c.requires.midway.1.beside c.in_ok-settle_at.ensures.beside c.requires.midway.1.made).0.counts in
    settled-attributed c.args.set.now c.args.doc.now c.args.kept.now c.settle_at.new.kept c.args.at.now c.requires.place c.in_ok-settle_at.ensures.settled c.requires.midway.1.beside c.in_ok-settle_at.ensures.beside c.requires.midway.1.made c.count_in.new.kept counts written is c.requires.attributed

pub returns-clause-counted : goal.returns-clause-counted
returns-clause-counted g c =
    let written =
    count-written c.args.set.now c.args.doc.now c.args.kept.now c.settle_at.new.kept c.args.at.now c.requires.place c.in_ok-settle_at.ensures.settled c.requires.midway.1.beside c.in_ok-settle_at.ensures.beside c.requires.midway.1.made c.count_in.new.kept c.outcome-outcome.result c.outcome-outcome.ensures c.requires.counted c.count_in.ensures.change in
    let is =
    count-is c.args.set.now c.args.doc.now c.args.kept.now c.settle_at.new.kept c.args.at.now c.requires.place c.in_ok-settle_at.ensures.settled c.requires.midway.1.beside c.in_ok-settle_at.ensures.beside c.requires.midway.1.made c.count_in.new.kept c.outcome-outcome.result c.outcome-outcome.ensures c.requires.counted c.count_in.ensures.change in
    let counts = with_outcome c.outcome-outcome.result (made-parent c.args.set.now c.args.doc.now c.args.kept.now c.settle_at.new.kept c.args.at.now c.requires.place c.in_ok-settle_at.ensures.settled c.requires.midway.1.beside c.in_ok-settle_at.ensures.beside c.requires.midway.1.made).0.counts in
    counted-all c.args.set.now c.args.doc.now c.args.kept.now c.settle_at.new.kept c.args.at.now c.requires.place c.in_ok-settle_at.ensures.settled c.requires.midway.1.beside c.in_ok-settle_at.ensures.beside c.requires.midway.1.made c.count_in.new.kept counts written is c.requires.counted

pub returns-clause-given : goal.returns-clause-given
returns-clause-given g c =
    let written =
    count-written c.args.set.now c.args.doc.now c.args.kept.now c.settle_at.new.kept c.args.at.now c.requires.place c.in_ok-settle_at.ensures.settled c.requires.midway.1.beside c.in_ok-settle_at.ensures.beside c.requires.midway.1.made c.count_in.new.kept c.outcome-outcome.result c.outcome-outcome.ensures c.requires.counted c.count_in.ensures.change in
    let is =
    count-is c.args.set.now c.args.doc.now c.args.kept.now c.settle_at.new.kept c.args.at.now c.requires.place c.in_ok-settle_at.ensures.settled c.requires.midway.1.beside c.in_ok-settle_at.ensures.beside c.requires.midway.1.made c.count_in.new.kept c.outcome-outcome.result c.outcome-outcome.ensures c.requires.counted c.count_in.ensures.change in
    let counts = with_outcome c.outcome-outcome.result (made-parent c.args.set.now c.args.doc.now c.args.kept.now c.settle_at.new.kept c.args.at.now c.requires.place c.in_ok-settle_at.ensures.settled c.requires.midway.1.beside c.in_ok-settle_at.ensures.beside c.requires.midway.1.made).0.counts in
    settled-given c.args.set.now c.args.doc.now c.args.kept.now c.settle_at.new.kept c.args.at.now c.requires.place c.in_ok-settle_at.ensures.settled c.requires.midway.1.beside c.in_ok-settle_at.ensures.beside c.requires.midway.1.made c.count_in.new.kept counts written is

pub returns-clause-pair : goal.returns-clause-pair
returns-clause-pair g c =
    let written =
    count-written c.args.set.now c.args.doc.now c.args.kept.now c.settle_at.new.kept c.args.at.now c.requires.place c.in_ok-settle_at.ensures.settled c.requires.midway.1.beside c.in_ok-settle_at.ensures.beside c.requires.midway.1.made c.count_in.new.kept c.outcome-outcome.result c.outcome-outcome.ensures c.requires.counted c.count_in.ensures.change in
    let is =
    count-is c.args.set.now c.args.doc.now c.args.kept.now c.settle_at.new.kept c.args.at.now c.requires.place c.in_ok-settle_at.ensures.settled c.requires.midway.1.beside c.in_ok-settle_at.ensures.beside c.requires.midway.1.made c.count_in.new.kept c.outcome-outcome.result c.outcome-outcome.ensures c.requires.counted c.count_in.ensures.change in
    let counts = with_outcome c.outcome-outcome.result (made-parent c.args.set.now c.args.doc.now c.args.kept.now c.settle_at.new.kept c.args.at.now c.requires.place c.in_ok-settle_at.ensures.settled c.requires.midway.1.beside c.in_ok-settle_at.ensures.beside c.requires.midway.1.made).0.counts in
    settled-pair c.args.set.now c.args.doc.now c.args.kept.now c.settle_at.new.kept c.args.at.now c.requires.place c.in_ok-settle_at.ensures.settled c.requires.midway.1.beside c.in_ok-settle_at.ensures.beside c.requires.midway.1.made c.count_in.new.kept counts written is

pub returns-clause-left : goal.returns-clause-left
returns-clause-left g c =
    let written =
    count-written c.args.set.now c.args.doc.now c.args.kept.now c.settle_at.new.kept c.args.at.now c.requires.place c.in_ok-settle_at.ensures.settled c.requires.midway.1.beside c.in_ok-settle_at.ensures.beside c.requires.midway.1.made c.count_in.new.kept c.outcome-outcome.result c.outcome-outcome.ensures c.requires.counted c.count_in.ensures.change in
    let is =
    count-is c.args.set.now c.args.doc.now c.args.kept.now c.settle_at.new.kept c.args.at.now c.requires.place c.in_ok-settle_at.ensures.settled c.requires.midway.1.beside c.in_ok-settle_at.ensures.beside c.requires.midway.1.made c.count_in.new.kept c.outcome-outcome.result c.outcome-outcome.ensures c.requires.counted c.count_in.ensures.change in
    let counts = with_outcome c.outcome-outcome.result (made-parent c.args.set.now c.args.doc.now c.args.kept.now c.settle_at.new.kept c.args.at.now c.requires.place c.in_ok-settle_at.ensures.settled c.requires.midway.1.beside c.in_ok-settle_at.ensures.beside c.requires.midway.1.made).0.counts in
    settled-left c.args.set.now c.args.doc.now c.args.kept.now c.settle_at.new.kept c.args.at.now c.requires.place c.in_ok-settle_at.ensures.settled c.requires.midway.1.beside c.in_ok-settle_at.ensures.beside c.requires.midway.1.made c.count_in.new.kept counts written is c.args.steps.now c.settle_at.new.steps c.in_ok-settle_at.ensures.left

pub returns-clause-identity : goal.returns-clause-identity
returns-clause-identity g c =
    let made = made-parent c.args.set.now c.args.doc.now c.args.kept.now c.settle_at.new.kept c.args.at.now c.requires.place c.in_ok-settle_at.ensures.settled c.requires.midway.1.beside c.in_ok-settle_at.ensures.beside c.requires.midway.1.made in
    identity-then c.args.kept.now c.settle_at.new.kept c.count_in.new.kept c.in_ok-settle_at.ensures.identity
    (identity-rewritten c.settle_at.new.kept c.count_in.new.kept c.args.at.now.parent made.0 made.1 _ refl (c.count_in.ensures.change made.0 made.1))
