use Rattle.std.proofs.Common.{[], refl}
use Rattle.kept_above.specs.Climbing.{with_outcome}
use Rattle.kept_below.proofs.Identity.{identity-rewritten, identity-then}
use Rattle.kept_children.proofs.Counted.{others, counted-as, few-before, fewer-before, made-parent, recount-written, recount-is, settled-midway, settled-attributed, settled-given, recounted-all, settled-pair, settled-left}
use Rattle.kept_children.proofs.marked.settle_marked.Goals as goal

pub outcome-was-requires : goal.outcome-was-requires
outcome-was-requires g c = c.requires.counted.made c.args.at.now.place c.args.at.now.node c.requires.place.node_is

pub outcome-now-requires : goal.outcome-now-requires
outcome-now-requires g c = c.in_ok-settle_at.ensures.settled.made

pub recount-requires-clause-made : goal.recount-requires-clause-made
recount-requires-clause-made g c =
    made-parent c.args.set.now c.args.doc.now c.args.kept.now c.settle_at.new.kept c.args.at.now c.requires.place c.in_ok-settle_at.ensures.settled c.requires.midway.1.beside c.in_ok-settle_at.ensures.beside c.requires.midway.1.made

pub recount-requires-clause-counted : goal.recount-requires-clause-counted
recount-requires-clause-counted g c =
    counted-as c.args.set.now c.args.doc.now c.args.kept.now c.settle_at.new.kept c.args.at.now c.requires.place c.in_ok-settle_at.ensures.settled c.requires.midway.1.beside c.in_ok-settle_at.ensures.beside c.requires.midway.1.made c.outcome-was.result c.outcome-was.ensures c.requires.counted

pub recount-requires-clause-few : goal.recount-requires-clause-few
recount-requires-clause-few g c =
    few-before c.args.set.now c.args.doc.now c.args.kept.now c.settle_at.new.kept c.args.at.now c.requires.place c.in_ok-settle_at.ensures.settled c.requires.midway.1.beside c.in_ok-settle_at.ensures.beside c.requires.midway.1.made c.requires.counted

pub recount-requires-clause-fewer : goal.recount-requires-clause-fewer
recount-requires-clause-fewer g c =
    fewer-before c.args.set.now c.args.doc.now c.args.kept.now c.settle_at.new.kept c.args.at.now c.requires.place c.in_ok-settle_at.ensures.settled c.requires.midway.1.beside c.in_ok-settle_at.ensures.beside c.requires.midway.1.made c.requires.counted

pub returns-clause-midway : goal.returns-clause-midway
returns-clause-midway g c = λ was m.
    let written =
    recount-written c.args.set.now c.args.doc.now c.args.kept.now c.settle_at.new.kept c.args.at.now c.requires.place c.in_ok-settle_at.ensures.settled c.requires.midway.1.beside c.in_ok-settle_at.ensures.beside c.requires.midway.1.made c.recount.new.kept c.outcome-was.result c.outcome-now.result c.outcome-was.ensures c.outcome-now.ensures c.requires.counted c.recount.ensures.change in
    let is =
    recount-is c.args.set.now c.args.doc.now c.args.kept.now c.settle_at.new.kept c.args.at.now c.requires.place c.in_ok-settle_at.ensures.settled c.requires.midway.1.beside c.in_ok-settle_at.ensures.beside c.requires.midway.1.made c.recount.new.kept c.outcome-was.result c.outcome-now.result c.outcome-was.ensures c.outcome-now.ensures c.requires.counted c.recount.ensures.change in
    let counts = with_outcome c.outcome-now.result (others c.args.set.now c.args.doc.now c.args.kept.now c.settle_at.new.kept c.args.at.now c.requires.place c.in_ok-settle_at.ensures.settled c.requires.midway.1.beside c.in_ok-settle_at.ensures.beside c.requires.midway.1.made) in
    settled-midway c.args.set.now c.args.doc.now c.args.kept.now c.settle_at.new.kept c.args.at.now c.requires.place c.in_ok-settle_at.ensures.settled c.requires.midway.1.beside c.in_ok-settle_at.ensures.beside c.requires.midway.1.made c.recount.new.kept counts written is
    (c.recount.ensures.booked c.in_ok-settle_at.ensures.beside.booked) c.in_ok-settle_at.ensures.fit was [] m

pub returns-clause-attributed : goal.returns-clause-attributed
returns-clause-attributed g c =
    let written =
    recount-written c.args.set.now c.args.doc.now c.args.kept.now c.settle_at.new.kept c.args.at.now c.requires.place c.in_ok-settle_at.ensures.settled c.requires.midway.1.beside c.in_ok-settle_at.ensures.beside c.requires.midway.1.made c.recount.new.kept c.outcome-was.result c.outcome-now.result c.outcome-was.ensures c.outcome-now.ensures c.requires.counted c.recount.ensures.change in
    let is =
    recount-is c.args.set.now c.args.doc.now c.args.kept.now c.settle_at.new.kept c.args.at.now c.requires.place c.in_ok-settle_at.ensures.settled c.requires.midway.1.beside c.in_ok-settle_at.ensures.beside c.requires.midway.1.made c.recount.new.kept c.outcome-was.result c.outcome-now.result c.outcome-was.ensures c.outcome-now.ensures c.requires.counted c.recount.ensures.change in
    let counts = with_outcome c.outcome-now.result (others c.args.set.now c.args.doc.now c.args.kept.now c.settle_at.new.kept c.args.at.now c.requires.place c.in_ok-settle_at.ensures.settled c.requires.midway.1.beside c.in_ok-settle_at.ensures.beside c.requires.midway.1.made) in
    settled-attributed c.args.set.now c.args.doc.now c.args.kept.now c.settle_at.new.kept c.args.at.now c.requires.place c.in_ok-settle_at.ensures.settled c.requires.midway.1.beside c.in_ok-settle_at.ensures.beside c.requires.midway.1.made c.recount.new.kept counts written is c.requires.attributed

pub returns-clause-counted : goal.returns-clause-counted
returns-clause-counted g c =
    let written =
    recount-written c.args.set.now c.args.doc.now c.args.kept.now c.settle_at.new.kept c.args.at.now c.requires.place c.in_ok-settle_at.ensures.settled c.requires.midway.1.beside c.in_ok-settle_at.ensures.beside c.requires.midway.1.made c.recount.new.kept c.outcome-was.result c.outcome-now.result c.outcome-was.ensures c.outcome-now.ensures c.requires.counted c.recount.ensures.change in
    let is =
    recount-is c.args.set.now c.args.doc.now c.args.kept.now c.settle_at.new.kept c.args.at.now c.requires.place c.in_ok-settle_at.ensures.settled c.requires.midway.1.beside c.in_ok-settle_at.ensures.beside c.requires.midway.1.made c.recount.new.kept c.outcome-was.result c.outcome-now.result c.outcome-was.ensures c.outcome-now.ensures c.requires.counted c.recount.ensures.change in
    let counts = with_outcome c.outcome-now.result (others c.args.set.now c.args.doc.now c.args.kept.now c.settle_at.new.kept c.args.at.now c.requires.place c.in_ok-settle_at.ensures.settled c.requires.midway.1.beside c.in_ok-settle_at.ensures.beside c.requires.midway.1.made) in
    recounted-all c.args.set.now c.args.doc.now c.args.kept.now c.settle_at.new.kept c.args.at.now c.requires.place c.in_ok-settle_at.ensures.settled c.requires.midway.1.beside c.in_ok-settle_at.ensures.beside c.requires.midway.1.made c.recount.new.kept counts written is c.requires.counted

pub returns-clause-given : goal.returns-clause-given
returns-clause-given g c =
    let written =
    recount-written c.args.set.now c.args.doc.now c.args.kept.now c.settle_at.new.kept c.args.at.now c.requires.place c.in_ok-settle_at.ensures.settled c.requires.midway.1.beside c.in_ok-settle_at.ensures.beside c.requires.midway.1.made c.recount.new.kept c.outcome-was.result c.outcome-now.result c.outcome-was.ensures c.outcome-now.ensures c.requires.counted c.recount.ensures.change in
    let is =
    recount-is c.args.set.now c.args.doc.now c.args.kept.now c.settle_at.new.kept c.args.at.now c.requires.place c.in_ok-settle_at.ensures.settled c.requires.midway.1.beside c.in_ok-settle_at.ensures.beside c.requires.midway.1.made c.recount.new.kept c.outcome-was.result c.outcome-now.result c.outcome-was.ensures c.outcome-now.ensures c.requires.counted c.recount.ensures.change in
    let counts = with_outcome c.outcome-now.result (others c.args.set.now c.args.doc.now c.args.kept.now c.settle_at.new.kept c.args.at.now c.requires.place c.in_ok-settle_at.ensures.settled c.requires.midway.1.beside c.in_ok-settle_at.ensures.beside c.requires.midway.1.made) in
    settled-given c.args.set.now c.args.doc.now c.args.kept.now c.settle_at.new.kept c.args.at.now c.requires.place c.in_ok-settle_at.ensures.settled c.requires.midway.1.beside c.in_ok-settle_at.ensures.beside c.requires.midway.1.made c.recount.new.kept counts written is

pub returns-clause-pair : goal.returns-clause-pair
returns-clause-pair g c =
    let written =
    recount-written c.args.set.now c.args.doc.now c.args.kept.now c.settle_at.new.kept c.args.at.now c.requires.place c.in_ok-settle_at.ensures.settled c.requires.midway.1.beside c.in_ok-settle_at.ensures.beside c.requires.midway.1.made c.recount.new.kept c.outcome-was.result c.outcome-now.result c.outcome-was.ensures c.outcome-now.ensures c.requires.counted c.recount.ensures.change in
    let is =
    recount-is c.args.set.now c.args.doc.now c.args.kept.now c.settle_at.new.kept c.args.at.now c.requires.place c.in_ok-settle_at.ensures.settled c.requires.midway.1.beside c.in_ok-settle_at.ensures.beside c.requires.midway.1.made c.recount.new.kept c.outcome-was.result c.outcome-now.result c.outcome-was.ensures c.outcome-now.ensures c.requires.counted c.recount.ensures.change in
    let counts = with_outcome c.outcome-now.result (others c.args.set.now c.args.doc.now c.args.kept.now c.settle_at.new.kept c.args.at.now c.requires.place c.in_ok-settle_at.ensures.settled c.requires.midway.1.beside c.in_ok-settle_at.ensures.beside c.requires.midway.1.made) in
    settled-pair c.args.set.now c.args.doc.now c.args.kept.now c.settle_at.new.kept c.args.at.now c.requires.place c.in_ok-settle_at.ensures.settled c.requires.midway.1.beside c.in_ok-settle_at.ensures.beside c.requires.midway.1.made c.recount.new.kept counts written is

pub returns-clause-left : goal.returns-clause-left
returns-clause-left g c =
    let written =
    recount-written c.args.set.now c.args.doc.now c.args.kept.now c.settle_at.new.kept c.args.at.now c.requires.place c.in_ok-settle_at.ensures.settled c.requires.midway.1.beside c.in_ok-settle_at.ensures.beside c.requires.midway.1.made c.recount.new.kept c.outcome-was.result c.outcome-now.result c.outcome-was.ensures c.outcome-now.ensures c.requires.counted c.recount.ensures.change in
    let is =
    recount-is c.args.set.now c.args.doc.now c.args.kept.now c.settle_at.new.kept c.args.at.now c.requires.place c.in_ok-settle_at.ensures.settled c.requires.midway.1.beside c.in_ok-settle_at.ensures.beside c.requires.midway.1.made c.recount.new.kept c.outcome-was.result c.outcome-now.result c.outcome-was.ensures c.outcome-now.ensures c.requires.counted c.recount.ensures.change in
    let counts = with_outcome c.outcome-now.result (others c.args.set.now c.args.doc.now c.args.kept.now c.settle_at.new.kept c.args.at.now c.requires.place c.in_ok-settle_at.ensures.settled c.requires.midway.1.beside c.in_ok-settle_at.ensures.beside c.requires.midway.1.made) in
    settled-left c.args.set.now c.args.doc.now c.args.kept.now c.settle_at.new.kept c.args.at.now c.requires.place c.in_ok-settle_at.ensures.settled c.requires.midway.1.beside c.in_ok-settle_at.ensures.beside c.requires.midway.1.made c.recount.new.kept counts written is c.args.steps.now c.settle_at.new.steps c.in_ok-settle_at.ensures.left

pub returns-clause-identity : goal.returns-clause-identity
returns-clause-identity g c =
    let made = made-parent c.args.set.now c.args.doc.now c.args.kept.now c.settle_at.new.kept c.args.at.now c.requires.place c.in_ok-settle_at.ensures.settled c.requires.midway.1.beside c.in_ok-settle_at.ensures.beside c.requires.midway.1.made in
    identity-then c.args.kept.now c.settle_at.new.kept c.recount.new.kept c.in_ok-settle_at.ensures.identity
    (identity-rewritten c.settle_at.new.kept c.recount.new.kept c.args.at.now.parent made.0 made.1 _ refl
    (recount-written c.args.set.now c.args.doc.now c.args.kept.now c.settle_at.new.kept c.args.at.now c.requires.place c.in_ok-settle_at.ensures.settled c.requires.midway.1.beside c.in_ok-settle_at.ensures.beside c.requires.midway.1.made c.recount.new.kept c.outcome-was.result c.outcome-now.result c.outcome-was.ensures c.outcome-now.ensures c.requires.counted c.recount.ensures.change))
