use Rattle.std.proofs.lemmas.Result.{on_ok_weaker}
use Rattle.kept_targets.proofs.Counts.{forgets-all, none-there, whole-still}
use Rattle.kept_targets.proofs.finding.forget.Goals as goal

pub take_each-requires : goal.take_each-requires
take_each-requires c = c.requires.counting

pub drop_each-requires-clause-counting : goal.drop_each-requires-clause-counting
drop_each-requires-clause-counting c = c.in_ok-take_each.ensures.counting

pub drop_each-requires-clause-none : goal.drop_each-requires-clause-none
drop_each-requires-clause-none c = none-there c.args.keys.now c.take_each.new.keys c.args.gone.now c.requires.whole c.in_ok-take_each.ensures.takes c.requires.above

pub drop_each-requires-clause-whole : goal.drop_each-requires-clause-whole
drop_each-requires-clause-whole c = whole-still c.args.keys.now c.take_each.new.keys c.args.gone.now c.requires.whole c.in_ok-take_each.ensures.takes

pub returns-clause-forgets : goal.returns-clause-forgets
returns-clause-forgets c =
    on_ok_weaker c.drop_each.result (forgets-all c.args.keys.now c.take_each.new.keys c.args.gone.now c.requires.whole c.in_ok-take_each.ensures.takes c.drop_each.new.keys) c.drop_each.ensures.drops
