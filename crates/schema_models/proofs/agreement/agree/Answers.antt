use Rattle.std.proofs.Common.{arith}
use Rattle.std.specs.Prelude.{nat_eq}
use Rattle.std.specs.HashMap.{get}
use Rattle.schema_models.proofs.AgreeLaws.{noted_more, disagree, agree_all}
use Rattle.schema_models.proofs.agreement.agree.Goals as goal

pub returns-then-not-branch : goal.returns-then-not-branch
returns-then-not-branch c =
    disagree c.args.given.now c.loop-one.one-index c.one-item.result c.loop-one-test.true c.one-item.is (get nat_eq c.loop-one.types) c.loop-one.invariant (get nat_eq c.note.new.types)
    c.in_ok-note.field-0 c.in_ok-note.ensures c.if-not-branch.true

pub loop-one-preserved : goal.loop-one-preserved
loop-one-preserved c =
    noted_more c.args.given.now c.loop-one.one-index c.one-item.result c.loop-one-test.true c.one-item.is (get nat_eq c.loop-one.types) c.loop-one.invariant (get nat_eq c.note.new.types)
    c.in_ok-note.field-0 c.in_ok-note.ensures c.if-not-branch.false

pub returns : goal.returns
returns c = agree_all c.args.given.now c.loop-one.one-index (get nat_eq c.loop-one.types) (let l = c.loop-one-test.false in omega arith) c.loop-one.invariant
