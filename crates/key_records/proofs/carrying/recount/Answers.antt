use Rattle.key_records.proofs.CarryLaws.{counted-more-ok, counted-less, falls-there}
use Rattle.key_records.specs.Tables.{for_key}
use Rattle.key_records.proofs.ToldLaws.{alike-said, alike-said-ok, turned}
use Rattle.key_records.proofs.carrying.recount.Goals as goal

pub returns-then-waiting-clause-touched : goal.returns-then-waiting-clause-touched
returns-then-waiting-clause-touched c =
    counted-more-ok c.add.result c.args.tables.now c.add.new.self c.args.key c.args.tuple.now c.in_ok-clone.field-0 c.args.waiting c.if-waiting.true c.in_ok-clone.ensures.cases c.add.ensures.ok

pub drop_entry-requires : goal.drop_entry-requires
drop_entry-requires c =
    let p = c.requires.pending in
    falls-there p.0 c.args.tables.now c.args.waiting.at c.args.key c.args.tuple.now c.args.waiting.grows c.if-waiting.false p.1

pub returns-clause-touched : goal.returns-clause-touched
returns-clause-touched c = λ t i waits.
    counted-less t i c.args.tables.now c.drop_entry.new.self c.args.waiting.at c.args.key c.args.tuple.now c.args.waiting.grows c.if-waiting.false c.drop_entry.ensures waits

pub returns-then-waiting-clause-alike : goal.returns-then-waiting-clause-alike
returns-then-waiting-clause-alike c =
    alike-said-ok c.add.result c.args.tables.now c.add.new.self c.args.waiting.at c.args.key c.args.tuple.now c.in_ok-clone.field-0 c.in_ok-clone.ensures.cases c.add.ensures.ok

pub returns-clause-alike : goal.returns-clause-alike
returns-clause-alike c =
    let new = c.drop_entry.new.self in
    turned c.args.waiting.at (for_key c.args.key c.args.tuple.now) c.args.tables.now new (alike-said new c.args.tables.now c.args.waiting.at c.args.key c.args.tuple.now c.drop_entry.ensures)
