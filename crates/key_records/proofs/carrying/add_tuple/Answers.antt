use Rattle.key_records.proofs.CarryLaws.{added, settled-ok, own-more-ok}
use Rattle.std.proofs.Common.{◌*◌, subst}
use Rattle.identity_tables.specs.KeyTables.{IsOneMoreTuple}
use Rattle.key_records.specs.Tables.{for_key}
use Rattle.key_records.proofs.ToldLaws.{alike-own, told-one, told-ok}
use Rattle.key_records.proofs.carrying.add_tuple.Goals as goal

pub settle-requires-clause-linked : goal.settle-requires-clause-linked
settle-requires-clause-linked c =
    let l = c.requires.linked in
    let touched = added l.0 l.1 c.args.tables.now c.add.new.self c.args.scope c.args.key c.args.tuple.now c.is_seen-was.result c.is_seen-was.ensures l.3 c.in_ok-clone.field-0 c.in_ok-clone.ensures.cases c.in_ok-add.ensures.ok in
    (l.0, l.1, l.2, c.note-waits.ensures.pending l.0 l.2 touched)

pub returns-clause-settled : goal.returns-clause-settled
returns-clause-settled c =
    settled-ok c.settle.result c.args.parents.now c.args.tables.now c.add.new.self c.settle.new.tables c.args.key c.args.tuple.now c.note-waits.result
    (λ t i p s. c.note-waits.ensures.pending t p (added t i c.args.tables.now c.add.new.self c.args.scope c.args.key c.args.tuple.now c.is_seen-was.result c.is_seen-was.ensures s c.in_ok-clone.field-0 c.in_ok-clone.ensures.cases c.in_ok-add.ensures.ok))
    c.settle.ensures.settled

pub returns-clause-own : goal.returns-clause-own
returns-clause-own c =
    own-more-ok c.settle.result c.args.tables.now c.add.new.self c.settle.new.tables c.args.scope c.args.key c.args.tuple.now c.in_ok-clone.field-0 c.in_ok-clone.ensures.cases c.in_ok-add.ensures.ok c.settle.ensures.own

pub returns-clause-told : goal.returns-clause-told
returns-clause-told c =
    let old = c.args.tables.now in
    let middle = c.add.new.self in
    let x = for_key c.args.key c.args.tuple.now in
    let grown = subst (IsOneMoreTuple old middle c.args.scope (2 * c.args.key)) c.in_ok-clone.ensures.cases c.in_ok-add.ensures.ok in
    told-ok c.settle.result x old middle c.settle.new.tables c.args.told.now.items c.push.new.self.items c.settle.new.told.items
    (told-one x old middle c.args.scope c.args.told.now.items c.push.new.self.items c.in_ok-push.ensures.items (alike-own old middle c.args.scope c.args.key c.args.tuple.now grown)) c.settle.ensures.told
