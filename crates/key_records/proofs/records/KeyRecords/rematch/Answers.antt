use Rattle.std.proofs.Common.{sym}
use Rattle.key_records.proofs.EntryLaws.{rematched-none, no-keyref, entered-right, entered-rematched, taken-right, taken-rematched}
use Rattle.key_records.proofs.records.KeyRecords.rematch.Goals as goal

pub returns-in_default : goal.returns-in_default
returns-in_default c = record {
  rematched = rematched-none c.args.references.now c.args.self.now c.requires.once;
  matched = no-keyref c.args.references.now c.args.self.now c.args.scope c.args.keyref c.args.tuple.now (sym c.in_default.ensures.key);
}

pub returns-then-wanted-clause-rematched : goal.returns-then-wanted-clause-rematched
returns-then-wanted-clause-rematched c =
    entered-rematched c.args.references.now c.args.self.now c.args.scope c.args.keyref c.args.tuple.now c.in-Some.key c.own_count-own.result c.own_count-entered.result c.is_visible-seen.result c.is_wanted-wanted.result c.requires.once (sym c.in-Some.ensures.key) c.own_count-own.ensures c.is_visible-seen.ensures.counted c.is_wanted-wanted.ensures c.own_count-entered.ensures c.add.new.self c.in_ok-tuple.tuple c.in_ok-tuple.ensures.cases c.in_ok-add.ensures.ok c.if-wanted.true c.if-entered-ne0.false

pub returns-then-wanted-clause-matched : goal.returns-then-wanted-clause-matched
returns-then-wanted-clause-matched c =
    entered-right c.args.references.now c.args.self.now c.args.scope c.args.keyref c.args.tuple.now c.in-Some.key c.own_count-own.result c.own_count-entered.result c.is_visible-seen.result c.is_wanted-wanted.result c.requires.once (sym c.in-Some.ensures.key) c.own_count-own.ensures c.is_visible-seen.ensures.counted c.is_wanted-wanted.ensures c.own_count-entered.ensures c.add.new.self c.in_ok-tuple.tuple c.in_ok-tuple.ensures.cases c.in_ok-add.ensures.ok c.if-wanted.true c.if-entered-ne0.false

pub returns-clause-rematched : goal.returns-clause-rematched
returns-clause-rematched c = taken-rematched c.args.references.now c.args.self.now c.args.scope c.args.keyref c.args.tuple.now c.in-Some.key c.own_count-own.result c.own_count-entered.result c.is_visible-seen.result c.is_wanted-wanted.result c.requires.once (sym c.in-Some.ensures.key) c.own_count-own.ensures c.is_visible-seen.ensures.counted c.is_wanted-wanted.ensures c.own_count-entered.ensures c.drop_entry.new.self c.drop_entry.ensures c.if-wanted.false

pub returns-clause-matched : goal.returns-clause-matched
returns-clause-matched c = taken-right c.args.references.now c.args.self.now c.args.scope c.args.keyref c.args.tuple.now c.in-Some.key c.own_count-own.result c.own_count-entered.result c.is_visible-seen.result c.is_wanted-wanted.result c.requires.once (sym c.in-Some.ensures.key) c.own_count-own.ensures c.is_visible-seen.ensures.counted c.is_wanted-wanted.ensures c.own_count-entered.ensures c.drop_entry.new.self c.drop_entry.ensures c.if-wanted.false
