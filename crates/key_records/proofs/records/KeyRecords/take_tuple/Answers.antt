use Rattle.key_records.proofs.OwnLaws.{all-matched, bare-again, taken-own, rest-is, settled-again}
use Rattle.key_records.proofs.records.KeyRecords.take_tuple.Goals as goal

pub rematch-requires-clause-once : goal.rematch-requires-clause-once
rematch-requires-clause-once c = c.in_ok-drop_own.ensures.changed.once

pub returns : goal.returns
returns c =
    let refs = c.args.tree.now.references.now in
    let k = c.args.constraint in
    let tuple = c.args.tuple.now in
    let old = c.args.self.now in
    let middle = c.drop_own.new.self in
    let new = c.rematch.new.self in
    let first = c.in_ok-drop_own.ensures in
    let again = c.in_ok-rematch.ensures in
    record {
      settled = λ t i p s. settled-again refs old middle new c.args.scope k tuple first.changed again.rematched t (first.settled t i p s);
      own = taken-own refs old middle new c.args.scope k tuple first.changed again.rematched first.own;
      matched = all-matched refs old middle new c.args.scope k tuple first.changed again.rematched again.matched;
      rest = rest-is refs old middle new c.args.scope k tuple first.changed again.rematched;
      bare = bare-again refs old middle new c.args.scope k tuple first.changed again.rematched;
    }
