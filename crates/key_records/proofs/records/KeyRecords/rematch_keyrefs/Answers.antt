use Rattle.std.proofs.Common.{inl}
use Rattle.key_records.proofs.EntryLaws.{rematched-none, rematched-both}
use Rattle.key_records.proofs.LoopLaws.{keyrefs-more, keyrefs-all, shorter}
use Rattle.key_records.proofs.records.KeyRecords.rematch_keyrefs.Goals as goal

pub keyrefs-init : goal.keyrefs-init
keyrefs-init c = record {
  rematched = rematched-none c.args.references.now c.args.self.now c.requires.once;
  matched = λ keyref h. inl h;
}

pub rematch-requires-clause-once : goal.rematch-requires-clause-once
rematch-requires-clause-once c = c.keyrefs.invariant.rematched.once

pub keyrefs-preserved : goal.keyrefs-preserved
keyrefs-preserved c =
    let step = c.in_ok-rematch.ensures in
    let parts = c.in-Some in
    record {
      rematched = rematched-both c.args.references.now c.args.self.now c.keyrefs.self c.rematch.new.self c.keyrefs.invariant.rematched step.rematched;
      matched = keyrefs-more c.args.references.now c.keyrefs.self c.rematch.new.self c.args.scope c.args.tuple.now c.args.keyrefs.now c.keyrefs.left.now parts.rest.now parts.keyref.now step.rematched step.matched parts.ensures.cases.0 c.keyrefs.invariant.matched;
    }

pub keyrefs-smaller : goal.keyrefs-smaller
keyrefs-smaller c = shorter c.keyrefs.left.now c.in-Some.rest.now c.in-Some.keyref.now c.in-Some.ensures.cases.0

pub returns : goal.returns
returns c = record {
  rematched = c.keyrefs.invariant.rematched;
  matched = keyrefs-all c.args.references.now c.keyrefs.self c.args.scope c.args.tuple.now c.args.keyrefs.now c.keyrefs.left.now c.in_default.ensures.cases c.keyrefs.invariant.matched;
}
