use Rattle.std.proofs.Common.{inl}
use Rattle.key_records.proofs.EntryLaws.{rematched-none, rematched-both}
use Rattle.key_records.proofs.LoopLaws.{told-more, told-all, shorter}
use Rattle.key_records.proofs.records.KeyRecords.rematch_told.Goals as goal

pub told-init : goal.told-init
told-init c = record {
  rematched = rematched-none c.args.references.now c.args.self.now c.requires.once;
  matched = λ n h. inl h;
}

pub rematch_keyrefs-requires-clause-once : goal.rematch_keyrefs-requires-clause-once
rematch_keyrefs-requires-clause-once c = c.told.invariant.rematched.once

pub told-preserved : goal.told-preserved
told-preserved c =
    let step = c.in_ok-rematch_keyrefs.ensures in
    let parts = c.in-Some in
    record {
      rematched = rematched-both c.args.references.now c.args.self.now c.told.self c.rematch_keyrefs.new.self c.told.invariant.rematched step.rematched;
      matched = told-more c.args.references.now c.told.self c.rematch_keyrefs.new.self c.args.tuple.now c.args.keyrefs.now c.args.told.now c.told.left.now parts.rest.now parts.scope.now step.rematched step.matched parts.ensures.cases.0 c.told.invariant.matched;
    }

pub told-smaller : goal.told-smaller
told-smaller c = shorter c.told.left.now c.in-Some.rest.now c.in-Some.scope.now c.in-Some.ensures.cases.0

pub returns : goal.returns
returns c = record {
  rematched = c.told.invariant.rematched;
  matched = told-all c.args.references.now c.told.self c.args.tuple.now c.args.keyrefs.now c.args.told.now c.told.left.now c.in_default.ensures.cases c.told.invariant.matched;
}
