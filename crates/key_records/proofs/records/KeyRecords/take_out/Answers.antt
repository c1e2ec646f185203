use Rattle.std.proofs.Common.{List, Option, sym, ap, subst, ◌∙◌}
use Rattle.std.specs.Prelude.{is_none}
use Rattle.simple_values.specs.declared.key.Key.{Key}
use Rattle.key_records.specs.Counted.{plus, one_target, with_misuse, without_keys, with_nillable}
use Rattle.key_records.specs.Faults.{AreMoreFaults, more_faults}
use Rattle.key_records.specs.Records.{AreRecords}
use Rattle.key_records.specs.declared.faults.Faults.{Faults}
use Rattle.key_records.specs.declared.faults.TargetFaults.{TargetFaults}
use Rattle.key_records.specs.declared.records.KeyRecords.{KeyRecords}
use Rattle.key_records.proofs.TargetLaws.{take-faults, take-target, there, faults-among}
use Rattle.key_records.proofs.records.KeyRecords.take_out.Goals as goal

pub remove-requires : goal.remove-requires
remove-requires c =
    let l = c.requires.linked in
    let target = c.args.target in
    let fewer : Faults = record { misused = l.1 target.scope target.constraint with_misuse; lacking = l.1 target.scope target.constraint without_keys; nillable = l.1 target.scope target.constraint with_nillable } in
    (fewer, faults-among l.0 c.args.tree.now.references.now l.1 c.args.self.now target.scope target.constraint target.tuple.now target.misused target.nillable l.4 ∙ ap (more_faults fewer) (sym c.faults.ensures))

pub take_tuple-requires-clause-there : goal.take_tuple-requires-clause-there
take_tuple-requires-clause-there c =
    let l = c.requires.linked in
    let target = c.args.target in
    let refs = c.args.tree.now.references.now in
    there l.0 refs l.1 c.args.self.now target.scope target.constraint c.in-Some.tuple target.misused target.nillable
    (subst (λ (o : Option (List Key)). AreRecords l.0 refs (plus l.1 (one_target target.scope target.constraint o target.misused target.nillable)) c.args.self.now) c.in-Some.is l.4)

pub take_tuple-requires-clause-once : goal.take_tuple-requires-clause-once
take_tuple-requires-clause-once c = c.requires.linked.4.once

pub take_tuple-requires-clause-linked : goal.take_tuple-requires-clause-linked
take_tuple-requires-clause-linked c = let l = c.requires.linked in (l.0, l.2, l.3, l.4.settled)

pub returns-in-None : goal.returns-in-None
returns-in-None c = λ t counted linked parents records.
    let refs = c.args.tree.now.references.now in
    let target = c.args.target in
    let faults = c.remove.new.self in
    let new : KeyRecords = record c.args.self.now { faults = faults } in
    take-faults t refs counted c.args.self.now faults target.scope target.constraint target.misused target.nillable
    (subst (λ (f : TargetFaults). AreMoreFaults faults c.args.self.now.faults target.scope target.constraint f) (c.faults.ensures ∙ ap (λ (o : Option (List Key)). record { misused = target.misused; lacking = is_none o; nillable = target.nillable }) c.in-None.is) c.in_ok-remove.ensures)
    (subst (λ (o : Option (List Key)). AreRecords t refs (plus counted (one_target target.scope target.constraint o target.misused target.nillable)) c.args.self.now) c.in-None.is records)

pub returns-in_ok-take_tuple-in-Some : goal.returns-in_ok-take_tuple-in-Some
returns-in_ok-take_tuple-in-Some c = λ t counted linked parents records.
    let refs = c.args.tree.now.references.now in
    let target = c.args.target in
    let faults = c.remove.new.self in
    let middle : KeyRecords = record c.args.self.now { faults = faults } in
    let new = c.take_tuple.new.self in
    let step = c.in_ok-take_tuple-in-Some.ensures in
    take-target t refs counted c.args.self.now middle new target.scope target.constraint c.in-Some.tuple target.misused target.nillable step.rest.1
    (subst (λ (f : TargetFaults). AreMoreFaults faults c.args.self.now.faults target.scope target.constraint f) (c.faults.ensures ∙ ap (λ (o : Option (List Key)). record { misused = target.misused; lacking = is_none o; nillable = target.nillable }) c.in-Some.is) c.in_ok-remove.ensures)
    (subst (λ (o : Option (List Key)). AreRecords t refs (plus counted (one_target target.scope target.constraint o target.misused target.nillable)) c.args.self.now) c.in-Some.is records) step.own
    (step.settled t linked parents records.settled) (step.matched records.matched) step.rest.0 (step.bare records.bare)
