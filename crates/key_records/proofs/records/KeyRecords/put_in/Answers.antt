use Rattle.std.proofs.Common.{List, Option, sym, ap, subst, ◌∙◌}
use Rattle.std.specs.Prelude.{is_none}
use Rattle.simple_values.specs.declared.key.Key.{Key}
use Rattle.key_records.specs.Counted.{plus, one_target}
use Rattle.key_records.specs.Faults.{AreMoreFaults}
use Rattle.key_records.specs.Records.{AreRecords}
use Rattle.key_records.specs.declared.faults.TargetFaults.{TargetFaults}
use Rattle.key_records.specs.declared.records.KeyRecords.{KeyRecords}
use Rattle.key_records.proofs.TargetLaws.{put-faults, put-target}
use Rattle.key_records.proofs.records.KeyRecords.put_in.Goals as goal

pub put_tuple-requires-clause-once : goal.put_tuple-requires-clause-once
put_tuple-requires-clause-once c = c.requires.linked.4.once

pub put_tuple-requires-clause-linked : goal.put_tuple-requires-clause-linked
put_tuple-requires-clause-linked c = let l = c.requires.linked in (l.0, l.2, l.3, l.4.settled)

pub returns-in-None : goal.returns-in-None
returns-in-None c = λ t counted linked parents records.
    let refs = c.args.tree.now.references.now in
    let target = c.args.target in
    let faults = c.add.new.self in
    let new : KeyRecords = record c.args.self.now { faults = faults } in
    subst (λ (o : Option (List Key)). AreRecords t refs (plus counted (one_target target.scope target.constraint o target.misused target.nillable)) new) (sym c.in-None.is)
    (put-faults t refs counted c.args.self.now faults target.scope target.constraint target.misused target.nillable
    (subst (λ (f : TargetFaults). AreMoreFaults c.args.self.now.faults faults target.scope target.constraint f) (c.faults.ensures ∙ ap (λ (o : Option (List Key)). record { misused = target.misused; lacking = is_none o; nillable = target.nillable }) c.in-None.is) c.in_ok-add.ensures) records)

pub returns-in_ok-put_tuple-in-Some : goal.returns-in_ok-put_tuple-in-Some
returns-in_ok-put_tuple-in-Some c = λ t counted linked parents records.
    let refs = c.args.tree.now.references.now in
    let target = c.args.target in
    let faults = c.add.new.self in
    let middle : KeyRecords = record c.args.self.now { faults = faults } in
    let new = c.put_tuple.new.self in
    let step = c.in_ok-put_tuple-in-Some.ensures in
    subst (λ (o : Option (List Key)). AreRecords t refs (plus counted (one_target target.scope target.constraint o target.misused target.nillable)) new) (sym c.in-Some.is)
    (put-target t refs counted c.args.self.now middle new target.scope target.constraint c.in-Some.tuple target.misused target.nillable step.rest.1
    (subst (λ (f : TargetFaults). AreMoreFaults c.args.self.now.faults faults target.scope target.constraint f) (c.faults.ensures ∙ ap (λ (o : Option (List Key)). record { misused = target.misused; lacking = is_none o; nillable = target.nillable }) c.in-Some.is) c.in_ok-add.ensures) records step.own
    (step.settled t linked parents records.settled) (step.matched records.matched) step.rest.0 (step.bare records.bare))
