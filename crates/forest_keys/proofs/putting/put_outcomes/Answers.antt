use Rattle.std.proofs.Common.{List, map, ap}
use Rattle.path_walk.specs.Outcomes.{outcome_of}
use Rattle.path_walk.specs.declared.tuples.TargetOutcome.{TargetOutcome}
use Rattle.key_records.specs.Counted.{one_target}
use Rattle.forest_keys.specs.inside.Found.{targets_of}
use Rattle.forest_keys.proofs.KeyrefLaws.{shorter, nothing-left}
use Rattle.forest_keys.proofs.Growing.{begun, one-on, all-in, reached-alike, can-reached}
use Rattle.forest_keys.proofs.putting.put_outcomes.Goals as goal

pub found-init : goal.found-init
found-init c = begun c.args.tree.now (targets_of c.args.place c.args.constraint (map outcome_of c.args.found.now)) c.args.records.now

pub put_in-requires-clause-linked : goal.put_in-requires-clause-linked
put_in-requires-clause-linked c =
    can-reached c.args.tree.now (targets_of c.args.place c.args.constraint (map outcome_of c.args.found.now)) (targets_of c.args.place c.args.constraint (map outcome_of c.found.left.now)) c.args.records.now c.found.records c.found.invariant c.requires.linked

pub found-preserved : goal.found-preserved
found-preserved c =
    let tree = c.args.tree.now in
    let all = targets_of c.args.place c.args.constraint (map outcome_of c.args.found.now) in
    let o = c.in-Some.outcome.now in
    let rest = targets_of c.args.place c.args.constraint (map outcome_of c.in-Some.rest.now) in
    one-on tree all (one_target c.args.place c.args.constraint o.tuple o.misused o.nillable) rest c.args.records.now c.found.records c.put_in.new.self
    (reached-alike tree all _ _ c.args.records.now c.found.records (ap (λ (xs : List TargetOutcome). targets_of c.args.place c.args.constraint (map outcome_of xs)) c.in-Some.ensures.cases.0) c.found.invariant)
    c.in_ok-put_in.ensures

pub found-smaller : goal.found-smaller
found-smaller c = shorter c.found.left.now c.in-Some.rest.now c.in-Some.outcome.now c.in-Some.ensures.cases.0

pub returns : goal.returns
returns c =
    let tree = c.args.tree.now in
    let all = targets_of c.args.place c.args.constraint (map outcome_of c.args.found.now) in
    let now = c.found.records in
    record {
      can = can-reached tree all _ c.args.records.now now c.found.invariant c.requires.linked;
      grown = all-in tree all c.args.records.now now
          (reached-alike tree all _ _ c.args.records.now now (ap (λ (xs : List TargetOutcome). targets_of c.args.place c.args.constraint (map outcome_of xs)) (nothing-left c.found.left.now c.in_default.ensures.cases)) c.found.invariant);
    }
