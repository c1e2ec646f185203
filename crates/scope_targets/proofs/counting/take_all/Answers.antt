use Rattle.std.proofs.Common.{List, subst, sym}
use Rattle.identity_constraints.specs.Counting.{Links, IsLinked}
use Rattle.key_records.specs.Tables.{AreParents}
use Rattle.key_records.specs.Counted.{Counted, plus}
use Rattle.key_records.specs.Records.{AreRecords}
use Rattle.scope_targets.specs.Found.{targeting_of}
use Rattle.scope_targets.specs.declared.targetings.ElementTargeting.{ElementTargeting}
use Rattle.scope_targets.specs.Counted.{counted_one}
use Rattle.scope_targets.proofs.Tallies.{HasGone, Comes, counted_found, can-go, gone-all, gone-one, no_items, shorter}
use Rattle.scope_targets.proofs.counting.take_all.Goals as goal

pub found-init : goal.found-init
found-init c = λ t d i p are. are

pub take_out-requires-clause-linked : goal.take_out-requires-clause-linked
take_out-requires-clause-linked c =
    let tree = c.args.tree.now in
    let all = counted_found c.args.found.now in
    subst (λ (one : Counted). (t : Links) × (d : Counted) × IsLinked t × AreParents t tree.parents.now × AreRecords t tree.references.now (plus d one) c.found.records) (sym c.target_of.ensures)
    (can-go tree all (counted_one (targeting_of c.in-Some.first.now)) (counted_found c.in-Some.rest.now) c.args.records.now c.found.records
    (subst (λ (left : List ElementTargeting). HasGone tree all (counted_found left) c.args.records.now c.found.records) c.in-Some.ensures.cases.0 c.found.invariant) c.requires.linked)

pub found-preserved : goal.found-preserved
found-preserved c =
    let tree = c.args.tree.now in
    let all = counted_found c.args.found.now in
    gone-one tree all (counted_one (targeting_of c.in-Some.first.now)) (counted_found c.in-Some.rest.now) c.args.records.now c.found.records c.take_out.new.self
    (subst (λ (left : List ElementTargeting). HasGone tree all (counted_found left) c.args.records.now c.found.records) c.in-Some.ensures.cases.0 c.found.invariant)
    (subst (λ (one : Counted). Comes tree (λ d. plus d one) (λ d. d) c.found.records c.take_out.new.self) c.target_of.ensures c.in_ok-take_out.ensures)

pub found-smaller : goal.found-smaller
found-smaller c = shorter c.found.left.now c.in-Some.rest.now c.in-Some.first.now c.in-Some.ensures.cases.0

pub returns : goal.returns
returns c =
    let tree = c.args.tree.now in
    let all = counted_found c.args.found.now in
    gone-all tree all c.args.records.now c.found.records
    (subst (λ (left : List ElementTargeting). HasGone tree all (counted_found left) c.args.records.now c.found.records) (no_items c.found.left.now c.in_default.ensures.cases) c.found.invariant)
