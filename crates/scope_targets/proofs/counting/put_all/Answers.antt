use Rattle.std.proofs.Common.{List, subst}
use Rattle.key_records.specs.Counted.{Counted, plus}
use Rattle.scope_targets.specs.Found.{targeting_of}
use Rattle.scope_targets.specs.declared.targetings.ElementTargeting.{ElementTargeting}
use Rattle.scope_targets.specs.Counted.{counted_one}
use Rattle.scope_targets.proofs.Tallies.{HasCome, Comes, counted_found, can-come, come-all, come-none, come-one, no_items, shorter}
use Rattle.scope_targets.proofs.counting.put_all.Goals as goal

pub found-init : goal.found-init
found-init c = come-none c.args.tree.now (counted_found c.args.found.now) c.args.records.now

pub put_in-requires-clause-linked : goal.put_in-requires-clause-linked
put_in-requires-clause-linked c =
    can-come c.args.tree.now (counted_found c.args.found.now) (counted_found c.found.left.now) c.args.records.now c.found.records c.found.invariant c.requires.linked

pub found-preserved : goal.found-preserved
found-preserved c =
    let tree = c.args.tree.now in
    let all = counted_found c.args.found.now in
    let rest = counted_found c.in-Some.rest.now in
    come-one tree all (counted_one (targeting_of c.in-Some.first.now)) rest c.args.records.now c.found.records c.put_in.new.self
    (subst (λ (left : List ElementTargeting). HasCome tree all (counted_found left) c.args.records.now c.found.records) c.in-Some.ensures.cases.0 c.found.invariant)
    (subst (λ (one : Counted). Comes tree (λ d. d) (λ d. plus d one) c.found.records c.put_in.new.self) c.target_of.ensures c.in_ok-put_in.ensures)

pub found-smaller : goal.found-smaller
found-smaller c = shorter c.found.left.now c.in-Some.rest.now c.in-Some.first.now c.in-Some.ensures.cases.0

pub returns : goal.returns
returns c =
    let tree = c.args.tree.now in
    let all = counted_found c.args.found.now in
    come-all tree all c.args.records.now c.found.records
    (subst (λ (left : List ElementTargeting). HasCome tree all (counted_found left) c.args.records.now c.found.records) (no_items c.found.left.now c.in_default.ensures.cases) c.found.invariant)
