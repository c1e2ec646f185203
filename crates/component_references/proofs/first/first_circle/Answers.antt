use Rattle.std.proofs.Common.{◌≡◌, ◌<◌, Some, map, slice_get, length, refl, sym, ap, ◌∙◌, arith}
use Rattle.std.proofs.lemmas.List.{length-map}
use Rattle.component_references.proofs.CircleLaws.{place-read, step-straight, fault-first, fault-behind, all-back}
use Rattle.component_references.proofs.first.first_circle.Goals as goal

pub loop-i-preserved-then-not-comes_first : goal.loop-i-preserved-then-not-comes_first
loop-i-preserved-then-not-comes_first g c =
    let places = map g.T.Placed.place_of c.args.parts.now in
    let is : slice_get places c.loop-i.i ≡ Some c.place.result = place-read g.T.Placed.place_of c.args.parts.now c.loop-i.i c.index-parts-i.result c.place.result (omega arith) c.index-parts-i.is c.place.ensures.place in
    fault-behind places c.args.refs.now c.args.first c.args.code c.loop-i.i c.place.result c.circle_fault-fault.result is c.circle_fault-fault.ensures c.loop-i.best
    (sym c.comes_first.ensures.first ∙ c.if-not-comes_first.true) c.loop-i.invariant

pub loop-i-preserved-then-not-branch : goal.loop-i-preserved-then-not-branch
loop-i-preserved-then-not-branch g c =
    let places = map g.T.Placed.place_of c.args.parts.now in
    let is : slice_get places c.loop-i.i ≡ Some c.place.result = place-read g.T.Placed.place_of c.args.parts.now c.loop-i.i c.index-parts-i.result c.place.result (omega arith) c.index-parts-i.is c.place.ensures.place in
    step-straight places c.args.refs.now c.args.first c.args.code c.loop-i.i c.place.result is c.loop-i.best
    (λ l. let e = sym c.if-not-branch.true ∙ c.in_ok-comes_back.ensures.exact.1 l in cc) c.loop-i.invariant

pub loop-i-preserved : goal.loop-i-preserved
loop-i-preserved g c =
    let places = map g.T.Placed.place_of c.args.parts.now in
    let is : slice_get places c.loop-i.i ≡ Some c.place.result = place-read g.T.Placed.place_of c.args.parts.now c.loop-i.i c.index-parts-i.result c.place.result (omega arith) c.index-parts-i.is c.place.ensures.place in
    fault-first places c.args.refs.now c.args.first c.args.code c.loop-i.i c.place.result c.circle_fault-fault.result is c.circle_fault-fault.ensures c.loop-i.best
    (c.in_ok-comes_back.ensures.exact.0 c.if-not-branch.false) (sym c.comes_first.ensures.first ∙ c.if-not-comes_first.false) c.loop-i.invariant

pub returns : goal.returns
returns g c =
    let places = map g.T.Placed.place_of c.args.parts.now in
    let all : c.loop-i.i ≡ length c.args.parts.now = omega arith in
    record { least = all-back places c.args.refs.now c.args.first c.args.code c.loop-i.i (simp length-map all) c.loop-i.best c.loop-i.invariant }
