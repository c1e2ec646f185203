use Rattle.std.proofs.Common.{List, ap, refl, subst, length}
use Rattle.redefine_originals.specs.inside.Lists.{listed}
use Rattle.schema_shape.specs.declared.forms.Shape.{Shape}
use Rattle.redefine_originals.specs.inside.Places.{HasPlaces}
use Rattle.redefine_originals.proofs.PlaceLaws.{total-more, placed-more}
use Rattle.redefine_originals.proofs.places.SetPlaces.new.Goals as goal

pub loop-d-preserved : goal.loop-d-preserved
loop-d-preserved c =
    let set = c.args.set.now in
    let i = c.loop-d.d-index in
    let d = c.d-item.result in
    record {
      place = total-more set i d c.loop-d-test.true c.d-item.is c.loop-d.place (length c.as_slice-shapes.result.now) c.loop-d.invariant.place (ap length c.as_slice-shapes.ensures);
      placed = placed-more set i d c.loop-d-test.true c.d-item.is (listed c.loop-d.documents) (listed c.push.new.self) _ c.loop-d.place c.loop-d.invariant.place c.loop-d.invariant.placed refl
          (subst (λ (shapes : List Shape). HasPlaces c.loop-d.place shapes c.in_ok-places.places) c.as_slice-shapes.ensures c.in_ok-places.ensures) c.in_ok-push.ensures;
    }
