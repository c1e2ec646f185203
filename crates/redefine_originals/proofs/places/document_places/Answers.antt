use Rattle.std.proofs.Common.{◌==◌, arith}
use Rattle.schema_shape.specs.declared.forms.Shape.{Shape}
use Rattle.redefine_originals.specs.inside.Places.{place_found}
use Rattle.redefine_originals.proofs.PlaceLaws.{position-more}
use Rattle.redefine_originals.proofs.places.document_places.Goals as goal

pub loop-shape-preserved : goal.loop-shape-preserved
loop-shape-preserved c =
    let inv = c.loop-shape.invariant in
    record {
      at = omega (arith, inv.at);
      have = λ item.
          position-more (λ (s : Shape). s.item == item) c.args.place c.args.shapes.now c.loop-shape.shape-index c.shape-item.result c.loop-shape.at
          (place_found c.loop-shape.places item) (place_found c.note.new.self item) c.loop-shape-test.true c.shape-item.is inv.at (c.in_ok-note.ensures item) (inv.have item);
    }
