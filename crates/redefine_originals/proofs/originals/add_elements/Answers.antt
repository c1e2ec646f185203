use Rattle.std.proofs.Common.{rules, Option, subst}
use Rattle.redefine_originals.specs.Versions.{Child}
use Rattle.redefine_originals.specs.Originals.{IsOriginalPlace, IsChildPlace, shapes_of}
use Rattle.redefine_originals.proofs.ElementLaws.{one-more}
use Rattle.redefine_originals.proofs.originals.add_elements.Goals as goal

pub loop-shape-preserved : goal.loop-shape-preserved
loop-shape-preserved c =
    let available = c.args.index.now.sources.available.now in
    let set = c.args.places.now.set.now in
    let d = c.args.document.now in
    λ before h.
    one-more (IsOriginalPlace available set) (λ s. (d, s)) c.as_slice-shape-items.result.now (shapes_of d) c.as_slice-shape-items.ensures c.loop-shape.shape-index c.shape-item.result
    c.loop-shape-test.true c.shape-item.is before c.loop-shape.originals.items c.push.new.self.items c.in_ok-place.place (c.loop-shape.invariant before h)
    (subst (λ (child : Option Child). IsChildPlace available set d.target child c.in_ok-place.place) (c.requires.children c.shape-item.result.item) c.in_ok-place.ensures)
    (search rules)
