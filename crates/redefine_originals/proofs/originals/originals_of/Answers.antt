use Rattle.std.proofs.Common.{map, take}
use Rattle.redefine_originals.specs.Originals.{IsOriginalPlace, elements, shapes_of}
use Rattle.redefine_originals.proofs.ElementLaws.{document-more}
use Rattle.redefine_originals.proofs.originals.originals_of.Goals as goal

pub loop-document-preserved : goal.loop-document-preserved
loop-document-preserved c =
    document-more (IsOriginalPlace c.args.index.now.sources.available.now c.args.places.now.set.now) (λ d. map (λ s. (d, s)) (shapes_of d)) c.args.places.now.set.now c.loop-document.document-index c.document-item.result
    c.loop-document-test.true c.document-item.is c.add_document.new.originals.items
    (c.in_ok-add_document.ensures (elements (take c.loop-document.document-index c.args.places.now.set.now)) c.loop-document.invariant)
