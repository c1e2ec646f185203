use Rattle.std.proofs.Common.{take}
use Rattle.std.specs.List.{AllZip}
use Rattle.redefine_originals.specs.Originals.{IsOriginalPlace, elements}
use Rattle.redefine_originals.proofs.originals.originals_of.Given as goal

abbrev pub invariant-loop-document : goal.invariant-loop-document
invariant-loop-document l = AllZip (IsOriginalPlace l.index.sources.available.now l.places.set.now) (elements (take l.document-index l.places.set.now)) l.originals.items
