use Rattle.std.proofs.Common.{◌++◌, List, map, take}
use Rattle.std.specs.List.{AllZip}
use Rattle.schema_set.specs.declared.documents.SetDocument.{SetDocument}
use Rattle.schema_shape.specs.declared.forms.Shape.{Shape}
use Rattle.redefine_originals.specs.Originals.{IsOriginalPlace, shapes_of}
use Rattle.redefine_originals.proofs.originals.add_elements.Given as goal

abbrev pub invariant-loop-shape : goal.invariant-loop-shape
invariant-loop-shape l = (before : List (SetDocument × Shape)) → AllZip (IsOriginalPlace l.index.sources.available.now l.places.set.now) before l.initial.originals.items
    → AllZip (IsOriginalPlace l.index.sources.available.now l.places.set.now) (before ++ map (λ s. (l.document, s)) (take l.shape-index (shapes_of l.document))) l.originals.items
