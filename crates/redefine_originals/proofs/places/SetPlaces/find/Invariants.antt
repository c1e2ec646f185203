use Rattle.std.proofs.Common.{◌≡◌, drop}
use Rattle.redefine_originals.specs.inside.Lists.{listed}
use Rattle.redefine_originals.specs.inside.Places.{found_in}
use Rattle.redefine_originals.proofs.places.SetPlaces.find.Given as goal

abbrev pub invariant-loop-d : goal.invariant-loop-d
invariant-loop-d l = found_in (drop l.d-index (listed l.fn.self.documents l.document)) l.target l.item ≡ found_in (listed l.fn.self.documents l.document) l.target l.item
