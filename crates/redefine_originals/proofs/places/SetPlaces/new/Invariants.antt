use Rattle.std.proofs.Common.{◌≡◌, take}
use Rattle.redefine_originals.specs.inside.Lists.{listed}
use Rattle.redefine_originals.specs.inside.Places.{total, ArePlaced}
use Rattle.redefine_originals.proofs.places.SetPlaces.new.Given as goal

abbrev pub invariant-loop-d : goal.invariant-loop-d
invariant-loop-d l = record {
  place : l.place ≡ total (take l.d-index l.set);
  placed : ArePlaced (take l.d-index l.set) (listed l.documents);
}
