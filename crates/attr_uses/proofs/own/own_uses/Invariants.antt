use Rattle.std.proofs.Common.{◌≡◌, take}
use Rattle.attr_uses.specs.Maps.{IsMapOf, KeepsMaps}
use Rattle.attr_uses.specs.Written.{places}
use Rattle.attr_uses.specs.Tables.{entry_for}
use Rattle.attr_uses.proofs.own.own_uses.Given as goal

abbrev pub invariant-loop-place : goal.invariant-loop-place
invariant-loop-place l = record {
  deep : l.maps.depth ≡ 32;
  keeps : KeepsMaps l.initial.maps l.maps;
  map : IsMapOf l.maps l.map.top (entry_for l.parts l.ids (places l.holder 0 (take l.place l.part-items)));
}
