use Rattle.std.proofs.Common.{◌≡◌, take}
use Rattle.attr_uses.specs.Maps.{KeepsMaps}
use Rattle.attr_uses.specs.Tables.{IsSetOf}
use Rattle.attr_uses.proofs.own.own_names.Given as goal

abbrev pub invariant-loop-name : goal.invariant-loop-name
invariant-loop-name l = record {
  deep : l.maps.depth ≡ 32;
  keeps : KeepsMaps l.initial.maps l.maps;
  set : IsSetOf l.maps l.map.top (take l.name-index l.names);
}
