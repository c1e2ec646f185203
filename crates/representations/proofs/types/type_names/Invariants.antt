use Rattle.std.proofs.Common.{◌≡◌, drop, take}
use Rattle.std.specs.List.{flat_map}
use Rattle.xs_names.specs.Names.{Grown}
use Rattle.representations.specs.Named.{type_name, AreIn}
use Rattle.representations.specs.Forms.{members_table}
use Rattle.representations.specs.Lasting.{IsLasting}
use Rattle.representations.specs.Types.{type_names}
use Rattle.representations.proofs.types.type_names.Given as goal

abbrev pub invariant-loop-name : goal.invariant-loop-name
invariant-loop-name l = record {
  table : members_table l.naming (drop l.name-index l.referred) l.names ≡ members_table l.naming l.referred l.initial.names;
  of : IsLasting l.names (λ t. type_names t l.naming (take l.name-index l.referred)) l.found;
  named : AreIn l.names (flat_map type_name l.found);
  grown : Grown l.initial.names l.names;
}
