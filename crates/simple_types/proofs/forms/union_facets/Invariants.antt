use Rattle.std.proofs.Common.{◌≡◌, drop}
use Rattle.facets.specs.declared.known.Known.TheVariants.{Whole}
use Rattle.facets.specs.Making.{no_members}
use Rattle.simple_types.specs.Lookup.{looked_up}
use Rattle.simple_types.specs.Forms.{members_behind, known_of_members}
use Rattle.simple_types.proofs.forms.union_facets.Given as goal

abbrev pub invariant-loop-member : goal.invariant-loop-member
invariant-loop-member l = record {
  all : members_behind (looked_up l.table) l.union.all (drop l.member-index l.members) ≡ members_behind (looked_up l.table) no_members l.members;
  known : known_of_members (looked_up l.table) l.union.known (drop l.member-index l.members) ≡ known_of_members (looked_up l.table) Whole l.members;
}
