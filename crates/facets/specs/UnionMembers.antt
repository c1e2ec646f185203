-- The members of a union, laid out: Structures 3.14.1.
use Rattle.std.specs.Prelude.{List, map}
use Rattle.shared_lists.specs.Trees.{Group, Grouped}
use Rattle.facet_checks.specs.declared.list.FacetList.{FacetList}
use Rattle.facets.specs.declared.members.Gate.{Gate}
use Rattle.facets.specs.declared.members.Member.{Member}

-- the members of a union, those of its unions among them, and a gate for each of these unions
pub record Members : Type 0 where
  pub members : List Member
  pub gates : List Gate

abbrev pub gate_of : Group FacetList → Gate
gate_of group = record { from = group.from; to = group.to; list = group.label }

-- leaves are members, and a group of them is a union
abbrev pub members_of : Grouped Member FacetList → Members
members_of parts = record { members = parts.leaves; gates = map gate_of parts.groups }
