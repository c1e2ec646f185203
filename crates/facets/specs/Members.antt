-- What the literals of a type are: Structures 3.14.1, Datatypes 2.5.
use Rattle.std.specs.Prelude.{ℕ, ◌+◌, List, map}
use Rattle.xs_codes.specs.declared.builtin.Builtin.{Builtin}
use Rattle.xs_codes.specs.declared.builtin.Builtin.TheVariants.{AnySimpleType}
use Rattle.facet_rules.specs.declared.applicable.Family.{Family}
use Rattle.facet_rules.specs.declared.applicable.Family.TheVariants.{Measured, Unions}
use Rattle.facets.specs.declared.members.Gate.{Gate}
use Rattle.facets.specs.declared.members.Literals.TheVariants.{OfBuiltin, OfList}
use Rattle.facets.specs.declared.members.Source.{Source}
use Rattle.facets.specs.declared.members.Source.TheVariants as sources
use Rattle.facet_rules.specs.Applicable.{family_of}

-- the family of a type: that of the built-in type, of lists, or of unions
abbrev pub family_of_source : Source → Family
family_of_source (sources.Literals (OfBuiltin kind)) = family_of kind
family_of_source (sources.Literals (OfList items)) = Measured
family_of_source (sources.Union members) = Unions

-- the built-in type by which bounds are read; no bound fits a list or a union
abbrev pub builtin_of_source : Source → Builtin
builtin_of_source (sources.Literals (OfBuiltin kind)) = kind
builtin_of_source (sources.Literals (OfList items)) = AnySimpleType
builtin_of_source (sources.Union members) = AnySimpleType

-- the gate of members that stand so much further behind
abbrev pub moved_gate : ℕ → Gate → Gate
moved_gate by gate = record gate { from = by + gate.from; to = by + gate.to }

abbrev pub moved_on : ℕ → List Gate → List Gate
moved_on by gates = map (moved_gate by) gates
