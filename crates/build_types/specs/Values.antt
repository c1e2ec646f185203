-- Value constraints by the values that are given.
use Rattle.std.specs.Prelude.{ℕ, Option}
use Rattle.std.specs.Option.{option_map}
use Rattle.xs_components.specs.declared.common.ValueConstraint.{ValueConstraint}
use Rattle.representations.specs.declared.parts.GivenValue.{GivenValue}
use Rattle.representations.specs.declared.source.Source.{Source}
use Rattle.build_types.specs.SimpleTypes.{scope_at}

-- a default or fixed value, read in the scope of its element (Structures 3.2.2, 3.3.2)
abbrev pub constraint_of : Source → ℕ → GivenValue → ValueConstraint
constraint_of source scope given = record { fixed = given.fixed; text = given.text; scope = scope_at source.scopes.now scope }

abbrev pub value_of : Source → ℕ → Option GivenValue → Option ValueConstraint
value_of source scope given = option_map (constraint_of source scope) given
