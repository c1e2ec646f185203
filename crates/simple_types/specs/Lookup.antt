-- What is in force for the types that others are made of.
use Rattle.std.specs.Prelude.{ℕ, List, Option, None, Some, slice_get}
use Rattle.xs_codes.specs.declared.builtin.Builtin.TheVariants.{AnySimpleType}
use Rattle.xs_components.specs.declared.common.TypeId.{TypeId}
use Rattle.xs_components.specs.declared.common.TypeId.TheVariants as types
use Rattle.facets.specs.declared.known.Known.TheVariants.{Whole, Neither}
use Rattle.facets.specs.Source.{of_builtin}
use Rattle.simple_types.specs.declared.judged.TypeFacets.{TypeFacets}
use Rattle.simple_types.specs.declared.judged.JudgedType.{JudgedType}

-- a type of which nothing is known
abbrev pub unknown : TypeFacets
unknown = record { facets = of_builtin AnySimpleType; known = Neither }

abbrev pub entry_of : Option JudgedType → TypeFacets
entry_of None = unknown
entry_of (Some judged) = judged.of

abbrev pub entry_at : List JudgedType → ℕ → TypeFacets
entry_at table number = entry_of (slice_get table number)

-- a built-in type, or one of the tables that is judged
abbrev pub looked_up : List JudgedType → TypeId → TypeFacets
looked_up table types.AnyType = unknown
looked_up table (types.Builtin kind) = record { facets = of_builtin kind; known = Whole }
looked_up table (types.Simple id) = entry_at table id
looked_up table (types.Complex id) = unknown

-- a type with simple content too
abbrev pub content_of : List JudgedType → List JudgedType → TypeId → TypeFacets
content_of simples complexes (types.Complex id) = entry_at complexes id
content_of simples complexes of = looked_up simples of
