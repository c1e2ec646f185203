-- The simple types of a schema set: the first fault among them, and validity by each.
use Rattle.std.specs.Prelude.{◌≡◌, ℕ, List, [], ◌∷◌, Option, None, Some, Result, Ok, Err}
use Rattle.xs_codes.specs.declared.code.Code.{Code}
use Rattle.xs_codes.specs.declared.fault.Fault.{Fault}
use Rattle.xs_components.specs.Tables.{Tables}
use Rattle.xs_components.specs.declared.common.TypeId.{TypeId}
use Rattle.simple_values.specs.declared.value.Value.{Value}
use Rattle.facet_rules.specs.First.{sooner}
use Rattle.facets.specs.declared.atomic.Accepted.{Accepted}
use Rattle.facets.specs.declared.known.Known.TheVariants.{Whole}
pub use Rattle.facets.specs.Literal.{value_of}
use Rattle.facets.specs.Trying.{Scope}
use Rattle.simple_types.specs.TypeTree.{TypeTree, not_simple, built_in, restriction, list_type, union_type, MemberTrees, no_member, member}
use Rattle.simple_types.specs.Trees.{type_tree}
use Rattle.simple_types.specs.SimpleValidity.{IsValid}
use Rattle.simple_types.specs.declared.judged.JudgedType.{JudgedType}
use Rattle.simple_types.specs.declared.types.SimpleTypes.{SimpleTypes}
use Rattle.simple_types.specs.Lookup.{content_of}
use Rattle.simple_types.specs.Judging.{AreSimplesJudged, AreContentsJudged}

-- each type is judged by those of lower rank
pub record AreTypesOf (t : Tables) (types : SimpleTypes) : Type 0 where
  pub simples : AreSimplesJudged t types.simples
  pub complexes : AreContentsJudged t types.simples types.complexes

abbrev pub sooner_if : Option Fault → Option Fault → Option Fault
sooner_if best None = best
sooner_if best (Some fault) = sooner best fault

-- the first of the faults of these types, and of one that is known
abbrev pub first_of : Option Fault → List JudgedType → Option Fault
first_of best [] = best
first_of best (judged ∷ types) = first_of (sooner_if best judged.fault) types

abbrev pub first_fault_of : SimpleTypes → Option Fault
first_fault_of types = first_of (first_of None types.simples) types.complexes

-- the literals of the type are known
abbrev pub IsWhole : SimpleTypes → TypeId → Type 0
IsWhole types of = (content_of types.simples types.complexes of).known ≡ Whole

abbrev mutual
  -- all that the type is made of is simple
  pub IsSimpleTree : TypeTree → Type 0
  IsSimpleTree not_simple = ⊥
  IsSimpleTree (built_in kind) = Unit {0}
  IsSimpleTree (restriction base step) = IsSimpleTree base
  IsSimpleTree (list_type item) = IsSimpleTree item
  IsSimpleTree (union_type members) = AreSimpleTrees members

  pub AreSimpleTrees : MemberTrees → Type 0
  AreSimpleTrees no_member = Unit {0}
  AreSimpleTrees (member first rest) = IsSimpleTree first × AreSimpleTrees rest

-- the literals of every type that is simple, and of all simple content, are known
abbrev pub AreWhole : Tables → SimpleTypes → Type 0
AreWhole t types = (of : TypeId) → IsSimpleTree (type_tree t of) → IsWhole types of

-- the types, unless some is at fault; then the first fault by document, item and place of the code
abbrev pub IsBuilt : Tables → Result SimpleTypes Fault → Type 0
IsBuilt t (Ok types) = AreTypesOf t types × (first_fault_of types ≡ None) × AreWhole t types
IsBuilt t (Err fault) = (types : SimpleTypes) × AreTypesOf t types × (first_fault_of types ≡ Some fault)

-- 3.14.4: the value of a text, or the first code
abbrev pub IsValueOf : TypeTree → Scope → List ℕ → Result Value Code → Type 0
IsValueOf tree scope text outcome = (answer : Result Accepted Code) × IsValid tree scope text answer × (outcome ≡ value_of answer)
