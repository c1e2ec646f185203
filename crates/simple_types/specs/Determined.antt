-- What it is for each type to give a text one outcome.
use Rattle.std.specs.Prelude.{◌≡◌, ℕ, List, Result}
use Rattle.xs_codes.specs.declared.code.Code.{Code}
use Rattle.xs_components.specs.Tables.{Tables}
use Rattle.xs_components.specs.declared.common.TypeId.{TypeId}
use Rattle.simple_values.specs.declared.value.Value.{Value}
use Rattle.facets.specs.Trying.{Scope}
use Rattle.simple_types.specs.Trees.{type_tree}
use Rattle.simple_types.specs.SimpleTypes.{IsValueOf}

-- simple validity (Structures 3.14.4) by a type of these components has one outcome
abbrev pub HasOneOutcomeEach : Tables → Type 0
HasOneOutcomeEach t =
    (of : TypeId) (scope : Scope) (text : List ℕ) (x y : Result Value Code) → IsValueOf (type_tree t of) scope text x → IsValueOf (type_tree t of) scope text y → x ≡ y
