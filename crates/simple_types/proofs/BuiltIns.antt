-- What a literal of a built-in type comes to by its facets is simple validity by that type.
use Rattle.std.proofs.Common.{◌≡◌, ℕ, List, refl, sym, subst, ◌∙◌}
use Rattle.std.specs.Prelude.{Result}
use Rattle.xs_codes.specs.declared.builtin.Builtin.{Builtin}
use Rattle.xs_codes.specs.declared.code.Code.{Code}
use Rattle.xs_components.specs.Tables.{Tables}
use Rattle.xs_components.specs.declared.common.TypeId.TheVariants as types
use Rattle.simple_values.specs.declared.value.Value.{Value}
use Rattle.component_references.specs.Ranked.{IsRanked}
use Rattle.facets.specs.Literal.{IsBuiltinRead}
use Rattle.facets.specs.Source.{of_builtin}
use Rattle.facets.specs.Trying.{Scope}
use Rattle.simple_types.specs.Trees.{type_tree}
use Rattle.simple_types.specs.SimpleTypes.{IsValueOf}
use Rattle.simple_types.proofs.TreeLaws.{simple_tree_is, type_tree_is}

pub built_in_value : (t : Tables) → IsRanked t → (kind : Builtin) (scope : Scope) (text : List ℕ) (outcome : Result Value Code) → IsBuiltinRead kind scope text outcome
    → IsValueOf (type_tree t (types.Builtin kind)) scope text outcome
built_in_value t ranked kind scope text outcome read =
    subst (λ tree. IsValueOf tree scope text outcome) (sym (type_tree_is t ranked (types.Builtin kind) ∙ simple_tree_is t ranked (types.Builtin kind)))
    (read.0, (of_builtin kind, (refl, refl), read.1), read.2)
