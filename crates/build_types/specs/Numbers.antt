-- The numbers of types: simple types are numbered in the order of their representations, and complex types likewise.
use Rattle.std.specs.Prelude.{ℕ, ◌+◌, List, [], ◌∷◌}
use Rattle.xs_components.specs.declared.common.TypeId.{TypeId}
use Rattle.xs_components.specs.declared.common.TypeId.TheVariants as types
use Rattle.representations.specs.declared.parts.Represented.{Represented}
use Rattle.representations.specs.declared.parts.Represented.TheVariants as forms
use Rattle.representations.specs.declared.parts.Representation.{Representation}

-- what is represented is a type, where so many simple and complex types stand before; else anyType stands for it
abbrev pub type_id : ℕ → ℕ → Represented → TypeId
type_id simples complexes (forms.SimpleType name finals) = types.Simple simples
type_id simples complexes (forms.ComplexType head) = types.Complex complexes
type_id simples complexes _ = types.AnyType

abbrev pub simples_in : Represented → ℕ
simples_in (forms.SimpleType name finals) = 1
simples_in _ = 0

abbrev pub complexes_in : Represented → ℕ
complexes_in (forms.ComplexType head) = 1
complexes_in _ = 0

-- the type at each place
abbrev pub type_ids : ℕ → ℕ → List Representation → List TypeId
type_ids simples complexes [] = []
type_ids simples complexes (rep ∷ reps) =
    type_id simples complexes rep.form ∷ type_ids (simples + simples_in rep.form) (complexes + complexes_in rep.form) reps
