-- What a component refers to is there, and lower.
use Rattle.std.proofs.Common.{◌≡◌, ℕ, ◌+◌, Some, slice_get, slice_index}
use Rattle.std.specs.Prelude.{All}
use Rattle.std.proofs.lemmas.List.Elements.{All-weaker}
use Rattle.xs_components.specs.Tables.{Tables}
use Rattle.xs_components.specs.declared.common.TypeId.{TypeId}
use Rattle.xs_components.specs.declared.common.TypeId.TheVariants.{Simple, Complex}
use Rattle.xs_components.specs.declared.simple.SimpleForm.{SimpleForm}
use Rattle.xs_components.specs.declared.simple.SimpleType.{SimpleType}
use Rattle.xs_components.specs.declared.complex.ComplexType.{ComplexType}
use Rattle.component_references.specs.Heights.{first_height, type_height, IsType, IsLower}
use Rattle.component_references.specs.Ranked.{named_types, IsRanked}

module _ (t : Tables) (ranked : IsRanked t) where
  -- what the simple type of a number names, where its form was read
  pub named-lower : (of : TypeId) (id : ℕ) (part : SimpleType) (form : SimpleForm) → of ≡ Simple id → slice_get t.simples.parts id ≡ Some part → part.form ≡ form → All (IsLower t (type_height t of)) (named_types form)
  named-lower of id part form this e f = rw this (rw f at (ranked.simples id part e))

  pub named-there : (n : ℕ) (part : SimpleType) → slice_get t.simples.parts n ≡ Some part → All (IsType t) (named_types part.form)
  named-there n part e =
      All-weaker (IsLower t (first_height + slice_index t.simples.ranks n)) (IsType t) (λ x low. low.there) (named_types part.form) (ranked.simples n part e)

  -- the base of the complex type of a number
  pub base-lower : (of : TypeId) (id : ℕ) (part : ComplexType) → of ≡ Complex id → slice_get t.complexes.parts id ≡ Some part → IsLower t (type_height t of) part.base
  base-lower of id part this e = rw this (ranked.complexes id part e)
