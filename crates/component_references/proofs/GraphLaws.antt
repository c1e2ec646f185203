-- Where whatever is referred to is there, every reference goes to a part that is there.
use Rattle.std.proofs.Common.{◌≡◌, ℕ, ◌+◌, ◌<◌, List, [], ◌∷◌, ◌++◌, Option, None, Some, length, map, slice_get, arith}
use Rattle.std.specs.Prelude.{All, IfSome}
use Rattle.std.proofs.lemmas.Option.{slice_get_within}
use Rattle.std.proofs.lemmas.List.Elements.{All-nil, All-cons, All-append, All-head, All-tail, All-map, All-weaker}
use Rattle.component_references.specs.NumberedCircles.{IsWithin}
use Rattle.xs_components.specs.Tables.{Tables}
use Rattle.xs_components.specs.declared.common.TypeId.{TypeId}
use Rattle.xs_components.specs.declared.common.TypeId.TheVariants.{AnyType, Builtin, Simple, Complex}
use Rattle.xs_components.specs.declared.particle.Particle.{Particle}
use Rattle.component_references.specs.Heights.{IsType}
use Rattle.component_references.specs.Ranked.{named_types, held_particles, named_group}
use Rattle.component_references.specs.References.{one_or_none, behind, type_number, type_numbers, type_references, element_references, attr_group_references, term_numbers, model_references, IsClosed}
use Rattle.component_references.proofs.RowLaws.{alone-within, both-within}

type-there : (t : Tables) (of : TypeId) → IsType t of → All (λ y. y < length t.simples.parts + length t.complexes.parts) (type_number (length t.simples.parts) of)
type-there t AnyType is = All-nil (λ y. y < length t.simples.parts + length t.complexes.parts)
type-there t (Builtin b) is = All-nil (λ y. y < length t.simples.parts + length t.complexes.parts)
type-there t (Simple id) is = All-cons (λ y. y < length t.simples.parts + length t.complexes.parts) id [] (omega arith) (All-nil (λ y. y < length t.simples.parts + length t.complexes.parts))
type-there t (Complex id) is =
    All-cons (λ y. y < length t.simples.parts + length t.complexes.parts) (length t.simples.parts + id) [] (omega arith) (All-nil (λ y. y < length t.simples.parts + length t.complexes.parts))

types-there : (t : Tables) (types : List TypeId) → All (IsType t) types → All (λ y. y < length t.simples.parts + length t.complexes.parts) (type_numbers (length t.simples.parts) types)
types-there t [] h = All-nil (λ y. y < length t.simples.parts + length t.complexes.parts)
types-there t (x ∷ xs) h =
    All-append (λ y. y < length t.simples.parts + length t.complexes.parts) (type_number (length t.simples.parts) x) (type_numbers (length t.simples.parts) xs)
    (type-there t x (All-head (IsType t) x xs h)) (types-there t xs (All-tail (IsType t) x xs h))

pub one-there : (n : ℕ) (o : Option ℕ) → IfSome o (λ x. x < n) → All (λ y. y < n) (one_or_none o)
one-there n None h = All-nil (λ y. y < n)
one-there n (Some x) h = All-cons (λ y. y < n) x [] h (All-nil (λ y. y < n))

-- numbers behind so many others
pub behind-there : (before n : ℕ) (xs : List ℕ) → All (λ x. x < n) xs → All (λ y. y < before + n) (behind before xs)
behind-there before n xs h = All-map (λ y. y < before + n) (λ x. before + x) xs (All-weaker (λ x. x < n) (λ x. before + x < before + n) (λ x low. omega (arith, low)) xs h)

-- the particles that a model group holds
pub held-there : (t : Tables) → IsClosed t → (n : ℕ) (part : Particle) → slice_get t.particles.parts n ≡ Some part → All (λ m. m < length t.particles.parts) (held_particles part.term)
held-there t closed n part e =
    let within = slice_get_within t.particles.parts n part e in
    All-weaker (λ m. m < n) (λ m. m < length t.particles.parts) (λ m low. omega (arith, low, within)) (held_particles part.term) (closed.particles n part e)

module _ (t : Tables) (closed : IsClosed t) where
  pub types-within : IsWithin (type_references t)
  types-within =
      both-within (λ part. type_numbers (length t.simples.parts) (named_types part.form)) t.simples.parts (λ part. type_number (length t.simples.parts) part.base) t.complexes.parts
      (λ n part e. types-there t (named_types part.form) (closed.simples n part e)) (λ n part e. type-there t part.base (closed.complexes n part e))

  pub elements-within : IsWithin (element_references t)
  elements-within = alone-within (λ part. one_or_none part.head) t.elements.parts (λ n part e. one-there (length t.elements.parts) part.head (closed.elements n part e))

  pub attr_groups-within : IsWithin (attr_group_references t)
  attr_groups-within = alone-within (λ part. part.groups) t.attr_groups.parts (λ n part e. closed.attr_groups n part e)

  groups-low : (n : ℕ) (o : Option ℕ) → IfSome o (λ x. x < length t.groups.parts) → All (λ y. y < length t.groups.parts + length t.particles.parts) (one_or_none o)
  groups-low n o h = All-weaker (λ y. y < length t.groups.parts) (λ y. y < length t.groups.parts + length t.particles.parts) (λ y low. omega (arith, low)) (one_or_none o) (one-there (length t.groups.parts) o h)

  pub models-within : IsWithin (model_references t)
  models-within =
      both-within (λ part. behind (length t.groups.parts) (one_or_none part.particle)) t.groups.parts (λ part. term_numbers (length t.groups.parts) part.term) t.particles.parts
      (λ n part e. behind-there (length t.groups.parts) (length t.particles.parts) (one_or_none part.particle) (one-there (length t.particles.parts) part.particle (closed.groups n part e)))
      (λ n part e. All-append (λ y. y < length t.groups.parts + length t.particles.parts) (one_or_none (named_group part.term)) (behind (length t.groups.parts) (held_particles part.term))
      (groups-low n (named_group part.term) (closed.to_groups n part e))
      (behind-there (length t.groups.parts) (length t.particles.parts) (held_particles part.term) (held-there t closed n part e)))
