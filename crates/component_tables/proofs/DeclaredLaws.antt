-- The types of element declarations are there.
use Rattle.std.proofs.Common.{◌≡◌, ℕ, zero, suc, ◌<◌, Option, None, Some, slice_get, slice_index, refl, sym, subst, arith}
use Rattle.std.specs.Prelude.{IfSome}
use Rattle.xs_components.specs.Tables.{Tables}
use Rattle.xs_components.specs.declared.element.ElementDecl.{ElementDecl}
use Rattle.xs_components.specs.declared.common.TypeId.{TypeId}
use Rattle.component_references.specs.Heights.{IsType}
use Rattle.component_references.specs.Ranked.{IsRanked, IsBelow}
use Rattle.component_tables.specs.Types.{own_type, declared_type, type_of}
use Rattle.component_tables.proofs.TypeLaws.{type_of_is}

module _ (t : Tables) (ranked : IsRanked t) (types : (n : ℕ) (part : ElementDecl) → slice_get t.elements.parts n ≡ Some part → IfSome part.of (IsType t)) where
  abbrev AreBelow : ℕ → Type 0
  AreBelow n = (x : ℕ) → slice_index t.elements.ranks x < n → IsType t (type_of t x)

  given : (n rank : ℕ) → rank < suc n → AreBelow n → (of : Option TypeId) (head : Option ℕ) → IfSome of (IsType t) → IfSome head (IsBelow t.elements rank) → IsType t (own_type (type_of t) of head)
  given n rank l below (Some own) head there low = there
  given n rank l below None None there low = tt
  given n rank l below None (Some head) there low = let lower = low.lower in below head (omega arith)

  part-type : (n x : ℕ) → slice_index t.elements.ranks x < suc n → AreBelow n → (o : Option ElementDecl) → slice_get t.elements.parts x ≡ o → IsType t (declared_type (type_of t) o)
  part-type n x l below None e = tt
  part-type n x l below (Some part) e = given n (slice_index t.elements.ranks x) l below part.of part.head (types x part e) (ranked.elements x part e)

  type-below : (n : ℕ) → AreBelow n
  type-below zero x l = absurd (omega arith)
  type-below (suc n) x l = subst (IsType t) (sym (type_of_is t ranked x)) (part-type n x l (type-below n) (slice_get t.elements.parts x) refl)

  pub type-there : (x : ℕ) → IsType t (type_of t x)
  type-there x = type-below (suc (slice_index t.elements.ranks x)) x (omega arith)
