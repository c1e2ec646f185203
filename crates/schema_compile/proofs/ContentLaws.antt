-- The particles of contents are there.
use Rattle.std.proofs.Common.{◌≡◌, ℕ, ◌<◌, ◌+◌, zero, suc, Bool, true, false, List, [], ◌∷◌, Option, None, Some, length, refl, sym, subst, ◌∙◌, arith}
use Rattle.std.specs.Prelude.{IfSome, slice_get, slice_index}
use Rattle.std.proofs.lemmas.Option.{slice_get_within}
use Rattle.xs_components.specs.Tables.{Tables}
use Rattle.xs_components.specs.declared.common.Place.{Place}
use Rattle.xs_components.specs.declared.common.TypeId.{TypeId}
use Rattle.xs_components.specs.declared.common.TypeId.TheVariants.{AnyType, Builtin, Simple, Complex}
use Rattle.xs_components.specs.declared.complex.ComplexType.{ComplexType}
use Rattle.component_references.specs.Heights.{IsLower, first_height}
use Rattle.component_references.specs.Ranked.{IsRanked}
use Rattle.component_references.specs.References.{effective_of}
use Rattle.type_derivation.specs.Particles.{IsBaseContent, IsExtended, IsDerivedContent, goes_on, AreContentsSet}

-- a part that is there
pub slice-there : {X : Type 0} (xs : List X) (n : ℕ) → n < length xs → (x : X) × (slice_get xs n ≡ Some x)
slice-there [] n l = absurd (omega (arith, l))
slice-there (x ∷ xs) zero l = (x, refl)
slice-there (x ∷ xs) (suc n) l = slice-there xs n (omega (arith, l))

module _ (t : Tables) (ranked : IsRanked t) (set : AreContentsSet t) (effectives : (n : ℕ) (part : ComplexType) → slice_get t.complexes.parts n ≡ Some part → IfSome (effective_of part.content) (λ p. p < length t.particles.parts)) where
  abbrev IsThere : Option ℕ → Type 0
  IsThere content = IfSome content (λ p. p < length t.particles.parts)

  -- the content of each complex type of a lower rank
  abbrev AreThereBelow : ℕ → Type 0
  AreThereBelow rank = (n : ℕ) (content : Option ℕ) → n < length t.complexes.parts → slice_index t.complexes.ranks n < rank → slice_get t.contents n ≡ Some content → IsThere content

  base-there : (rank : ℕ) → AreThereBelow rank → (at : Place) (base : TypeId) (content : Option ℕ) → IsLower t (first_height + rank) base → IsBaseContent t at base content → IsThere content
  base-there rank below at AnyType content lower is =
      subst IsThere (sym is.2) (slice_get_within t.particles.parts is.0 _ is.1.2)
  base-there rank below at (Builtin kind) content lower is = subst IsThere (sym is) tt
  base-there rank below at (Simple id) content lower is = subst IsThere (sym is) tt
  base-there rank below at (Complex id) content lower is = below id content lower.there (omega (arith, lower.lower)) is

  extended-there : (at : Place) (base effective content : Option ℕ) → IsThere base → IsThere effective → IsExtended t at base effective content → IsThere content
  extended-there at None effective content b e is = subst IsThere (sym is) e
  extended-there at (Some base) None content b e is = subst IsThere (sym is) b
  extended-there at (Some base) (Some effective) content b e is = subst IsThere (sym is.2) (slice_get_within t.particles.parts is.0 _ is.1)

  derived-there : (rank : ℕ) → AreThereBelow rank → (on : Bool) (at : Place) (base : TypeId) (effective content : Option ℕ) → IsLower t (first_height + rank) base → IsThere effective
      → IsDerivedContent t on at base effective content → IsThere content
  derived-there rank below false at base effective content lower e is = subst IsThere (sym is) e
  derived-there rank below true at base effective content lower e is =
      extended-there at is.0 effective content (base-there rank below at base is.0 lower is.1) e is.2

  part-there : (rank n : ℕ) (part : ComplexType) (content : Option ℕ) → AreThereBelow rank → slice_index t.complexes.ranks n ≡ rank → slice_get t.complexes.parts n ≡ Some part
      → slice_get t.contents n ≡ Some content → IsThere content
  part-there rank n part content below r at is =
      let own = set n part at in
      let same : own.0 ≡ content = some-same own.0 content (sym own.1 ∙ is) in
      let lower = subst (λ k. IsLower t (first_height + k) part.base) r (ranked.complexes n part at) in
      subst IsThere same (derived-there rank below (goes_on part.by_extension part.content) part.at part.base (effective_of part.content) own.0 lower (effectives n part at) own.2)
    where
      some-same : (a b : Option ℕ) → Some a ≡ Some b → a ≡ b
      some-same a b e = cc

  all-below : (rank : ℕ) → AreThereBelow rank
  all-below zero n content l r is = absurd (omega (arith, r))
  all-below (suc rank) n content l r is =
      let at = slice-there t.complexes.parts n l in
      part-there (slice_index t.complexes.ranks n) n at.0 content (λ m other k s. all-below rank m other k (omega (arith, s, r))) refl at.1 is

  pub contents-there : (n p : ℕ) → slice_get t.contents n ≡ Some (Some p) → n < length t.complexes.parts → p < length t.particles.parts
  contents-there n p is l = all-below (suc (slice_index t.complexes.ranks n)) n (Some p) l (omega arith) is
