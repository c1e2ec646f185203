-- Whether an element may stand for a head, by the methods that were found.
use Rattle.std.proofs.Common.{◌≡◌, ◌↔◌, ℕ, Bool, true, false, Some, slice_get, refl, sym, ◌∙◌, subst, ap}
use Rattle.std.specs.Prelude.{IfOk, IsTrue, if◌then◌else◌}
use Rattle.std.specs.Option.{option_and_then}
use Rattle.std.specs.declared.result.Result.{Result}
use Rattle.std.specs.declared.result.Result.TheVariants.{Ok, Err}
use Rattle.xs_components.specs.Tables.{Tables}
use Rattle.xs_components.specs.declared.common.Methods.{Methods}
use Rattle.xs_components.specs.declared.common.TypeId.{TypeId}
use Rattle.xs_components.specs.declared.common.TypeId.TheVariants.{AnyType, Builtin, Simple, Complex}
use Rattle.xs_components.specs.declared.element.ElementDecl.{ElementDecl}
use Rattle.component_tables.specs.Types.{type_of}
use Rattle.type_derivation.specs.Derives.{above, unless, builtin_base, simple_base}
use Rattle.type_derivation.specs.Chains.{Derives, same, by_base, by_member}
use Rattle.element_declarations.specs.Groups.{AreBlocked, MayStand, disallowed, element_blocks}

-- derivation asks for two methods alone
module _ (t : Tables) (a b : Methods) (ext : a.extension ≡ b.extension) (res : a.restriction ≡ b.restriction) where
  above-same : (x : TypeId) → above t a x ≡ above t b x
  above-same AnyType = refl
  above-same (Builtin x) = ap (λ r. unless r (builtin_base x)) res
  above-same (Simple id) = ap (λ r. option_and_then (λ part. unless r (simple_base part.form)) (slice_get t.simples.parts id)) res
  above-same (Complex id) = λ i. option_and_then (λ part. if part.by_extension then unless (ext i) part.base else unless (res i) part.base) (slice_get t.complexes.parts id)

  pub derives-same : (x y : TypeId) → Derives t a x y → Derives t b x y
  derives-same _ _ (same one) = same one
  derives-same _ _ (by_base x next y e d) = by_base x next y (sym (above-same x) ∙ e) (derives-same next y d)
  derives-same _ _ (by_member x member y s free c d) = by_member x member y s (sym res ∙ free) c (derives-same x member d)

bools-same : (a b : Bool) → (a ≡ true → b ≡ true) → (b ≡ true → a ≡ true) → a ≡ b
bools-same true b there back = sym (there refl)
bools-same false true there back = back refl
bools-same false false there back = refl

module _ (t : Tables) (head element : ℕ) where
  module _ (allowed : (disallowed t head).substitution ≡ false) (blocked : Methods) (blocks : AreBlocked t head element blocked) where
    -- with the methods that are blocked
    pub stands-if : Derives t blocked (type_of t element) (type_of t head) → MayStand t head element
    stands-if d = record { allowed = allowed; blocked = blocked; blocks = blocks; derives = d }

    pub only-if : MayStand t head element → Derives t blocked (type_of t element) (type_of t head)
    only-if m =
        let e = bools-same m.blocked.extension blocked.extension (λ x. blocks.extension.1 (m.blocks.extension.0 x)) (λ x. m.blocks.extension.1 (blocks.extension.0 x)) in
        let r = bools-same m.blocked.restriction blocked.restriction (λ x. blocks.restriction.1 (m.blocks.restriction.0 x)) (λ x. m.blocks.restriction.1 (blocks.restriction.0 x)) in
        derives-same t m.blocked blocked e r (type_of t element) (type_of t head) m.derives

    pub answered : {E : Type 0} (sub base : TypeId) → sub ≡ type_of t element → base ≡ type_of t head → (result : Result Bool E) →
        IfOk result (λ answer. IsTrue answer ↔ Derives t blocked sub base) → IfOk result (λ answer. IsTrue answer ↔ MayStand t head element)
    answered sub base es eb (Ok answer) iff = (
      (λ told. stands-if (subst (λ y. Derives t blocked (type_of t element) y) eb (subst (λ x. Derives t blocked x base) es (iff.0 told)))),
      (λ m. iff.1 (subst (λ x. Derives t blocked x base) (sym es) (subst (λ y. Derives t blocked (type_of t element) y) (sym eb) (only-if m)))),
    )
    answered sub base es eb (Err e) iff = tt

pub disallowed-is : (t : Tables) (head : ℕ) (part : ElementDecl) → slice_get t.elements.parts head ≡ Some part → disallowed t head ≡ part.blocks
disallowed-is t head part e = ap element_blocks e
