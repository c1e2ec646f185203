-- The heads of an element, one above another.
use Rattle.std.proofs.Common.{◌≡◌, ◌⊎◌, inl, inr, ℕ, ◌<◌, Option, None, Some, length, slice_get, slice_index, refl, sym, ◌∙◌, subst, ap, arith}
use Rattle.std.specs.Prelude.{IfSome}
use Rattle.std.specs.Option.{option_and_then}
use Rattle.std.proofs.lemmas.Option.{none-some, slice_get_within}
use Rattle.xs_components.specs.Tables.{Tables}
use Rattle.xs_components.specs.declared.element.ElementDecl.{ElementDecl}
use Rattle.component_references.specs.Ranked.{IsRanked, IsBelow}
use Rattle.element_declarations.specs.Groups.{head_of, HasHead, named, through, IsMember}

module _ (t : Tables) where
  -- an element is this one, or heads its group
  abbrev pub Remains : Option ℕ → ℕ → Type 0
  Remains None h = ⊥
  Remains (Some x) h = (x ≡ h) ⊎ HasHead t x h

  pub has-remains : (e h : ℕ) → HasHead t e h → Remains (head_of t e) h
  has-remains _ _ (named e h is) = subst (λ o. Remains o h) (sym is) (inl refl)
  has-remains _ _ (through e up h is has) = subst (λ o. Remains o h) (sym is) (inr has)

  pub remains-has : (e h : ℕ) (o : Option ℕ) → head_of t e ≡ o → Remains o h → HasHead t e h
  remains-has e h None is r = absurd r
  remains-has e h (Some x) is (inl same) = named e h (is ∙ ap Some same)
  remains-has e h (Some x) is (inr has) = through e x h is has

  named-there : (e h : ℕ) (o : Option ElementDecl) → slice_get t.elements.parts e ≡ o → option_and_then (λ part. part.head) o ≡ Some h → e < length t.elements.parts
  named-there e h None is some = absurd (none-some h some)
  named-there e h (Some part) is some = slice_get_within t.elements.parts e part is

  head-there : (e h : ℕ) → HasHead t e h → e < length t.elements.parts
  head-there _ _ (named e h is) = named-there e h (slice_get t.elements.parts e) refl is
  head-there _ _ (through e up h is has) = named-there e up (slice_get t.elements.parts e) refl is

pub head-is : (t : Tables) (e : ℕ) (part : ElementDecl) → slice_get t.elements.parts e ≡ Some part → head_of t e ≡ part.head
head-is t e part is = ap (option_and_then (λ part. part.head)) is

pub member-there : (t : Tables) (head e : ℕ) → IsMember t head e → e < length t.elements.parts
member-there t head e m = head-there t e head m.has_head

-- the heads of a head are heads
pub has-above : (t : Tables) (e up h : ℕ) → HasHead t e up → HasHead t up h → HasHead t e h
has-above t _ _ h (named e up is) has = through e up h is has
has-above t _ _ h (through e next up is below) has = through e next h is (has-above t next up h below has)

module _ (t : Tables) (ranked : IsRanked t) where
  part-below : (e h : ℕ) (o : Option ElementDecl) → slice_get t.elements.parts e ≡ o → option_and_then (λ part. part.head) o ≡ Some h → IsBelow t.elements (slice_index t.elements.ranks e) h
  part-below e h None is some = absurd (none-some h some)
  part-below e h (Some part) is some = subst (λ o. IfSome o (IsBelow t.elements (slice_index t.elements.ranks e))) some (ranked.elements e part is)

  pub named-below : (e h : ℕ) → head_of t e ≡ Some h → IsBelow t.elements (slice_index t.elements.ranks e) h
  named-below e h is = part-below e h (slice_get t.elements.parts e) refl is

  pub heads-fall : (e h : ℕ) → HasHead t e h → slice_index t.elements.ranks h < slice_index t.elements.ranks e
  heads-fall _ _ (named e h is) = (named-below e h is).lower
  heads-fall _ _ (through e up h is has) = let a = heads-fall up h has in let b = (named-below e up is).lower in omega (arith, a, b)

  pub heads-there : (e h : ℕ) → HasHead t e h → h < length t.elements.parts
  heads-there _ _ (named e h is) = (named-below e h is).there
  heads-there _ _ (through e up h is has) = heads-there up h has
