-- The terms of two right readings are the same, but for the numbers of fixed values.
use Rattle.std.proofs.Common.{◌≡◌, ◌↔◌, inl, inr, ℕ, ◌+◌, Bool, true, false, List, Option, Some, length, slice_get, refl, ap, ◌∙◌}
use Rattle.std.proofs.lemmas.Bool.{false≢true}
use Rattle.xs_names.specs.Names.{NameTable}
use Rattle.xs_components.specs.Tables.{Tables}
use Rattle.xs_components.specs.declared.common.TypeId.{TypeId}
use Rattle.xs_components.specs.declared.element.ElementDecl.{ElementDecl}
use Rattle.particle_models.specs.declared.part.Bounds.{Bounds}
use Rattle.particle_restrict.specs.Terms.{KeepsProperties, TermsRestrict}
use Rattle.particle_restrict.specs.declared.terms.Space.{Space}
use Rattle.particle_restrict.specs.declared.terms.Term.{Term}
use Rattle.particle_restrict.specs.declared.terms.Term.TheVariants.{Element, Any}
use Rattle.derive_models.specs.Terms.{declaration_of, IsSpace, AreTerms}
use Rattle.derive_models.proofs.Numbered.{Keeps}
use Rattle.derive_models.proofs.StandingParts.{IsWild, Stands}
use Rattle.derive_models.proofs.ComparedLaws.{AreOfOneKind, elements as both_elements, spaces as both_spaces}

-- an element with its number of a fixed value by the one and by the other, or one wildcard
pub data AreAlike (t : Tables) (names : NameTable) (f g : List (Option ℕ)) : ℕ → Option Term → Option Term → Type 0 where
  elements : (n : ℕ) (part : ElementDecl) → AreAlike t names f g n (Some (Element (declaration_of t names f n part))) (Some (Element (declaration_of t names g n part)))
  spaces : (n : ℕ) (space : Space) → AreAlike t names f g n (Some (Any space)) (Some (Any space))

truth-same : (x y : Bool) (P : Type 0) → (x ≡ true) ↔ P → (y ≡ true) ↔ P → x ≡ y
truth-same true true P p q = refl
truth-same true false P p q = absurd (false≢true (q.1 (p.0 refl)))
truth-same false true P p q = absurd (false≢true (p.1 (q.0 refl)))
truth-same false false P p q = refl

module _ (t : Tables) (names : NameTable) (f g : List (Option ℕ)) where
  pub turned : (n : ℕ) (a b : Option Term) → AreAlike t names f g n a b → AreAlike t names g f n b a
  turned _ _ _ (elements n part) = elements n part
  turned _ _ _ (spaces n space) = spaces n space

  pub kind-same : (n : ℕ) (a b : Option Term) → AreAlike t names f g n a b → AreOfOneKind a b
  kind-same _ _ _ (elements n part) = both_elements (declaration_of t names f n part) (declaration_of t names g n part)
  kind-same _ _ _ (spaces n space) = both_spaces space space

  module _ (keeps : (element base : ℕ) → Keeps f element base → Keeps g element base) where
    properties-too : (n : ℕ) (own : ElementDecl) (m : ℕ) (base : ElementDecl) → KeepsProperties (declaration_of t names f n own) (declaration_of t names f m base) →
        KeepsProperties (declaration_of t names g n own) (declaration_of t names g m base)
    properties-too n own m base h = record { name = h.name; nillable = h.nillable; fixed = keeps n m h.fixed; constraints = h.constraints; blocks = h.blocks }

    pub terms-too : (derives : TypeId → TypeId → Bool) (bounds base_bounds : Bounds) (n : ℕ) (a b : Option Term) (m : ℕ) (c d : Option Term) → AreAlike t names f g n a b → AreAlike t names f g m c d →
        TermsRestrict derives bounds a base_bounds c → TermsRestrict derives bounds b base_bounds d
    terms-too derives bounds base_bounds _ _ _ _ _ _ (elements n own) (elements m base) h = record { properties = properties-too n own m base h.properties; range = h.range; of = h.of }
    terms-too derives bounds base_bounds _ _ _ _ _ _ (elements n own) (spaces m space) h = record { admitted = h.admitted; range = h.range }
    terms-too derives bounds base_bounds _ _ _ _ _ _ (spaces n space) (elements m base) h = h
    terms-too derives bounds base_bounds _ _ _ _ _ _ (spaces n space) (spaces m base) h = h

  module _ (xs ys : List Term) (one : AreTerms t names f xs) (other : AreTerms t names g ys) where
    alike-by : (n : ℕ) (a b c d : Option Term) → a ≡ c → b ≡ d → AreAlike t names f g n c d → AreAlike t names f g n a b
    alike-by n a b c d p q h = rw (p, q) h

    space-same : (n : ℕ) → IsWild t n → AreAlike t names f g n (slice_get xs n) (slice_get ys n)
    space-same n w =
        let first : IsSpace t w.particle w.wildcard (slice_get xs (length t.elements.parts + w.particle)) = one.wildcards w.particle w.part w.wildcard w.is w.any in
        let second : IsSpace t w.particle w.wildcard (slice_get ys (length t.elements.parts + w.particle)) = other.wildcards w.particle w.part w.wildcard w.is w.any in
        let of_one : Option Term = Some (Any record { wildcard = w.wildcard; of_any_type = first.0 }) in
        let flags : second.0 ≡ first.0 = truth-same second.0 first.0 _ second.1 first.1 in
        alike-by n (slice_get xs n) (slice_get ys n) of_one of_one
        (ap (slice_get xs) w.number ∙ first.2)
        (ap (slice_get ys) w.number ∙ (second.2 ∙ ap (λ (flag : Bool). Some (Any record { wildcard = w.wildcard; of_any_type = flag })) flags))
        (spaces n record { wildcard = w.wildcard; of_any_type = first.0 })

    pub alike : (n : ℕ) → Stands t n → AreAlike t names f g n (slice_get xs n) (slice_get ys n)
    alike n (inl e) =
        alike-by n (slice_get xs n) (slice_get ys n) (Some (Element (declaration_of t names f n e.part))) (Some (Element (declaration_of t names g n e.part)))
        (one.elements n e.part e.is) (other.elements n e.part e.is) (elements n e.part)
    alike n (inr w) = space-same n w
