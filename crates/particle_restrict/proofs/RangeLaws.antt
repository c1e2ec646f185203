-- An element or a wildcard over one that may come any number of times, and the ranges of both.
use Rattle.std.proofs.Common.{◌≡◌, ◌↔◌, ◌&&◌, Bool, IsTrue, Option, None, Some, sym, subst, arith}
use Rattle.std.proofs.lemmas.Bool.{and_parts, and_from}
use Rattle.xs_components.specs.declared.common.TypeId.{TypeId}
use Rattle.particle_models.specs.declared.part.Bounds.{Bounds}
use Rattle.particle_restrict.specs.Occurrence.{IsRangeOk, any_number}
use Rattle.particle_restrict.specs.Terms.{TermRestricts, TermsRestrict}
use Rattle.particle_restrict.specs.declared.terms.Term.{Term}
use Rattle.particle_restrict.specs.declared.terms.Term.TheVariants.{Element, Any}

range-any : (bounds : Bounds) → IsRangeOk bounds.least bounds.most any_number
range-any bounds = record { not_less = omega arith; not_more = tt }

module _ (derives : TypeId → TypeId → Bool) (bounds base : Bounds) where
  both-ways : (a b : Term) → TermRestricts derives bounds a base b ↔ (TermRestricts derives bounds a any_number b × IsRangeOk bounds.least bounds.most base)
  both-ways (Element a) (Element b) = (
    (λ x. (record { properties = x.properties; range = range-any bounds; of = x.of }, x.range)),
    (λ p. record { properties = p.0.properties; range = p.1; of = p.0.of }),
  )
  both-ways (Element a) (Any b) = (
    (λ x. (record { admitted = x.admitted; range = range-any bounds }, x.range)),
    (λ p. record { admitted = p.0.admitted; range = p.1 }),
  )
  both-ways (Any a) (Element b) = ((λ x. absurd x), (λ p. absurd p.0))
  both-ways (Any a) (Any b) = (
    (λ x. (record { range = range-any bounds; subset = x.subset; process = x.process }, x.range)),
    (λ p. record { range = p.1; subset = p.0.subset; process = p.0.process }),
  )

  ranged : (a b : Option Term) → TermsRestrict derives bounds a base b ↔ (TermsRestrict derives bounds a any_number b × IsRangeOk bounds.least bounds.most base)
  ranged None b = ((λ x. absurd x), (λ p. absurd p.0))
  ranged (Some a) None = ((λ x. absurd x), (λ p. absurd p.0))
  ranged (Some a) (Some b) = both-ways a b

  -- the answer by both tests
  pub leaf-restricts : (a b : Option Term) (within ok restricts : Bool) → restricts ≡ (within && ok) → (IsTrue within ↔ TermsRestrict derives bounds a any_number b) →
      (IsTrue ok ↔ IsRangeOk bounds.least bounds.most base) → IsTrue restricts ↔ TermsRestrict derives bounds a base b
  leaf-restricts a b within ok restricts is by_terms by_range = (
    (λ h. let p = and_parts within ok (subst IsTrue is h) in (ranged a b).1 (by_terms.0 p.0, by_range.0 p.1)),
    (λ x. let p = (ranged a b).0 x in subst IsTrue (sym is) (and_from within ok (by_terms.1 p.0) (by_range.1 p.1))),
  )
