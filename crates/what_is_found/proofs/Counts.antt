-- Counts of child elements with codes and without.
use Rattle.std.proofs.Common.{◌≡◌, inl, inr, ◌⊎◌, ℕ, suc, ◌==◌, ◌||◌, Bool, true, false, List, [], ◌∷◌, refl, sym, ap, ◌∙◌, arith, true≢false}
use Rattle.std.specs.Prelude.{not}
use Rattle.std.proofs.lemmas.Bool.{ne_eqb, or_left, or_right}
use Rattle.xs_codes.specs.declared.fault.Found.{Found}
use Rattle.assess_records.specs.Counts.{with_validity, with_attempted, with_child, counts_of}
use Rattle.assess_records.specs.declared.outcome.Validity.{Validity}
use Rattle.assess_records.specs.declared.outcome.Validity.TheVariants.{Valid, Invalid, NotKnown}
use Rattle.assess_records.specs.declared.outcome.Attempted.{Attempted}
use Rattle.assess_records.specs.declared.outcome.Attempted.TheVariants.{Full, Partial, Untried}
use Rattle.assess_records.specs.declared.counts.ChildCounts.{ChildCounts}
use Rattle.elem_codes.specs.Facts.{has_children}
use Rattle.elem_codes.specs.Records.{is_invalid}
use Rattle.assessment.specs.Assessment.{Assessed, nothing, entry, sibling_records}
use Rattle.what_is_found.specs.Identity.{validity_again, has_invalid, with_all}

suc-no : (n : ℕ) → (suc n == 0) ≡ false
suc-no n = ne_eqb (suc n) 0 (λ (e : suc n ≡ 0). omega (arith, e))

some : (n : ℕ) → not (suc n == 0) ≡ true
some n = ap not (suc-no n)

or-end : (b : Bool) → (b || true) ≡ true
or-end true = refl
or-end false = refl

first-there : (n : ℕ) (b : Bool) → (not (suc n == 0) || b) ≡ true
first-there n b = ap (λ (x : Bool). x || b) (some n)

second-there : (a : Bool) (n : ℕ) (b : Bool) → (a || (not (suc n == 0) || b)) ≡ true
second-there a n b = ap (λ (x : Bool). a || x) (first-there n b) ∙ or-end a

third-there : (a b : Bool) (n : ℕ) → (a || (b || not (suc n == 0))) ≡ true
third-there a b n = ap (λ (x : Bool). a || (b || x)) (some n) ∙ (ap (λ (x : Bool). a || x) (or-end b) ∙ or-end a)

-- with one child element there are child elements
child-there : (v : Validity) (a : Attempted) (c : ChildCounts) → has_children (with_child v a c) ≡ true
child-there Valid Full c = first-there c.valid (not (c.invalid == 0) || not (c.not_known == 0))
child-there Valid Partial c = first-there c.valid (not (c.invalid == 0) || not (c.not_known == 0))
child-there Valid Untried c = first-there c.valid (not (c.invalid == 0) || not (c.not_known == 0))
child-there Invalid Full c = second-there (not (c.valid == 0)) c.invalid (not (c.not_known == 0))
child-there Invalid Partial c = second-there (not (c.valid == 0)) c.invalid (not (c.not_known == 0))
child-there Invalid Untried c = second-there (not (c.valid == 0)) c.invalid (not (c.not_known == 0))
child-there NotKnown Full c = third-there (not (c.valid == 0)) (not (c.invalid == 0)) c.not_known
child-there NotKnown Partial c = third-there (not (c.valid == 0)) (not (c.invalid == 0)) c.not_known
child-there NotKnown Untried c = third-there (not (c.valid == 0)) (not (c.invalid == 0)) c.not_known

-- as many child elements were assessed in full, in part and not at all
pub record IsTriedAlike (c d : ChildCounts) : Type 0 where
  pub full : c.full ≡ d.full
  pub partial : c.partial ≡ d.partial
  pub untried : c.untried ≡ d.untried

validity-kept : (v w : Validity) (c d : ChildCounts) → IsTriedAlike c d → IsTriedAlike (with_validity v c) (with_validity w d)
validity-kept Valid Valid c d e = record { full = e.full; partial = e.partial; untried = e.untried }
validity-kept Valid Invalid c d e = record { full = e.full; partial = e.partial; untried = e.untried }
validity-kept Valid NotKnown c d e = record { full = e.full; partial = e.partial; untried = e.untried }
validity-kept Invalid Valid c d e = record { full = e.full; partial = e.partial; untried = e.untried }
validity-kept Invalid Invalid c d e = record { full = e.full; partial = e.partial; untried = e.untried }
validity-kept Invalid NotKnown c d e = record { full = e.full; partial = e.partial; untried = e.untried }
validity-kept NotKnown Valid c d e = record { full = e.full; partial = e.partial; untried = e.untried }
validity-kept NotKnown Invalid c d e = record { full = e.full; partial = e.partial; untried = e.untried }
validity-kept NotKnown NotKnown c d e = record { full = e.full; partial = e.partial; untried = e.untried }

attempt-added : (a : Attempted) (c d : ChildCounts) → IsTriedAlike c d → IsTriedAlike (with_attempted a c) (with_attempted a d)
attempt-added Full c d e = record { full = ap suc e.full; partial = e.partial; untried = e.untried }
attempt-added Partial c d e = record { full = e.full; partial = ap suc e.partial; untried = e.untried }
attempt-added Untried c d e = record { full = e.full; partial = e.partial; untried = ap suc e.untried }

-- one child element more is counted among the invalid where it is
invalid-one : (v : Validity) (a : Attempted) (c : ChildCounts) → not ((with_child v a c).invalid == 0) ≡ (is_invalid v || not (c.invalid == 0))
invalid-one Valid Full c = refl
invalid-one Valid Partial c = refl
invalid-one Valid Untried c = refl
invalid-one Invalid Full c = some c.invalid
invalid-one Invalid Partial c = some c.invalid
invalid-one Invalid Untried c = some c.invalid
invalid-one NotKnown Full c = refl
invalid-one NotKnown Partial c = refl
invalid-one NotKnown Untried c = refl

-- some child element is counted among the invalid where one is invalid
pub invalid-counted : (f : Assessed) → not ((counts_of (sibling_records f)).invalid == 0) ≡ has_invalid f
invalid-counted nothing = refl
invalid-counted (entry own below next) =
    invalid-one own.element.validity own.element.attempted (counts_of (sibling_records next))
    ∙ ap (λ (b : Bool). is_invalid own.element.validity || b) (invalid-counted next)

still-invalid : (codes : List Found) (below : Bool) (v : Validity) → is_invalid v ≡ true → is_invalid (validity_again codes below v) ≡ true
still-invalid (code ∷ codes) below v e = refl
still-invalid [] below Valid e = absurd (true≢false (sym e))
still-invalid [] below Invalid e = refl
still-invalid [] below NotKnown e = absurd (true≢false (sym e))

or-cases : (a b : Bool) → (a || b) ≡ true → (a ≡ true) ⊎ (b ≡ true)
or-cases true b e = inl refl
or-cases false b e = inr e

module _ (codes : ℕ → List Found) where
  -- what is invalid stays so
  pub invalid-stays : (f : Assessed) → has_invalid f ≡ true → has_invalid (with_all codes f) ≡ true
  invalid-stays nothing e = e
  invalid-stays (entry own below next) e =
      elim (or-cases (is_invalid own.element.validity) (has_invalid next) e) [
        | inl here ↦ or_left (is_invalid (validity_again (codes own.number) (has_invalid (with_all codes below)) own.element.validity)) (has_invalid (with_all codes next))
            (still-invalid (codes own.number) (has_invalid (with_all codes below)) own.element.validity here)
        | inr later ↦ or_right (is_invalid (validity_again (codes own.number) (has_invalid (with_all codes below)) own.element.validity)) (has_invalid (with_all codes next))
            (invalid-stays next later)
      ]

  pub tried-stays : (f : Assessed) → IsTriedAlike (counts_of (sibling_records (with_all codes f))) (counts_of (sibling_records f))
  tried-stays nothing = record { full = refl; partial = refl; untried = refl }
  tried-stays (entry own below next) =
      attempt-added own.element.attempted
      (with_validity (validity_again (codes own.number) (has_invalid (with_all codes below)) own.element.validity) (counts_of (sibling_records (with_all codes next))))
      (with_validity own.element.validity (counts_of (sibling_records next)))
      (validity-kept (validity_again (codes own.number) (has_invalid (with_all codes below)) own.element.validity) own.element.validity
      (counts_of (sibling_records (with_all codes next))) (counts_of (sibling_records next)) (tried-stays next))

  pub children-stay : (f : Assessed) → has_children (counts_of (sibling_records (with_all codes f))) ≡ has_children (counts_of (sibling_records f))
  children-stay nothing = refl
  children-stay (entry own below next) =
      child-there (validity_again (codes own.number) (has_invalid (with_all codes below)) own.element.validity) own.element.attempted (counts_of (sibling_records (with_all codes next)))
      ∙ sym (child-there own.element.validity own.element.attempted (counts_of (sibling_records next)))
