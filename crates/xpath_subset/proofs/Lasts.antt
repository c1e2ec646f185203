-- The last step of a path: to elements, or to attributes.
use Rattle.std.proofs.Common.{lit<, ◌≡◌, ℕ, ◌==◌, Bool, true, false, Option, None, Some, List, [], ◌∷◌, ◌++◌, refl, sym, ◌∙◌, subst, true≢false, arith}
use Rattle.std.specs.Prelude.{codes}
use Rattle.std.specs.Option.{MatchOption}
use Rattle.xpath_subset.specs.declared.reading.Kind.{Kind}
use Rattle.xpath_subset.specs.declared.reading.Kind.TheVariants.{Selector, Field}
use Rattle.xpath_subset.specs.Grammar.{WrittenTest, WrittenStep, itself, child, attribute, IsTest, IsElementStep, IsLastOfField}
use Rattle.xpath_subset.specs.inside.Gives.{IsAfter, LacksToken}
use Rattle.xpath_subset.specs.inside.Lasts.{IsLastOf, EndsAtElement, EndsAtAttribute}
use Rattle.xpath_subset.proofs.Pieces.{IsPlain}
use Rattle.xpath_subset.proofs.Plain.{IsApart, test_without, equal_outside, test_tight, element_plain, last_plain}
use Rattle.xpath_subset.proofs.Tests.{any_at, test_no_colons}
use Rattle.xpath_subset.proofs.Moves.{after_follows, follows_after}

-- a text begins with one byte
one_head : (text xs ys : List ℕ) (a b : ℕ) → text ≡ a ∷ xs → text ≡ b ∷ ys → a ≡ b
one_head text xs ys a b e f = cc

-- no name test begins with `@`
test_no_at : (more : List ℕ) (test : WrittenTest) → IsTest test (64 ∷ more) → ⊥
test_no_at more test reads = true≢false (sym (any_at (λ b. b == 64) [] 64 more refl) ∙ test_without (λ b. b == 64) (equal_outside 64 (lit< tt) refl) refl refl test (64 ∷ more) reads)

pub at_sign : (text end : List ℕ) → IsAfter (codes "@") text end → EndsAtAttribute IsLastOfField text end
at_sign text end after = record {
  axis = false;
  step = λ test is. after_follows (IsTest test) (codes "@") text end after is;
  test = by;
}
  where
    by : (step : WrittenStep) → IsLastOfField step text → (axis : Bool) × (test : WrittenTest) × (step ≡ attribute axis test) × IsTest test end
    by itself reads = absurd (let e : 64 ≡ 46 = one_head text _ _ 64 46 after.1 reads in omega (arith, e))
    by (child false test) reads = absurd (test_no_at after.0 test (subst (IsTest test) after.1 reads))
    by (child true test) reads = absurd (let e : 64 ≡ 99 = one_head text _ _ 64 99 after.1 reads.2 in omega (arith, e))
    by (attribute false test) reads = (false, test, refl, follows_after (IsTest test) (test_tight test) (codes "@") text end after reads)
    by (attribute true test) reads = absurd (let e : 64 ≡ 97 = one_head text _ _ 64 97 after.1 reads.2 in omega (arith, e))

pub at_axis : (text end : List ℕ) → IsAfter (codes "attribute::") text end → EndsAtAttribute IsLastOfField text end
at_axis text end after = record {
  axis = true;
  step = λ test is. after_follows (IsTest test) (codes "attribute::") text end after is;
  test = by;
}
  where
    by : (step : WrittenStep) → IsLastOfField step text → (axis : Bool) × (test : WrittenTest) × (step ≡ attribute axis test) × IsTest test end
    by itself reads = absurd (let e : 97 ≡ 46 = one_head text _ _ 97 46 after.1 reads in omega (arith, e))
    by (child false test) reads = absurd (test_no_colons (codes "attribute") after.0 refl test (subst (IsTest test) after.1 reads))
    by (child true test) reads = absurd (let e : 97 ≡ 99 = one_head text _ _ 97 99 after.1 reads.2 in omega (arith, e))
    by (attribute false test) reads = absurd (let e : 97 ≡ 64 = one_head text _ _ 97 64 after.1 reads.2 in omega (arith, e))
    by (attribute true test) reads = (true, test, refl, follows_after (IsTest test) (test_tight test) (codes "attribute::") text end after reads)

pub no_attribute : (text : List ℕ) → LacksToken (codes "@") text → LacksToken (codes "attribute::") text → EndsAtElement IsLastOfField text
no_attribute text sign axis itself reads = reads
no_attribute text sign axis (child a test) reads = reads
no_attribute text sign axis (attribute false test) reads = absurd (sign (reads.0 ++ reads.1) reads.2)
no_attribute text sign axis (attribute true test) reads = absurd (axis (reads.0 ++ reads.1) reads.2)

-- a step to elements is a last step of each kind
pub element_last : (kind : Kind) (text : List ℕ) (step : WrittenStep) → IsElementStep step text → IsLastOf kind step text
element_last Selector text step is = is
element_last Field text itself is = is
element_last Field text (child axis test) is = is
element_last Field text (attribute axis test) is = absurd is

pub kind_plain : (p : ℕ → Bool) → IsApart p → (kind : Kind) (step : WrittenStep) (text : List ℕ) → IsLastOf kind step text → IsPlain p text
kind_plain p apart Selector step text is = element_plain p apart step text is
kind_plain p apart Field step text is = last_plain p apart step text is

-- what follows either
pub after_axis : {X : Type 0} (f : X → List ℕ) (text : List ℕ) → LacksToken (codes "@") text → (r : Option X) → MatchOption r (LacksToken (codes "attribute::") text) (λ x. IsAfter (codes "attribute::") text (f x)) → MatchOption r (EndsAtElement IsLastOfField text) (λ x. EndsAtAttribute IsLastOfField text (f x))
after_axis f text sign None lacks = no_attribute text sign lacks
after_axis f text sign (Some x) after = at_axis text (f x) after
