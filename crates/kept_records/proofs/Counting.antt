-- The counts of child elements, as one of them comes, goes or is found to be another.
use Rattle.std.proofs.Common.{◌≡◌, ℕ, zero, suc, List, [], ◌∷◌, map, Option, Some, refl, sym, ap, ◌∙◌}
use Rattle.std.specs.Prelude.{slice_get, insert, remove}
use Rattle.std.proofs.lemmas.Option.{same_Some, none-some}
use Rattle.assess_records.specs.Counts.{with_validity, with_attempted, with_child, counts_of}
use Rattle.assess_records.specs.declared.counts.ChildCounts.{ChildCounts}
use Rattle.assess_records.specs.declared.outcome.Attempted.{Attempted}
use Rattle.assess_records.specs.declared.outcome.Attempted.TheVariants.{Full, Partial, Untried}
use Rattle.assess_records.specs.declared.outcome.Validity.{Validity}
use Rattle.assess_records.specs.declared.outcome.Validity.TheVariants.{Valid, Invalid, NotKnown}
use Rattle.assess_records.specs.declared.record.ElementRecord.{ElementRecord}

-- ---- two child elements are counted in either order

swap-validity : (v w : Validity) (k : ChildCounts) → with_validity v (with_validity w k) ≡ with_validity w (with_validity v k)
swap-validity Valid Valid k = refl
swap-validity Valid Invalid k = refl
swap-validity Valid NotKnown k = refl
swap-validity Invalid Valid k = refl
swap-validity Invalid Invalid k = refl
swap-validity Invalid NotKnown k = refl
swap-validity NotKnown Valid k = refl
swap-validity NotKnown Invalid k = refl
swap-validity NotKnown NotKnown k = refl

swap-attempted : (a b : Attempted) (k : ChildCounts) → with_attempted a (with_attempted b k) ≡ with_attempted b (with_attempted a k)
swap-attempted Full Full k = refl
swap-attempted Full Partial k = refl
swap-attempted Full Untried k = refl
swap-attempted Partial Full k = refl
swap-attempted Partial Partial k = refl
swap-attempted Partial Untried k = refl
swap-attempted Untried Full k = refl
swap-attempted Untried Partial k = refl
swap-attempted Untried Untried k = refl

swap-kinds : (v : Validity) (a : Attempted) (k : ChildCounts) → with_validity v (with_attempted a k) ≡ with_attempted a (with_validity v k)
swap-kinds Valid Full k = refl
swap-kinds Valid Partial k = refl
swap-kinds Valid Untried k = refl
swap-kinds Invalid Full k = refl
swap-kinds Invalid Partial k = refl
swap-kinds Invalid Untried k = refl
swap-kinds NotKnown Full k = refl
swap-kinds NotKnown Partial k = refl
swap-kinds NotKnown Untried k = refl

pub swap : (v w : Validity) (a b : Attempted) (k : ChildCounts) → with_child v a (with_child w b k) ≡ with_child w b (with_child v a k)
swap v w a b k =
    ap (with_attempted a) (swap-kinds v b (with_validity w k))
    ∙ swap-attempted a b (with_validity v (with_validity w k))
    ∙ ap (λ x. with_attempted b (with_attempted a x)) (swap-validity v w k)
    ∙ ap (with_attempted b) (sym (swap-kinds w a (with_validity v k)))

-- ---- one of them

abbrev pub counted-with : ElementRecord → ChildCounts → ChildCounts
counted-with r k = with_child r.validity r.attempted k

module _ (f : ℕ → ElementRecord) where
  -- the child element at a place, and the others
  pub counts-at : (xs : List ℕ) (i c : ℕ) → slice_get xs i ≡ Some c → counts_of (map f xs) ≡ counted-with (f c) (counts_of (map f (remove xs i)))
  counts-at [] i c e = absurd (none-some c e)
  counts-at (x ∷ xs) zero c e = ap (λ y. counted-with (f y) (counts_of (map f xs))) (same_Some x c e)
  counts-at (x ∷ xs) (suc i) c e =
      ap (counted-with (f x)) (counts-at xs i c e) ∙ swap (f x).validity (f c).validity (f x).attempted (f c).attempted (counts_of (map f (remove xs i)))

  -- one more
  pub counts-more : (xs : List ℕ) (i c : ℕ) → counts_of (map f (insert xs i c)) ≡ counted-with (f c) (counts_of (map f xs))
  counts-more [] zero c = refl
  counts-more [] (suc i) c = refl
  counts-more (x ∷ xs) zero c = refl
  counts-more (x ∷ xs) (suc i) c =
      ap (counted-with (f x)) (counts-more xs i c) ∙ swap (f x).validity (f c).validity (f x).attempted (f c).attempted (counts_of (map f xs))
