-- Child elements, counted one by one.
use Rattle.std.proofs.Common.{◌≡◌, ◌+◌, List, [], ◌∷◌, refl, sym, ap, ◌∙◌, arith}
use Rattle.assess_records.specs.Counts.{no_children, with_validity, with_attempted, with_child, counts_of, child_count, attempt_count}
use Rattle.assess_records.specs.declared.counts.ChildCounts.{ChildCounts}
use Rattle.assess_records.specs.declared.outcome.Validity.{Validity}
use Rattle.assess_records.specs.declared.outcome.Validity.TheVariants.{Valid, Invalid, NotKnown}
use Rattle.assess_records.specs.declared.outcome.Attempted.{Attempted}
use Rattle.assess_records.specs.declared.outcome.Attempted.TheVariants.{Full, Partial, Untried}
use Rattle.assess_records.specs.declared.record.ElementRecord.{ElementRecord}
use Rattle.tree_assess.specs.inside.Steps.{counted_onto}

-- two child elements are counted in either order
validities : (v w : Validity) (c : ChildCounts) → with_validity v (with_validity w c) ≡ with_validity w (with_validity v c)
validities Valid Valid c = refl
validities Valid Invalid c = refl
validities Valid NotKnown c = refl
validities Invalid Valid c = refl
validities Invalid Invalid c = refl
validities Invalid NotKnown c = refl
validities NotKnown Valid c = refl
validities NotKnown Invalid c = refl
validities NotKnown NotKnown c = refl

attempts : (a b : Attempted) (c : ChildCounts) → with_attempted a (with_attempted b c) ≡ with_attempted b (with_attempted a c)
attempts Full Full c = refl
attempts Full Partial c = refl
attempts Full Untried c = refl
attempts Partial Full c = refl
attempts Partial Partial c = refl
attempts Partial Untried c = refl
attempts Untried Full c = refl
attempts Untried Partial c = refl
attempts Untried Untried c = refl

both : (a : Attempted) (v : Validity) (c : ChildCounts) → with_attempted a (with_validity v c) ≡ with_validity v (with_attempted a c)
both Full Valid c = refl
both Full Invalid c = refl
both Full NotKnown c = refl
both Partial Valid c = refl
both Partial Invalid c = refl
both Partial NotKnown c = refl
both Untried Valid c = refl
both Untried Invalid c = refl
both Untried NotKnown c = refl

swapped : (v w : Validity) (a b : Attempted) (c : ChildCounts) → with_child v a (with_child w b c) ≡ with_child w b (with_child v a c)
swapped v w a b c =
    ap (with_attempted a) (sym (both b v (with_validity w c)))
    ∙ attempts a b (with_validity v (with_validity w c))
    ∙ ap (λ d. with_attempted b (with_attempted a d)) (validities v w c)
    ∙ ap (with_attempted b) (both a w (with_validity v c))

onto_more : (rs : List ElementRecord) (v : Validity) (a : Attempted) (c : ChildCounts) → counted_onto rs (with_child v a c) ≡ with_child v a (counted_onto rs c)
onto_more [] v a c = refl
onto_more (r ∷ rs) v a c = ap (counted_onto rs) (swapped r.validity v r.attempted a c) ∙ onto_more rs v a (with_child r.validity r.attempted c)

pub counted : (rs : List ElementRecord) → counted_onto rs no_children ≡ counts_of rs
counted [] = refl
counted (r ∷ rs) = onto_more rs r.validity r.attempted no_children ∙ ap (with_child r.validity r.attempted) (counted rs)

-- one more
pub child_more : (v : Validity) (a : Attempted) (c : ChildCounts) → child_count (with_child v a c) ≡ child_count c + 1
child_more Valid Full c = omega arith
child_more Valid Partial c = omega arith
child_more Valid Untried c = omega arith
child_more Invalid Full c = omega arith
child_more Invalid Partial c = omega arith
child_more Invalid Untried c = omega arith
child_more NotKnown Full c = omega arith
child_more NotKnown Partial c = omega arith
child_more NotKnown Untried c = omega arith

pub attempt_more : (v : Validity) (a : Attempted) (c : ChildCounts) → attempt_count (with_child v a c) ≡ attempt_count c + 1
attempt_more Valid Full c = omega arith
attempt_more Valid Partial c = omega arith
attempt_more Valid Untried c = omega arith
attempt_more Invalid Full c = omega arith
attempt_more Invalid Partial c = omega arith
attempt_more Invalid Untried c = omega arith
attempt_more NotKnown Full c = omega arith
attempt_more NotKnown Partial c = omega arith
attempt_more NotKnown Untried c = omega arith
