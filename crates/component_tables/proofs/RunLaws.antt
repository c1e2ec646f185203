-- The lines of all types of one kind, each from that of its base.
use Rattle.std.proofs.Common.{◌≡◌, ℕ, ◌<◌, ◌⊎◌, inl, inr, Bool, true, false, List, Option, None, Some, length, get_or, slice_get, slice_index, refl, sym, ap, ◌∙◌, arith}
use Rattle.std.specs.Prelude.{⊤, IfSome, slice_index_or, ◌||◌}
use Rattle.std.proofs.lemmas.Bool.{true≢false, eqb-true}
use Rattle.std.proofs.lemmas.Option.{slice_get-get_or, get_or_from_slice_get}
use Rattle.component_references.specs.Descent.{AsksLower}
use Rattle.component_references.specs.Order.{IsFilledBelow}
use Rattle.component_references.proofs.DescentLaws.{along-is}
use Rattle.component_tables.specs.declared.bases.BaseLine.{BaseLine}
use Rattle.component_tables.specs.declared.bases.BaseStep.{BaseStep}
use Rattle.component_tables.specs.Bases.{alone}
use Rattle.component_tables.specs.inside.Runs.{AreLower, AreLines, starting, following, joined, has_number, is_next, from_base, from_step, line_step, line_of}
use Rattle.xs_components.specs.declared.common.TypeId.TheVariants.{AnyType}

module _ (steps : List BaseStep) (nexts : List (Option ℕ)) (ranks : List ℕ) (lower : AreLower steps ranks) where
  base-asks : (x : ℕ) (f g : ℕ → BaseLine) (step : BaseStep) (base : Option ℕ) → IfSome base (λ b. slice_index ranks b < slice_index ranks x) →
      ((y : ℕ) → ⊤ → slice_index ranks y < slice_index ranks x → f y ≡ g y) → from_base steps nexts ranks f x step base ≡ from_base steps nexts ranks g x step base
  base-asks x f g step None low same = refl
  base-asks x f g step (Some b) low same = ap (joined (is_next nexts b x) step (slice_index ranks x)) (same b tt low)

  step-asks : AsksLower (slice_index ranks) (alone AnyType) (line_step steps nexts ranks) (λ x. ⊤)
  step-asks x f g is same = of (slice_get steps x) refl
    where
      of : (o : Option BaseStep) → slice_get steps x ≡ o → from_step steps nexts ranks f x o ≡ from_step steps nexts ranks g x o
      of None e = refl
      of (Some step) e = base-asks x f g step step.base (lower.lower x step e) same

  abbrev line : ℕ → BaseLine
  line n = line_of steps nexts ranks n

  line-is : (n : ℕ) → line n ≡ from_step steps nexts ranks line n (slice_get steps n)
  unfolding line_of
  line-is n = along-is (slice_index ranks) (alone AnyType) (line_step steps nexts ranks) (λ x. ⊤) step-asks n tt

  -- a step that was read
  pub step-read : (n : ℕ) (other : BaseStep) → n < length ranks → slice_get steps n ≡ Some (get_or steps n other)
  step-read n other l = let same = lower.alike in slice_get-get_or steps n other (omega (arith, l, same))

  module _ (n : ℕ) (step : BaseStep) (there : slice_get steps n ≡ Some step) where
    line-base : (base : Option ℕ) → step.base ≡ base → line n ≡ from_base steps nexts ranks line n step base
    line-base base e = line-is n ∙ ap (from_step steps nexts ranks line n) there ∙ ap (from_base steps nexts ranks line n step) e

    -- the line by a table that has those of lower rank
    pub rule-none : step.base ≡ None → starting step (slice_index ranks n) false ≡ line n
    rule-none e = sym (line-base None e)

    pub rule-inside : (b : ℕ) (table : List BaseLine) → step.base ≡ Some b → length table ≡ length ranks → b < length table
    rule-inside b table e same = let inside : b < length steps = rw e at (lower.there n step there) in let alike = lower.alike in omega (arith, inside, same, alike)

    pub rule-some : (b : ℕ) (table : List BaseLine) (l : BaseLine) → step.base ≡ Some b → IsFilledBelow (length ranks) ranks (line_of steps nexts ranks) (slice_index ranks n) table →
        l ≡ get_or table b l → joined (is_next nexts b n) step (slice_index ranks n) l ≡ line n
    rule-some b table l e filled is =
        let inside : b < length steps = rw e at (lower.there n step there) in
        let low : slice_index ranks b < slice_index ranks n = rw e at (lower.lower n step there) in
        ap (joined (is_next nexts b n) step (slice_index ranks n)) (is ∙ get_or_from_slice_get table b (line b) l (filled b (let alike = lower.alike in omega (arith, inside, alike)) low)) ∙ sym (line-base (Some b) e)

    -- the line of a type starts a run, or follows that of the base behind which the type goes on
    pub record GoesOnFrom : Type 0 where
      pub base : ℕ
      pub is_base : step.base ≡ Some base
      pub is_next : slice_index_or nexts base None ≡ Some n
      pub line : line_of steps nexts ranks n ≡ following step (slice_index ranks n) (line_of steps nexts ranks base)

    pub record StartsFrom : Type 0 where
      pub above : Bool
      pub line : line_of steps nexts ranks n ≡ starting step (slice_index ranks n) above

    is-number : (o : Option ℕ) → has_number o n ≡ true → o ≡ Some n
    is-number None e = absurd (true≢false (sym e))
    is-number (Some x) e = ap Some (eqb-true x n e)

    from-next : (b : ℕ) (goes_on : Bool) → step.base ≡ Some b → is_next nexts b n ≡ goes_on → StartsFrom ⊎ GoesOnFrom
    from-next b true e is = inr (record {
      base = b;
      is_base = e;
      is_next = is-number (slice_index_or nexts b None) is;
      line = line-base (Some b) e ∙ ap (λ goes_on. joined goes_on step (slice_index ranks n) (line b)) is;
    })
    from-next b false e is = inl (record {
      above = (line b).is_union;
      line = line-base (Some b) e ∙ ap (λ goes_on. joined goes_on step (slice_index ranks n) (line b)) is;
    })

    pub by-base : (base : Option ℕ) → step.base ≡ base → StartsFrom ⊎ GoesOnFrom
    by-base None e = inl (record { above = false; line = line-base None e })
    by-base (Some b) e = from-next b (is_next nexts b n) e refl

    pub line-rank : (line_of steps nexts ranks n).rank ≡ slice_index ranks n
    line-rank = of step.base refl
      where
        of-next : (b : ℕ) (goes_on : Bool) → (joined goes_on step (slice_index ranks n) (line b)).rank ≡ slice_index ranks n
        of-next b true = refl
        of-next b false = refl

        of : (base : Option ℕ) → step.base ≡ base → (line n).rank ≡ slice_index ranks n
        of None e = ap (λ (l : BaseLine). l.rank) (line-base None e)
        of (Some b) e = ap (λ (l : BaseLine). l.rank) (line-base (Some b) e) ∙ of-next b (is_next nexts b n)

    or-true : (a : Bool) → a || true ≡ true
    or-true true = refl
    or-true false = refl

    -- a union is marked
    pub union-own : step.is_union ≡ true → (line_of steps nexts ranks n).is_union ≡ true
    union-own own = of step.base refl
      where
        of-next : (b : ℕ) (goes_on : Bool) → (joined goes_on step (slice_index ranks n) (line b)).is_union ≡ true
        of-next b true = ap (λ u. u || (line b).is_union) own
        of-next b false = ap (λ u. u || (line b).is_union) own

        of : (base : Option ℕ) → step.base ≡ base → (line n).is_union ≡ true
        of None e = ap (λ (l : BaseLine). l.is_union) (line-base None e) ∙ ap (λ u. u || false) own
        of (Some b) e = ap (λ (l : BaseLine). l.is_union) (line-base (Some b) e) ∙ of-next b (is_next nexts b n)

    -- and a type whose base is
    pub union-base : (b : ℕ) → step.base ≡ Some b → (line_of steps nexts ranks b).is_union ≡ true → (line_of steps nexts ranks n).is_union ≡ true
    union-base b e marked = ap (λ (l : BaseLine). l.is_union) (line-base (Some b) e) ∙ of-next (is_next nexts b n)
      where
        of-next : (goes_on : Bool) → (joined goes_on step (slice_index ranks n) (line b)).is_union ≡ true
        of-next true = ap (λ u. step.is_union || u) marked ∙ or-true step.is_union
        of-next false = ap (λ u. step.is_union || u) marked ∙ or-true step.is_union

-- a line of a table that has all
pub line-known : (steps : List BaseStep) (nexts : List (Option ℕ)) (ranks : List ℕ) (lines : List BaseLine) → AreLines steps nexts ranks lines →
    (n : ℕ) (d : BaseLine) → n < length ranks → slice_index_or lines n d ≡ line_of steps nexts ranks n
line-known steps nexts ranks lines are n d l = get_or_from_slice_get lines n (line_of steps nexts ranks n) d (are.are n l)
