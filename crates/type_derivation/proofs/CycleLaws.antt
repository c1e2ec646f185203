-- The first fault of circles and bases.
use Rattle.std.proofs.Common.{◌≡◌, Bool, true, false, if◌then◌else◌, Option, None, Some, refl, sym, ◌∙◌, subst}
use Rattle.std.proofs.lemmas.Option.{none-some}
use Rattle.xs_codes.specs.declared.fault.Fault.{Fault}
use Rattle.xs_components.specs.Tables.{Tables}
use Rattle.xs_codes.specs.Least.{is_before, sooner, IsLeast}
use Rattle.xs_codes.proofs.LeastLaws.{least-sum}
use Rattle.type_derivation.specs.Bases.{IsWrongBase}
use Rattle.component_references.specs.Circles.{IsCircular, Ranks, with_all_ranks, HaveHeights}
use Rattle.type_derivation.specs.Filled.{IsFilled, IsAfter}
use Rattle.type_derivation.specs.Cycles.{IsBroken}

-- where neither is there, the first is not
pub no-first : (a b : Option Fault) → sooner a b ≡ None → a ≡ None
no-first None b e = refl
no-first (Some f) None e = absurd (none-some f (sym e))
no-first (Some f) (Some g) e = by (is_before g f) e
  where
    by : (t : Bool) → (if t then Some g else Some f) ≡ None → Some f ≡ None
    by true e = absurd (none-some g (sym e))
    by false e = e

pub least-of-both : (t : Tables) (circle base found result : Option Fault) → IsLeast (IsCircular t) circle → IsLeast (IsWrongBase t) base → found ≡ sooner circle base → found ≡ result → IsLeast (IsBroken t) result
least-of-both t circle base found result c b e r = subst (IsLeast (IsBroken t)) (sym e ∙ r) (least-sum (IsCircular t) (IsWrongBase t) circle base c b)

-- ranks are heights, and all types have their contents
pub after-none : (old ranked new : Tables) → ((ranks : Ranks) × (ranked ≡ with_all_ranks old ranks)) → HaveHeights ranked → IsFilled ranked new → (ranks : Ranks) × IsAfter None (with_all_ranks old ranks) new
after-none old ranked new h heights filled = (h.0, record { heights = subst HaveHeights h.1 heights; filled = subst (λ (t : Tables). IsFilled t new) h.1 filled })
