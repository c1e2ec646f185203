-- What is counted of all numbers is what is counted of the elements of a forest.
use Rattle.std.proofs.Common.{◌≡◌, ◌+◌, ◌&&◌, ℕ, Bool, true, false, if◌then◌else◌, nat_eq, List, [], ◌∷◌, ◌++◌, inl, inr, Option, None, Some, refl, ap, ◌∙◌, arith}
use Rattle.std.specs.declared.alloc.Global.{Global}
use Rattle.std.specs.declared.vec.Vec.{Vec}
use Rattle.xs_names.specs.Names.{NameTable}
use Rattle.tree_rows.specs.Forest.{Forest}
use Rattle.tree_rows.specs.Forest as trees
use Rattle.tree_rows.specs.Whole.{times}
use Rattle.tree_rows.specs.declared.name.Expanded.{Expanded}
use Rattle.kept_slots.specs.Elements.{HasElement, element_sum}
use Rattle.kept_slots.proofs.ElementSums.{sums_are}
use Rattle.xs_components.specs.Tables.{Tables}
use Rattle.xpath_subset.specs.declared.paths.IdentityPaths.{IdentityPaths}
use Rattle.identity_constraints.specs.Seen.{KeyElement, KeyForest, none, element}
use Rattle.identity_constraints.specs.Targets.{Outcome, outcomes}
use Rattle.key_records.specs.Counted.{Feature, has}
use Rattle.key_records.specs.Faults.{weight}
use Rattle.kept_slots.specs.Slots.{at, weigh}
use Rattle.scope_targets.specs.Targetings.{Targeting, HasWithin, outcomes_for, targetings_of, targetings_along, uses}
use Rattle.scope_targets.specs.declared.targetings.ElementTargeting.{ElementTargeting}
use Rattle.scope_targets.proofs.Scopes.{off, scoped}
use Rattle.scope_targets.specs.Counted.{AreTargetsAlong, AreTargetsOf, TargetSlots, count_in, counted_all, counted_in, counted_one, items_of, listed}

-- ---- as a tree, of which all but the numbers is left out

abbrev no_name : Expanded
no_name = record { namespace = None; local = [] }

abbrev tree-of : KeyForest → Forest
tree-of none = trees.none
tree-of (element own below next) = trees.element own.number no_name [] [] (tree-of below) (tree-of next)

times-are : (n : ℕ) (f : KeyForest) → times n (tree-of f) ≡ uses n f
times-are n none = refl
times-are n (element own below next) = λ i. weight (nat_eq own.number n) + (times-are n below i + times-are n next i)

lacks-uses : (n : ℕ) (f : KeyForest) → (HasElement n (tree-of f) → ⊥) → uses n f ≡ 0
lacks-uses n none lacks = refl
lacks-uses n (element own below next) lacks =
    λ i. weight (off own.number n (λ e. lacks (inl e)) i) + (lacks-uses n below (λ h. lacks (inr (inl h))) i + lacks-uses n next (λ h. lacks (inr (inr h))) i)

-- ---- what is counted

module _ (n k : ℕ) (x : Feature) where
  counted-append : (one two : List Targeting) → counted_in (one ++ two) n k x ≡ counted_in one n k x + counted_in two n k x
  counted-append [] two = let same : counted_in two n k x ≡ 0 + counted_in two n k x = omega arith in same
  counted-append (a ∷ one) two =
      let rest = counted-append one two in
      let sum : counted_one a n k x + counted_in (one ++ two) n k x ≡ (counted_one a n k x + counted_in one n k x) + counted_in two n k x = omega (arith, rest) in sum

  abbrev own-weight : Vec ElementTargeting Global → ℕ
  own-weight v = counted_in (items_of v) n k x

  weigh-is : (o : Option (Vec ElementTargeting Global)) → weigh own-weight o ≡ counted_in (listed o) n k x
  weigh-is None = refl
  weigh-is (Some v) = refl

  -- of one scope and constraint, by the outcomes
  picked : (found : List Targeting) → counted_in found n k x ≡ count_in (outcomes_for n k found) x
  picked [] = refl
  picked (a ∷ found) = by (nat_eq a.scope n) (nat_eq a.constraint k) (picked found)
    where
      h : Bool
      h = has x a.outcome.tuple a.outcome.misused a.outcome.nillable

      by : (p q : Bool) → counted_in found n k x ≡ count_in (outcomes_for n k found) x
          → weight (p && (q && h)) + counted_in found n k x ≡ count_in ((if p && q then a.outcome ∷ [] else []) ++ outcomes_for n k found) x
      by true true rest = ap (λ (m : ℕ). weight h + m) rest
      by true false rest = omega (arith, rest)
      by false q rest = omega (arith, rest)

  module _ (names : NameTable) (t : Tables) (identities : List IdentityPaths) (slots : TargetSlots) where
    abbrev weights : ℕ → ℕ
    weights m = weigh own-weight (at slots m)

    along : (above : List KeyElement) (f : KeyForest) → AreTargetsAlong names t identities slots above f → element_sum weights (tree-of f) ≡ counted_in (targetings_along names t identities above f) n k x
    along above none all = refl
    along above (element own below next) all =
        let mine : weights own.number ≡ counted_in (targetings_of names t identities above own below) n k x = weigh-is (at slots own.number) ∙ ap (λ (found : List Targeting). counted_in found n k x) all.0 in
        let under = along (own ∷ above) below all.1.0 in
        let behind = along above next all.1.1 in
        let a = counted-append (targetings_of names t identities above own below) (targetings_along names t identities (own ∷ above) below ++ targetings_along names t identities above next) in
        let b = counted-append (targetings_along names t identities (own ∷ above) below) (targetings_along names t identities above next) in
        omega (arith, mine, under, behind, a, b)

    all-counted : (f : KeyForest) → AreTargetsOf names t identities slots f → counted_all slots n k x ≡ counted_in (targetings_along names t identities [] f) n k x
    all-counted f are =
        sums_are (weigh own-weight) None refl (tree-of f) (λ m. let few = are.differ m in let same = times-are m f in omega (arith, few, same)) slots
        (λ m lacks. weigh-is (at slots m) ∙ ap (λ (found : List Targeting). counted_in found n k x) (are.only m (lacks-uses m f lacks)))
        ∙ along [] f are.all

pub counted-outcomes : (names : NameTable) (t : Tables) (identities : List IdentityPaths) (slots : TargetSlots) (f : KeyForest) → AreTargetsOf names t identities slots f
    → (own : KeyElement) (below : KeyForest) → HasWithin own below f → (k : ℕ) (x : Feature) → counted_all slots own.number k x ≡ count_in (outcomes names t identities k own below) x
counted-outcomes names t identities slots f are own below has k x =
    all-counted own.number k x names t identities slots f are ∙ picked own.number k x (targetings_along names t identities [] f)
    ∙ ap (λ (os : List Outcome). count_in os x) (scoped names t identities own k [] f below tt (are.differ own.number) has)
