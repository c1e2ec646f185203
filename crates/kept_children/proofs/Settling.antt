-- A child element is governed by its term: what that asks for, and the steps that it takes.
use Rattle.std.proofs.Common.{◌≡◌, ◌⊎◌, ℕ, ◌+◌, ◌*◌, ◌≤◌, List, [], ◌∷◌, length, true, Some, sym, ap, ◌∙◌, subst, inl, inr, arith}
use Rattle.std.proofs.lemmas.Option.{same_Some}
use Rattle.tree_rows.specs.Forest.{Forest}
use Rattle.elem_governing.specs.declared.pairs.Governing.{Governing}
use Rattle.compiled_schema.specs.declared.compiled.Compiled.{Compiled}
use Rattle.doc_nodes.specs.Nodes.{Nodes, node, Lacks, IsSound, depth_by, is_element_at}
use Rattle.doc_changes.specs.Held.{parent_at}
use Rattle.doc_changes.specs.Readers.{element_numbers}
use Rattle.doc_changes.proofs.Reading.{depth_below}
use Rattle.child_lists.specs.from_kept_records.Slots.{IsMade, pair_at}
use Rattle.child_lists.specs.from_kept_records.Fit.{AboveIn}
use Rattle.child_lists.specs.from_kept_state.Kept.{FitBut, IsBeside}
use Rattle.child_lists.specs.from_kept_state.Governed.{Governed}
use Rattle.child_lists.specs.from_kept_state.KeptState.{KeptState}
use Rattle.child_lists.specs.from_kept_judging.Judged.{pair_by}
use Rattle.kept_below.specs.Below.{AreAbove, IsSettled}
use Rattle.kept_below.specs.Moved.{moved, AreGivenDown}
use Rattle.child_lists.specs.Places.{IsPlaceOf}
use Rattle.child_lists.specs.declared.place.ChildPlace.{ChildPlace}
use Rattle.child_lists.proofs.Listed.{child-element}
use Rattle.kept_children.specs.Edited.{IsSettledAt}
use Rattle.kept_children.specs.Steps.{GovernsBelow, LeaveRoom, Suffice, TakeAtMost, digits, marked_count, places_of, width}
use Rattle.kept_children.proofs.Siblings.{alone, alone-down, alone-less, moved-settled}

-- ---- the steps of its term

module _ (c : Compiled) (ns : Nodes) (old : KeptState) (spot : ChildPlace) (steps mid : ℕ) (asked : mid ≤ steps + 8 * digits (width ns spot.parent))
    (none : Lacks spot.place (places_of c ns old spot.parent) → mid ≡ steps) where
  pub term-within : (most : ℕ) → Suffice c ns old spot most → mid ≤ steps + most
  term-within most (inl enough) = let a = asked in omega (arith, a, enough)
  term-within most (inr lacks) = let same = none lacks in omega (arith, same)

  -- where no more is done
  pub term-alone : TakeAtMost c ns old spot steps mid
  term-alone most siblings governs enough below = let t = term-within most enough in omega (arith, t)

-- what is asked of all together is enough for one
any-marked : (d : ℕ) (place : ℕ) (places : List ℕ) → (8 * d ≤ 8 * d * length places) ⊎ Lacks place places
any-marked d place [] = inr tt
any-marked d place (x ∷ xs) = inl (omega arith)

pub all-suffice : (c : Compiled) (ns : Nodes) (old : KeptState) (spot : ChildPlace) → Suffice c ns old spot (8 * digits (width ns spot.parent) * marked_count c ns old spot.parent)
all-suffice c ns old spot = any-marked (digits (width ns spot.parent)) spot.place (places_of c ns old spot.parent)

-- ---- a child element with what governs it

module _ (c : Compiled) (ns : Nodes) (old : KeptState) (spot : ChildPlace) (place : IsPlaceOf ns spot) (beside : IsBeside c ns old) (there : IsMade old.records.slots spot.parent) (element : Governed)
    (node_is : element.node ≡ spot.node) (pair_is : element.pair ≡ pair_by c ns (pair_at old.records.slots spot.parent) spot.parent spot.place spot.node) where
  abbrev p : ℕ
  p = spot.parent

  sound : IsSound ns
  sound = beside.over.1.stands.links

  up : parent_at ns element.node ≡ Some p
  up = ap (parent_at ns) node_is ∙ place.parent_is

  pub governed-element : is_element_at ns element.node ≡ true
  governed-element = ap (is_element_at ns) node_is ∙ child-element ns spot place

  pub governed-above : AboveIn ns element.node (p ∷ [])
  governed-above q e = inl (same_Some p q (sym up ∙ e))

  pub governed-deeper : AreAbove ns element.node (p ∷ [])
  governed-deeper m has = elim has [
    | inl q ↦
        let deep = depth_below ns p element.node sound up in
        let same : depth_by (node ns p) ≡ depth_by (node ns m) = ap (λ x. depth_by (node ns x)) q in
        omega (arith, deep, same)
    | inr never ↦ absurd never
  ]

  pub governed-at : (new : KeptState) → IsSettled ns old new element → IsSettledAt c ns old new spot
  governed-at new settled = subst (IsSettled ns old new) (λ i. record { node = node_is i; pair = pair_is i }) settled

  -- ---- the steps that it takes with all below it

  module _ (steps mid now : ℕ) (asked : mid ≤ steps + 8 * digits (width ns spot.parent))
      (none : Lacks spot.place (places_of c ns old spot.parent) → mid ≡ steps)
      (took : (siblings : Forest) (governs : ℕ → Governing) → AreGivenDown c ns governs siblings → element_numbers siblings ≡ element.node ∷ [] → governs element.node ≡ element.pair →
      now ≤ mid + 3 * moved old.records.slots governs siblings) where
    module _ (governs : ℕ → Governing) (siblings : Forest) (below : GovernsBelow c ns (pair_at old.records.slots spot.parent) spot.parent governs siblings) where
      abbrev one : Forest
      one = alone c ns sound p (beside.over.1.only p there) (pair_at old.records.slots p) governs siblings below spot.place spot.node place.node_is

      governs-so : governs spot.node ≡ element.pair
      governs-so = below.given spot.place spot.node place.node_is ∙ sym pair_is

      alone-took : now ≤ mid + 3 * moved old.records.slots governs one
      alone-took =
          took one governs (alone-down c ns sound p (beside.over.1.only p there) (pair_at old.records.slots p) governs siblings below spot.place spot.node place.node_is)
          (ap (λ n. n ∷ []) (sym node_is)) (ap governs node_is ∙ governs-so)

    pub governed-steps : TakeAtMost c ns old spot steps now
    governed-steps most siblings governs enough below =
        let t = term-within c ns old spot steps mid asked none most enough in
        let a = alone-took governs siblings below in
        let less = alone-less c ns sound p (beside.over.1.only p there) (pair_at old.records.slots p) governs siblings below spot.place spot.node place.node_is old.records.slots in
        omega (arith, t, a, less)

    pub governed-left : (new : KeptState) → IsSettled ns old new element → FitBut c ns new (p ∷ []) → LeaveRoom c ns old spot new steps now
    governed-left new settled fit most siblings governs enough below =
        let t = term-within c ns old spot steps mid asked none most enough in
        let a = alone-took governs siblings below in
        let at-spot = governed-at new settled in
        let left =
        moved-settled c ns sound p (beside.over.1.only p there) (pair_at old.records.slots p) governs siblings below spot.place spot.node place.node_is new fit at-spot.made
        (at-spot.pair_is ∙ sym (below.given spot.place spot.node place.node_is)) old.records.slots at-spot.rest.slots in
        omega (arith, t, a, left)
