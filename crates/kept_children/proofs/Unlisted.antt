-- A child element is gone: its parent's list has lost it, and it is counted no more.
use Rattle.std.proofs.Common.{◌≡◌, ◌≢◌, ℕ, ◌+◌, ◌*◌, ◌≤◌, List, [], length, map, Some, refl, sym, ap, ◌∙◌, subst, arith}
use Rattle.std.specs.Prelude.{remove}
use Rattle.std.proofs.lemmas.List.Edits.{length-remove}
use Rattle.child_trees.specs.Bits.{bits}
use Rattle.assess_records.specs.Counts.{counts_of, with_child}
use Rattle.assess_records.specs.declared.counts.ChildCounts.{ChildCounts}
use Rattle.elem_governing.specs.declared.pairs.Governing.{Governing}
use Rattle.compiled_schema.specs.declared.compiled.Compiled.{Compiled}
use Rattle.model_lists.proofs.Digits.{more_digits}
use Rattle.doc_nodes.specs.Nodes.{Nodes, element_children}
use Rattle.doc_changes.specs.Readers.{name_at}
use Rattle.kept_slots.specs.Slots.{at}
use Rattle.child_lists.specs.from_kept_records.Books.{IsBooked, KeptView}
use Rattle.child_lists.specs.from_kept_records.KeptElement.{KeptElement}
use Rattle.child_lists.specs.from_kept_records.Slots.{IsKept, IsMade, kept_at, pair_at, record_at}
use Rattle.child_lists.specs.from_kept_state.Kept.{IsBeside, Rewrites, children_at}
use Rattle.child_lists.specs.from_kept_state.KeptChildren.{KeptChildren}
use Rattle.child_lists.specs.from_kept_state.Outcome.{Outcome}
use Rattle.child_lists.specs.from_kept_state.KeptState.{KeptState}
use Rattle.child_lists.proofs.from_kept_state.Beside.{kept-there}
use Rattle.child_lists.specs.from_kept_judging.Judged.{symbols_by}
use Rattle.child_lists.specs.Family.{AreCounted, AreGivenBut, IsListedBy, IsMidway, model_of, symbols_of}
use Rattle.child_lists.specs.declared.place.ChildPlace.{ChildPlace}
use Rattle.child_lists.proofs.Edits.{get-within}
use Rattle.child_lists.proofs.Terms.{many-symbols}
use Rattle.child_lists.proofs.Written.{midway-written, listed-written, counts-written, given-written, pair-stays}
use Rattle.kept_below.proofs.Identity.{identity-rewritten}
use Rattle.kept_children.specs.Edited.{IsPruned}
use Rattle.kept_children.specs.Steps.{digits, places_of, width}
use Rattle.kept_children.proofs.Pruned.{others, pruned-children, pruned-counts, pruned-each, pruned-given, pruned-listed, pruned-made, pruned-midway, pruned-symbols}
use Rattle.kept_children.proofs.Same.{same-pair, same-made, same-given}

module _ (c : Compiled) (ns : Nodes) (first : KeptState) (spot : ChildPlace) (outcome : Outcome) (beside : IsBeside c ns first) (h : IsPruned c ns first spot outcome) where
  abbrev p : ℕ
  p = spot.parent

  abbrev inner : List ℕ
  inner = element_children ns p

  abbrev was : KeptChildren
  was = children_at first.records.slots p

  abbrev left : ChildCounts
  left = others c ns first spot outcome beside h

  -- the list had one more
  was-many : length (symbols_of c h.old first p) ≡ length (element_children ns p) + 1
  was-many =
      let many = many-symbols c.names (model_of c first p) (name_at h.old) (element_children h.old p) in
      let fewer = ap (λ (xs : List ℕ). length xs) (pruned-children c ns first spot outcome beside h) in
      let one = length-remove (element_children h.old p) spot.place (get-within (element_children h.old p) spot.place spot.node h.placed.node_is) in
      omega (arith, many, fewer, one)

  pub taken-steps : (old new : ℕ) → new ≤ old + 16 * (bits (length (symbols_of c h.old first p) + 1) + 1) → new ≤ old + 16 * digits (width ns p + 1)
  taken-steps old new l = subst (λ n. new ≤ old + 16 * digits n) was-many l

  pub fewer-digits : digits (width ns p) ≤ digits (width ns p + 1)
  fewer-digits = let more = more_digits (width ns p + 1) (width ns p + 1 + 1) (omega arith) in omega (arith, more)

  module _ (second : KeptState) (same : second.records ≡ first.records) where
    made : IsMade second.records.slots p
    made = same-made first second same p (pruned-made c ns first spot outcome beside h)

    pub taken-made : IsMade second.records.slots p
    taken-made = made

    pub taken-counts : (kept_at second.records.slots p).counts ≡ with_child outcome.validity outcome.attempted left
    taken-counts = subst (λ (r : KeptView). (kept_at r.slots p).counts ≡ with_child outcome.validity outcome.attempted left) (sym same) (pruned-counts c ns first spot outcome beside h)

    pub taken-counted : (rest : ChildCounts) × ((kept_at second.records.slots p).counts ≡ with_child outcome.validity outcome.attempted rest)
    taken-counted = (left, taken-counts)

    module _ (third : KeptState)
        (change : (k : KeptElement) (rest : ChildCounts) → IsKept second.records.slots p k → k.counts ≡ with_child outcome.validity outcome.attempted rest →
        Rewrites second third p (Some (record k { counts = rest }))) where
      abbrev k : KeptElement
      k = made.0

      rewrites : Rewrites second third p (Some (record k { counts = left }))
      rewrites = change made.0 left made.1 (ap (λ (x : KeptElement). x.counts) (sym (kept-there second.records.slots p made.0 made.1)) ∙ taken-counts)

      pub taken-pair : pair_at third.records.slots p ≡ pair_at first.records.slots p
      taken-pair = pair-stays c ns second third p k made.1 k.stuck left rewrites p ∙ same-pair first second same p

      pub taken-rest : (m : ℕ) → m ≢ p → at third.records.slots m ≡ at first.records.slots m
      taken-rest m other = rewrites.slots.others m other ∙ ap (λ (r : KeptView). at r.slots m) same

      pub taken-identity : (m : ℕ) → (kept_at third.records.slots m).identity ≡ (kept_at first.records.slots m).identity
      taken-identity m = identity-rewritten second third p k made.1 (record k { counts = left }) refl rewrites m ∙ ap (λ (r : KeptView). (kept_at r.slots m).identity) same

      pub taken-all : AreCounted third p (element_children ns p)
      taken-all =
          counts-written c ns second third p k made.1 k.stuck left rewrites inner (λ i x e. same-made first second same x (pruned-each c ns first spot outcome beside h i x e))
          (subst (λ (r : KeptView). left ≡ counts_of (map (record_at r.slots) inner)) (sym same) refl)

      pub taken-given : AreGivenBut c ns third p (places_of c ns first p)
      taken-given =
          given-written c ns second third p k made.1 k.stuck left rewrites (places_of c ns first p)
          (same-given first second same p c ns (places_of c ns first p) (pruned-given c ns first spot outcome beside h))

      pub taken-listed : ((symbols : List ℕ) → IsListedBy c first p symbols → IsListedBy c second p (remove symbols spot.place)) → IsListedBy c third p (symbols_of c ns third p)
      taken-listed unlisted =
          subst (IsListedBy c third p) (sym (ap (λ (g : Governing). symbols_by c ns g.of p) taken-pair))
          (listed-written c ns second third p k made.1 k.stuck left rewrites (symbols_of c ns first p)
          (subst (IsListedBy c second p) (pruned-symbols c ns first spot outcome beside h)
          (unlisted (symbols_of c h.old first p) (pruned-listed c ns first spot outcome beside h))))

      pub taken-midway : ((children : KeptChildren) (waiting : List ℕ) → IsMidway c ns first p children waiting → IsMidway c ns second p children waiting) →
          (IsBooked second.records → IsBooked third.records) → IsMidway c ns third p (children_at first.records.slots p) []
      taken-midway still booked =
          let m = still was [] (pruned-midway c ns first spot outcome beside h) in
          midway-written c ns second third p k made.1 k.stuck left rewrites (booked m.beside.booked) was [] m
