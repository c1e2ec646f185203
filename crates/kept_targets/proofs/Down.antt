-- What is seen from an element downwards.
use Rattle.std.proofs.Common.{◌≡◌, ◌≤◌, ◌+◌, ℕ, zero, suc, List, [], ◌∷◌, Option, true, inl, inr, refl, sym, ap, subst, arith}
use Rattle.std.specs.Prelude.{unwrap_or}
use Rattle.tree_rows.specs.declared.limits.TheConstants.{MAX_DEPTH}
use Rattle.identity_constraints.specs.Seen.{KeyForest}
use Rattle.what_is_found.specs.Identity.{seen_element}
use Rattle.tree_assess.specs.Entries.{entry_of}
use Rattle.scope_targets.specs.Kin.{AreSeen}
use Rattle.compiled_schema.specs.declared.compiled.Compiled.{Compiled}
use Rattle.doc_nodes.specs.Nodes.{Nodes, Has, node, depth_by, is_element_at, element_children}
use Rattle.kept_slots.specs.Slots.{at}
use Rattle.child_lists.specs.from_kept_records.KeptElement.{KeptElement}
use Rattle.child_lists.specs.from_kept_records.Slots.{IsMade, blank, entry_at}
use Rattle.child_lists.specs.from_kept_state.KeptState.{KeptState}
use Rattle.child_lists.proofs.from_kept_forgetting.Depths.{element-depth}
use Rattle.kept_targets.specs.Kept.{kin_of}
use Rattle.kept_targets.specs.Seen.{first_seen, along, seen_to}
use Rattle.kept_targets.specs.Whole.{IsWhole}
use Rattle.kept_targets.proofs.Links.{child-up, parent-lower}
use Rattle.kept_targets.proofs.Looking.{doc, made-of, sound}

module _ (c : Compiled) (ns : Nodes) (k : KeptState) (whole : IsWhole c ns k) where
  -- an element of which something is kept is seen, and what is below and behind it
  first-seen : (n : ℕ) → IsMade k.records.slots n → (below next : KeyForest) → (more : List ℕ) → AreSeen (kin_of ns k.records.slots) (element_children ns n) below → AreSeen (kin_of ns k.records.slots) more next
      → AreSeen (kin_of ns k.records.slots) (n ∷ more) (first_seen (at k.records.slots n) below next)
  first-seen n made below next more under behind =
      let own : seen_element (entry_of made.0.found) ≡ seen_element (entry_at k.records.slots n) = ap (λ (o : Option KeptElement). seen_element (entry_of (unwrap_or o blank).found)) (sym made.1) in
      subst (λ (o : Option KeptElement). AreSeen (kin_of ns k.records.slots) (n ∷ more) (first_seen o below next)) (sym made.1) (own, (under, behind))

  abbrev IsLow : ℕ → ℕ → Type 0
  IsLow levels n = (is_element_at ns n ≡ true) × (MAX_DEPTH + 1 ≤ depth_by (node ns n) + levels)

  along-seen : (below : ℕ → KeyForest) (ys : List ℕ) → ((y : ℕ) → Has y ys → IsMade k.records.slots y × AreSeen (kin_of ns k.records.slots) (element_children ns y) (below y))
      → AreSeen (kin_of ns k.records.slots) ys (along k.records.slots below ys)
  along-seen below [] each = tt
  along-seen below (y ∷ ys) each =
      let own = each y (inl refl) in first-seen y own.0 (below y) (along k.records.slots below ys) ys own.1 (along-seen below ys (λ z h. each z (inr h)))

  lower : (levels y : ℕ) → IsLow (suc levels) y → (x : ℕ) → Has x (element_children ns y) → IsLow levels x
  lower levels y own x h =
      let up = child-up ns (sound c ns k whole) y x h in
      let deeper = parent-lower ns (sound c ns k whole) x y up.0 in
      let deep = own.1 in
      (up.1, omega (arith, deeper, deep))

  -- with as many levels as there can be below
  pub seen-down : (levels : ℕ) (xs : List ℕ) → ((x : ℕ) → Has x xs → IsLow levels x) → AreSeen (kin_of ns k.records.slots) xs (seen_to k.records.slots ns levels xs)
  seen-down zero [] low = tt
  seen-down zero (x ∷ xs) low =
      let own = low x (inl refl) in
      let few = element-depth c.names ns (doc c ns k whole) whole.beside.over.1.stands x own.0 in
      let deep = own.1 in
      absurd (omega (arith, few, deep))
  seen-down (suc levels) xs low =
      along-seen (λ n. seen_to k.records.slots ns levels (element_children ns n)) xs (λ y h. (made-of c ns k whole y (low y h).0, seen-down levels (element_children ns y) (lower levels y (low y h))))
