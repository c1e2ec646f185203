-- What identity constraints see of what is kept is what they see of what is found.
use Rattle.std.proofs.Common.{◌≡◌, ℕ, zero, suc, ◌+◌, ◌≤◌, ◌∷◌, Option, refl, sym, ap, ◌∙◌, inl, inr, arith}
use Rattle.std.specs.Prelude.{unwrap_or}
use Rattle.xs_names.specs.Names.{NameTable}
use Rattle.tree_rows.specs.Forest.{Forest, none, text, element, count}
use Rattle.assessment.specs.Local.{AreRead, HasElement, element_numbers}
use Rattle.identity_constraints.specs.Seen as keys
use Rattle.identity_constraints.specs.Seen.{KeyForest}
use Rattle.what_is_found.specs.Identity.{seen, seen_element}
use Rattle.tree_assess.specs.Entries.{entry_of}
use Rattle.doc_nodes.specs.Nodes.{Nodes, element_children}
use Rattle.doc_readers.specs.Heads.{readers_of}
use Rattle.kept_slots.specs.Slots.{at}
use Rattle.child_lists.specs.from_kept_records.KeptElement.{KeptElement}
use Rattle.child_lists.specs.from_kept_records.Slots.{KeptSlots, IsMade, blank, entry_at}
use Rattle.child_lists.specs.from_kept_records.Found.{found_in}
use Rattle.kept_targets.specs.Seen.{first_seen, along, seen_to}
use Rattle.kept_targets.proofs.Firsts.{none-to}

module _ (t : NameTable) (ns : Nodes) (ks : KeptSlots) where
  own-seen : (n : ℕ) → IsMade ks n → (below next : KeyForest) → first_seen (at ks n) below next ≡ keys.element (seen_element (entry_at ks n)) below next
  own-seen n made below next =
      ap (λ (o : Option KeptElement). first_seen o below next) made.1
      ∙ ap (λ (k : KeptElement). keys.element (seen_element (entry_of k.found)) below next) (sym (ap (λ (o : Option KeptElement). unwrap_or o blank) made.1))

  step : (number : ℕ) (children next : Forest) → element_children ns number ≡ element_numbers children → IsMade ks number →
      ((levels : ℕ) → count children ≤ levels → seen_to ks ns levels (element_numbers children) ≡ seen (found_in ns ks children)) →
      ((levels : ℕ) → count next ≤ levels → seen_to ks ns levels (element_numbers next) ≡ seen (found_in ns ks next)) →
      (levels : ℕ) → 1 + (count children + count next) ≤ levels →
      seen_to ks ns levels (number ∷ element_numbers next) ≡ keys.element (seen_element (entry_at ks number)) (seen (found_in ns ks children)) (seen (found_in ns ks next))
  step number children next children_are made below later zero enough = absurd (omega (arith, enough))
  step number children next children_are made below later (suc l) enough =
      let under = ap (seen_to ks ns l) children_are ∙ below l (omega (arith, enough)) in
      let behind = later (suc l) (omega (arith, enough)) in
      own-seen number made (seen_to ks ns l (element_children ns number)) (along ks (λ n. seen_to ks ns l (element_children ns n)) (element_numbers next))
      ∙ (λ i. keys.element (seen_element (entry_at ks number)) (under i) (behind i))

  -- with as many levels as there are nodes, or more
  pub seen-is : (f : Forest) → AreRead (readers_of t ns) f → ((n : ℕ) → HasElement n f → IsMade ks n) → (levels : ℕ) → count f ≤ levels →
      seen_to ks ns levels (element_numbers f) ≡ seen (found_in ns ks f)
  seen-is none r made levels enough = none-to ks ns levels
  seen-is (text number chars next) r made levels enough = seen-is next r made levels (omega (arith, enough))
  seen-is (element number name bindings attributes children next) r made levels enough =
      step number children next r.0.children_are (made number (inl refl)) (seen-is children r.1 (λ n h. made n (inr (inl h)))) (seen-is next r.2 (λ n h. made n (inr (inr h)))) levels enough
