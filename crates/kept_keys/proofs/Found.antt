-- All that identity constraints and IDs see of what is found, where of each element they see the same.
use Rattle.std.proofs.Common.{◌≡◌, ℕ, ◌++◌, refl, sym, ◌∙◌, inl, inr}
use Rattle.std.specs.List.{flat_map}
use Rattle.std.proofs.lemmas.Grind.{flat_map-append}
use Rattle.tree_rows.specs.Forest.{Forest, none, text, element}
use Rattle.identity_tables.specs.Ids.{borne_in, borne_in_all}
use Rattle.assessment.specs.Bearings.{bearings_below, bearings, borne_of, borne_values}
use Rattle.assessment.specs.Local.{HasElement}
use Rattle.identity_constraints.specs.Seen as keys
use Rattle.what_is_found.specs.Identity.{seen}
use Rattle.doc_nodes.specs.Nodes.{Nodes}
use Rattle.kept_above.specs.from_kept_records.Slots.{KeptSlots, entry_at}
use Rattle.kept_above.specs.from_kept_records.Found.{found_in}
use Rattle.kept_targets.proofs.Staying.{IsSeenAlike}

module _ (ns : Nodes) (old new : KeptSlots) where
  abbrev AreSeenAlike : Forest → Type 0
  AreSeenAlike f = (n : ℕ) → HasElement n f → IsSeenAlike (entry_at old n) (entry_at new n)

  pub all-seen : (f : Forest) → AreSeenAlike f → seen (found_in ns new f) ≡ seen (found_in ns old f)
  all-seen none alike = refl
  all-seen (text number chars next) alike = all-seen next alike
  all-seen (element number name bindings attributes children next) alike =
      let own = (alike number (inl refl)).sight in
      let below = all-seen children (λ n h. alike n (inr (inl h))) in
      let later = all-seen next (λ n h. alike n (inr (inr h))) in
      λ i. keys.element (own i) (below i) (later i)

  own-borne : (n bearer other : ℕ) → other ≡ bearer → IsSeenAlike (entry_at old n) (entry_at new n) →
      borne_of (record { bearer = other; own = entry_at new n }) ≡ borne_of (record { bearer = bearer; own = entry_at old n })
  own-borne n bearer other same alike =
      let number = alike.number in
      let value = alike.value in
      let values = alike.attr_values in
      λ i. borne_in (same i) (value i) ++ borne_in_all (number i) (values i)

  below-borne : (f : Forest) (parent other : ℕ) → other ≡ parent → AreSeenAlike f → flat_map borne_of (bearings_below other (found_in ns new f)) ≡ flat_map borne_of (bearings_below parent (found_in ns old f))
  below-borne none parent other same alike = refl
  below-borne (text number chars next) parent other same alike = below-borne next parent other same alike
  below-borne (element number name bindings attributes children next) parent other same alike =
      let own = alike number (inl refl) in
      let first = own-borne number parent other same own in
      let inner = below-borne children (entry_at old number).number (entry_at new number).number own.number (λ n h. alike n (inr (inl h))) in
      let outer = below-borne next parent other same (λ n h. alike n (inr (inr h))) in
      let rest =
      flat_map-append borne_of (bearings_below (entry_at new number).number (found_in ns new children)) (bearings_below other (found_in ns new next))
      ∙ (λ i. inner i ++ outer i)
      ∙ sym (flat_map-append borne_of (bearings_below (entry_at old number).number (found_in ns old children)) (bearings_below parent (found_in ns old next))) in
      λ i. first i ++ rest i

  pub all-borne : (f : Forest) → AreSeenAlike f → borne_values (found_in ns new f) ≡ borne_values (found_in ns old f)
  all-borne none alike = refl
  all-borne (text number chars next) alike = all-borne next alike
  all-borne (element number name bindings attributes children next) alike =
      let own = alike number (inl refl) in
      let first = own-borne number (entry_at old number).number (entry_at new number).number own.number own in
      let inner = below-borne children (entry_at old number).number (entry_at new number).number own.number (λ n h. alike n (inr (inl h))) in
      let outer = all-borne next (λ n h. alike n (inr (inr h))) in
      let rest =
      flat_map-append borne_of (bearings_below (entry_at new number).number (found_in ns new children)) (bearings (found_in ns new next))
      ∙ (λ i. inner i ++ outer i)
      ∙ sym (flat_map-append borne_of (bearings_below (entry_at old number).number (found_in ns old children)) (bearings (found_in ns old next))) in
      λ i. first i ++ rest i
