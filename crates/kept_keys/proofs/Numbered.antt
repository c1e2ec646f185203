-- The numbers of elements as they are seen, where what is kept of each has its number.
use Rattle.std.proofs.Common.{◌≡◌, ℕ, ◌≤◌, ◌==◌, refl, ap, inl, inr, arith}
use Rattle.tree_rows.specs.Forest.{Forest, none, text, element}
use Rattle.tree_rows.specs.Whole.{times}
use Rattle.assessment.specs.Local.{HasElement}
use Rattle.what_is_found.specs.Identity.{seen}
use Rattle.doc_nodes.specs.Nodes.{Nodes}
use Rattle.kept_above.specs.from_kept_records.Slots.{KeptSlots, entry_at}
use Rattle.kept_above.specs.from_kept_records.Found.{found_in}
use Rattle.scope_targets.specs.Targetings.{uses}
use Rattle.kept_keys.proofs.Coding.{weight}

module _ (ns : Nodes) (ks : KeptSlots) where
  abbrev pub AreNumbered : Forest → Type 0
  AreNumbered f = (n : ℕ) → HasElement n f → (entry_at ks n).number ≡ n

  -- no more elements have a number than nodes
  pub seen-few : (f : Forest) → AreNumbered f → (n : ℕ) → uses n (seen (found_in ns ks f)) ≤ times n f
  seen-few none are n = omega arith
  seen-few (text number chars next) are n = let later = seen-few next are n in omega (arith, later)
  seen-few (element number name bindings attributes children next) are n =
      let own = ap (λ (m : ℕ). weight (m == n)) (are number (inl refl)) in
      let below = seen-few children (λ m h. are m (inr (inl h))) n in
      let later = seen-few next (λ m h. are m (inr (inr h))) n in
      omega (arith, own, below, later)
