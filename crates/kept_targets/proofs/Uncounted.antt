-- Of a number that is the scope of no target nothing is counted.
use Rattle.std.proofs.Common.{◌≡◌, ◌+◌, ◌&&◌, ℕ, zero, suc, Bool, nat_eq, List, [], ◌∷◌, Option, None, Some, inl, inr, refl, ap, arith}
use Rattle.std.proofs.lemmas.Bool.{ne_eqb}
use Rattle.std.proofs.lemmas.List.Sums.{sum_by-cons}
use Rattle.std.specs.declared.alloc.Global.{Global}
use Rattle.std.specs.declared.vec.Vec.{Vec}
use Rattle.key_records.specs.Counted.{Feature, has}
use Rattle.key_records.specs.Faults.{weight}
use Rattle.kept_slots.specs.Slots.{weigh}
use Rattle.scope_targets.specs.Targetings.{Targeting}
use Rattle.scope_targets.specs.declared.targetings.ElementTargeting.{ElementTargeting}
use Rattle.scope_targets.specs.Counted.{TargetSlots, counted_all, counted_in, counted_one, items_of, listed, targets_at}
use Rattle.doc_nodes.specs.Nodes.{Has}

module _ (m k : ℕ) (x : Feature) where
  abbrev IsNoScope : List Targeting → Type 0
  IsNoScope found = (a : Targeting) → Has a found → a.scope ≡ m → ⊥

  none-one : (a : Targeting) → (a.scope ≡ m → ⊥) → counted_one a m k x ≡ 0
  none-one a off = ap (λ (b : Bool). weight (b && (nat_eq a.constraint k && has x a.outcome.tuple a.outcome.misused a.outcome.nillable))) (ne_eqb a.scope m off)

  none-in : (found : List Targeting) → IsNoScope found → counted_in found m k x ≡ 0
  none-in [] off = refl
  none-in (a ∷ found) off =
      let one = none-one a (off a (inl refl)) in
      let more = none-in found (λ b h. off b (inr h)) in
      λ i. one i + more i

  abbrev weights : Vec ElementTargeting Global → ℕ
  weights v = counted_in (items_of v) m k x

  none-weigh : (o : Option (Vec ElementTargeting Global)) → IsNoScope (listed o) → weigh weights o ≡ 0
  none-weigh None off = refl
  none-weigh (Some v) off = none-in (items_of v) off

  pub none-all : (slots : TargetSlots) → ((n : ℕ) → IsNoScope (targets_at slots n)) → counted_all slots m k x ≡ 0
  none-all [] off = refl
  none-all (o ∷ os) off =
      let one = none-weigh o (off zero) in
      let more = none-all os (λ n. off (suc n)) in
      let sum = sum_by-cons (weigh weights) o os in
      omega (arith, sum, one, more)
