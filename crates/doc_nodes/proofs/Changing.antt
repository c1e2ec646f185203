-- Numbers without nodes, more of them and less.
use Rattle.std.proofs.Common.{◌≡◌, ℕ, zero, suc, ◌<◌, ◌≤◌, ◌^◌, List, [], ◌∷◌, ◌++◌, length, take, sym, ap, ◌∙◌, subst, Option, Some, None, Result, Ok, Err, OnOk, OnErr, refl, inl, inr, arith}
use Rattle.std.specs.Option.{option_map}
use Rattle.std.proofs.Math.ListN.{get_or-eq_default}
use Rattle.std.proofs.lemmas.Bool.{cases_lt}
use Rattle.std.proofs.lemmas.List.{take-map, get_or-take}
use Rattle.std.proofs.lemmas.Option.{none-some}
use Rattle.doc_nodes.specs.declared.slots.Slot.{Slot}
use Rattle.doc_nodes.specs.Nodes.{node}
use Rattle.doc_nodes.specs.Slots.{slot}
use Rattle.doc_nodes.specs.Linked.{Orders, node_in, nodes_of, IsLinked}
use Rattle.doc_nodes.proofs.Keyed.{push_none}
use Rattle.doc_nodes.proofs.Seen.{node_is, linked_same}

pub grown_links : {E : Type 0} (r : Result ℕ E) (ss ts : List (Option Slot)) (v : Orders) → OnOk r (ts ≡ ss ++ None ∷ []) → OnOk r (length ts < 2 ^ 32) → OnErr r (ts ≡ ss) → IsLinked ss v → IsLinked ts v
grown_links (Ok n) ss ts v ok few err i = linked_same ss ts v (λ m. ap (λ x. slot x m) ok ∙ push_none ss m) few i
grown_links (Err e) ss ts v ok few err i = subst (λ x. IsLinked x v) (sym err) i

pub no_slot : (v : Orders) (o : Option Slot) → option_map (node_in v) o ≡ None → o ≡ None
no_slot v None e = refl
no_slot v (Some s) e = absurd (none-some (node_in v s) (sym e))

take_le : {A : Type 0} (u : ℕ) (xs : List A) → length (take u xs) ≤ length xs
take_le zero xs = omega arith
take_le (suc u) [] = omega arith
take_le (suc u) (x ∷ xs) = let h = take_le u xs in omega arith

take_few : {A : Type 0} (u : ℕ) (xs : List A) → length (take u xs) ≤ u
take_few zero xs = omega arith
take_few (suc u) [] = omega arith
take_few (suc u) (x ∷ xs) = let h = take_few u xs in omega arith

pub cut_links : (ss ts : List (Option Slot)) (v : Orders) (u : ℕ) → ts ≡ take u ss → ((n : ℕ) → u ≤ n → node (nodes_of ss v) n ≡ None) → IsLinked ss v → IsLinked ts v
cut_links ss ts v u e free i =
    linked_same ss ts v (λ n. ap (λ x. slot x n) e ∙ same n) (subst (λ x. length x < 2 ^ 32) (sym e) (let a = take_le u ss in let b = i.few in omega arith)) i
  where
    same : (n : ℕ) → slot (take u ss) n ≡ slot ss n
    same n = elim (cases_lt n u) [
      | inl lt ↦ get_or-take u ss n None lt
      | inr le ↦
          get_or-eq_default (take u ss) None (let a = take_few u ss in omega arith)
          ∙ sym (no_slot v (slot ss n) (sym (node_is ss v n) ∙ free n le))
    ]

pub cut_seen : (ss ts : List (Option Slot)) (v : Orders) (u : ℕ) → ts ≡ take u ss → nodes_of ts v ≡ take u (nodes_of ss v)
cut_seen ss ts v u e = ap (λ x. nodes_of x v) e ∙ sym (take-map (option_map (node_in v)) u ss)
