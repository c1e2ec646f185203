-- A root alone.
use Rattle.std.proofs.Common.{◌≡◌, ℕ, zero, suc, ◌<◌, ◌^◌, List, [], ◌∷◌, length, sym, ap, ◌∙◌, subst, Option, Some, None, refl, arith}
use Rattle.std.specs.Option.{option_map}
use Rattle.std.proofs.lemmas.Option.{same_Some, none-some}
use Rattle.child_trees.specs.Lists.{get}
use Rattle.doc_nodes.specs.declared.content.Content.{Content}
use Rattle.doc_nodes.specs.declared.slots.Slot.{Slot}
use Rattle.doc_nodes.specs.declared.slots.Hook.{Hook}
use Rattle.doc_nodes.specs.Nodes.{Has, Distinct, alone}
use Rattle.doc_nodes.specs.Slots.{slot, Writes}
use Rattle.doc_nodes.specs.Linked.{Orders, list_or, entries, numbers, nodes_of, IsLinked}

-- where no number is of a node, all is linked
pub none_linked : (ss : List (Option Slot)) (v : Orders) → ((n : ℕ) → slot ss n ≡ None) → length ss < 2 ^ 32 → IsLinked ss v
none_linked ss v free few = record {
  own = λ n s h. absurd (none-some s (sym (free n) ∙ h));
  owner = λ n s h. absurd (none-some s (sym (free n) ∙ h));
  apart = λ n m s t h k q. absurd (none-some s (sym (free n) ∙ h));
  down = λ n s e h k. absurd (none-some s (sym (free n) ∙ h));
  up = λ m c h a b. absurd (none-some c (sym (free m) ∙ a));
  once = λ n s h. absurd (none-some s (sym (free n) ∙ h));
  few = few;
}

pub no_nodes : (ss : List (Option Slot)) (v : Orders) → nodes_of ss v ≡ [] → ss ≡ []
no_nodes [] v e = refl
no_nodes (s ∷ ss) v e = absurd (omega (arith, ap length e))

one_free : (n : ℕ) → slot (None ∷ []) n ≡ None
one_free zero = refl
one_free (suc zero) = refl
one_free (suc (suc n)) = refl

two_free : (n : ℕ) → slot (None ∷ None ∷ []) n ≡ None
two_free zero = refl
two_free (suc zero) = refl
two_free (suc (suc zero)) = refl
two_free (suc (suc (suc n))) = refl

-- as many numbers, none a node's
pub is_free : (ss : List (Option Slot)) (v : Orders) → ss ≡ None ∷ [] → IsLinked ss v
is_free ss v e = none_linked ss v (λ n. ap (λ x. slot x n) e ∙ one_free n) (subst (λ x. length x < 2 ^ 32) (sym e) (omega arith))

pub are_free : (ss : List (Option Slot)) (v : Orders) → ss ≡ None ∷ None ∷ [] → IsLinked ss v
are_free ss v e = none_linked ss v (λ n. ap (λ x. slot x n) e ∙ two_free n) (subst (λ x. length x < 2 ^ 32) (sym e) (omega arith))

two_of : (ts : List (Option Slot)) (s : Slot) → length ts ≡ 2 → slot ts 0 ≡ None → slot ts 1 ≡ Some s → ts ≡ None ∷ Some s ∷ []
two_of [] s l a b = absurd (omega (arith, l))
two_of (x ∷ []) s l a b = absurd (omega (arith, l))
two_of (x ∷ y ∷ []) s l a b = λ k. a k ∷ b k ∷ []
two_of (x ∷ y ∷ z ∷ zs) s l a b = absurd (omega (arith, l))

pub root_slots : (ss ts : List (Option Slot)) (s : Slot) → ss ≡ None ∷ None ∷ [] → Writes ss ts 1 (Some s) → ts ≡ None ∷ Some s ∷ []
root_slots ss ts s e w = two_of ts s (w.size ∙ ap length e) (w.others 0 (λ k. omega (arith, k)) ∙ ap (λ x. slot x 0) e) w.changed

record IsRoot (s t : Slot) (n : ℕ) : Type 0 where
  at : n ≡ 1
  is : t ≡ s

root_only : (s t : Slot) (n : ℕ) → slot (None ∷ Some s ∷ []) n ≡ Some t → IsRoot s t n
root_only s t zero h = absurd (none-some t h)
root_only s t (suc zero) h = record { at = refl; is = sym (same_Some s t h) }
root_only s t (suc (suc zero)) h = absurd (none-some t h)
root_only s t (suc (suc (suc n))) h = absurd (none-some t h)

pub root_linked : (s : Slot) (v : Orders) → s.number ≡ 1 → s.hook ≡ None → s.count ≡ 0 → get v s.list ≡ Some [] → IsLinked (None ∷ Some s ∷ []) v
root_linked s v number hook count empty = record {
  own = λ n t h. let z = root_only s t n h in ap (λ y. y.number) z.is ∙ number ∙ sym z.at;
  owner = λ n t h. let z = root_only s t n h in record { list = []; is = ap (λ y. get v y.list) z.is ∙ empty; count = ap (λ y. y.count) z.is ∙ count };
  apart = λ n m t u h k q. (root_only s t n h).at ∙ sym (root_only s u m k).at;
  down = λ n t e h k. let z = root_only s t n h in absurd (subst (Has e) (ap (λ y. entries v y.list) z.is ∙ ap list_or empty) k);
  up = λ m c h a b. let z = root_only s c m a in absurd (none-some h (sym hook ∙ ap (λ y. y.hook) (sym z.is) ∙ b));
  once = λ n t h. let z = root_only s t n h in subst (λ y. Distinct (numbers y)) (sym (ap (λ y. entries v y.list) z.is ∙ ap list_or empty)) tt;
  few = omega arith;
}

pub root_seen : (s : Slot) (v : Orders) (content : Content) → s.depth ≡ 1 → s.hook ≡ None → s.content ≡ content → get v s.list ≡ Some [] → nodes_of (None ∷ Some s ∷ []) v ≡ alone content
root_seen s v content depth hook held empty = λ k.
    None ∷ Some (record { parent = option_map (λ (h : Hook). h.parent) (hook k); depth = depth k; content = held k; children = numbers (list_or (empty k)) }) ∷ []
