-- What the writes of an insertion leave.
use Rattle.std.proofs.Common.{◌≡◌, ◌≢◌, ℕ, ◌+◌, ◌≤◌, List, [], length, insert, sym, ap, ◌∙◌, subst, Option, Some, None, Bool, refl}
use Rattle.std.proofs.lemmas.List.{length-map}
use Rattle.std.proofs.lemmas.Option.{none-some}
use Rattle.child_trees.specs.Lists.{Entry, get, IsLive, Updates}
use Rattle.doc_nodes.specs.declared.content.Content.{Content}
use Rattle.doc_nodes.specs.declared.firsts.First.{First}
use Rattle.doc_nodes.specs.declared.firsts.Child.{Child}
use Rattle.doc_nodes.specs.declared.slots.Slot.{Slot}
use Rattle.doc_nodes.specs.declared.links.Hung.{Hung}
use Rattle.doc_nodes.specs.Nodes.{Node, is_element}
use Rattle.doc_nodes.specs.declared.slots.Owner.{Owner}
use Rattle.doc_nodes.specs.Slots.{slot, owner_of, Writes}
use Rattle.doc_nodes.specs.Linked.{Orders, list_or, entries, number_of, node_in, IsLinked, HangsMore, KeepsLists, entry_of, Puts}

-- the slot of a new node
abbrev pub new_slot : ℕ → ℕ → Slot → Hung → Content → Slot
new_slot c p s hung content = record {
  number = c;
  hook = Some (record { parent = p; item = hung.item });
  depth = s.depth + 1;
  list = hung.list;
  count = 0;
  content = content;
}

abbrev pub child_of : ℕ → Content → Child
child_of c content = record { number = c; is_element = is_element content }

pub puts : (ss ps ts : List (Option Slot)) (v w : Orders) (p place c : ℕ) (s : Slot) (hung : Hung) (content : Content)
    → IsLinked ss v → slot ss p ≡ Some s → slot ss c ≡ None → place ≤ length (entries v s.list)
    → HangsMore v w s.list place (child_of c content) hung
    → Writes ss ps c (Some (new_slot c p s hung content))
    → ((x : Slot) → slot ps p ≡ Some x → Writes ps ts p (Some (record x { count = s.count + 1 })))
    → Puts ss v ts w p s place c (new_slot c p s hung content) (entry_of (child_of c content) hung.item)
puts ss ps ts v w p place c s hung content i was free within more put counted =
    let not_c : p ≢ c = λ k. none-some s (sym free ∙ ap (slot ss) (sym k) ∙ was) in
    let still : slot ps p ≡ Some s = put.others p not_c ∙ was in
    let write = counted s still in
    record {
      size = write.size ∙ put.size;
      parent_was = was;
      parent_is = write.changed;
      free = free;
      here = write.others c (λ k. not_c (sym k)) ∙ put.changed;
      others = λ m a b. write.others m a ∙ put.others m b;
      fresh = λ m t h k. let o = i.owner m t h in more.fresh (o.list, ap (get v) (sym k) ∙ o.is);
      empty = more.empty;
      edited = more.edited;
      rest = more.rest;
      within = within;
      number = refl;
      hook = refl;
      below = refl;
      no_children = refl;
      act = refl;
      element = refl;
      marked = refl;
    }

pub hangs_more : (v w x : Orders) (order place : ℕ) (child : Child) (hung : Hung) → ¬ IsLive v hung.list → Updates v w hung.list (Some [])
    → IsLive v order → ((ys : List (Entry First)) → get w order ≡ Some ys → Updates w x order (Some (insert ys place (entry_of child hung.item))))
    → HangsMore v x order place child hung
hangs_more v w x order place child hung fresh u live put =
    let not_new : order ≢ hung.list = λ k. fresh (live.0, ap (get v) (sym k) ∙ live.1) in
    let z = put live.0 (u.others order not_new ∙ live.1) in
    record {
      fresh = fresh;
      empty = z.others hung.list (λ k. not_new (sym k)) ∙ u.changed;
      edited = z.changed ∙ ap (λ l. Some (insert (list_or l) place (entry_of child hung.item))) (sym live.1);
      rest = λ q a b. z.others q a ∙ u.others q b;
    }

-- a list that was there is there beside a new one
pub still_live : (v w : Orders) (order list : ℕ) → ¬ IsLive v list → Updates v w list (Some []) → IsLive v order → get w order ≡ get v order
still_live v w order list fresh u live = u.others order (λ k. fresh (live.0, ap (get v) (sym k) ∙ live.1))

pub keeps_lists : (v w y : Orders) (list : ℕ) → ¬ IsLive v list → Updates v w list (Some []) → Updates w y list None → KeepsLists v y
keeps_lists v w y list fresh u z = λ q live.
    let apart : q ≢ list = λ k. fresh (live.0, ap (get v) (sym k) ∙ live.1) in
    z.others q apart ∙ u.others q apart

-- the same by what was read of the parent
pub puts_by : (ss rs ps ts : List (Option Slot)) (v w : Orders) (p place c : ℕ) (s : Slot) (y : Owner) (b : Bool) (hung : Hung) (content : Content)
    → IsLinked ss v → y ≡ owner_of s → b ≡ is_element content → rs ≡ ss → slot ss p ≡ Some s → slot ss c ≡ None → place ≤ length (entries v s.list)
    → HangsMore v w y.list place (record { number = c; is_element = b }) hung
    → Writes rs ps c (Some (record { number = c; hook = Some (record { parent = p; item = hung.item }); depth = y.depth + 1; list = hung.list; count = 0; content = content }))
    → ((x : Slot) → slot ps p ≡ Some x → Writes ps ts p (Some (record x { count = y.count + 1 })))
    → Puts ss v ts w p s place c (new_slot c p s hung content) (entry_of (child_of c content) hung.item)
puts_by ss rs ps ts v w p place c s y b hung content i y_is b_is rs_is was free within more put counted =
    puts ss ps ts v w p place c s hung content i was free within
    (subst (λ (z : Bool). HangsMore v w s.list place (record { number = c; is_element = z }) hung) b_is
    (subst (λ (z : Owner). HangsMore v w z.list place (record { number = c; is_element = b }) hung) y_is more))
    (subst (λ (z : Owner). Writes ss ps c (Some (record { number = c; hook = Some (record { parent = p; item = hung.item }); depth = z.depth + 1; list = hung.list; count = 0; content = content }))) y_is
    (subst (λ (r : List (Option Slot)). Writes r ps c (Some (record { number = c; hook = Some (record { parent = p; item = hung.item }); depth = y.depth + 1; list = hung.list; count = 0; content = content }))) rs_is put))
    (λ x h. subst (λ (z : Owner). Writes ps ts p (Some (record x { count = z.count + 1 }))) y_is (counted x h))

-- the parent is there once the new node is
pub parent_still : (ss rs ps : List (Option Slot)) (p c : ℕ) (s : Slot) (to : Option Slot) → rs ≡ ss → slot ss p ≡ Some s → slot ss c ≡ None → Writes rs ps c to → slot ps p ≡ Some s
parent_still ss rs ps p c s to rs_is was free put =
    put.others p (λ k. none-some s (sym free ∙ ap (slot ss) (sym k) ∙ was)) ∙ ap (λ (r : List (Option Slot)). slot r p) rs_is ∙ was

-- a place among the children of a node is one in their list
pub place_in : (v : Orders) (s : Slot) (it : Node) (place : ℕ) → node_in v s ≡ it → place ≤ length it.children → place ≤ length (entries v s.list)
place_in v s it place same le = subst (λ n. place ≤ n) (ap (λ (y : Node). length y.children) (sym same) ∙ length-map (entries v s.list) number_of) le
