-- Edits keep trees.
use Rattle.std.proofs.Common.{◌≡◌, inl, inr, ℕ, ◌+◌, ◌-◌, ◌≤◌, ◌<◌, List, [], Bool, true, false, ◌==◌, nat_lt, Option, Some, None, Result, Ok, Err, refl, sym, ap, ◌∙◌, arith, max, subst}
use Rattle.std.specs.Prelude.{if◌then◌else◌}
use Rattle.std.proofs.lemmas.Bool.{or_parts}
use Rattle.std.proofs.lemmas.Bool.Decides.{nat_tests}
use Rattle.item_listing.specs.declared.item.Item.{Item}
use Rattle.tree_rows.specs.Forest.{Forest, none, text, element, Document, count, deepest_of, numbered}
use Rattle.tree_rows.specs.Whole.{IsNamed, IsNamespace, AreNodes, times, HasRoot, IsTree}
use Rattle.tree_rows.specs.declared.name.Expanded.{Expanded}
use Rattle.tree_rows.specs.declared.row.Attribute.{Attribute}
use Rattle.tree_rows.specs.declared.row.Binding.{Binding}
use Rattle.tree_building.proofs.Numbers.{IsOnce, times_in}
use Rattle.tree_building.proofs.NamedLaws.{tag_named}
use Rattle.tag_names.specs.Faults.{is_no_qname, is_unbound, is_xmlns}
use Rattle.tag_names.specs.Resolving.{binds, element_resolved, attribute_resolved}
use Rattle.tag_names.specs.Scopes.{first_scope, element_space, attribute_space}
use Rattle.tag_names.specs.Tags.{prefix_of, element_name, attribute_name}
use Rattle.tag_names.specs.declared.fault.NameReason.{NameReason}
use Rattle.tag_names.specs.declared.fault.NameReason.TheVariants as reasons
use Rattle.tree_building.specs.Building.{block}
use Rattle.tree_edits.specs.Blocks.{tags_in, judged, early, late}
use Rattle.tree_edits.specs.Edits.{append, Found, found, replaced, is_root, renumbered, insert_at, with_children, width, with_chars, too_many_more, put_within, put_into, put_at, put, unless, then_unless, insert_within, scope_in, reword, reword_at, remove, renamed, attribute_set, attribute_unset, names_scope, change_at, change_element, by_name, rename, set_attribute, unset_attribute, after}
use Rattle.tree_edits.specs.Changes.{with_name, has_name, set_in, unset_in, has_no_room, with_attributes}
use Rattle.tree_edits.specs.Keeping.{GivesNew, KeepsTree}
use Rattle.tree_edits.specs.declared.edit.Edit.{Edit}
use Rattle.tree_edits.specs.declared.edit.Edit.TheVariants as edits
use Rattle.tree_edits.specs.declared.names.BlockNames.{BlockNames}
use Rattle.tree_edits.specs.declared.edit.EditError.{EditError}
use Rattle.tree_edits.specs.declared.edit.EditError.TheVariants.{TooManyNodes, TooDeep, BadIndex, RootFixed, NoSuchAttribute, TooManyAttributes, DoubleAttribute}
use Rattle.tree_edits.proofs.Attributing.{set_named, unset_named}
use Rattle.tree_edits.proofs.BlockNaming.{HaveNames, block_names}
use Rattle.tree_edits.proofs.Lying.{Lies, lies, count-append, times-append, deepest_append, nodes_append, nodes_parts, times_changed, count_changed, deepest_changed, deepest_here, nodes_changed, root_changed}

-- a greater next free number
pub nodes_more : (low high : ℕ) (f : Forest) → low ≤ high → AreNodes low f → AreNodes high f
nodes_more low high none h a = tt
nodes_more low high (text n chars next) h a = ((a.0.0, omega (arith, a.0.1, h)), nodes_more low high next h a.1)
nodes_more low high (element n name bindings attributes children next) h a =
    ((a.0.0, omega (arith, a.0.1, h)), a.1, nodes_more low high children h a.2, nodes_more low high next h a.3)

abbrev pub one_if : Bool → ℕ
one_if t = if t then 1 else 0

not_own : (j n : ℕ) → n < j → (t : Bool) → (n == j) ≡ t → one_if t ≡ 0
not_own j n h true t = let is : n ≡ j = grind (arith, nat_tests, t) in absurd (omega (arith, is, h))
not_own j n h false t = refl

-- no node has the next free number, or one above it
pub not_given : (free j : ℕ) (f : Forest) → AreNodes free f → free ≤ j → times j f ≡ 0
not_given free j none a h = refl
not_given free j (text n chars next) a h =
    let own = not_own j n (omega (arith, a.0.1, h)) (n == j) refl in
    let later = not_given free j next a.1 h in
    omega (arith, own, later)
not_given free j (element n name bindings attributes children next) a h =
    let own = not_own j n (omega (arith, a.0.1, h)) (n == j) refl in
    let below = not_given free j children a.2 h in
    let later = not_given free j next a.3 h in
    omega (arith, own, below, later)

-- a changed node keeps a tree, where it has no more numbers than before and those of new nodes
pub changed_tree : (d : Document) (key free : ℕ) (change : Forest → Forest) (new : Forest) (it : Found) → IsTree d → found key 1 d.forest ≡ Some it → d.next_free ≤ free
    → (is_root key d.forest ≡ true → HasRoot it.node → HasRoot (change it.node))
    → (AreNodes free it.node → AreNodes free (change it.node))
    → ((j : ℕ) → times j (change it.node) ≤ times j it.node + times j new) → ((j : ℕ) → times j d.forest + times j new ≤ 1)
    → count (change it.node) ≤ count it.node + count new → count d.forest + count new ≤ 131072
    → deepest_of it.depth (change it.node) ≤ 128
    → IsTree (record { forest = replaced key change d.forest; next_free = free })
changed_tree d key free change new it t e more root nodes few_times differ few_nodes few deep =
    let l = lies key 1 d.forest it e in
    let size = count_changed key 1 change d.forest it l in
    record {
      root = root_changed key 1 change d.forest it l t.root root;
      nodes = nodes_changed free key 1 change d.forest it l (nodes_more d.next_free free d.forest more t.nodes) nodes;
      differ = λ j. omega (arith, times_changed j key 1 change d.forest it l, few_times j, differ j);
      few = omega (arith, size, few_nodes, few);
      shallow = deepest_changed 128 key 1 change d.forest it l t.shallow deep;
    }

-- siblings that are put at a place stand between two parts
pub record Splits (place : ℕ) (new f : Forest) : Type 0 where
  pub before : Forest
  pub after : Forest
  pub are : f ≡ append before after
  pub gives : insert_at place new f ≡ append before (append new after)

split_text : (place n : ℕ) (chars : List ℕ) (new next : Forest) → Splits (place - 1) new next → (t : Bool) → (place == 0) ≡ t → Splits place new (text n chars next)
split_text place n chars new next s true t = record { before = none; after = text n chars next; are = refl; gives = rw t refl }
split_text place n chars new next s false t =
    record { before = text n chars s.before; after = s.after; are = ap (text n chars) s.are; gives = rw t (ap (text n chars) s.gives) }

split_element : (place n : ℕ) (name : Expanded) (bindings : List Binding) (attributes : List Attribute) (children new next : Forest) → Splits (place - 1) new next
    → (t : Bool) → (place == 0) ≡ t → Splits place new (element n name bindings attributes children next)
split_element place n name bindings attributes children new next s true t =
    record { before = none; after = element n name bindings attributes children next; are = refl; gives = rw t refl }
split_element place n name bindings attributes children new next s false t = record {
  before = element n name bindings attributes children s.before;
  after = s.after;
  are = ap (element n name bindings attributes children) s.are;
  gives = rw t (ap (element n name bindings attributes children) s.gives);
}

append_none : (f : Forest) → f ≡ append f none
append_none none = refl
append_none (text n chars next) = ap (text n chars) (append_none next)
append_none (element n name bindings attributes children next) = ap (element n name bindings attributes children) (append_none next)

pub splits : (place : ℕ) (new f : Forest) → Splits place new f
splits place new none = record { before = none; after = none; are = refl; gives = append_none new }
splits place new (text n chars next) = split_text place n chars new next (splits (place - 1) new next) (place == 0) refl
splits place new (element n name bindings attributes children next) =
    split_element place n name bindings attributes children new next (splits (place - 1) new next) (place == 0) refl

-- what siblings are with new ones among them
pub record Joins (new f g : Forest) : Type 0 where
  pub size : count g ≡ count f + count new
  pub numbers : (j : ℕ) → times j g ≡ times j f + times j new
  pub deep : (depth : ℕ) → deepest_of depth g ≡ max (deepest_of depth f) (deepest_of depth new)
  pub nodes : (free : ℕ) → AreNodes free f → AreNodes free new → AreNodes free g

pub joins_between : (new before after : Forest) → Joins new (append before after) (append before (append new after))
joins_between new before after = record {
  size = omega (arith, count-append before after, count-append new after, count-append before (append new after));
  numbers = λ j. omega (arith, times-append j before after, times-append j new after, times-append j before (append new after));
  deep = λ depth. omega (arith, deepest_append depth before after, deepest_append depth new after, deepest_append depth before (append new after));
  nodes = λ free a b. let both = nodes_parts free before after a in
      nodes_append free before (append new after) both.0 (nodes_append free new after b both.1);
}

pub joins_at : (place : ℕ) (new f : Forest) → Joins new f (insert_at place new f)
joins_at place new f =
    let s = splits place new f in
    subst (λ g. Joins new f g) (sym s.gives) (subst (λ old. Joins new old (append s.before (append new s.after))) (sym s.are) (joins_between new s.before s.after))

pub joins_last : (new f : Forest) → Joins new f (append f new)
joins_last new f = subst (λ g. Joins new f (append f g)) (sym (append_none new)) (subst (λ old. Joins new old (append f (append new none))) (sym (append_none f)) (joins_between new f none))

-- new children of an element keep a tree
pub children_put : (d : Document) (key free depth n : ℕ) (name : Expanded) (bindings : List Binding) (attributes : List Attribute) (children : Forest)
    (change : Forest → Forest) (new more : Forest) → IsTree d
    → found key 1 d.forest ≡ Some (record { depth = depth; node = element n name bindings attributes children none })
    → change (element n name bindings attributes children none) ≡ element n name bindings attributes more none → Joins new children more
    → d.next_free ≤ free → AreNodes free new → ((j : ℕ) → times j d.forest + times j new ≤ 1) → count d.forest + count new ≤ 131072 → deepest_of (depth + 1) new ≤ 128
    → IsTree (record { forest = replaced key change d.forest; next_free = free })
children_put d key free depth n name bindings attributes children change new more t e gives j above nodes differ few deep =
    let it : Found = record { depth = depth; node = element n name bindings attributes children none } in
    let old = deepest_here key 1 d.forest it (lies key 1 d.forest it e) in
    let new_deep = j.deep (depth + 1) in
    let old_shallow = t.shallow in
    changed_tree d key free change new it t e above
    (λ _ r. subst HasRoot (sym gives) r)
    (λ a. subst (AreNodes free) (sym gives) (a.0, a.1, j.nodes free a.2 nodes, tt))
    (λ i. let g = ap (times i) gives in let k = j.numbers i in omega (arith, g, k))
    differ
    (let g = ap count gives in omega (arith, g, j.size))
    few
    (let g = ap (deepest_of depth) gives in omega (arith, g, new_deep, old, old_shallow, deep))

-- nodes that get numbers keep the rest
pub count-renumbered : (free : ℕ) (f : Forest) → count (renumbered free f) ≡ count f
count-renumbered free none = refl
count-renumbered free (text n chars next) = let later = count-renumbered (free + 1) next in omega (arith, later)
count-renumbered free (element n name bindings attributes children next) =
    let below = count-renumbered (free + 1) children in
    let later = count-renumbered (free + 1 + count children) next in
    omega (arith, below, later)

deepest-renumbered : (free depth : ℕ) (f : Forest) → deepest_of depth (renumbered free f) ≡ deepest_of depth f
deepest-renumbered free depth none = refl
deepest-renumbered free depth (text n chars next) = deepest-renumbered (free + 1) depth next
deepest-renumbered free depth (element n name bindings attributes children next) =
    let below = deepest-renumbered (free + 1) (depth + 1) children in
    let later = deepest-renumbered (free + 1 + count children) depth next in
    omega (arith, below, later)

pub numbered_renumbered : (free : ℕ) (f : Forest) → numbered free (renumbered free f)
numbered_renumbered free none = tt
numbered_renumbered free (text n chars next) = (refl, numbered_renumbered (free + 1) next)
numbered_renumbered free (element n name bindings attributes children next) = (
  refl,
  numbered_renumbered (free + 1) children,
  subst (λ k. numbered (free + 1 + k) (renumbered (free + 1 + count children) next)) (sym (count-renumbered (free + 1) children)) (numbered_renumbered (free + 1 + count children) next),
)

nodes_renumbered : (free high : ℕ) (f : Forest) → HaveNames f → 0 < free → free + count f ≤ high → AreNodes high (renumbered free f)
nodes_renumbered free high none names low h = tt
nodes_renumbered free high (text n chars next) names low h = ((low, omega (arith, h)), nodes_renumbered (free + 1) high next names (omega arith) (omega (arith, h)))
nodes_renumbered free high (element n name bindings attributes children next) names low h = (
  (low, omega (arith, h)),
  names.0,
  nodes_renumbered (free + 1) high children names.1 (omega arith) (omega (arith, h)),
  nodes_renumbered (free + 1 + count children) high next names.2 (omega arith) (omega (arith, h)),
)

-- the root has the number 1, so the next free one is above 0
root_free : (f : Forest) (free : ℕ) → HasRoot f → AreNodes free f → 0 < free
root_free none free r a = absurd r
root_free (text n chars next) free r a = absurd r
root_free (element n name bindings attributes children next) free r a = omega (arith, a.0.1)

-- new numbers are of no node
fresh_if : (d : Document) (j t : ℕ) (size : ℕ) → IsTree d → IsOnce j d.next_free size t → times j d.forest + t ≤ 1
fresh_if d j t size tree (inl zero_is) = let one = tree.differ j in omega (arith, one, zero_is)
fresh_if d j t size tree (inr o) = let absent = not_given d.next_free j d.forest tree.nodes o.1 in omega (arith, absent, o.0)

fresh : (d : Document) (new : Forest) → IsTree d → (j : ℕ) → times j d.forest + times j (renumbered d.next_free new) ≤ 1
fresh d new tree j =
    fresh_if d j (times j (renumbered d.next_free new)) (d.next_free + count (renumbered d.next_free new)) tree
    (times_in j d.next_free (d.next_free + count (renumbered d.next_free new)) (renumbered d.next_free new) (numbered_renumbered d.next_free new) refl)

-- a node stands without its next siblings
abbrev pub IsAlone : Forest → Type 0
IsAlone none = ⊥
IsAlone (text n chars next) = next ≡ none
IsAlone (element n name bindings attributes children next) = next ≡ none

lies_alone : (key depth : ℕ) (f : Forest) (it : Found) → Lies key depth f it → IsAlone it.node
lies_alone key depth none it l = absurd l
lies_alone key depth (text n chars next) it (inl l) = subst (λ (i : Found). IsAlone i.node) (sym l.1) refl
lies_alone key depth (text n chars next) it (inr l) = lies_alone key depth next it l.1
lies_alone key depth (element n name bindings attributes children next) it (inl l) = subst (λ (i : Found). IsAlone i.node) (sym l.1) refl
lies_alone key depth (element n name bindings attributes children next) it (inr (inl l)) = lies_alone key (depth + 1) children it l.2
lies_alone key depth (element n name bindings attributes children next) it (inr (inr l)) = lies_alone key depth next it l.2

pub found_alone : (key : ℕ) (f : Forest) (it : Found) → found key 1 f ≡ Some it → IsAlone it.node
found_alone key f it e = lies_alone key 1 f it (lies key 1 f it e)

-- the element that gets children, and what the change of them ends with
pub record IsPlace (f : Forest) (parent : ℕ) (change : ℕ → Result Document EditError) (e : Document) : Type 0 where
  pub depth : ℕ
  pub number : ℕ
  pub name : Expanded
  pub bindings : List Binding
  pub attributes : List Attribute
  pub children : Forest
  pub is_found : found parent 1 f ≡ Some (record { depth = depth; node = element number name bindings attributes children none })
  pub ends : change depth ≡ Ok e

unless_bad : (t : Bool) (r : Result Document EditError) (e : Document) → (if t then Err BadIndex else r) ≡ Ok e → r ≡ Ok e
unless_bad true r e is = absurd (cc is)
unless_bad false r e is = is

place_in : (f : Forest) (parent place : ℕ) (change : ℕ → Result Document EditError) (e : Document) (depth : ℕ) (node : Forest)
    → found parent 1 f ≡ Some (record { depth = depth; node = node }) → IsAlone node → put_into place change depth node ≡ Ok e → IsPlace f parent change e
place_in f parent place change e depth none is alone end = absurd alone
place_in f parent place change e depth (text n chars next) is alone end = absurd (cc end)
place_in f parent place change e depth (element n name bindings attributes children next) is alone end = record {
  depth = depth;
  number = n;
  name = name;
  bindings = bindings;
  attributes = attributes;
  children = children;
  is_found = is ∙ ap (λ g. Some (record { depth = depth; node = element n name bindings attributes children g })) alone;
  ends = unless_bad (nat_lt (width children) place) (change depth) e end;
}

place_by : (f : Forest) (parent place : ℕ) (change : ℕ → Result Document EditError) (e : Document) (o : Option Found) → found parent 1 f ≡ o
    → put_at place change o ≡ Ok e → IsPlace f parent change e
place_by f parent place change e None is end = absurd (cc end)
place_by f parent place change e (Some it) is end = place_in f parent place change e it.depth it.node is (found_alone parent f it is) end

place_of : (f : Forest) (parent place : ℕ) (change : ℕ → Result Document EditError) (e : Document) → put f parent place change ≡ Ok e → IsPlace f parent change e
place_of f parent place change e end = place_by f parent place change e (found parent 1 f) refl end

-- what is put within the limits
one_end : (x e : Document) (r : Result Document EditError) → r ≡ Ok x → r ≡ Ok e → x ≡ e
one_end x e r is end = cc (is, end)

within_if : (a b : Bool) (x e : Document) → (if a then Err TooManyNodes else (if b then Err TooDeep else Ok x)) ≡ Ok e → (a ≡ false) × (b ≡ false) × (x ≡ e)
within_if true b x e is = absurd (cc is)
within_if false true x e is = absurd (cc is)
within_if false false x e is = (refl, refl, one_end x e (Ok x) refl is)

-- numbers that were given are not given again
changed_numbers : (d : Document) (key free : ℕ) (change : Forest → Forest) (it : Found) → found key 1 d.forest ≡ Some it → d.next_free ≤ free
    → ((j : ℕ) → j < d.next_free → times j (change it.node) ≤ times j it.node) → GivesNew d (record { forest = replaced key change d.forest; next_free = free })
changed_numbers d key free change it e above fewer = record {
  free = above;
  numbers = λ j low. omega (arith, times_changed j key 1 change d.forest it (lies key 1 d.forest it e), fewer j low);
}

not_below : (j free high t : ℕ) → j < free → IsOnce j free high t → t ≡ 0
not_below j free high t low (inl zero_is) = zero_is
not_below j free high t low (inr o) = absurd (omega (arith, o.1, low))

module _ (d : Document) (parent place : ℕ) (new : Forest) (e : Document) (p : IsPlace d.forest parent (put_within d parent place new) e) (names : HaveNames new) (tree : IsTree d) where
  abbrev own : Forest
  own = renumbered d.next_free new

  size : count own ≡ count new
  size = count-renumbered d.next_free new

  within : (too_many_more d (count new) ≡ false) × (nat_lt 128 (deepest_of (p.depth + 1) new) ≡ false)
      × (record { forest = replaced parent (with_children place own) d.forest; next_free = d.next_free + count new } ≡ e)
  within = within_if (too_many_more d (count new)) (nat_lt 128 (deepest_of (p.depth + 1) new)) _ e p.ends

  put_tree : IsTree e
  put_tree =
      let few = (or_parts (nat_lt 131072 (count d.forest + count new)) (nat_lt 4294967295 (d.next_free + count new)) (within).0).0 in
      let room : count d.forest + count new ≤ 131072 = grind (arith, nat_tests, few) in
      let low : deepest_of (p.depth + 1) new ≤ 128 = grind (arith, nat_tests, (within).1) in
      subst IsTree (within).2
      (children_put d parent (d.next_free + count new) p.depth p.number p.name p.bindings p.attributes p.children (with_children place own) own (insert_at place own p.children)
      tree p.is_found refl (joins_at place own p.children) (omega arith)
      (nodes_renumbered d.next_free (d.next_free + count new) new names (root_free d.forest d.next_free tree.root tree.nodes) (omega arith))
      (fresh d new tree) (omega (arith, size, room)) (omega (arith, deepest-renumbered d.next_free (p.depth + 1) new, low)))

  put_numbers : GivesNew d e
  put_numbers =
      let it : Found = record { depth = p.depth; node = element p.number p.name p.bindings p.attributes p.children none } in
      subst (GivesNew d) (within).2
      (changed_numbers d parent (d.next_free + count new) (with_children place own) it p.is_found (omega arith)
      (λ j low. let joined = (joins_at place own p.children).numbers j in
      let none_new = not_below j d.next_free (d.next_free + count own) (times j own) low (times_in j d.next_free (d.next_free + count own) own (numbered_renumbered d.next_free new) refl) in
      omega (arith, joined, none_new)))

  pub put_kept : KeepsTree d e
  put_kept = record { tree = put_tree; numbers = put_numbers }

-- a text with other characters
reworded_at : (d : Document) (key : ℕ) (chars : List ℕ) (e : Document) (depth : ℕ) (node : Forest) → IsTree d → found key 1 d.forest ≡ Some (record { depth = depth; node = node })
    → IsAlone node → reword_at d key chars node ≡ Ok e → KeepsTree d e
reworded_at d key chars e depth none t is alone end = absurd alone
reworded_at d key chars e depth (element n name bindings attributes children next) t is alone end = absurd (cc end)
reworded_at d key chars e depth (text n old next) t is alone end =
    let it : Found = record { depth = depth; node = text n old none } in
    let here : found key 1 d.forest ≡ Some it = is ∙ ap (λ g. Some (record { depth = depth; node = text n old g })) alone in
    subst (KeepsTree d) (one_end (record d { forest = replaced key (with_chars chars) d.forest }) e (reword_at d key chars (text n old next)) refl end)
    (record {
      tree = changed_tree d key d.next_free (with_chars chars) none it t here (omega arith) (λ _ r. absurd r) (λ a. a) (λ j. omega arith)
          (λ j. omega (arith, t.differ j)) (omega arith) (omega (arith, t.few)) (omega arith);
      numbers = changed_numbers d key d.next_free (with_chars chars) it here (omega arith) (λ j low. omega arith);
    })

reworded_by : (d : Document) (key : ℕ) (chars : List ℕ) (e : Document) (o : Option Found) → IsTree d → found key 1 d.forest ≡ o → reword d key chars o ≡ Ok e → KeepsTree d e
reworded_by d key chars e None t is end = absurd (cc end)
reworded_by d key chars e (Some it) t is end = reworded_at d key chars e it.depth it.node t is (found_alone key d.forest it is) end

-- a node that is taken away
removed_if : (d : Document) (key : ℕ) (e : Document) (it : Found) (t : Bool) → is_root key d.forest ≡ t → IsTree d → found key 1 d.forest ≡ Some it
    → (if t then Err RootFixed else Ok (record d { forest = replaced key (λ node. none) d.forest })) ≡ Ok e → KeepsTree d e
removed_if d key e it true r t is end = absurd (cc end)
removed_if d key e it false r t is end =
    subst (KeepsTree d) (one_end (record d { forest = replaced key (λ node. none) d.forest }) e (Ok (record d { forest = replaced key (λ node. none) d.forest })) refl end)
    (record {
      tree = changed_tree d key d.next_free (λ node. none) none it t is (omega arith) (λ root _. absurd (cc (root, r))) (λ a. tt) (λ j. omega arith)
          (λ j. omega (arith, t.differ j)) (omega arith) (omega (arith, t.few)) (omega arith);
      numbers = changed_numbers d key d.next_free (λ node. none) it is (omega arith) (λ j low. omega arith);
    })

removed_by : (d : Document) (key : ℕ) (e : Document) (o : Option Found) → IsTree d → found key 1 d.forest ≡ o → remove d key o ≡ Ok e → KeepsTree d e
removed_by d key e None t is end = absurd (cc end)
removed_by d key e (Some it) t is end = removed_if d key e it (is_root key d.forest) refl t is end

-- a block's element
unless_ok : (o : Option EditError) (r : Result Document EditError) (e : Document) → unless o r ≡ Ok e → r ≡ Ok e
unless_ok None r e is = is
unless_ok (Some error) r e is = absurd (cc is)

then_ok : (r : Result Document EditError) (o : Option EditError) (e : Document) → then_unless r o ≡ Ok e → (r ≡ Ok e) × (o ≡ None)
then_ok (Ok d) None e is = (is, refl)
then_ok (Ok d) (Some error) e is = absurd (cc is)
then_ok (Err error) o e is = absurd (cc is)

many_or_double : (names : BlockNames) → late names ≡ None → (names.many ≡ false) × (names.double ≡ false)
many_or_double names is = late_if names.many names.double is
  where
    late_if : (a b : Bool) → (if a then Some TooManyAttributes else (if b then Some DoubleAttribute else None)) ≡ None → (a ≡ false) × (b ≡ false)
    late_if true b is = absurd (cc is)
    late_if false true is = absurd (cc is)
    late_if false false is = (refl, refl)

inserted : (d : Document) (parent place : ℕ) (scope : List Binding) (its : List Item) (e : Document) → IsTree d
    → put d.forest parent place (insert_within d parent place scope its) ≡ Ok e → KeepsTree d e
inserted d parent place scope its e t end =
    let p = place_of d.forest parent place (insert_within d parent place scope its) e end in
    let names = judged (tags_in scope [] its) in
    let both = then_ok (put_within d parent place (block scope its) p.depth) (late names) e (unless_ok (early names) _ e p.ends) in
    let fine = many_or_double names both.1 in
    put_kept d parent place (block scope its) e
    (record { depth = p.depth; number = p.number; name = p.name; bindings = p.bindings; attributes = p.attributes; children = p.children; is_found = p.is_found; ends = both.0 })
    (block_names scope its fine.0 fine.1) t

-- the element that is changed, and what the change of it ends with
record IsChanged (f : Forest) (key : ℕ) (change : List Binding → List Attribute → Result Document EditError) (e : Document) : Type 0 where
  pub depth : ℕ
  pub number : ℕ
  pub name : Expanded
  pub bindings : List Binding
  pub attributes : List Attribute
  pub children : Forest
  pub is_found : found key 1 f ≡ Some (record { depth = depth; node = element number name bindings attributes children none })
  pub ends : change bindings attributes ≡ Ok e

changed_in : (f : Forest) (key : ℕ) (change : List Binding → List Attribute → Result Document EditError) (e : Document) (depth : ℕ) (node : Forest)
    → found key 1 f ≡ Some (record { depth = depth; node = node }) → IsAlone node → change_at change node ≡ Ok e → IsChanged f key change e
changed_in f key change e depth none is alone end = absurd alone
changed_in f key change e depth (text n chars next) is alone end = absurd (cc end)
changed_in f key change e depth (element n name bindings attributes children next) is alone end = record {
  depth = depth;
  number = n;
  name = name;
  bindings = bindings;
  attributes = attributes;
  children = children;
  is_found = is ∙ ap (λ g. Some (record { depth = depth; node = element n name bindings attributes children g })) alone;
  ends = end;
}

changed_by : (f : Forest) (key : ℕ) (change : List Binding → List Attribute → Result Document EditError) (e : Document) (o : Option Found) → found key 1 f ≡ o
    → change_element change o ≡ Ok e → IsChanged f key change e
changed_by f key change e None is end = absurd (cc end)
changed_by f key change e (Some it) is end = changed_in f key change e it.depth it.node is (found_alone key f it is) end

-- a change by a name, which is an expanded one
record IsNamedBy (change : Expanded → Result Document EditError) (r : Result Expanded NameReason) (e : Document) : Type 0 where
  pub own : Expanded
  pub is : r ≡ Ok own
  pub ends : change own ≡ Ok e

named_by : (change : Expanded → Result Document EditError) (r : Result Expanded NameReason) (e : Document) → by_name change r ≡ Ok e → IsNamedBy change r e
named_by change (Ok own) e end = record { own = own; is = refl; ends = end }
named_by change (Err reason) e end = absurd (cc end)

-- the namespace of a name is one: it is that of a tag with no lines
element_spaced : (scope : List Binding) (name : List ℕ) → IsNamespace (element_name scope name).namespace
element_spaced scope name = (tag_named scope (record { name = name; attributes = [] }) refl refl).namespace

attribute_spaced : (scope : List Binding) (name : List ℕ) → IsNamespace (attribute_name scope name).namespace
attribute_spaced scope name = by (prefix_of name) (element_spaced scope name)
  where
    by : (prefix : Option (List ℕ)) → IsNamespace (element_space scope prefix) → IsNamespace (attribute_space scope prefix)
    by None h = tt
    by (Some prefix) h = h

resolved_if : (bad unbound reserved : Bool) (name own : Expanded)
    → (if bad then Err reasons.BadName else (if unbound then Err reasons.UnboundPrefix else (if reserved then Err reasons.ReservedName else Ok name))) ≡ Ok own → name ≡ own
resolved_if true unbound reserved name own is = absurd (cc is)
resolved_if false true reserved name own is = absurd (cc is)
resolved_if false false true name own is = absurd (cc is)
resolved_if false false false name own is = cc is

element_known : (scope : List Binding) (name : List ℕ) (own : Expanded) → element_resolved scope name ≡ Ok own → IsNamespace own.namespace
element_known scope name own is =
    subst (λ (n : Expanded). IsNamespace n.namespace) (resolved_if (is_no_qname name) (is_unbound scope (prefix_of name)) (is_xmlns (prefix_of name)) (element_name scope name) own is)
    (element_spaced scope name)

attribute_known : (scope : List Binding) (name : List ℕ) (own : Expanded) → attribute_resolved scope name ≡ Ok own → IsNamespace own.namespace
attribute_known scope name own is =
    subst (λ (n : Expanded). IsNamespace n.namespace) (resolved_if (is_no_qname name) (is_unbound scope (prefix_of name)) (binds name) (attribute_name scope name) own is)
    (attribute_spaced scope name)

-- an element that has its names again
element_kept : (d : Document) (key depth n : ℕ) (name fresh : Expanded) (bindings : List Binding) (attributes more : List Attribute) (children : Forest) (change : Forest → Forest) (e : Document)
    → IsTree d → found key 1 d.forest ≡ Some (record { depth = depth; node = element n name bindings attributes children none })
    → change (element n name bindings attributes children none) ≡ element n fresh bindings more children none
    → (IsNamed name bindings attributes → IsNamed fresh bindings more) → record d { forest = replaced key change d.forest } ≡ e → KeepsTree d e
element_kept d key depth n name fresh bindings attributes more children change e t is gives names end =
    let it : Found = record { depth = depth; node = element n name bindings attributes children none } in
    let old = deepest_here key 1 d.forest it (lies key 1 d.forest it is) in
    subst (KeepsTree d) end
    (record {
      tree = changed_tree d key d.next_free change none it t is (omega arith) (λ _ r. subst HasRoot (sym gives) r)
          (λ a. subst (AreNodes d.next_free) (sym gives) (a.0, names a.1, a.2, tt))
          (λ j. let g = ap (times j) gives in omega (arith, g)) (λ j. omega (arith, t.differ j))
          (let g = ap count gives in omega (arith, g)) (omega (arith, t.few)) (let g = ap (deepest_of depth) gives in omega (arith, g, old, t.shallow));
      numbers = changed_numbers d key d.next_free change it is (omega arith) (λ j low. let g = ap (times j) gives in omega (arith, g));
    })

rename_keeps : (d : Document) (key : ℕ) (name : List ℕ) (e : Document) → IsTree d → after d (edits.Rename key name) ≡ Ok e → KeepsTree d e
rename_keeps d key name e t end =
    let p = changed_by d.forest key (rename d key name) e (found key 1 d.forest) refl end in
    let q = named_by (λ own. Ok (renamed key own d)) (element_resolved (names_scope d key) name) e p.ends in
    element_kept d key p.depth p.number p.name q.own p.bindings p.attributes p.attributes p.children (with_name q.own) e t p.is_found refl
    (λ n. record { namespace = element_known (names_scope d key) name q.own q.is; namespaces = n.namespaces; prefixes = n.prefixes; names = n.names; few = n.few })
    (one_end (renamed key q.own d) e (Ok (renamed key q.own d)) refl q.ends)

set_if : (full : Bool) (x e : Document) → (if full then Err TooManyAttributes else Ok x) ≡ Ok e → (full ≡ false) × (x ≡ e)
set_if true x e is = absurd (cc is)
set_if false x e is = (refl, one_end x e (Ok x) refl is)

set_keeps : (d : Document) (key : ℕ) (name value : List ℕ) (e : Document) → IsTree d → after d (edits.SetAttr key name value) ≡ Ok e → KeepsTree d e
set_keeps d key name value e t end =
    let p = changed_by d.forest key (set_attribute d key name value) e (found key 1 d.forest) refl end in
    let q = named_by _ (attribute_resolved (names_scope d key) name) e p.ends in
    let z = set_if (has_no_room q.own p.bindings p.attributes) (attribute_set key q.own value d) e q.ends in
    element_kept d key p.depth p.number p.name p.name p.bindings p.attributes (set_in q.own value p.attributes) p.children (with_attributes (set_in q.own value)) e t p.is_found refl
    (set_named p.name q.own value p.bindings p.attributes (attribute_known (names_scope d key) name q.own q.is) z.0) z.1

unset_if : (has : Bool) (x e : Document) → (if has then Ok x else Err NoSuchAttribute) ≡ Ok e → x ≡ e
unset_if true x e is = one_end x e (Ok x) refl is
unset_if false x e is = absurd (cc is)

unset_keeps : (d : Document) (key : ℕ) (name : List ℕ) (e : Document) → IsTree d → after d (edits.UnsetAttr key name) ≡ Ok e → KeepsTree d e
unset_keeps d key name e t end =
    let p = changed_by d.forest key (unset_attribute d key name) e (found key 1 d.forest) refl end in
    let q = named_by _ (attribute_resolved (names_scope d key) name) e p.ends in
    element_kept d key p.depth p.number p.name p.name p.bindings p.attributes (unset_in q.own p.attributes) p.children (with_attributes (unset_in q.own)) e t p.is_found refl
    (unset_named p.name q.own p.bindings p.attributes) (unset_if (has_name q.own p.attributes) (attribute_unset key q.own d) e q.ends)

-- an edit keeps a tree, and gives no number again
pub edit_keeps : (d : Document) (edit : Edit) (e : Document) → IsTree d → after d edit ≡ Ok e → KeepsTree d e
edit_keeps d (edits.Insert parent place its) e t end = inserted d parent place (scope_in parent first_scope d.forest) its e t end
edit_keeps d (edits.AddText parent place chars) e t end =
    put_kept d parent place (text 0 chars none) e (place_of d.forest parent place (put_within d parent place (text 0 chars none)) e end) tt t
edit_keeps d (edits.SetText key chars) e t end = reworded_by d key chars e (found key 1 d.forest) t refl end
edit_keeps d (edits.Remove key) e t end = removed_by d key e (found key 1 d.forest) t refl end
edit_keeps d (edits.Rename key name) e t end = rename_keeps d key name e t end
edit_keeps d (edits.SetAttr key name value) e t end = set_keeps d key name value e t end
edit_keeps d (edits.UnsetAttr key name) e t end = unset_keeps d key name e t end
