-- Where a part stands that was put back, and the number of a node that is found.
use Rattle.std.proofs.Common.{◌≡◌, inl, inr, ℕ, ◌+◌, ◌-◌, List, true, false, ◌==◌, ◌||◌, refl, sym, ap, ◌∙◌, subst}
use Rattle.std.specs.Prelude.{if◌then◌else◌}
use Rattle.std.proofs.lemmas.Bool.{or_parts, or_right, eq-eqb, eqb-true, false≢true}
use Rattle.tree_rows.specs.Forest.{Forest, none, text, element}
use Rattle.tree_rows.specs.declared.name.Expanded.{Expanded}
use Rattle.tree_rows.specs.declared.row.Attribute.{Attribute}
use Rattle.tree_rows.specs.declared.row.Binding.{Binding}
use Rattle.tree_edits.specs.Edits.{append, has, Found, replaced, insert_at, with_children}
use Rattle.tree_edits.specs.Tests.{element_node}
use Rattle.tree_edits.proofs.Lying.{Lies, lies, append-none}
use Rattle.tree_edits.specs.Sites.{Site, site_in, first_number, node_of, node_by}
use Rattle.tree_edits.proofs.InverseLying.{found_has, one_lies}
use Rattle.tree_edits.proofs.Sited.{parent_in, site_below}
use Rattle.tree_edits.proofs.Twice.{IsNodeOf, past_text, below_element, past_element, has_put, has_head}

-- ---- the number of a node

first_of : (key : ℕ) (one : Forest) → IsNodeOf key one → first_number one ≡ key
first_of key none h = absurd h
first_of key (text n chars next) h = h.0
first_of key (element n name bindings attributes children next) h = h.0

-- a node that is found has the number
pub found_number : (key : ℕ) (f : Forest) → has key f ≡ true → first_number (node_of key f) ≡ key
found_number key f h =
    let it = found_has key 1 f h in
    ap (λ o. first_number (node_by o)) it.1 ∙ first_of key it.0.node (one_lies key 1 f it.0 (lies key 1 f it.0 it.1))

-- ---- where a part stands

parent_is : (key above at : ℕ) (f g : Forest) (n m : ℕ) → site_in key above at f ≡ site_in key n m g → parent_in key above at f ≡ parent_in key n m g
parent_is key above at f g n m e = ap (λ (s : Site). s.parent) e

site_text : (key above at n : ℕ) (chars : List ℕ) (next : Forest) → (n == key) ≡ false → site_in key above at (text n chars next) ≡ site_in key above (at + 1) next
site_text key above at n chars next e = rw e refl

site_past : (key above at n : ℕ) (name : Expanded) (bindings : List Binding) (attributes : List Attribute) (children next : Forest) → (n == key) ≡ false → has key children ≡ false
    → site_in key above at (element n name bindings attributes children next) ≡ site_in key above (at + 1) next
site_past key above at n name bindings attributes children next e h = rw (e, h) refl

text_before : (key above at n : ℕ) (chars : List ℕ) (next : Forest) → (n == key) ≡ false → parent_in key above at (text n chars next) ≡ parent_in key above (at + 1) next
text_before key above at n chars next e = parent_is key above at (text n chars next) next above (at + 1) (site_text key above at n chars next e)

element_before : (key above at n : ℕ) (name : Expanded) (bindings : List Binding) (attributes : List Attribute) (children next : Forest) → (n == key) ≡ false → has key children ≡ false
    → parent_in key above at (element n name bindings attributes children next) ≡ parent_in key above (at + 1) next
element_before key above at n name bindings attributes children next e h =
    parent_is key above at (element n name bindings attributes children next) next above (at + 1) (site_past key above at n name bindings attributes children next e h)

element_above : (key above at n : ℕ) (name : Expanded) (bindings : List Binding) (attributes : List Attribute) (children next : Forest) → (n == key) ≡ false → has key children ≡ true
    → parent_in key above at (element n name bindings attributes children next) ≡ parent_in key n 0 children
element_above key above at n name bindings attributes children next e h =
    parent_is key above at (element n name bindings attributes children next) children n 0 (site_below key above at n name bindings attributes children next e h)

-- the part is the first
first_site : (key above at : ℕ) (part f : Forest) → IsNodeOf key part → site_in key above at (append part f) ≡ record { parent = above; place = at }
first_site key above at none f a = absurd a
first_site key above at (text n chars next) f a = rw (eq-eqb n key a.0) refl
first_site key above at (element n name bindings attributes children next) f a = rw (eq-eqb n key a.0) refl

first_parent : (key above at : ℕ) (part f : Forest) → IsNodeOf key part → parent_in key above at (append part f) ≡ above
first_parent key above at part f a = ap (λ (s : Site). s.parent) (first_site key above at part f a)

-- it is one of the siblings
among_siblings : (key above at place : ℕ) (part f : Forest) → IsNodeOf key part → has key f ≡ false → parent_in key above at (insert_at place part f) ≡ above
among_siblings key above at place part none a h = ap (parent_in key above at) (sym (append-none part)) ∙ first_parent key above at part none a
among_siblings key above at place part (text n chars next) a h =
    let z = or_parts (n == key) (has key next) h in
    elim (place == 0) as (λ b. parent_in key above at (if b then append part (text n chars next) else text n chars (insert_at (place - 1) part next)) ≡ above) [
      | true ↦ first_parent key above at part (text n chars next) a
      | false ↦ text_before key above at n chars (insert_at (place - 1) part next) z.0 ∙ among_siblings key above (at + 1) (place - 1) part next a z.1
    ]
among_siblings key above at place part (element n name bindings attributes children next) a h =
    let z = or_parts (n == key) (has key children || has key next) h in
    let y = or_parts (has key children) (has key next) z.1 in
    elim (place == 0) as (λ b. parent_in key above at (if b then append part (element n name bindings attributes children next)
    else element n name bindings attributes children (insert_at (place - 1) part next)) ≡ above) [
      | true ↦ first_parent key above at part (element n name bindings attributes children next) a
      | false ↦ element_before key above at n name bindings attributes children (insert_at (place - 1) part next) z.0 y.0
          ∙ among_siblings key above (at + 1) (place - 1) part next a y.1
    ]

has_insert : (key place : ℕ) (part f : Forest) → IsNodeOf key part → has key (insert_at place part f) ≡ true
has_insert key place part none a = sym (ap (has key) (append-none part)) ∙ has_head key part none a
has_insert key place part (text n chars next) a =
    elim (place == 0) as (λ b. has key (if b then append part (text n chars next) else text n chars (insert_at (place - 1) part next)) ≡ true) [
      | true ↦ has_head key part (text n chars next) a
      | false ↦ or_right (n == key) (has key (insert_at (place - 1) part next)) (has_insert key (place - 1) part next a)
    ]
has_insert key place part (element n name bindings attributes children next) a =
    elim (place == 0) as (λ b. has key (if b then append part (element n name bindings attributes children next)
    else element n name bindings attributes children (insert_at (place - 1) part next)) ≡ true) [
      | true ↦ has_head key part (element n name bindings attributes children next) a
      | false ↦ or_right (n == key) (has key children || has key (insert_at (place - 1) part next))
          (or_right (has key children) (has key (insert_at (place - 1) part next)) (has_insert key (place - 1) part next a))
    ]

-- a part that was put among the children of an element is one of them
pub put_below : (key parent place depth above at : ℕ) (part f : Forest) (it : Found) → Lies parent depth f it → element_node it.node ≡ true → IsNodeOf key part → has key f ≡ false
    → parent_in key above at (replaced parent (with_children place part) f) ≡ parent
put_below key parent place depth above at part none it l e a h = absurd l
put_below key parent place depth above at part (text n chars next) it (inl l) e a h = absurd (false≢true (subst (λ (i : Found). element_node i.node ≡ true) l.1 e))
put_below key parent place depth above at part (text n chars next) it (inr l) e a h =
    let z = or_parts (n == key) (has key next) h in
    ap (parent_in key above at) (past_text parent (with_children place part) n chars next l.0)
    ∙ text_before key above at n chars (replaced parent (with_children place part) next) z.0
    ∙ put_below key parent place depth above (at + 1) part next it l.1 e a z.1
put_below key parent place depth above at part (element n name bindings attributes children next) it (inl l) e a h =
    let z = or_parts (n == key) (has key children || has key next) h in
    let y = or_parts (has key children) (has key next) z.1 in
    rw (l.0) (element_above key above at n name bindings attributes (insert_at place part children) next z.0 (has_insert key place part children a)
    ∙ among_siblings key n 0 place part children a y.0 ∙ eqb-true n parent l.0)
put_below key parent place depth above at part (element n name bindings attributes children next) it (inr (inl l)) e a h =
    let z = or_parts (n == key) (has key children || has key next) h in
    let y = or_parts (has key children) (has key next) z.1 in
    ap (parent_in key above at) (below_element parent (with_children place part) n name bindings attributes children next l.0 l.1)
    ∙ element_above key above at n name bindings attributes (replaced parent (with_children place part) children) next z.0 (has_put key parent place (depth + 1) part children it l.2 e a)
    ∙ put_below key parent place (depth + 1) n 0 part children it l.2 e a y.0
put_below key parent place depth above at part (element n name bindings attributes children next) it (inr (inr l)) e a h =
    let z = or_parts (n == key) (has key children || has key next) h in
    let y = or_parts (has key children) (has key next) z.1 in
    ap (parent_in key above at) (past_element parent (with_children place part) n name bindings attributes children next l.0 l.1)
    ∙ element_before key above at n name bindings attributes children (replaced parent (with_children place part) next) z.0 y.0
    ∙ put_below key parent place depth above (at + 1) part next it l.2 e a y.1
