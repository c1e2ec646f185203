-- The node of a number in a document.
use Rattle.std.proofs.Common.{◌≡◌, inl, inr, ℕ, ◌+◌, List, Bool, true, false, ◌==◌, ◌||◌, Option, Some, None, refl, sym, ap, ◌∙◌, arith, subst}
use Rattle.std.specs.Prelude.{if◌then◌else◌}
use Rattle.std.proofs.lemmas.Bool.{or_left, or_right, eqb-true, eq-eqb, ne_eqb, false≢true, true≢false}
use Rattle.tree_rows.specs.Forest.{Forest, none, text, element}
use Rattle.tree_rows.specs.Whole.{AreNodes, times, HasRoot}
use Rattle.tree_rows.specs.declared.name.Expanded.{Expanded}
use Rattle.tree_rows.specs.declared.row.Attribute.{Attribute}
use Rattle.tree_rows.specs.declared.row.Binding.{Binding}
use Rattle.tree_edits.specs.Edits.{has, Found, found, is_root, replaced, append}
use Rattle.tree_edits.specs.Tests.{element_node, text_node, is_element, is_text}
use Rattle.tree_edits.proofs.Lying.{Lies, lies}
use Rattle.tree_edits.specs.Inverses.{IsOne}
use Rattle.tree_edits.specs.Sites.{Site, first_number}
use Rattle.tree_edits.proofs.Twice.{IsNodeOf}
use Rattle.tree_edits.proofs.Sited.{parent_in, site_below, above_or_among}

pub found_has : (key depth : ℕ) (f : Forest) → has key f ≡ true → (it : Found) × (found key depth f ≡ Some it)
found_has key depth none h = absurd (false≢true h)
found_has key depth (text n chars next) h =
    elim (n == key) as (λ b. (b || has key next) ≡ true → (it : Found) × ((if b then Some (record { depth = depth; node = text n chars none }) else found key depth next) ≡ Some it)) [
      | true ↦ λ k. (record { depth = depth; node = text n chars none }, refl)
      | false ↦ λ k. found_has key depth next k
    ] h
found_has key depth (element n name bindings attributes children next) h =
    elim (n == key) as (λ b. (b || (has key children || has key next)) ≡ true → (it : Found) × ((if b then Some (record { depth = depth; node = element n name bindings attributes children none })
    else (if has key children then found key (depth + 1) children else found key depth next)) ≡ Some it)) [
      | true ↦ λ k. (record { depth = depth; node = element n name bindings attributes children none }, refl)
      | false ↦ λ k. elim (has key children) as (λ b. has key children ≡ b → (b || has key next) ≡ true → (it : Found) × ((if b then found key (depth + 1) children else found key depth next) ≡ Some it)) [
        | true ↦ λ p j. found_has key (depth + 1) children p
        | false ↦ λ p j. found_has key depth next j
      ] refl k
    ] h

-- it stands alone, under its number, and is as the nodes of the document are
pub one_lies : (key depth : ℕ) (f : Forest) (it : Found) → Lies key depth f it → IsNodeOf key it.node
one_lies key depth none it l = absurd l
one_lies key depth (text n chars next) it (inl l) = subst (λ (i : Found). IsNodeOf key i.node) (sym l.1) (eqb-true n key l.0, refl)
one_lies key depth (text n chars next) it (inr l) = one_lies key depth next it l.1
one_lies key depth (element n name bindings attributes children next) it (inl l) = subst (λ (i : Found). IsNodeOf key i.node) (sym l.1) (eqb-true n key l.0, refl)
one_lies key depth (element n name bindings attributes children next) it (inr (inl l)) = one_lies key (depth + 1) children it l.2
one_lies key depth (element n name bindings attributes children next) it (inr (inr l)) = one_lies key depth next it l.2

pub nodes_lie : (free key depth : ℕ) (f : Forest) (it : Found) → Lies key depth f it → AreNodes free f → AreNodes free it.node
nodes_lie free key depth none it l a = absurd l
nodes_lie free key depth (text n chars next) it (inl l) a = subst (λ (i : Found). AreNodes free i.node) (sym l.1) (a.0, tt)
nodes_lie free key depth (text n chars next) it (inr l) a = nodes_lie free key depth next it l.1 a.1
nodes_lie free key depth (element n name bindings attributes children next) it (inl l) a = subst (λ (i : Found). AreNodes free i.node) (sym l.1) (a.0, a.1, a.2, tt)
nodes_lie free key depth (element n name bindings attributes children next) it (inr (inl l)) a = nodes_lie free key (depth + 1) children it l.2 a.2
nodes_lie free key depth (element n name bindings attributes children next) it (inr (inr l)) a = nodes_lie free key depth next it l.2 a.3

pub one_of_node : (key : ℕ) (one : Forest) → IsNodeOf key one → IsOne one
one_of_node key none h = h
one_of_node key (text n chars next) h = h.1
one_of_node key (element n name bindings attributes children next) h = h.1

pub node_of_one : (one : Forest) → IsOne one → IsNodeOf (first_number one) one
node_of_one none h = h
node_of_one (text n chars next) h = (refl, h)
node_of_one (element n name bindings attributes children next) h = (refl, h)

-- an element, and a text
pub record ElementAt (key : ℕ) (f : Forest) : Type 0 where
  pub depth : ℕ
  pub name : Expanded
  pub bindings : List Binding
  pub attributes : List Attribute
  pub children : Forest
  pub is_found : found key 1 f ≡ Some (record { depth = depth; node = element key name bindings attributes children none })

pub record TextAt (key : ℕ) (f : Forest) : Type 0 where
  pub depth : ℕ
  pub chars : List ℕ
  pub is_found : found key 1 f ≡ Some (record { depth = depth; node = text key chars none })

element_by : (key : ℕ) (f : Forest) (depth : ℕ) (one : Forest) → IsNodeOf key one → found key 1 f ≡ Some (record { depth = depth; node = one }) → element_node one ≡ true → ElementAt key f
element_by key f depth none h e is = absurd h
element_by key f depth (text n chars next) h e is = absurd (false≢true is)
element_by key f depth (element n name bindings attributes children next) h e is = record {
  depth = depth;
  name = name;
  bindings = bindings;
  attributes = attributes;
  children = children;
  is_found = e ∙ (λ i. Some (record { depth = depth; node = element (h.0 i) name bindings attributes children (h.1 i) }));
}

pub element_at : (key : ℕ) (f : Forest) → is_element (found key 1 f) ≡ true → ElementAt key f
element_at key f is = by (found key 1 f) refl is
  where
    by : (o : Option Found) → found key 1 f ≡ o → is_element o ≡ true → ElementAt key f
    by None e h = absurd (false≢true h)
    by (Some it) e h = element_by key f it.depth it.node (one_lies key 1 f it (lies key 1 f it e)) e h

text_by : (key : ℕ) (f : Forest) (depth : ℕ) (one : Forest) → IsNodeOf key one → found key 1 f ≡ Some (record { depth = depth; node = one }) → text_node one ≡ true → TextAt key f
text_by key f depth none h e is = absurd h
text_by key f depth (text n chars next) h e is = record {
  depth = depth;
  chars = chars;
  is_found = e ∙ (λ i. Some (record { depth = depth; node = text (h.0 i) chars (h.1 i) }));
}
text_by key f depth (element n name bindings attributes children next) h e is = absurd (false≢true is)

pub text_at : (key : ℕ) (f : Forest) → is_text (found key 1 f) ≡ true → TextAt key f
text_at key f is = by (found key 1 f) refl is
  where
    by : (o : Option Found) → found key 1 f ≡ o → is_text o ≡ true → TextAt key f
    by None e h = absurd (false≢true h)
    by (Some it) e h = text_by key f it.depth it.node (one_lies key 1 f it (lies key 1 f it e)) e h

-- no node has the number 0
pub none_zero : (free : ℕ) (f : Forest) → AreNodes free f → times 0 f ≡ 0
none_zero free none a = refl
none_zero free (text n chars next) a =
    let own : ◌≡◌ {A = ℕ} (if n == 0 then 1 else 0) 0 = ap (λ b. if b then 1 else 0) (ne_eqb n 0 (let l = a.0.0 in omega (arith, l))) in
    let i = none_zero free next a.1 in omega (arith, own, i)
none_zero free (element n name bindings attributes children next) a =
    let own : ◌≡◌ {A = ℕ} (if n == 0 then 1 else 0) 0 = ap (λ b. if b then 1 else 0) (ne_eqb n 0 (let l = a.0.0 in omega (arith, l))) in
    let i = none_zero free children a.2 in let j = none_zero free next a.3 in omega (arith, own, i, j)

-- the parent of a node that is not the root is there
pub parent_there : (key : ℕ) (f : Forest) (it : Found) → HasRoot f → is_root key f ≡ false → Lies key 1 f it → has (parent_in key 0 0 f) f ≡ true
parent_there key none it r o l = absurd r
parent_there key (text n chars next) it r o l = absurd r
parent_there key (element n name bindings attributes children next) it r o (inl l) = absurd (true≢false (sym l.0 ∙ o))
parent_there key (element n name bindings attributes children next) it r o (inr (inl l)) =
    let q = parent_in key n 0 children in
    ap (λ (s : Site). has s.parent (element n name bindings attributes children next)) (site_below key 0 0 n name bindings attributes children next l.0 l.1)
    ∙ elim (above_or_among key n 0 2 children it l.2) [
      | inl e ↦ or_left (n == q) (has q children || has q next) (eq-eqb n q (sym e))
      | inr h ↦ or_right (n == q) (has q children || has q next) (or_left (has q children) (has q next) h)
    ]
parent_there key (element n name bindings attributes children next) it r o (inr (inr l)) = absurd (subst (λ g. Lies key 1 g it) r.1 l.2)

-- the first node stays where a part is put among children
pub root_stays : (key parent : ℕ) (change : Forest → Forest) (f : Forest) → HasRoot f → ((n : ℕ) (name : Expanded) (bindings : List Binding) (attributes : List Attribute) (children : Forest)
    → is_root key (change (element n name bindings attributes children none)) ≡ (n == key)) → (g : (n : ℕ) (name : Expanded) (bindings : List Binding) (attributes : List Attribute) (children next : Forest)
    → is_root key (append (change (element n name bindings attributes children none)) next) ≡ is_root key (change (element n name bindings attributes children none)))
    → is_root key (replaced parent change f) ≡ is_root key f
root_stays key parent change none r c g = absurd r
root_stays key parent change (text n chars next) r c g = absurd r
root_stays key parent change (element n name bindings attributes children next) r c g = by (n == parent) (has parent children)
  where
    by : (a b : Bool) → is_root key (if a then append (change (element n name bindings attributes children none)) next
        else (if b then element n name bindings attributes (replaced parent change children) next
        else element n name bindings attributes children (replaced parent change next))) ≡ (n == key)
    by true b = g n name bindings attributes children next ∙ c n name bindings attributes children
    by false true = refl
    by false false = refl
