-- What a tree says of a node by what is above it, where something is carried downwards from parents to children.
use Rattle.std.proofs.Common.{◌≡◌, ℕ, zero, suc, ◌+◌, ◌≤◌, List, [], ◌∷◌, ◌++◌, map, drop, sym, ap, ◌∙◌, subst, Bool, true, false, ◌==◌, ◌||◌, if◌then◌else◌, Option, Some, refl, arith}
use Rattle.std.specs.Prelude.{slice_get, find}
use Rattle.std.specs.Option.{option_or}
use Rattle.std.proofs.lemmas.Bool.{eq-eqb, eqb-true, false≢true, false_from_ne_true}
use Rattle.std.proofs.lemmas.Option.{same_Some, none-some, slice_get_past}
use Rattle.xs_names.specs.Names.{NameTable}
use Rattle.tree_rows.specs.Forest.{Forest, none, text, element}
use Rattle.tree_rows.specs.Whole.{times}
use Rattle.tree_rows.specs.declared.name.Expanded.{Expanded}
use Rattle.tree_rows.specs.declared.row.Attribute.{Attribute}
use Rattle.tree_rows.specs.declared.row.Binding.{Binding}
use Rattle.tree_edits.specs.Edits.{has, scope_in}
use Rattle.doc_nodes.specs.Nodes.{Node, Nodes, node, IsNode, is_element, is_element_by, is_element_at}
use Rattle.doc_changes.specs.Stands.{firsts, IsElement, StandFor, binding_of}
use Rattle.doc_changes.specs.Held.{bindings_by, bindings_at, bindings_in}
use Rattle.doc_changes.proofs.Standing.{if_one, absent_times, present_times}
use Rattle.doc_tree.specs.Following.{first_element, past_in}

-- a number that comes once
module _ (n key : ℕ) (children next : Forest) where
  once_below : (if n == key then 1 else 0) + (times key children + times key next) ≤ 1 → 1 ≤ times key children → ((n == key) ≡ false) × (has key children ≡ true)
  once_below l k = (false_from_ne_true (n == key) (λ e. let one = if_one (n == key) e in absurd (omega (arith, one, l, k))), present_times key children k)

  once_beside : (if n == key then 1 else 0) + (times key children + times key next) ≤ 1 → 1 ≤ times key next → ((n == key) ≡ false) × (has key children ≡ false)
  once_beside l k = (
    false_from_ne_true (n == key) (λ e. let one = if_one (n == key) e in absurd (omega (arith, one, l, k))),
    absent_times key children (omega (arith, l, k)),
  )

once_after : (n key : ℕ) (next : Forest) → (if n == key then 1 else 0) + times key next ≤ 1 → 1 ≤ times key next → (n == key) ≡ false
once_after n key next l k = false_from_ne_true (n == key) (λ e. let one = if_one (n == key) e in absurd (omega (arith, one, l, k)))

-- a number among siblings, or below them
firsts_times : (f : Forest) (place c : ℕ) → slice_get (firsts f) place ≡ Some c → 1 ≤ times c f
firsts_times none place c e = absurd (none-some c (sym (slice_get_past [] place (omega arith)) ∙ e))
firsts_times (text number chars next) zero c e = let one = if_one (number == c) (eq-eqb number c (same_Some number c e)) in omega (arith, one)
firsts_times (text number chars next) (suc place) c e = let i = firsts_times next place c e in omega (arith, i)
firsts_times (element number name bindings attributes children next) zero c e = let one = if_one (number == c) (eq-eqb number c (same_Some number c e)) in omega (arith, one)
firsts_times (element number name bindings attributes children next) (suc place) c e = let i = firsts_times next place c e in omega (arith, i)

-- what is carried downwards to the children of an element, by its bindings and its next siblings
module _ (t : NameTable) (ns : Nodes) {X : Type 0} (g : ℕ → X → Forest → X) (down : List Binding → Forest → X → X)
    (past_text : (key : ℕ) (x : X) (n : ℕ) (chars : List ℕ) (next : Forest) → (n == key) ≡ false → g key x (text n chars next) ≡ g key x next)
    (into : (key : ℕ) (x : X) (n : ℕ) (name : Expanded) (bindings : List Binding) (attributes : List Attribute) (children next : Forest) → (n == key) ≡ false → has key children ≡ true
    → g key x (element n name bindings attributes children next) ≡ g key (down bindings next x) children)
    (past : (key : ℕ) (x : X) (n : ℕ) (name : Expanded) (bindings : List Binding) (attributes : List Attribute) (children next : Forest) → (n == key) ≡ false → has key children ≡ false
    → g key x (element n name bindings attributes children next) ≡ g key x next) where
  -- the element p where it stands among some siblings, and what was carried to it
  record IsSub (p : ℕ) (f : Forest) (x : X) : Type 0 where
    at : X
    name : Expanded
    bindings : List Binding
    attributes : List Attribute
    children : Forest
    next : Forest
    same : (key : ℕ) → 1 ≤ times key (element p name bindings attributes children none) → g key x f ≡ g key at (element p name bindings attributes children next)
    shown : IsElement t ns p name bindings attributes children
    below : StandFor t ns children
    few : (j : ℕ) → times j (element p name bindings attributes children next) ≤ times j f

  sub_of : (p c place : ℕ) (it : Node) → IsNode ns p it → slice_get it.children place ≡ Some c → (f : Forest) (x : X) → StandFor t ns f → ((j : ℕ) → times j f ≤ 1) → has p f ≡ true → IsSub p f x
  sub_of p c place it there child none x s d h = absurd (false≢true h)
  sub_of p c place it there child (text n chars next) x s d h = by (λ k. sub_of p c place it there child next x s.1 (λ j. let o = d j in omega (arith, o)) k) (n == p) refl
    where
      by : (has p next ≡ true → IsSub p next x) → (b : Bool) → (n == p) ≡ b → IsSub p (text n chars next) x
      by rest true q =
          let same = same_Some it s.0.text (sym there ∙ ap (node ns) (sym (eqb-true n p q)) ∙ s.0.is) in
          let bare : it.children ≡ [] = ap (λ (y : Node). y.children) same ∙ s.0.no_children in
          absurd (none-some c (sym (slice_get_past [] place (omega arith)) ∙ ap (λ l. slice_get l place) (sym bare) ∙ child))
      by rest false q =
          let r = rest (sym (ap (λ b. b || has p next) q) ∙ h) in
          record {
            at = r.at;
            name = r.name;
            bindings = r.bindings;
            attributes = r.attributes;
            children = r.children;
            next = r.next;
            same = λ key k. past_text key x n chars next (let o = d key in let w = r.few key in once_after n key next o (omega (arith, k, w))) ∙ r.same key k;
            shown = r.shown;
            below = r.below;
            few = λ j. let w = r.few j in omega (arith, w);
          }
  sub_of p c place it there child (element n name bindings attributes children next) x s d h =
      by (λ k. sub_of p c place it there child children (down bindings next x) s.1 (λ j. let o = d j in omega (arith, o)) k)
      (λ k. sub_of p c place it there child next x s.2 (λ j. let o = d j in omega (arith, o)) k) (n == p) refl (has p children) refl
    where
      by : (has p children ≡ true → IsSub p children (down bindings next x)) → (has p next ≡ true → IsSub p next x) → (b : Bool) → (n == p) ≡ b → (e : Bool) → has p children ≡ e → IsSub p (element n name bindings attributes children next) x
      by inner rest true q e r =
          let k = eqb-true n p q in
          record {
            at = x;
            name = name;
            bindings = bindings;
            attributes = attributes;
            children = children;
            next = next;
            same = λ key l. ap (λ m. g key x (element m name bindings attributes children next)) k;
            shown = subst (λ m. IsElement t ns m name bindings attributes children) k s.0;
            below = s.1;
            few = λ j. let w = ap (λ m. times j (element m name bindings attributes children next)) k in omega (arith, w);
          }
      by inner rest false q true r =
          let i = inner r in
          record {
            at = i.at;
            name = i.name;
            bindings = i.bindings;
            attributes = i.attributes;
            children = i.children;
            next = i.next;
            same = λ key k.
                let o = d key in let w = i.few key in let a = once_below n key children next o (omega (arith, k, w)) in
                into key x n name bindings attributes children next a.0 a.1 ∙ i.same key k;
            shown = i.shown;
            below = i.below;
            few = λ j. let w = i.few j in omega (arith, w);
          }
      by inner rest false q false r =
          let i = rest (sym (ap (λ b. b || (has p children || has p next)) q ∙ ap (λ b. b || has p next) r) ∙ h) in
          record {
            at = i.at;
            name = i.name;
            bindings = i.bindings;
            attributes = i.attributes;
            children = i.children;
            next = i.next;
            same = λ key k.
                let o = d key in let w = i.few key in let a = once_beside n key children next o (omega (arith, k, w)) in
                past key x n name bindings attributes children next a.0 a.1 ∙ i.same key k;
            shown = i.shown;
            below = i.below;
            few = λ j. let w = i.few j in omega (arith, w);
          }

  -- a child, by its parent: the child among its siblings, with what was carried to them, and what the parent itself is given
  pub record IsChildIn (p c place : ℕ) (f : Forest) (x : X) (children_are : List ℕ) : Type 0 where
    pub at : X
    pub name : Expanded
    pub bindings : List Binding
    pub attributes : List Attribute
    pub children : Forest
    pub next : Forest
    pub own : g p x f ≡ g p at (element p name bindings attributes children next)
    pub child : g c x f ≡ g c (down bindings next at) children
    pub shown : IsElement t ns p name bindings attributes children
    pub below : StandFor t ns children
    pub differ : (j : ℕ) → times j children ≤ 1
    pub placed : slice_get (firsts children) place ≡ Some c
    pub are : children_are ≡ firsts children

  pub child_of : (p c place : ℕ) (it : Node) → IsNode ns p it → slice_get it.children place ≡ Some c → (f : Forest) (x : X) → StandFor t ns f → ((j : ℕ) → times j f ≤ 1) → has p f ≡ true
      → IsChildIn p c place f x it.children
  child_of p c place it there child f x s d h =
      let r = sub_of p c place it there child f x s d h in
      let same = same_Some it r.shown.it (sym there ∙ r.shown.is) in
      let are : it.children ≡ firsts r.children = ap (λ (y : Node). y.children) same ∙ r.shown.children_are in
      let placed : slice_get (firsts r.children) place ≡ Some c = ap (λ l. slice_get l place) (sym are) ∙ child in
      let one = firsts_times r.children place c placed in
      let oc = d c in let wc = r.few c in
      let self = if_one (p == p) (eq-eqb p p refl) in
      let a = once_below p c r.children r.next (omega (arith, oc, wc)) one in
      record {
        at = r.at;
        name = r.name;
        bindings = r.bindings;
        attributes = r.attributes;
        children = r.children;
        next = r.next;
        own = r.same p (omega (arith, self));
        child = r.same c (omega (arith, one)) ∙ into c r.at p r.name r.bindings r.attributes r.children r.next a.0 a.1;
        shown = r.shown;
        below = r.below;
        differ = λ j. let o = d j in let w = r.few j in omega (arith, o, w);
        placed = placed;
        are = are;
      }

-- the first element among siblings, by number
pub first_is : (t : NameTable) (ns : Nodes) (f : Forest) → StandFor t ns f → find (is_element_at ns) (firsts f) ≡ first_element f
first_is t ns none s = refl
first_is t ns (text number chars next) s =
    let no : is_element_at ns number ≡ false = ap is_element_by s.0.is ∙ ap is_element s.0.content in
    ap (λ b. if b then Some number else find (is_element_at ns) (firsts next)) no ∙ first_is t ns next s.1
first_is t ns (element number name bindings attributes children next) s =
    let yes : is_element_at ns number ≡ true = ap is_element_by s.0.is ∙ ap is_element s.0.content in
    ap (λ b. if b then Some number else find (is_element_at ns) (firsts next)) yes

drop_next : (place number : ℕ) (l : List ℕ) → drop (suc place + 1) (number ∷ l) ≡ drop (place + 1) l
drop_next place number l = ap (λ m. drop m (number ∷ l)) (let e : suc place + 1 ≡ suc (place + 1) = omega arith in e)

-- what comes past a sibling
pub past_top : (t : NameTable) (ns : Nodes) (f : Forest) (x : Option ℕ) (place c : ℕ) → StandFor t ns f → ((j : ℕ) → times j f ≤ 1) → slice_get (firsts f) place ≡ Some c
    → past_in c x f ≡ option_or (find (is_element_at ns) (drop (place + 1) (firsts f))) x
past_top t ns none x place c s d e = absurd (none-some c (sym (slice_get_past [] place (omega arith)) ∙ e))
past_top t ns (text number chars next) x zero c s d e =
    ap (λ b. if b then option_or (first_element next) x else past_in c x next) (eq-eqb number c (same_Some number c e)) ∙ ap (λ o. option_or o x) (sym (first_is t ns next s.1))
past_top t ns (text number chars next) x (suc place) c s d e =
    let o = d c in
    ap (λ b. if b then option_or (first_element next) x else past_in c x next) (once_after number c next o (firsts_times next place c e))
    ∙ past_top t ns next x place c s.1 (λ j. let w = d j in omega (arith, w)) e
    ∙ ap (λ l. option_or (find (is_element_at ns) l) x) (sym (drop_next place number (firsts next)))
past_top t ns (element number name bindings attributes children next) x zero c s d e =
    ap (λ b. if b then option_or (first_element next) x else (if has c children then past_in c (option_or (first_element next) x) children else past_in c x next)) (eq-eqb number c (same_Some number c e))
    ∙ ap (λ o. option_or o x) (sym (first_is t ns next s.2))
past_top t ns (element number name bindings attributes children next) x (suc place) c s d e =
    let o = d c in let a = once_beside number c children next o (firsts_times next place c e) in
    ap (λ b. if b then option_or (first_element next) x else (if has c children then past_in c (option_or (first_element next) x) children else past_in c x next)) a.0
    ∙ ap (λ b. if b then past_in c (option_or (first_element next) x) children else past_in c x next) a.1
    ∙ past_top t ns next x place c s.2 (λ j. let w = d j in omega (arith, w)) e
    ∙ ap (λ l. option_or (find (is_element_at ns) l) x) (sym (drop_next place number (firsts next)))

-- the scope inside a sibling
pub scope_top : (t : NameTable) (ns : Nodes) (f : Forest) (x : List Binding) (place c : ℕ) → StandFor t ns f → ((j : ℕ) → times j f ≤ 1) → slice_get (firsts f) place ≡ Some c
    → scope_in c x f ≡ map (binding_of t) (bindings_at ns c) ++ x
scope_top t ns none x place c s d e = absurd (none-some c (sym (slice_get_past [] place (omega arith)) ∙ e))
scope_top t ns (text number chars next) x zero c s d e =
    let k = same_Some number c e in
    let own : bindings_at ns c ≡ [] = ap (λ m. bindings_at ns m) (sym k) ∙ ap bindings_by s.0.is ∙ ap bindings_in s.0.content in
    ap (λ b. if b then x else scope_in c x next) (eq-eqb number c k) ∙ sym (ap (λ l. map (binding_of t) l ++ x) own)
scope_top t ns (text number chars next) x (suc place) c s d e =
    let o = d c in
    ap (λ b. if b then x else scope_in c x next) (once_after number c next o (firsts_times next place c e))
    ∙ scope_top t ns next x place c s.1 (λ j. let w = d j in omega (arith, w)) e
scope_top t ns (element number name bindings attributes children next) x zero c s d e =
    let k = same_Some number c e in
    let own : map (binding_of t) (bindings_at ns c) ≡ bindings = ap (λ m. map (binding_of t) (bindings_at ns m)) (sym k) ∙ ap (λ y. map (binding_of t) (bindings_by y)) s.0.is ∙ ap (λ y. map (binding_of t) (bindings_in y)) s.0.content ∙ s.0.bindings_are in
    ap (λ b. if b then bindings ++ x else (if has c children then scope_in c (bindings ++ x) children else scope_in c x next)) (eq-eqb number c k) ∙ sym (ap (λ l. l ++ x) own)
scope_top t ns (element number name bindings attributes children next) x (suc place) c s d e =
    let o = d c in let a = once_beside number c children next o (firsts_times next place c e) in
    ap (λ b. if b then bindings ++ x else (if has c children then scope_in c (bindings ++ x) children else scope_in c x next)) a.0
    ∙ ap (λ b. if b then scope_in c (bindings ++ x) children else scope_in c x next) a.1
    ∙ scope_top t ns next x place c s.2 (λ j. let w = d j in omega (arith, w)) e
