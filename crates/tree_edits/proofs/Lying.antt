-- Where the node of a number lies in a forest, and what a forest is once the node is changed.
use Rattle.std.proofs.Common.{◌≡◌, ◌⊎◌, inl, inr, ℕ, ◌+◌, ◌≤◌, List, Bool, true, false, ◌==◌, Some, None, refl, sym, ap, ◌∙◌, arith, max, subst}
use Rattle.std.proofs.lemmas.Option.{same_Some}
use Rattle.tree_rows.specs.Forest.{Forest, none, text, element, count, deepest_of}
use Rattle.tree_rows.specs.Whole.{AreNodes, times, HasRoot}
use Rattle.tree_rows.specs.declared.name.Expanded.{Expanded}
use Rattle.tree_rows.specs.declared.row.Attribute.{Attribute}
use Rattle.tree_rows.specs.declared.row.Binding.{Binding}
use Rattle.tree_edits.specs.Edits.{append, has, Found, found, replaced, is_root}

-- the node of the number is the first one, or it lies below that one, or beside it
abbrev pub Lies : ℕ → ℕ → Forest → Found → Type 0
Lies key depth none it = ⊥
Lies key depth (text n chars next) it =
    (((n == key) ≡ true) × (it ≡ record { depth = depth; node = text n chars none })) ⊎ (((n == key) ≡ false) × Lies key depth next it)
Lies key depth (element n name bindings attributes children next) it =
    (((n == key) ≡ true) × (it ≡ record { depth = depth; node = element n name bindings attributes children none }))
    ⊎ ((((n == key) ≡ false) × (has key children ≡ true) × Lies key (depth + 1) children it)
    ⊎ (((n == key) ≡ false) × (has key children ≡ false) × Lies key depth next it))

nowhere : (it : Found) → None ≡ Some it → ⊥
nowhere it e = cc e

text_lies : (key depth n : ℕ) (chars : List ℕ) (next : Forest) (it : Found) → (found key depth next ≡ Some it → Lies key depth next it)
    → (t : Bool) → (n == key) ≡ t → found key depth (text n chars next) ≡ Some it → Lies key depth (text n chars next) it
text_lies key depth n chars next it later true t e = inl (t, sym (same_Some _ _ (rw t at e)))
text_lies key depth n chars next it later false t e = inr (t, later (rw t at e))

element_lies : (key depth n : ℕ) (name : Expanded) (bindings : List Binding) (attributes : List Attribute) (children next : Forest) (it : Found)
    → (found key (depth + 1) children ≡ Some it → Lies key (depth + 1) children it) → (found key depth next ≡ Some it → Lies key depth next it)
    → (t : Bool) → (n == key) ≡ t → (u : Bool) → has key children ≡ u → found key depth (element n name bindings attributes children next) ≡ Some it
    → Lies key depth (element n name bindings attributes children next) it
element_lies key depth n name bindings attributes children next it below later true t u b e = inl (t, sym (same_Some _ _ (rw t at e)))
element_lies key depth n name bindings attributes children next it below later false t true b e = inr (inl (t, b, below (rw (t, b) at e)))
element_lies key depth n name bindings attributes children next it below later false t false b e = inr (inr (t, b, later (rw (t, b) at e)))

pub lies : (key depth : ℕ) (f : Forest) (it : Found) → found key depth f ≡ Some it → Lies key depth f it
lies key depth none it e = nowhere it e
lies key depth (text n chars next) it e = text_lies key depth n chars next it (lies key depth next it) (n == key) refl e
lies key depth (element n name bindings attributes children next) it e =
    element_lies key depth n name bindings attributes children next it (lies key (depth + 1) children it) (lies key depth next it) (n == key) refl (has key children) refl e

-- siblings behind siblings
pub append-none : (f : Forest) → append f none ≡ f
append-none none = refl
append-none (text n chars next) = ap (text n chars) (append-none next)
append-none (element n name bindings attributes children next) = ap (element n name bindings attributes children) (append-none next)

pub count-append : (f g : Forest) → count (append f g) ≡ count f + count g
count-append none g = omega arith
count-append (text n chars next) g = omega (arith, count-append next g)
count-append (element n name bindings attributes children next) g = omega (arith, count-append next g)

pub times-append : (j : ℕ) (f g : Forest) → times j (append f g) ≡ times j f + times j g
times-append j none g = omega arith
times-append j (text n chars next) g = omega (arith, times-append j next g)
times-append j (element n name bindings attributes children next) g = omega (arith, times-append j next g)

pub deepest_append : (depth : ℕ) (f g : Forest) → deepest_of depth (append f g) ≡ max (deepest_of depth f) (deepest_of depth g)
deepest_append depth none g = omega arith
deepest_append depth (text n chars next) g = deepest_append depth next g
deepest_append depth (element n name bindings attributes children next) g =
    let later = deepest_append depth next g in omega (arith, later)

pub nodes_append : (free : ℕ) (f g : Forest) → AreNodes free f → AreNodes free g → AreNodes free (append f g)
nodes_append free none g a b = b
nodes_append free (text n chars next) g a b = (a.0, nodes_append free next g a.1 b)
nodes_append free (element n name bindings attributes children next) g a b = (a.0, a.1, a.2, nodes_append free next g a.3 b)

pub nodes_parts : (free : ℕ) (f g : Forest) → AreNodes free (append f g) → AreNodes free f × AreNodes free g
nodes_parts free none g a = (tt, a)
nodes_parts free (text n chars next) g a = let both = nodes_parts free next g a.1 in ((a.0, both.0), both.1)
nodes_parts free (element n name bindings attributes children next) g a =
    let both = nodes_parts free next g a.3 in ((a.0, a.1, a.2, both.0), both.1)

-- how often a number is given once a node is changed
pub times_changed : (j key depth : ℕ) (change : Forest → Forest) (f : Forest) (it : Found) → Lies key depth f it
    → times j (replaced key change f) + times j it.node ≡ times j f + times j (change it.node)
times_changed j key depth change none it l = absurd l
times_changed j key depth change (text n chars next) it (inl l) =
    let old = ap (λ (i : Found). times j i.node) l.1 in
    let new = ap (λ (i : Found). times j (change i.node)) l.1 in
    let both = times-append j (change (text n chars none)) next in
    rw (l.0) (omega (arith, old, new, both))
times_changed j key depth change (text n chars next) it (inr l) =
    let later = times_changed j key depth change next it l.1 in
    rw (l.0) (omega (arith, later))
times_changed j key depth change (element n name bindings attributes children next) it (inl l) =
    let old = ap (λ (i : Found). times j i.node) l.1 in
    let new = ap (λ (i : Found). times j (change i.node)) l.1 in
    let both = times-append j (change (element n name bindings attributes children none)) next in
    rw (l.0) (omega (arith, old, new, both))
times_changed j key depth change (element n name bindings attributes children next) it (inr (inl l)) =
    let below = times_changed j key (depth + 1) change children it l.2 in
    rw (l.0, l.1) (omega (arith, below))
times_changed j key depth change (element n name bindings attributes children next) it (inr (inr l)) =
    let later = times_changed j key depth change next it l.2 in
    rw (l.0, l.1) (omega (arith, later))

-- how many nodes there are then
pub count_changed : (key depth : ℕ) (change : Forest → Forest) (f : Forest) (it : Found) → Lies key depth f it
    → count (replaced key change f) + count it.node ≡ count f + count (change it.node)
count_changed key depth change none it l = absurd l
count_changed key depth change (text n chars next) it (inl l) =
    let old = ap (λ (i : Found). count i.node) l.1 in
    let new = ap (λ (i : Found). count (change i.node)) l.1 in
    let both = count-append (change (text n chars none)) next in
    rw (l.0) (omega (arith, old, new, both))
count_changed key depth change (text n chars next) it (inr l) =
    let later = count_changed key depth change next it l.1 in
    rw (l.0) (omega (arith, later))
count_changed key depth change (element n name bindings attributes children next) it (inl l) =
    let old = ap (λ (i : Found). count i.node) l.1 in
    let new = ap (λ (i : Found). count (change i.node)) l.1 in
    let both = count-append (change (element n name bindings attributes children none)) next in
    rw (l.0) (omega (arith, old, new, both))
count_changed key depth change (element n name bindings attributes children next) it (inr (inl l)) =
    let below = count_changed key (depth + 1) change children it l.2 in
    rw (l.0, l.1) (omega (arith, below))
count_changed key depth change (element n name bindings attributes children next) it (inr (inr l)) =
    let later = count_changed key depth change next it l.2 in
    rw (l.0, l.1) (omega (arith, later))

-- how deep elements stand then
pub deepest_changed : (bound key depth : ℕ) (change : Forest → Forest) (f : Forest) (it : Found) → Lies key depth f it
    → deepest_of depth f ≤ bound → deepest_of it.depth (change it.node) ≤ bound → deepest_of depth (replaced key change f) ≤ bound
deepest_changed bound key depth change none it l old new = absurd l
deepest_changed bound key depth change (text n chars next) it (inl l) old new =
    let is = ap (λ (i : Found). deepest_of i.depth (change i.node)) l.1 in
    let both = deepest_append depth (change (text n chars none)) next in
    rw (l.0) (omega (arith, old, new, is, both))
deepest_changed bound key depth change (text n chars next) it (inr l) old new =
    rw (l.0) (deepest_changed bound key depth change next it l.1 old new)
deepest_changed bound key depth change (element n name bindings attributes children next) it (inl l) old new =
    let is = ap (λ (i : Found). deepest_of i.depth (change i.node)) l.1 in
    let both = deepest_append depth (change (element n name bindings attributes children none)) next in
    rw (l.0) (omega (arith, old, new, is, both))
deepest_changed bound key depth change (element n name bindings attributes children next) it (inr (inl l)) old new =
    let below = deepest_changed bound key (depth + 1) change children it l.2 (omega (arith, old)) new in
    rw (l.0, l.1) (omega (arith, old, below))
deepest_changed bound key depth change (element n name bindings attributes children next) it (inr (inr l)) old new =
    let later = deepest_changed bound key depth change next it l.2 (omega (arith, old)) new in
    rw (l.0, l.1) (omega (arith, old, later))

-- the node is no deeper than all
pub deepest_here : (key depth : ℕ) (f : Forest) (it : Found) → Lies key depth f it → deepest_of it.depth it.node ≤ deepest_of depth f
deepest_here key depth none it l = absurd l
deepest_here key depth (text n chars next) it (inl l) = let is = ap (λ (i : Found). deepest_of i.depth i.node) l.1 in omega (arith, is)
deepest_here key depth (text n chars next) it (inr l) = deepest_here key depth next it l.1
deepest_here key depth (element n name bindings attributes children next) it (inl l) =
    let is = ap (λ (i : Found). deepest_of i.depth i.node) l.1 in omega (arith, is)
deepest_here key depth (element n name bindings attributes children next) it (inr (inl l)) =
    let below = deepest_here key (depth + 1) children it l.2 in omega (arith, below)
deepest_here key depth (element n name bindings attributes children next) it (inr (inr l)) =
    let later = deepest_here key depth next it l.2 in omega (arith, later)

-- the nodes are well, where the changed one is
pub nodes_changed : (free key depth : ℕ) (change : Forest → Forest) (f : Forest) (it : Found) → Lies key depth f it → AreNodes free f
    → (AreNodes free it.node → AreNodes free (change it.node)) → AreNodes free (replaced key change f)
nodes_changed free key depth change none it l a step = absurd l
nodes_changed free key depth change (text n chars next) it (inl l) a step =
    let new : AreNodes free (change (text n chars none)) =
    subst (λ (i : Found). AreNodes free i.node → AreNodes free (change i.node)) l.1 step (a.0, tt) in
    rw (l.0) (nodes_append free (change (text n chars none)) next new a.1)
nodes_changed free key depth change (text n chars next) it (inr l) a step =
    rw (l.0) (a.0, nodes_changed free key depth change next it l.1 a.1 step)
nodes_changed free key depth change (element n name bindings attributes children next) it (inl l) a step =
    let new : AreNodes free (change (element n name bindings attributes children none)) =
    subst (λ (i : Found). AreNodes free i.node → AreNodes free (change i.node)) l.1 step (a.0, a.1, a.2, tt) in
    rw (l.0) (nodes_append free (change (element n name bindings attributes children none)) next new a.3)
nodes_changed free key depth change (element n name bindings attributes children next) it (inr (inl l)) a step =
    rw (l.0, l.1) (a.0, a.1, nodes_changed free key (depth + 1) change children it l.2 a.2 step, a.3)
nodes_changed free key depth change (element n name bindings attributes children next) it (inr (inr l)) a step =
    rw (l.0, l.1) (a.0, a.1, a.2, nodes_changed free key depth change next it l.2 a.3 step)

-- the root stays, where it stays if it is the changed one
pub root_changed : (key depth : ℕ) (change : Forest → Forest) (f : Forest) (it : Found) → Lies key depth f it → HasRoot f
    → (is_root key f ≡ true → HasRoot it.node → HasRoot (change it.node)) → HasRoot (replaced key change f)
root_changed key depth change none it l r step = absurd l
root_changed key depth change (text n chars next) it l r step = absurd r
root_changed key depth change (element n name bindings attributes children next) it (inl l) r step =
    let new : HasRoot (change (element n name bindings attributes children none)) =
    subst (λ (i : Found). HasRoot i.node → HasRoot (change i.node)) l.1 (step l.0) (r.0, refl) in
    let alone : append (change (element n name bindings attributes children none)) next ≡ change (element n name bindings attributes children none) =
    ap (append (change (element n name bindings attributes children none))) r.1 ∙ append-none (change (element n name bindings attributes children none)) in
    rw (l.0) (subst HasRoot (sym alone) new)
root_changed key depth change (element n name bindings attributes children next) it (inr (inl l)) r step = rw (l.0, l.1) r
root_changed key depth change (element n name bindings attributes children next) it (inr (inr l)) r step =
    absurd (subst (λ g. Lies key depth g it) r.1 l.2)
