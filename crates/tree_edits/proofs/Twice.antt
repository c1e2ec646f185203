-- A node that is changed twice, and one that is taken out or put back.
use Rattle.std.proofs.Common.{◌≡◌, inl, inr, ℕ, ◌+◌, ◌-◌, ◌≤◌, List, Bool, true, false, ◌==◌, ◌||◌, Some, refl, sym, ap, ◌∙◌, arith, subst}
use Rattle.std.specs.Prelude.{if◌then◌else◌}
use Rattle.std.proofs.lemmas.Bool.{or_parts, or_left, or_right, or_cases, eq-eqb, false≢true}
use Rattle.tree_rows.specs.Forest.{Forest, none, text, element}
use Rattle.tree_rows.specs.Whole.{times}
use Rattle.tree_rows.specs.declared.name.Expanded.{Expanded}
use Rattle.tree_rows.specs.declared.row.Attribute.{Attribute}
use Rattle.tree_rows.specs.declared.row.Binding.{Binding}
use Rattle.tree_edits.specs.Edits.{append, has, Found, found, replaced, insert_at, with_children}
use Rattle.tree_edits.specs.Tests.{element_node}
use Rattle.tree_edits.proofs.Lying.{Lies, append-none}

-- one node stands there, under this number
abbrev pub IsNodeOf : ℕ → Forest → Type 0
IsNodeOf key none = ⊥
IsNodeOf key (text n chars next) = (n ≡ key) × (next ≡ none)
IsNodeOf key (element n name bindings attributes children next) = (n ≡ key) × (next ≡ none)

abbrev pub gone : Forest → Forest
gone one = none

-- where a changed node stands: it is the first, or below it, or beside it
pub replaced_head : (key : ℕ) (change : Forest → Forest) (one next : Forest) → IsNodeOf key one → replaced key change (append one next) ≡ append (change one) next
replaced_head key change none next h = absurd h
replaced_head key change (text n chars rest) next h =
    rw (eq-eqb n key h.0) (λ i. append (change (text n chars (sym h.1 i))) (append (h.1 i) next))
replaced_head key change (element n name bindings attributes children rest) next h =
    rw (eq-eqb n key h.0) (λ i. append (change (element n name bindings attributes children (sym h.1 i))) (append (h.1 i) next))

pub past_text : (key : ℕ) (change : Forest → Forest) (n : ℕ) (chars : List ℕ) (next : Forest) → (n == key) ≡ false
    → replaced key change (text n chars next) ≡ text n chars (replaced key change next)
past_text key change n chars next e = rw e refl

pub below_element : (key : ℕ) (change : Forest → Forest) (n : ℕ) (name : Expanded) (bindings : List Binding) (attributes : List Attribute) (children next : Forest) → (n == key) ≡ false → has key children ≡ true
    → replaced key change (element n name bindings attributes children next) ≡ element n name bindings attributes (replaced key change children) next
below_element key change n name bindings attributes children next e h = rw (e, h) refl

pub past_element : (key : ℕ) (change : Forest → Forest) (n : ℕ) (name : Expanded) (bindings : List Binding) (attributes : List Attribute) (children next : Forest) → (n == key) ≡ false → has key children ≡ false
    → replaced key change (element n name bindings attributes children next) ≡ element n name bindings attributes children (replaced key change next)
past_element key change n name bindings attributes children next e h = rw (e, h) refl

-- a node that is found
pub found_head : (key depth : ℕ) (one next : Forest) → IsNodeOf key one → found key depth (append one next) ≡ Some (record { depth = depth; node = one })
found_head key depth none next h = absurd h
found_head key depth (text n chars rest) next h = rw (eq-eqb n key h.0) (λ i. Some (record { depth = depth; node = text n chars (sym h.1 i) }))
found_head key depth (element n name bindings attributes children rest) next h =
    rw (eq-eqb n key h.0) (λ i. Some (record { depth = depth; node = element n name bindings attributes children (sym h.1 i) }))

pub found_past_text : (key depth n : ℕ) (chars : List ℕ) (next : Forest) → (n == key) ≡ false → found key depth (text n chars next) ≡ found key depth next
found_past_text key depth n chars next e = rw e refl

pub found_below : (key depth n : ℕ) (name : Expanded) (bindings : List Binding) (attributes : List Attribute) (children next : Forest) → (n == key) ≡ false → has key children ≡ true
    → found key depth (element n name bindings attributes children next) ≡ found key (depth + 1) children
found_below key depth n name bindings attributes children next e h = rw (e, h) refl

pub found_past : (key depth n : ℕ) (name : Expanded) (bindings : List Binding) (attributes : List Attribute) (children next : Forest) → (n == key) ≡ false → has key children ≡ false
    → found key depth (element n name bindings attributes children next) ≡ found key depth next
found_past key depth n name bindings attributes children next e h = rw (e, h) refl

-- numbers that are there
pub has_head : (key : ℕ) (one next : Forest) → IsNodeOf key one → has key (append one next) ≡ true
has_head key none next h = absurd h
has_head key (text n chars rest) next h = or_left (n == key) (has key (append rest next)) (eq-eqb n key h.0)
has_head key (element n name bindings attributes children rest) next h = or_left (n == key) (has key children || has key (append rest next)) (eq-eqb n key h.0)

pub has_behind : (key : ℕ) (f g : Forest) → has key g ≡ true → has key (append f g) ≡ true
has_behind key none g h = h
has_behind key (text n chars next) g h = or_right (n == key) (has key (append next g)) (has_behind key next g h)
has_behind key (element n name bindings attributes children next) g h =
    or_right (n == key) (has key children || has key (append next g)) (or_right (has key children) (has key (append next g)) (has_behind key next g h))

pub has_times : (m : ℕ) (f : Forest) → has m f ≡ true → 1 ≤ times m f
has_times m none h = absurd (false≢true h)
has_times m (text n chars next) h = elim (or_cases (n == m) (has m next) h) [
  | inl e ↦ let one : ◌≡◌ {A = ℕ} (if n == m then 1 else 0) 1 = ap (λ c. if c then 1 else 0) e in omega (arith, one)
  | inr k ↦ let i = has_times m next k in omega (arith, i)
]
has_times m (element n name bindings attributes children next) h = elim (or_cases (n == m) (has m children || has m next) h) [
  | inl e ↦ let one : ◌≡◌ {A = ℕ} (if n == m then 1 else 0) 1 = ap (λ c. if c then 1 else 0) e in omega (arith, one)
  | inr k ↦ elim (or_cases (has m children) (has m next) k) [
    | inl j ↦ let i = has_times m children j in omega (arith, i)
    | inr j ↦ let i = has_times m next j in omega (arith, i)
  ]
]

pub absent : (m : ℕ) (f : Forest) → times m f ≡ 0 → has m f ≡ false
absent m f e = by (has m f) refl
  where
    by : (b : Bool) → has m f ≡ b → b ≡ false
    by true h = let x = has_times m f h in absurd (omega (arith, x, e))
    by false h = refl

pub own_one : (n m : ℕ) → n ≡ m → ◌≡◌ {A = ℕ} (if n == m then 1 else 0) 1
own_one n m e = ap (λ c. if c then 1 else 0) (eq-eqb n m e)

-- a number that differs from one that is there
pub differs : (n key : ℕ) → (n == key || false) ≡ false → (n == key) ≡ false
differs n key h = (or_parts (n == key) false h).0

-- a changed node is still there
pub still : (key depth : ℕ) (change : Forest → Forest) (f : Forest) (it : Found) → Lies key depth f it → IsNodeOf key (change it.node) → has key (replaced key change f) ≡ true
still key depth change none it l a = absurd l
still key depth change (text n chars next) it (inl l) a = rw (l.0) (has_head key (change (text n chars none)) next (subst (λ (i : Found). IsNodeOf key (change i.node)) l.1 a))
still key depth change (text n chars next) it (inr l) a =
    ap (has key) (past_text key change n chars next l.0) ∙ or_right (n == key) (has key (replaced key change next)) (still key depth change next it l.1 a)
still key depth change (element n name bindings attributes children next) it (inl l) a =
    rw (l.0) (has_head key (change (element n name bindings attributes children none)) next (subst (λ (i : Found). IsNodeOf key (change i.node)) l.1 a))
still key depth change (element n name bindings attributes children next) it (inr (inl l)) a =
    ap (has key) (below_element key change n name bindings attributes children next l.0 l.1)
    ∙ or_right (n == key) (has key (replaced key change children) || has key next) (or_left (has key (replaced key change children)) (has key next) (still key (depth + 1) change children it l.2 a))
still key depth change (element n name bindings attributes children next) it (inr (inr l)) a =
    ap (has key) (past_element key change n name bindings attributes children next l.0 l.1)
    ∙ or_right (n == key) (has key children || has key (replaced key change next)) (or_right (has key children) (has key (replaced key change next)) (still key depth change next it l.2 a))

-- it is found where it lay
pub found_changed : (key depth : ℕ) (change : Forest → Forest) (f : Forest) (it : Found) → Lies key depth f it → IsNodeOf key (change it.node)
    → found key depth (replaced key change f) ≡ Some (record { depth = it.depth; node = change it.node })
found_changed key depth change none it l a = absurd l
found_changed key depth change (text n chars next) it (inl l) a =
    let b = subst (λ (i : Found). IsNodeOf key (change i.node)) l.1 a in
    rw (l.0) (found_head key depth (change (text n chars none)) next b) ∙ ap (λ (i : Found). Some (record { depth = i.depth; node = change i.node })) (sym l.1)
found_changed key depth change (text n chars next) it (inr l) a =
    ap (found key depth) (past_text key change n chars next l.0) ∙ found_past_text key depth n chars (replaced key change next) l.0 ∙ found_changed key depth change next it l.1 a
found_changed key depth change (element n name bindings attributes children next) it (inl l) a =
    let b = subst (λ (i : Found). IsNodeOf key (change i.node)) l.1 a in
    rw (l.0) (found_head key depth (change (element n name bindings attributes children none)) next b) ∙ ap (λ (i : Found). Some (record { depth = i.depth; node = change i.node })) (sym l.1)
found_changed key depth change (element n name bindings attributes children next) it (inr (inl l)) a =
    ap (found key depth) (below_element key change n name bindings attributes children next l.0 l.1)
    ∙ found_below key depth n name bindings attributes (replaced key change children) next l.0 (still key (depth + 1) change children it l.2 a)
    ∙ found_changed key (depth + 1) change children it l.2 a
found_changed key depth change (element n name bindings attributes children next) it (inr (inr l)) a =
    ap (found key depth) (past_element key change n name bindings attributes children next l.0 l.1)
    ∙ found_past key depth n name bindings attributes children (replaced key change next) l.0 l.1
    ∙ found_changed key depth change next it l.2 a

-- a node that is changed twice is as it was, where the second change undoes the first one of it
pub twice : (key depth : ℕ) (one two : Forest → Forest) (f : Forest) (it : Found) → Lies key depth f it → IsNodeOf key (one it.node) → two (one it.node) ≡ it.node
    → replaced key two (replaced key one f) ≡ f
twice key depth one two none it l a e = absurd l
twice key depth one two (text n chars next) it (inl l) a e =
    let b = subst (λ (i : Found). IsNodeOf key (one i.node)) l.1 a in
    let k : two (one (text n chars none)) ≡ text n chars none = subst (λ (i : Found). two (one i.node) ≡ i.node) l.1 e in
    rw (l.0) (replaced_head key two (one (text n chars none)) next b ∙ ap (λ g. append g next) k)
twice key depth one two (text n chars next) it (inr l) a e =
    ap (replaced key two) (past_text key one n chars next l.0) ∙ past_text key two n chars (replaced key one next) l.0 ∙ ap (text n chars) (twice key depth one two next it l.1 a e)
twice key depth one two (element n name bindings attributes children next) it (inl l) a e =
    let b = subst (λ (i : Found). IsNodeOf key (one i.node)) l.1 a in
    let k : two (one (element n name bindings attributes children none)) ≡ element n name bindings attributes children none = subst (λ (i : Found). two (one i.node) ≡ i.node) l.1 e in
    rw (l.0) (replaced_head key two (one (element n name bindings attributes children none)) next b ∙ ap (λ g. append g next) k)
twice key depth one two (element n name bindings attributes children next) it (inr (inl l)) a e =
    ap (replaced key two) (below_element key one n name bindings attributes children next l.0 l.1)
    ∙ below_element key two n name bindings attributes (replaced key one children) next l.0 (still key (depth + 1) one children it l.2 a)
    ∙ ap (λ g. element n name bindings attributes g next) (twice key (depth + 1) one two children it l.2 a e)
twice key depth one two (element n name bindings attributes children next) it (inr (inr l)) a e =
    ap (replaced key two) (past_element key one n name bindings attributes children next l.0 l.1)
    ∙ past_element key two n name bindings attributes children (replaced key one next) l.0 l.1
    ∙ ap (element n name bindings attributes children) (twice key depth one two next it l.2 a e)

-- one node is taken out from among siblings
taken_one : (key : ℕ) (one : Forest) → IsNodeOf key one → replaced key gone one ≡ none
taken_one key none h = absurd h
taken_one key (text n chars rest) h = rw (eq-eqb n key h.0) h.1
taken_one key (element n name bindings attributes children rest) h = rw (eq-eqb n key h.0) h.1

has_insert : (key place : ℕ) (part f : Forest) → IsNodeOf key part → has key (insert_at place part f) ≡ true
has_insert key place part none h = sym (ap (has key) (append-none part)) ∙ has_head key part none h
has_insert key place part (text n chars next) h = by (has_insert key (place - 1) part next h) (place == 0)
  where
    by : has key (insert_at (place - 1) part next) ≡ true → (b : Bool) → has key (if b then append part (text n chars next) else text n chars (insert_at (place - 1) part next)) ≡ true
    by i true = has_head key part (text n chars next) h
    by i false = or_right (n == key) (has key (insert_at (place - 1) part next)) i
has_insert key place part (element n name bindings attributes children next) h = by (has_insert key (place - 1) part next h) (place == 0)
  where
    by : has key (insert_at (place - 1) part next) ≡ true → (b : Bool) → has key (if b then append part (element n name bindings attributes children next) else element n name bindings attributes children (insert_at (place - 1) part next)) ≡ true
    by i true = has_head key part (element n name bindings attributes children next) h
    by i false =
        or_right (n == key) (has key children || has key (insert_at (place - 1) part next))
        (or_right (has key children) (has key (insert_at (place - 1) part next)) i)

insert_taken : (key place : ℕ) (part f : Forest) → IsNodeOf key part → has key f ≡ false → replaced key gone (insert_at place part f) ≡ f
insert_taken key place part none a h = taken_one key part a
insert_taken key place part (text n chars next) a h = by (insert_taken key (place - 1) part next a (or_parts (n == key) (has key next) h).1) (place == 0)
  where
    z : ((n == key) ≡ false) × (has key next ≡ false)
    z = or_parts (n == key) (has key next) h

    by : replaced key gone (insert_at (place - 1) part next) ≡ next → (b : Bool) → replaced key gone (if b then append part (text n chars next) else text n chars (insert_at (place - 1) part next)) ≡ text n chars next
    by i true = replaced_head key gone part (text n chars next) a
    by i false = past_text key gone n chars (insert_at (place - 1) part next) z.0 ∙ ap (text n chars) i
insert_taken key place part (element n name bindings attributes children next) a h =
    by (insert_taken key (place - 1) part next a (or_parts (has key children) (has key next) (or_parts (n == key) (has key children || has key next) h).1).1) (place == 0)
  where
    z : ((n == key) ≡ false) × ((has key children || has key next) ≡ false)
    z = or_parts (n == key) (has key children || has key next) h

    y : (has key children ≡ false) × (has key next ≡ false)
    y = or_parts (has key children) (has key next) z.1

    by : replaced key gone (insert_at (place - 1) part next) ≡ next → (b : Bool)
        → replaced key gone (if b then append part (element n name bindings attributes children next) else element n name bindings attributes children (insert_at (place - 1) part next))
        ≡ element n name bindings attributes children next
    by i true = replaced_head key gone part (element n name bindings attributes children next) a
    by i false =
        past_element key gone n name bindings attributes children (insert_at (place - 1) part next) z.0 y.0
        ∙ ap (element n name bindings attributes children) i

-- a part that was put is there
pub has_put : (key parent place depth : ℕ) (part f : Forest) (it : Found) → Lies parent depth f it → element_node it.node ≡ true → IsNodeOf key part
    → has key (replaced parent (with_children place part) f) ≡ true
has_put key parent place depth part none it l e a = absurd l
has_put key parent place depth part (text n chars next) it (inl l) e a = absurd (false≢true (subst (λ (i : Found). element_node i.node ≡ true) l.1 e))
has_put key parent place depth part (text n chars next) it (inr l) e a =
    ap (has key) (past_text parent (with_children place part) n chars next l.0)
    ∙ or_right (n == key) (has key (replaced parent (with_children place part) next)) (has_put key parent place depth part next it l.1 e a)
has_put key parent place depth part (element n name bindings attributes children next) it (inl l) e a =
    rw (l.0) (or_right (n == key) (has key (insert_at place part children) || has key next)
    (or_left (has key (insert_at place part children)) (has key next) (has_insert key place part children a)))
has_put key parent place depth part (element n name bindings attributes children next) it (inr (inl l)) e a =
    ap (has key) (below_element parent (with_children place part) n name bindings attributes children next l.0 l.1)
    ∙ or_right (n == key) (has key (replaced parent (with_children place part) children) || has key next)
    (or_left (has key (replaced parent (with_children place part) children)) (has key next) (has_put key parent place (depth + 1) part children it l.2 e a))
has_put key parent place depth part (element n name bindings attributes children next) it (inr (inr l)) e a =
    ap (has key) (past_element parent (with_children place part) n name bindings attributes children next l.0 l.1)
    ∙ or_right (n == key) (has key children || has key (replaced parent (with_children place part) next))
    (or_right (has key children) (has key (replaced parent (with_children place part) next)) (has_put key parent place depth part next it l.2 e a))

-- a part that was put is taken out again
pub put_taken : (key parent place depth : ℕ) (part f : Forest) (it : Found) → Lies parent depth f it → element_node it.node ≡ true → IsNodeOf key part → has key f ≡ false
    → replaced key gone (replaced parent (with_children place part) f) ≡ f
put_taken key parent place depth part none it l e a h = absurd l
put_taken key parent place depth part (text n chars next) it (inl l) e a h = absurd (false≢true (subst (λ (i : Found). element_node i.node ≡ true) l.1 e))
put_taken key parent place depth part (text n chars next) it (inr l) e a h =
    let z = or_parts (n == key) (has key next) h in
    ap (replaced key gone) (past_text parent (with_children place part) n chars next l.0)
    ∙ past_text key gone n chars (replaced parent (with_children place part) next) z.0
    ∙ ap (text n chars) (put_taken key parent place depth part next it l.1 e a z.1)
put_taken key parent place depth part (element n name bindings attributes children next) it (inl l) e a h =
    let z = or_parts (n == key) (has key children || has key next) h in
    let y = or_parts (has key children) (has key next) z.1 in
    rw (l.0) (
    below_element key gone n name bindings attributes (insert_at place part children) next z.0 (has_insert key place part children a)
    ∙ ap (λ g. element n name bindings attributes g next) (insert_taken key place part children a y.0)
    )
put_taken key parent place depth part (element n name bindings attributes children next) it (inr (inl l)) e a h =
    let z = or_parts (n == key) (has key children || has key next) h in
    let y = or_parts (has key children) (has key next) z.1 in
    ap (replaced key gone) (below_element parent (with_children place part) n name bindings attributes children next l.0 l.1)
    ∙ below_element key gone n name bindings attributes (replaced parent (with_children place part) children) next z.0 (has_put key parent place (depth + 1) part children it l.2 e a)
    ∙ ap (λ g. element n name bindings attributes g next) (put_taken key parent place (depth + 1) part children it l.2 e a y.0)
put_taken key parent place depth part (element n name bindings attributes children next) it (inr (inr l)) e a h =
    let z = or_parts (n == key) (has key children || has key next) h in
    let y = or_parts (has key children) (has key next) z.1 in
    ap (replaced key gone) (past_element parent (with_children place part) n name bindings attributes children next l.0 l.1)
    ∙ past_element key gone n name bindings attributes children (replaced parent (with_children place part) next) z.0 y.0
    ∙ ap (element n name bindings attributes children) (put_taken key parent place depth part next it l.2 e a y.1)
