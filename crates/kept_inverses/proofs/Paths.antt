-- An element whose child elements an edit changes, and what governs it.
use Rattle.std.proofs.Common.{◌≡◌, ◌⊎◌, ℕ, ◌+◌, ◌≤◌, ◌==◌, ◌||◌, List, [], ◌∷◌, Bool, true, false, Option, None, Some, refl, sym, ap, ◌∙◌, subst, inl, inr, arith}
use Rattle.std.specs.Prelude.{if◌then◌else◌}
use Rattle.std.specs.Option.{option_or}
use Rattle.std.proofs.lemmas.Bool.{eqb-true, eq-eqb, ne_eqb, true≢false, false≢true}
use Rattle.std.proofs.lemmas.Option.{same_Some, none-some}
use Rattle.xs_names.specs.Names.{NameTable}
use Rattle.xs_names.specs.Scope.{first_scope}
use Rattle.tree_rows.specs.Forest.{Forest, none, text, element}
use Rattle.tree_rows.specs.Whole.{times}
use Rattle.tree_rows.specs.declared.name.Expanded.{Expanded}
use Rattle.tree_rows.specs.declared.row.Attribute.{Attribute}
use Rattle.tree_rows.specs.declared.row.Binding.{Binding}
use Rattle.tree_edits.specs.Edits.{Found, found, append, has, replaced, insert_at, with_children}
use Rattle.tree_edits.specs.Tests.{element_node}
use Rattle.tree_edits.proofs.Lying.{Lies}
use Rattle.assess_records.specs.Numbered.{Scope, Head, head_of, heads, scope_in, names_of}
use Rattle.elem_governing.specs.declared.pairs.Governing.{Governing}
use Rattle.assessment.specs.Attribution.{SchemaSet, content_particle}
use Rattle.assessment.specs.Assessment.{first_pair, other_pairs, governed, root_pairs}
use Rattle.assessment.specs.Local.{Readers, AreRead, HasElement, element_numbers}
use Rattle.assessment.proofs.Alike.{element-counts}
use Rattle.assessment_laws.proofs.Terms.{terms-are}
use Rattle.assessment_laws.specs.Governed.{AreInner, AreGoverned, AreGovernings}
use Rattle.edit_budgets.specs.Lists.{parent_in}
use Rattle.doc_nodes.specs.Nodes.{Nodes}
use Rattle.doc_changes.specs.Stands.{StandFor}
use Rattle.doc_changes.proofs.Standing.{present_times, absent_times}

-- one forest is the other, but that below the element of the number these children stand in place of those
abbrev pub IsAt : ℕ → Forest → Forest → Forest → Forest → Type 0
IsAt p cs ds none g = ⊥
IsAt p cs ds (text n chars next) g = (later : Forest) × (g ≡ text n chars later) × IsAt p cs ds next later
IsAt p cs ds (element n name bindings attributes children next) g =
    ((n ≡ p) × (children ≡ cs) × (g ≡ element n name bindings attributes ds next))
    ⊎ (((below : Forest) × (g ≡ element n name bindings attributes below next) × IsAt p cs ds children below)
    ⊎ ((later : Forest) × (g ≡ element n name bindings attributes children later) × IsAt p cs ds next later))

pub at-sym : (p : ℕ) (cs ds f g : Forest) → IsAt p cs ds f g → IsAt p ds cs g f
at-sym p cs ds none g h = absurd h
at-sym p cs ds (text n chars next) g h =
    subst (λ (x : Forest). IsAt p ds cs x (text n chars next)) (sym h.1) (next, refl, at-sym p cs ds next h.0 h.2)
at-sym p cs ds (element n name bindings attributes children next) g (inl h) =
    subst (λ (x : Forest). IsAt p ds cs x (element n name bindings attributes children next)) (sym h.2)
    (inl (h.0, refl, ap (λ (x : Forest). element n name bindings attributes x next) h.1))
at-sym p cs ds (element n name bindings attributes children next) g (inr (inl h)) =
    subst (λ (x : Forest). IsAt p ds cs x (element n name bindings attributes children next)) (sym h.1) (inr (inl (children, refl, at-sym p cs ds children h.0 h.2)))
at-sym p cs ds (element n name bindings attributes children next) g (inr (inr h)) =
    subst (λ (x : Forest). IsAt p ds cs x (element n name bindings attributes children next)) (sym h.1) (inr (inr (next, refl, at-sym p cs ds next h.0 h.2)))

-- ---- what the other forest has of the element

module _ (p : ℕ) (cs ds : Forest) where
  pub at-element : (f g : Forest) → IsAt p cs ds f g → HasElement p g
  at-element none g h = absurd h
  at-element (text n chars next) g h = subst (HasElement p) (sym h.1) (at-element next h.0 h.2)
  at-element (element n name bindings attributes children next) g (inl h) = subst (HasElement p) (sym h.2) (inl h.0)
  at-element (element n name bindings attributes children next) g (inr (inl h)) = subst (HasElement p) (sym h.1) (inr (inl (at-element children h.0 h.2)))
  at-element (element n name bindings attributes children next) g (inr (inr h)) = subst (HasElement p) (sym h.1) (inr (inr (at-element next h.0 h.2)))

  -- the elements among its children
  pub at-below : (f g : Forest) → IsAt p cs ds f g → (m : ℕ) → HasElement m ds → HasElement m g
  at-below none g h m k = absurd h
  at-below (text n chars next) g h m k = subst (HasElement m) (sym h.1) (at-below next h.0 h.2 m k)
  at-below (element n name bindings attributes children next) g (inl h) m k = subst (HasElement m) (sym h.2) (inr (inl k))
  at-below (element n name bindings attributes children next) g (inr (inl h)) m k = subst (HasElement m) (sym h.1) (inr (inl (at-below children h.0 h.2 m k)))
  at-below (element n name bindings attributes children next) g (inr (inr h)) m k = subst (HasElement m) (sym h.1) (inr (inr (at-below next h.0 h.2 m k)))

  pub at-stand : (t : NameTable) (ns : Nodes) (f g : Forest) → IsAt p cs ds f g → StandFor t ns g → StandFor t ns ds
  at-stand t ns none g h st = absurd h
  at-stand t ns (text n chars next) g h st = let own = subst (StandFor t ns) h.1 st in at-stand t ns next h.0 h.2 own.1
  at-stand t ns (element n name bindings attributes children next) g (inl h) st = let own = subst (StandFor t ns) h.2 st in own.1
  at-stand t ns (element n name bindings attributes children next) g (inr (inl h)) st = let own = subst (StandFor t ns) h.1 st in at-stand t ns children h.0 h.2 own.1
  at-stand t ns (element n name bindings attributes children next) g (inr (inr h)) st = let own = subst (StandFor t ns) h.1 st in at-stand t ns next h.0 h.2 own.2

  pub at-numbers : (r : Readers) (f g : Forest) → IsAt p cs ds f g → AreRead r g → r.children p ≡ element_numbers ds
  at-numbers r none g h read = absurd h
  at-numbers r (text n chars next) g h read = let own = subst (AreRead r) h.1 read in at-numbers r next h.0 h.2 own
  at-numbers r (element n name bindings attributes children next) g (inl h) read =
      let own = subst (AreRead r) h.2 read in ap r.children (sym h.0) ∙ own.0.children_are
  at-numbers r (element n name bindings attributes children next) g (inr (inl h)) read = let own = subst (AreRead r) h.1 read in at-numbers r children h.0 h.2 own.1
  at-numbers r (element n name bindings attributes children next) g (inr (inr h)) read = let own = subst (AreRead r) h.1 read in at-numbers r next h.0 h.2 own.2

  pub at-read : (r : Readers) (f g : Forest) → IsAt p cs ds f g → AreRead r g → AreRead r ds
  at-read r none g h read = absurd h
  at-read r (text n chars next) g h read = let own = subst (AreRead r) h.1 read in at-read r next h.0 h.2 own
  at-read r (element n name bindings attributes children next) g (inl h) read = let own = subst (AreRead r) h.2 read in own.1
  at-read r (element n name bindings attributes children next) g (inr (inl h)) read = let own = subst (AreRead r) h.1 read in at-read r children h.0 h.2 own.1
  at-read r (element n name bindings attributes children next) g (inr (inr h)) read = let own = subst (AreRead r) h.1 read in at-read r next h.0 h.2 own.2

  -- the node that is found by the number
  pub record IsFoundWith (depth : ℕ) (g : Forest) : Type 0 where
    pub it : Found
    pub name : Expanded
    pub bindings : List Binding
    pub attributes : List Attribute
    pub is : found p depth g ≡ Some it
    pub node_is : it.node ≡ element p name bindings attributes ds none

  apart : (n more : ℕ) → (if n == p then 1 else 0) + more ≤ 1 → 1 ≤ more → (n == p) ≡ false
  apart n more few some = ne_eqb n p (λ e. let one : ◌≡◌ {A = ℕ} (if n == p then 1 else 0) 1 = ap (λ (b : Bool). if b then 1 else 0) (eq-eqb n p e) in absurd (omega (arith, few, some, one)))

  pub at-found : (f g : Forest) (depth : ℕ) → IsAt p cs ds f g → times p g ≤ 1 → IsFoundWith depth g
  at-found none g depth h few = absurd h
  at-found (text n chars next) g depth h few =
      let own = subst (λ (x : Forest). times p x ≤ 1) h.1 few in
      let some = element-counts p h.0 (at-element next h.0 h.2) in
      let rest = at-found next h.0 depth h.2 (omega (arith, own)) in
      record {
        it = rest.it;
        name = rest.name;
        bindings = rest.bindings;
        attributes = rest.attributes;
        is = ap (found p depth) h.1
            ∙ ap (λ (b : Bool). if b then Some (record { depth = depth; node = text n chars none }) else found p depth h.0) (apart n (times p h.0) own some) ∙ rest.is;
        node_is = rest.node_is;
      }
  at-found (element n name bindings attributes children next) g depth (inl h) few = record {
    it = record { depth = depth; node = element n name bindings attributes ds none };
    name = name;
    bindings = bindings;
    attributes = attributes;
    is = ap (found p depth) h.2
        ∙ ap (λ (b : Bool). if b then Some (record { depth = depth; node = element n name bindings attributes ds none }) else (if has p ds then found p (depth + 1) ds else found p depth next)) (eq-eqb n p h.0);
    node_is = ap (λ (m : ℕ). element m name bindings attributes ds none) h.0;
  }
  at-found (element n name bindings attributes children next) g depth (inr (inl h)) few =
      let own = subst (λ (x : Forest). times p x ≤ 1) h.1 few in
      let some = element-counts p h.0 (at-element children h.0 h.2) in
      let rest = at-found children h.0 (depth + 1) h.2 (omega (arith, own)) in
      record {
        it = rest.it;
        name = rest.name;
        bindings = rest.bindings;
        attributes = rest.attributes;
        is = ap (found p depth) h.1
            ∙ ap (λ (b : Bool). if b then Some (record { depth = depth; node = element n name bindings attributes h.0 none }) else (if has p h.0 then found p (depth + 1) h.0 else found p depth next))
            (apart n (times p h.0 + times p next) own (omega (arith, some)))
            ∙ ap (λ (b : Bool). if b then found p (depth + 1) h.0 else found p depth next) (present_times p h.0 some) ∙ rest.is;
        node_is = rest.node_is;
      }
  at-found (element n name bindings attributes children next) g depth (inr (inr h)) few =
      let own = subst (λ (x : Forest). times p x ≤ 1) h.1 few in
      let some = element-counts p h.0 (at-element next h.0 h.2) in
      let gone : times p children ≡ 0 = omega (arith, own, some) in
      let rest = at-found next h.0 depth h.2 (omega (arith, own)) in
      record {
        it = rest.it;
        name = rest.name;
        bindings = rest.bindings;
        attributes = rest.attributes;
        is = ap (found p depth) h.1
            ∙ ap (λ (b : Bool). if b then Some (record { depth = depth; node = element n name bindings attributes children none }) else (if has p children then found p (depth + 1) children else found p depth h.0))
            (apart n (times p children + times p h.0) own (omega (arith, some)))
            ∙ ap (λ (b : Bool). if b then found p (depth + 1) children else found p depth h.0) (absent_times p children gone) ∙ rest.is;
        node_is = rest.node_is;
      }

  -- ---- what governs it stays

  module _ (s : SchemaSet) (old new : ℕ → Governing) where
    heads-at : (f g : Forest) (scope : Scope) → IsAt p cs ds f g → heads s.names scope g ≡ heads s.names scope f
    heads-at none g scope h = absurd h
    heads-at (text n chars next) g scope h = ap (heads s.names scope) h.1 ∙ heads-at next h.0 scope h.2
    heads-at (element n name bindings attributes children next) g scope (inl h) = ap (heads s.names scope) h.2
    heads-at (element n name bindings attributes children next) g scope (inr (inl h)) = ap (heads s.names scope) h.1
    heads-at (element n name bindings attributes children next) g scope (inr (inr h)) =
        ap (heads s.names scope) h.1 ∙ ap (λ (hs : List Head). head_of s.names scope name bindings attributes ∷ hs) (heads-at next h.0 scope h.2)

    inner-same : (g : Governing) (hs : List Head) (xs ys : List Governing) → AreInner s g hs xs → AreInner s g hs ys → xs ≡ ys
    inner-same g hs xs ys a b =
        let same = terms-are s (content_particle s.parts g.of) (names_of hs) a.stuck b.stuck a.terms b.terms a.attributed b.attributed in
        a.inner_is ∙ ap (λ (terms : List (Option ℕ)). governed s g terms hs) same.1 ∙ sym b.inner_is

    pub same-at : (f g : Forest) (scope : Scope) (pairs : List Governing) → IsAt p cs ds f g → AreGoverned s old scope pairs f → AreGoverned s new scope pairs g → new p ≡ old p
    same-at none g scope pairs h a b = absurd h
    same-at (text n chars next) g scope pairs h a b = let own = subst (AreGoverned s new scope pairs) h.1 b in same-at next h.0 scope pairs h.2 a own
    same-at (element n name bindings attributes children next) g scope pairs (inl h) a b =
        let own = subst (AreGoverned s new scope pairs) h.2 b in
        ap new (sym h.0) ∙ own.1 ∙ sym a.1 ∙ ap old h.0
    same-at (element n name bindings attributes children next) g scope pairs (inr (inl h)) a b =
        let own = subst (AreGoverned s new scope pairs) h.1 b in
        let inside = scope_in s.names bindings scope in
        let mine = subst (λ (hs : List Head). AreInner s (first_pair pairs) hs own.0) (heads-at children h.0 inside h.2) own.2 in
        let same = inner-same (first_pair pairs) (heads s.names inside children) own.0 a.0 mine a.2 in
        same-at children h.0 inside a.0 h.2 a.3 (subst (λ (ps : List Governing). AreGoverned s new inside ps h.0) same own.3)
    same-at (element n name bindings attributes children next) g scope pairs (inr (inr h)) a b =
        let own = subst (AreGoverned s new scope pairs) h.1 b in
        same-at next h.0 scope (other_pairs pairs) h.2 a.4 own.4

    pub same-whole : (f g : Forest) → IsAt p cs ds f g → AreGovernings s old f → AreGovernings s new g → new p ≡ old p
    same-whole f g h a b =
        same-at f g first_scope (root_pairs s (heads s.names first_scope f)) h a
        (subst (λ (hs : List Head). AreGoverned s new first_scope (root_pairs s hs) g) (heads-at f g first_scope h) b)

-- ---- where an edit changes children

abbrev pub below_of : Forest → Forest
below_of none = none
below_of (text n chars next) = none
below_of (element n name bindings attributes children next) = children

-- a part is put among the children of an element
pub put-at : (p place depth : ℕ) (new f : Forest) (it : Found) → Lies p depth f it → element_node it.node ≡ true →
    IsAt p (below_of it.node) (insert_at place new (below_of it.node)) f (replaced p (with_children place new) f)
put-at p place depth new none it l own = absurd l
put-at p place depth new (text n chars next) it (inl l) own = absurd (false≢true (sym (ap (λ (x : Found). element_node x.node) l.1) ∙ own))
put-at p place depth new (text n chars next) it (inr l) own = rw l.0 (replaced p (with_children place new) next, refl, put-at p place depth new next it l.1 own)
put-at p place depth new (element n name bindings attributes children next) it (inl l) own =
    let is = ap (λ (x : Found). below_of x.node) l.1 in
    rw l.0 (inl (eqb-true n p l.0, sym is, ap (λ (x : Forest). element n name bindings attributes (insert_at place new x) next) (sym is)))
put-at p place depth new (element n name bindings attributes children next) it (inr (inl l)) own =
    rw (l.0, l.1) (inr (inl (replaced p (with_children place new) children, refl, put-at p place (depth + 1) new children it l.2 own)))
put-at p place depth new (element n name bindings attributes children next) it (inr (inr l)) own =
    rw (l.0, l.1) (inr (inr (replaced p (with_children place new) next, refl, put-at p place depth new next it l.2 own)))

-- the node of a number is among the siblings
abbrev pub IsFirst : ℕ → Forest → Type 0
IsFirst key none = ⊥
IsFirst key (text n chars next) = ((n == key) ≡ true) ⊎ (((n == key) ≡ false) × IsFirst key next)
IsFirst key (element n name bindings attributes children next) = ((n == key) ≡ true) ⊎ (((n == key) ≡ false) × (has key children ≡ false) × IsFirst key next)

module _ (key : ℕ) (change : Forest → Forest) where
  -- below an element the node is changed, which is one of its children
  abbrev pub ChangesBelow : ℕ → Forest → Type 0
  ChangesBelow p f = (cs : Forest) × IsFirst key cs × IsAt p cs (replaced key change cs) f (replaced key change f)

  or-false : (a b : Bool) → (a || b) ≡ false → (a ≡ false) × (b ≡ false)
  or-false true b h = absurd (true≢false h)
  or-false false b h = (refl, h)

  pub no-parent : (f : Forest) (par : Option ℕ) → has key f ≡ false → parent_in key par f ≡ None
  no-parent none par h = refl
  no-parent (text n chars next) par h =
      let o = or-false (n == key) (has key next) h in
      ap (λ (b : Bool). if b then par else parent_in key par next) o.0 ∙ no-parent next par o.1
  no-parent (element n name bindings attributes children next) par h =
      let o = or-false (n == key) (has key children || has key next) h in
      let q = or-false (has key children) (has key next) o.1 in
      ap (λ (b : Bool). if b then par else option_or (parent_in key (Some n) children) (parent_in key par next)) o.0
      ∙ ap (λ (x : Option ℕ). option_or x (parent_in key par next)) (no-parent children (Some n) q.0) ∙ no-parent next par q.1

  abbrev pub IsThere : Option ℕ → Type 0
  IsThere o = (q : ℕ) × (o ≡ Some q)

  there-text : (m : ℕ) (b rest : Bool) (o : Option ℕ) → (rest ≡ true → IsThere o) → (b || rest) ≡ true → IsThere (if b then Some m else o)
  there-text m true rest o on h = (m, refl)
  there-text m false rest o on h = on h

  there-or : (o u : Option ℕ) → IsThere u → IsThere (option_or o u)
  there-or None u r = r
  there-or (Some z) u r = (z, refl)

  there-element : (m : ℕ) (b x y : Bool) (o u : Option ℕ) → (x ≡ true → IsThere o) → (y ≡ true → IsThere u) → (b || (x || y)) ≡ true → IsThere (if b then Some m else option_or o u)
  there-element m true x y o u below later h = (m, refl)
  there-element m false true y o u below later h = let r = below refl in (r.0, ap (λ (z : Option ℕ). option_or z u) r.1)
  there-element m false false y o u below later h = there-or o u (later h)

  pub has-parent : (f : Forest) (m : ℕ) → has key f ≡ true → IsThere (parent_in key (Some m) f)
  has-parent none m h = absurd (false≢true h)
  has-parent (text n chars next) m h = there-text m (n == key) (has key next) (parent_in key (Some m) next) (has-parent next m) h
  has-parent (element n name bindings attributes children next) m h =
      there-element m (n == key) (has key children) (has key next) (parent_in key (Some n) children) (parent_in key (Some m) next) (has-parent children n) (has-parent next m) h

  abbrev IsChanged : ℕ → Option ℕ → Forest → Type 0
  IsChanged p par f = ((par ≡ Some p) × IsFirst key f) ⊎ ChangesBelow p f

  text-at : (n : ℕ) (chars : List ℕ) (next : Forest) (par : Option ℕ) (p : ℕ) (b : Bool) → (n == key) ≡ b → (if b then par else parent_in key par next) ≡ Some p →
      (parent_in key par next ≡ Some p → IsChanged p par next) → IsChanged p par (text n chars next)
  text-at n chars next par p true e h on = inl (h, inl e)
  text-at n chars next par p false e h on = elim (on h) [
    | inl r ↦ inl (r.0, inr (e, r.1))
    | inr r ↦
        inr (
          r.0,
          r.1,
          (replaced key change next, ap (λ (b : Bool). if b then append (change (text n chars none)) next else text n chars (replaced key change next)) e, r.2),
        )
  ]

  element-at : (n : ℕ) (name : Expanded) (bindings : List Binding) (attributes : List Attribute) (children next : Forest) (par : Option ℕ) (p : ℕ) (b x : Bool) → (n == key) ≡ b → has key children ≡ x →
      (if b then par else option_or (parent_in key (Some n) children) (parent_in key par next)) ≡ Some p → (parent_in key (Some n) children ≡ Some p → IsChanged p (Some n) children) →
      (parent_in key par next ≡ Some p → IsChanged p par next) → IsChanged p par (element n name bindings attributes children next)
  element-at n name bindings attributes children next par p true x e u h below later = inl (h, inl e)
  element-at n name bindings attributes children next par p false true e u h below later =
      let there = has-parent children n u in
      let here = there.1 ∙ (sym (ap (λ (z : Option ℕ). option_or z (parent_in key par next)) there.1) ∙ h) in
      let is = ap (λ (b : Bool). if b then append (change (element n name bindings attributes children none)) next
      else (if has key children then element n name bindings attributes (replaced key change children) next else element n name bindings attributes children (replaced key change next))) e
      ∙ ap (λ (b : Bool). if b then element n name bindings attributes (replaced key change children) next else element n name bindings attributes children (replaced key change next)) u in
      elim (below here) [
        | inl r ↦ inr (children, r.1, inl (same_Some n p r.0, refl, is))
        | inr r ↦ inr (r.0, r.1, inr (inl (replaced key change children, is, r.2)))
      ]
  element-at n name bindings attributes children next par p false false e u h below later =
      let there = sym (ap (λ (z : Option ℕ). option_or z (parent_in key par next)) (no-parent children (Some n) u)) ∙ h in
      let is = ap (λ (b : Bool). if b then append (change (element n name bindings attributes children none)) next
      else (if has key children then element n name bindings attributes (replaced key change children) next else element n name bindings attributes children (replaced key change next))) e
      ∙ ap (λ (b : Bool). if b then element n name bindings attributes (replaced key change children) next else element n name bindings attributes children (replaced key change next)) u in
      elim (later there) [
        | inl r ↦ inl (r.0, inr (e, u, r.1))
        | inr r ↦ inr (r.0, r.1, inr (inr (replaced key change next, is, r.2)))
      ]

  changed-in : (f : Forest) (par : Option ℕ) (p : ℕ) → parent_in key par f ≡ Some p → IsChanged p par f
  changed-in none par p e = absurd (none-some p e)
  changed-in (text n chars next) par p e = text-at n chars next par p (n == key) refl e (changed-in next par p)
  changed-in (element n name bindings attributes children next) par p e =
      element-at n name bindings attributes children next par p (n == key) (has key children) refl refl e (changed-in children (Some n) p) (changed-in next par p)

  -- where a node has a parent
  pub changed-at : (f : Forest) (p : ℕ) → parent_in key None f ≡ Some p → ChangesBelow p f
  changed-at f p e = elim (changed-in f None p e) [ inl r ↦ absurd (none-some p r.0) | inr r ↦ r ]
