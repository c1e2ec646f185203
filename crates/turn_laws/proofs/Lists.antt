-- What changes of a tree leave of the lists of children.
use Rattle.std.proofs.Common.{◌≡◌, ◌⊎◌, inl, inr, ℕ, ◌+◌, ◌-◌, ◌≤◌, ◌<◌, List, ◌∷◌, Bool, true, false, ◌==◌, ◌||◌, Option, Some, None, refl, sym, ap, ◌∙◌, arith, subst}
use Rattle.std.specs.Prelude.{if◌then◌else◌}
use Rattle.std.specs.Option.{option_or}
use Rattle.std.proofs.lemmas.Bool.{or_left, or_right, eq-eqb, eqb-true, false≢true}
use Rattle.std.proofs.lemmas.Option.{none-some, same_Some}
use Rattle.tree_rows.specs.Forest.{Forest, none, text, element, count}
use Rattle.tree_rows.specs.Whole.{AreNodes, times}
use Rattle.tree_rows.specs.declared.name.Expanded.{Expanded}
use Rattle.tree_rows.specs.declared.row.Attribute.{Attribute}
use Rattle.tree_rows.specs.declared.row.Binding.{Binding}
use Rattle.tree_edits.specs.Edits.{append, has, Found, replaced, renumbered, insert_at}
use Rattle.tree_edits.specs.Tests.{element_node}
use Rattle.tree_edits.proofs.Lying.{Lies}
use Rattle.tree_edits.proofs.Twice.{gone, past_text, below_element, past_element, has_times, absent}
use Rattle.doc_tree.specs.Readers.{parent_in}
use Rattle.turn_laws.specs.Lists.{Child, child, listed, list_at}

-- ---- the list of an element by where it stands

module _ (key n : ℕ) (name : Expanded) (bindings : List Binding) (attributes : List Attribute) (children next : Forest) where
  pub list_here : (n == key) ≡ true → list_at key (element n name bindings attributes children next) ≡ Some (listed children)
  list_here e = rw e refl

  pub list_past : (n == key) ≡ false → list_at key (element n name bindings attributes children next) ≡ option_or (list_at key children) (list_at key next)
  list_past e = rw e refl

or_none : {T : Type 0} (o : Option T) → option_or o None ≡ o
or_none None = refl
or_none (Some x) = refl

or_assoc : {T : Type 0} (a b c : Option T) → option_or a (option_or b c) ≡ option_or (option_or a b) c
or_assoc None b c = refl
or_assoc (Some x) b c = refl

-- one of two is there
pub or_one : {T : Type 0} (a b : Option T) (x : T) → option_or a b ≡ Some x → (a ≡ Some x) ⊎ ((a ≡ None) × (b ≡ Some x))
or_one None b x e = inr (refl, e)
or_one (Some y) b x e = inl e

abbrev pub IsListed : ℕ → Forest → Type 0
IsListed key f = (l : List Child) × (list_at key f ≡ Some l)

or_first : {T : Type 0} (a b : Option T) → ((x : T) × (a ≡ Some x)) → (x : T) × (option_or a b ≡ Some x)
or_first None b h = absurd (none-some h.0 h.1)
or_first (Some y) b h = (y, refl)

or_second : {T : Type 0} (a b : Option T) → ((x : T) × (b ≡ Some x)) → (x : T) × (option_or a b ≡ Some x)
or_second None b h = h
or_second (Some y) b h = (y, refl)

pub list_append : (key : ℕ) (f g : Forest) → list_at key (append f g) ≡ option_or (list_at key f) (list_at key g)
list_append key none g = refl
list_append key (text n chars next) g = list_append key next g
list_append key (element n name bindings attributes children next) g =
    elim (n == key) as (λ b. ◌≡◌ {A = Option (List Child)} (if b then Some (listed children) else option_or (list_at key children) (list_at key (append next g)))
    (option_or (if b then Some (listed children) else option_or (list_at key children) (list_at key next)) (list_at key g))) [
      | true ↦ refl
      | false ↦ ap (option_or (list_at key children)) (list_append key next g) ∙ or_assoc (list_at key children) (list_at key next) (list_at key g)
    ]

-- ---- an element that has a list has a number

pub listed_has : (key : ℕ) (f : Forest) → IsListed key f → has key f ≡ true
listed_has key none h = absurd (none-some h.0 h.1)
listed_has key (text n chars next) h = or_right (n == key) (has key next) (listed_has key next h)
listed_has key (element n name bindings attributes children next) h = by (listed_has key children) (listed_has key next) (n == key) refl
  where
    by : (IsListed key children → has key children ≡ true) → (IsListed key next → has key next ≡ true) → (b : Bool) → (n == key) ≡ b → (n == key || (has key children || has key next)) ≡ true
    by deep on true e = or_left (n == key) (has key children || has key next) e
    by deep on false e = elim (or_one (list_at key children) (list_at key next) h.0 (sym (list_past key n name bindings attributes children next e) ∙ h.1)) [
      | inl k ↦ or_right (n == key) (has key children || has key next) (or_left (has key children) (has key next) (deep (h.0, k)))
      | inr k ↦ or_right (n == key) (has key children || has key next) (or_right (has key children) (has key next) (on (h.0, k.1)))
    ]

pub option_cases : {T : Type 0} (o : Option T) → ((x : T) → o ≡ Some x → ⊥) → o ≡ None
option_cases None h = refl
option_cases (Some x) h = absurd (h x refl)

pub unlisted : (key : ℕ) (f : Forest) → has key f ≡ false → list_at key f ≡ None
unlisted key f h = option_cases (list_at key f) (λ l e. false≢true (sym h ∙ listed_has key f (l, e)))

-- its number was given out
pub listed_below : (free key : ℕ) (f : Forest) → AreNodes free f → IsListed key f → key < free
listed_below free key none a h = absurd (none-some h.0 h.1)
listed_below free key (text n chars next) a h = listed_below free key next a.1 h
listed_below free key (element n name bindings attributes children next) a h = by (listed_below free key children a.2) (listed_below free key next a.3) (n == key) refl
  where
    by : (IsListed key children → key < free) → (IsListed key next → key < free) → (b : Bool) → (n == key) ≡ b → key < free
    by deep on true e = let same = eqb-true n key e in let low = a.0.1 in omega (arith, same, low)
    by deep on false e = elim (or_one (list_at key children) (list_at key next) h.0 (sym (list_past key n name bindings attributes children next e) ∙ h.1)) [
      | inl k ↦ deep (h.0, k)
      | inr k ↦ on (h.0, k.1)
    ]

-- nodes that get their numbers from one on
pub listed_from : (free key : ℕ) (f : Forest) → IsListed key (renumbered free f) → free ≤ key
listed_from free key none h = absurd (none-some h.0 h.1)
listed_from free key (text n chars next) h = let on = listed_from (free + 1) key next h in omega (arith, on)
listed_from free key (element n name bindings attributes children next) h =
    by (listed_from (free + 1) key children) (listed_from (free + 1 + count children) key next) (free == key) refl
  where
    past : (free == key) ≡ false → option_or (list_at key (renumbered (free + 1) children)) (list_at key (renumbered (free + 1 + count children) next)) ≡ Some h.0
    past e = sym (list_past key free name bindings attributes (renumbered (free + 1) children) (renumbered (free + 1 + count children) next) e) ∙ h.1

    by : (IsListed key (renumbered (free + 1) children) → free + 1 ≤ key) → (IsListed key (renumbered (free + 1 + count children) next) → free + 1 + count children ≤ key)
        → (b : Bool) → (free == key) ≡ b → free ≤ key
    by deep more true e = let same = eqb-true free key e in omega (arith, same)
    by deep more false e = elim (or_one (list_at key (renumbered (free + 1) children)) (list_at key (renumbered (free + 1 + count children) next)) h.0 (past e)) [
      | inl k ↦ let on = deep (h.0, k) in omega (arith, on)
      | inr k ↦ let on = more (h.0, k.1) in omega (arith, on)
    ]

-- ---- a changed node among siblings

-- the node of a number with its name stays where it was
abbrev pub IsSameChild : (Forest → Forest) → Found → Type 0
IsSameChild change it = (next : Forest) → listed (append (change it.node) next) ≡ listed (append it.node next)

-- what is below it has the same lists
abbrev pub HasSameList : ℕ → (Forest → Forest) → Found → Type 0
HasSameList parent change it = (next : Forest) → list_at parent (append (change it.node) next) ≡ list_at parent (append it.node next)

-- Siblings stay in their list, where the changed node is none of them, or stays in it.
pub siblings_stay : (key depth : ℕ) (above : Option ℕ) (change : Forest → Forest) (f : Forest) (it : Found) → Lies key depth f it → IsSameChild change it ⊎ (parent_in above key f ≡ above → ⊥)
    → listed (replaced key change f) ≡ listed f
siblings_stay key depth above change none it l k = absurd l
siblings_stay key depth above change (text n chars next) it (inl l) (inl k) =
    rw (l.0) (subst (λ (i : Found). listed (append (change i.node) next) ≡ listed (append i.node next)) l.1 (k next))
siblings_stay key depth above change (text n chars next) it (inl l) (inr k) = absurd (k (rw (l.0) refl))
siblings_stay key depth above change (text n chars next) it (inr l) k =
    ap listed (past_text key change n chars next l.0)
    ∙ ap (λ (l : List Child). child n None ∷ l) (siblings_stay key depth above change next it l.1 (elim k [
      | inl same ↦ inl same
      | inr far ↦ inr (λ e. far (rw (l.0) e))
    ]))
siblings_stay key depth above change (element n name bindings attributes children next) it (inl l) (inl k) =
    rw (l.0) (subst (λ (i : Found). listed (append (change i.node) next) ≡ listed (append i.node next)) l.1 (k next))
siblings_stay key depth above change (element n name bindings attributes children next) it (inl l) (inr k) = absurd (k (rw (l.0) refl))
siblings_stay key depth above change (element n name bindings attributes children next) it (inr (inl l)) k =
    ap listed (below_element key change n name bindings attributes children next l.0 l.1)
siblings_stay key depth above change (element n name bindings attributes children next) it (inr (inr l)) k =
    ap listed (past_element key change n name bindings attributes children next l.0 l.1)
    ∙ ap (λ (l : List Child). child n (Some name) ∷ l) (siblings_stay key depth above change next it l.2 (elim k [
      | inl same ↦ inl same
      | inr far ↦ inr (λ e. far (rw (l.0, l.1) e))
    ]))

-- ---- the list of a parent that is not that of the changed node

module _ (parent : ℕ) where
  -- the parent of the node is another
  abbrev IsElsewhere : Option ℕ → ℕ → Forest → Type 0
  IsElsewhere above key f = parent_in above key f ≡ Some parent → ⊥

  below_stays : (key depth n : ℕ) (change : Forest → Forest) (children : Forest) (it : Found) → Lies key depth children it → (n == parent) ≡ true
      → IsSameChild change it ⊎ IsElsewhere (Some n) key children → listed (replaced key change children) ≡ listed children
  below_stays key depth n change children it l e k = siblings_stay key depth (Some n) change children it l (elim k [
    | inl same ↦ inl same
    | inr far ↦ inr (λ h. far (h ∙ ap (λ (m : ℕ). Some m) (eqb-true n parent e)))
  ])

  pub list_stays : (key depth : ℕ) (above : Option ℕ) (change : Forest → Forest) (f : Forest) (it : Found) → Lies key depth f it → HasSameList parent change it
      → IsSameChild change it ⊎ IsElsewhere above key f → list_at parent (replaced key change f) ≡ list_at parent f
  list_stays key depth above change none it l s k = absurd l
  list_stays key depth above change (text n chars next) it (inl l) s k =
      rw (l.0) (subst (λ (i : Found). list_at parent (append (change i.node) next) ≡ list_at parent (append i.node next)) l.1 (s next))
  list_stays key depth above change (text n chars next) it (inr l) s k =
      ap (list_at parent) (past_text key change n chars next l.0)
      ∙ list_stays key depth above change next it l.1 s (elim k [
        | inl same ↦ inl same
        | inr far ↦ inr (λ e. far (rw (l.0) e))
      ])
  list_stays key depth above change (element n name bindings attributes children next) it (inl l) s k =
      rw (l.0) (subst (λ (i : Found). list_at parent (append (change i.node) next) ≡ list_at parent (append i.node next)) l.1 (s next))
  list_stays key depth above change (element n name bindings attributes children next) it (inr (inl l)) s k =
      ap (list_at parent) (below_element key change n name bindings attributes children next l.0 l.1)
      ∙ by (list_stays key (depth + 1) (Some n) change children it l.2 s inner) (n == parent) refl
    where
      inner : IsSameChild change it ⊎ IsElsewhere (Some n) key children
      inner = elim k [
        | inl same ↦ inl same
        | inr far ↦ inr (λ e. far (rw (l.0, l.1) e))
      ]

      by : list_at parent (replaced key change children) ≡ list_at parent children → (b : Bool) → (n == parent) ≡ b
          → list_at parent (element n name bindings attributes (replaced key change children) next) ≡ list_at parent (element n name bindings attributes children next)
      by deep true e =
          list_here parent n name bindings attributes (replaced key change children) next e
          ∙ ap (λ (l : List Child). Some l) (below_stays key (depth + 1) n change children it l.2 e inner)
          ∙ sym (list_here parent n name bindings attributes children next e)
      by deep false e =
          list_past parent n name bindings attributes (replaced key change children) next e
          ∙ ap (λ (o : Option (List Child)). option_or o (list_at parent next)) deep
          ∙ sym (list_past parent n name bindings attributes children next e)
  list_stays key depth above change (element n name bindings attributes children next) it (inr (inr l)) s k =
      ap (list_at parent) (past_element key change n name bindings attributes children next l.0 l.1)
      ∙ ap (λ (o : Option (List Child)). if n == parent then Some (listed children) else option_or (list_at parent children) o) (list_stays key depth above change next it l.2 s (elim k [
        | inl same ↦ inl same
        | inr far ↦ inr (λ e. far (rw (l.0, l.1) e))
      ]))

  -- ---- a node that is taken out

  text_gone : (key n : ℕ) (chars : List ℕ) (next : Forest) → (n == key) ≡ true → replaced key gone (text n chars next) ≡ next
  text_gone key n chars next e = rw e refl

  element_gone : (key n : ℕ) (name : Expanded) (bindings : List Binding) (attributes : List Attribute) (children next : Forest) → (n == key) ≡ true
      → replaced key gone (element n name bindings attributes children next) ≡ next
  element_gone key n name bindings attributes children next e = rw e refl

  -- a number that is among the later siblings is not before them
  alone : (n : ℕ) (children next : Forest) → (if n == parent then 1 else 0) + (times parent children + times parent next) ≤ 1 → IsListed parent next
      → ((n == parent) ≡ false) × (list_at parent children ≡ None)
  alone n children next one h = (
    by (n == parent) refl,
    unlisted parent children (absent parent children (let many = has_times parent next (listed_has parent next h) in omega (arith, many, one))),
  )
    where
      by : (b : Bool) → (n == parent) ≡ b → b ≡ false
      by true e =
          let many = has_times parent next (listed_has parent next h) in
          let own : ◌≡◌ {A = ℕ} (if n == parent then 1 else 0) 1 = ap (λ c. if c then 1 else 0) e in
          absurd (omega (arith, many, one, own))
      by false e = refl

  pub taken_stays : (key depth : ℕ) (above : Option ℕ) (f : Forest) (it : Found) → Lies key depth f it → times parent f ≤ 1 → IsElsewhere above key f → (l : List Child)
      → list_at parent (replaced key gone f) ≡ Some l → list_at parent f ≡ Some l
  taken_stays key depth above none it lies one far l h = absurd lies
  taken_stays key depth above (text n chars next) it (inl lies) one far l h = sym (ap (list_at parent) (text_gone key n chars next lies.0)) ∙ h
  taken_stays key depth above (text n chars next) it (inr lies) one far l h =
      taken_stays key depth above next it lies.1 (omega (arith, one)) (λ e. far (rw (lies.0) e)) l (sym (ap (list_at parent) (past_text key gone n chars next lies.0)) ∙ h)
  taken_stays key depth above (element n name bindings attributes children next) it (inl lies) one far l h =
      let later : list_at parent next ≡ Some l = sym (ap (list_at parent) (element_gone key n name bindings attributes children next lies.0)) ∙ h in
      let others = alone n children next one (l, later) in
      list_past parent n name bindings attributes children next others.0 ∙ ap (λ (o : Option (List Child)). option_or o (list_at parent next)) others.1 ∙ later
  taken_stays key depth above (element n name bindings attributes children next) it (inr (inl lies)) one far l h =
      by (taken_stays key (depth + 1) (Some n) children it lies.2 (omega (arith, one)) inner l) (n == parent) refl
    where
      inner : IsElsewhere (Some n) key children
      inner e = far (rw (lies.0, lies.1) e)

      now : list_at parent (element n name bindings attributes (replaced key gone children) next) ≡ Some l
      now = sym (ap (list_at parent) (below_element key gone n name bindings attributes children next lies.0 lies.1)) ∙ h

      by : (list_at parent (replaced key gone children) ≡ Some l → list_at parent children ≡ Some l) → (b : Bool) → (n == parent) ≡ b
          → list_at parent (element n name bindings attributes children next) ≡ Some l
      by deep true e =
          list_here parent n name bindings attributes children next e
          ∙ ap (λ (x : List Child). Some x) (sym (below_stays key (depth + 1) n gone children it lies.2 e (inr inner)))
          ∙ sym (list_here parent n name bindings attributes (replaced key gone children) next e) ∙ now
      by deep false e =
          list_past parent n name bindings attributes children next e
          ∙ elim (or_one (list_at parent (replaced key gone children)) (list_at parent next) l (sym (list_past parent n name bindings attributes (replaced key gone children) next e) ∙ now)) [
            | inl k ↦ ap (λ (o : Option (List Child)). option_or o (list_at parent next)) (deep k)
            | inr k ↦ ap (λ (o : Option (List Child)). option_or o (list_at parent next)) (alone n children next one (l, k.1)).1 ∙ k.1
          ]
  taken_stays key depth above (element n name bindings attributes children next) it (inr (inr lies)) one far l h =
      by (taken_stays key depth above next it lies.2 (omega (arith, one)) (λ e. far (rw (lies.0, lies.1) e)) l) (n == parent) refl
    where
      now : list_at parent (element n name bindings attributes children (replaced key gone next)) ≡ Some l
      now = sym (ap (list_at parent) (past_element key gone n name bindings attributes children next lies.0 lies.1)) ∙ h

      by : (list_at parent (replaced key gone next) ≡ Some l → list_at parent next ≡ Some l) → (b : Bool) → (n == parent) ≡ b
          → list_at parent (element n name bindings attributes children next) ≡ Some l
      by on true e =
          list_here parent n name bindings attributes children next e ∙ sym (list_here parent n name bindings attributes children (replaced key gone next) e) ∙ now
      by on false e =
          list_past parent n name bindings attributes children next e
          ∙ elim (or_one (list_at parent children) (list_at parent (replaced key gone next)) l (sym (list_past parent n name bindings attributes children (replaced key gone next) e) ∙ now)) [
            | inl k ↦ ap (λ (o : Option (List Child)). option_or o (list_at parent next)) k
            | inr k ↦ ap (λ (o : Option (List Child)). option_or o (list_at parent next)) k.0
                ∙ on k.1
          ]

  -- ---- the parent of a node has a list, before it is changed and after

  abbrev IsAboveOr : Option ℕ → Forest → Type 0
  IsAboveOr above f = (above ≡ Some parent) ⊎ IsListed parent f

  listed_in_children : (n : ℕ) (name : Expanded) (bindings : List Binding) (attributes : List Attribute) (children next : Forest) → IsListed parent children
      → IsListed parent (element n name bindings attributes children next)
  listed_in_children n name bindings attributes children next h = by (n == parent) refl
    where
      by : (b : Bool) → (n == parent) ≡ b → IsListed parent (element n name bindings attributes children next)
      by true e = (listed children, list_here parent n name bindings attributes children next e)
      by false e = let one = or_first (list_at parent children) (list_at parent next) h in (one.0, list_past parent n name bindings attributes children next e ∙ one.1)

  listed_in_next : (n : ℕ) (name : Expanded) (bindings : List Binding) (attributes : List Attribute) (children next : Forest) → IsListed parent next
      → IsListed parent (element n name bindings attributes children next)
  listed_in_next n name bindings attributes children next h = by (n == parent) refl
    where
      by : (b : Bool) → (n == parent) ≡ b → IsListed parent (element n name bindings attributes children next)
      by true e = (listed children, list_here parent n name bindings attributes children next e)
      by false e = let one = or_second (list_at parent children) (list_at parent next) h in (one.0, list_past parent n name bindings attributes children next e ∙ one.1)

  listed_itself : (n : ℕ) (name : Expanded) (bindings : List Binding) (attributes : List Attribute) (children next : Forest) → Some n ≡ Some parent
      → IsListed parent (element n name bindings attributes children next)
  listed_itself n name bindings attributes children next same =
      (listed children, list_here parent n name bindings attributes children next (eq-eqb n parent (same_Some n parent same)))

  pub parent_before : (key depth : ℕ) (above : Option ℕ) (f : Forest) (it : Found) → Lies key depth f it → parent_in above key f ≡ Some parent → IsAboveOr above f
  parent_before key depth above none it l h = absurd l
  parent_before key depth above (text n chars next) it (inl l) h = inl (rw (l.0) at h)
  parent_before key depth above (text n chars next) it (inr l) h = parent_before key depth above next it l.1 (rw (l.0) at h)
  parent_before key depth above (element n name bindings attributes children next) it (inl l) h = inl (rw (l.0) at h)
  parent_before key depth above (element n name bindings attributes children next) it (inr (inl l)) h =
      elim (parent_before key (depth + 1) (Some n) children it l.2 (rw (l.0, l.1) at h)) [
        | inl same ↦ inr (listed_itself n name bindings attributes children next same)
        | inr k ↦ inr (listed_in_children n name bindings attributes children next k)
      ]
  parent_before key depth above (element n name bindings attributes children next) it (inr (inr l)) h =
      elim (parent_before key depth above next it l.2 (rw (l.0, l.1) at h)) [
        | inl same ↦ inl same
        | inr k ↦ inr (listed_in_next n name bindings attributes children next k)
      ]

  pub parent_after : (key depth : ℕ) (above : Option ℕ) (change : Forest → Forest) (f : Forest) (it : Found) → Lies key depth f it → parent_in above key f ≡ Some parent → IsAboveOr above (replaced key change f)
  parent_after key depth above change none it l h = absurd l
  parent_after key depth above change (text n chars next) it (inl l) h = inl (rw (l.0) at h)
  parent_after key depth above change (text n chars next) it (inr l) h =
      subst (IsAboveOr above) (sym (past_text key change n chars next l.0)) (parent_after key depth above change next it l.1 (rw (l.0) at h))
  parent_after key depth above change (element n name bindings attributes children next) it (inl l) h = inl (rw (l.0) at h)
  parent_after key depth above change (element n name bindings attributes children next) it (inr (inl l)) h =
      subst (IsAboveOr above) (sym (below_element key change n name bindings attributes children next l.0 l.1))
      (elim (parent_after key (depth + 1) (Some n) change children it l.2 (rw (l.0, l.1) at h)) [
        | inl same ↦ inr (listed_itself n name bindings attributes (replaced key change children) next same)
        | inr k ↦ inr (listed_in_children n name bindings attributes (replaced key change children) next k)
      ])
  parent_after key depth above change (element n name bindings attributes children next) it (inr (inr l)) h =
      subst (IsAboveOr above) (sym (past_element key change n name bindings attributes children next l.0 l.1))
      (elim (parent_after key depth above change next it l.2 (rw (l.0, l.1) at h)) [
        | inl same ↦ inl same
        | inr k ↦ inr (listed_in_next n name bindings attributes children (replaced key change next) k)
      ])

  -- an element has a list
  pub element_listed : (depth : ℕ) (f : Forest) (it : Found) → Lies parent depth f it → element_node it.node ≡ true → IsListed parent f
  element_listed depth none it l e = absurd l
  element_listed depth (text n chars next) it (inl l) e = absurd (false≢true (subst (λ (i : Found). element_node i.node ≡ true) l.1 e))
  element_listed depth (text n chars next) it (inr l) e = element_listed depth next it l.1 e
  element_listed depth (element n name bindings attributes children next) it (inl l) e = (listed children, list_here parent n name bindings attributes children next l.0)
  element_listed depth (element n name bindings attributes children next) it (inr (inl l)) e =
      listed_in_children n name bindings attributes children next (element_listed (depth + 1) children it l.2 e)
  element_listed depth (element n name bindings attributes children next) it (inr (inr l)) e =
      listed_in_next n name bindings attributes children next (element_listed depth next it l.2 e)

  -- a part without an element of the number, among siblings
  pub part_stays : (place : ℕ) (part f : Forest) → list_at parent part ≡ None → list_at parent (insert_at place part f) ≡ list_at parent f
  part_stays place part none h = h
  part_stays place part (text n chars next) h =
      elim (place == 0) as (λ b. list_at parent (if b then append part (text n chars next) else text n chars (insert_at (place - 1) part next)) ≡ list_at parent next) [
        | true ↦ list_append parent part (text n chars next) ∙ ap (λ (o : Option (List Child)). option_or o (list_at parent next)) h
        | false ↦ part_stays (place - 1) part next h
      ]
  part_stays place part (element n name bindings attributes children next) h =
      let f : Forest = element n name bindings attributes children next in
      elim (place == 0) as (λ b. list_at parent (if b then append part (element n name bindings attributes children next)
      else element n name bindings attributes children (insert_at (place - 1) part next)) ≡ list_at parent (element n name bindings attributes children next)) [
        | true ↦ list_append parent part f ∙ ap (λ (o : Option (List Child)). option_or o (list_at parent f)) h
        | false ↦ ap (λ (o : Option (List Child)). if n == parent then Some (listed children) else option_or (list_at parent children) o) (part_stays (place - 1) part next h)
      ]
