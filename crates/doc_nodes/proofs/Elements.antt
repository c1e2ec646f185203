-- The child elements of a node, in order.
use Rattle.std.proofs.Common.{◌≡◌, ℕ, zero, suc, ◌+◌, ◌<◌, ◌≤◌, List, [], ◌∷◌, length, map, take, get_or, cond, sym, ap, ◌∙◌, subst, Option, Some, None, Bool, true, false, refl, inl, inr, arith}
use Rattle.std.specs.Prelude.{slice_get, filter, min}
use Rattle.std.proofs.lemmas.List.{length-map, take-map, take_min}
use Rattle.std.proofs.lemmas.Option.{none-some, slice_get_past}
use Rattle.child_trees.specs.Lists.{Entry, get, IsAt, IsEntryOf, items}
use Rattle.doc_nodes.specs.declared.firsts.First.{First}
use Rattle.doc_nodes.specs.declared.slots.Slot.{Slot}
use Rattle.doc_nodes.specs.Nodes.{Node, node, is_element, is_element_by, is_element_at, children_by, Has}
use Rattle.doc_nodes.specs.Slots.{slot}
use Rattle.doc_nodes.specs.Linked.{Orders, entries, number_of, numbers, nodes_of, IsLinked}
use Rattle.doc_nodes.proofs.Among.{has-at}
use Rattle.doc_nodes.proofs.Placed.{IsItemAt, has-place, read-at, item-at, live_list}
use Rattle.doc_nodes.proofs.Seen.{shown, counted, number_hung}

-- those of the children of some entries that pass a test
chosen : (b : Bool) (e : Entry First) (es : List (Entry First)) → numbers (cond b (e ∷ es) es) ≡ cond b (number_of e ∷ numbers es) (numbers es)
chosen true e es = refl
chosen false e es = refl

pub numbers_filter : (f : Entry First → Bool) (test : ℕ → Bool) (es : List (Entry First)) → ((e : Entry First) → Has e es → f e ≡ test (number_of e)) → numbers (filter f es) ≡ filter test (numbers es)
numbers_filter f test [] h = refl
numbers_filter f test (e ∷ es) h =
    chosen (f e) e (filter f es)
    ∙ ap (λ b. cond b (number_of e ∷ numbers (filter f es)) (numbers (filter f es))) (h e (inl refl))
    ∙ ap (λ ns. cond (test (number_of e)) (number_of e ∷ ns) ns) (numbers_filter f test es (λ x k. h x (inr k)))

has-filter : {A : Type 0} (f : A → Bool) (xs : List A) (x : A) → Has x (filter f xs) → Has x xs
has-filter f [] x h = h
has-filter f (y ∷ ys) x h =
    elim (f y) as (λ b. Has x (cond b (y ∷ filter f ys) (filter f ys)) → Has x (y ∷ ys)) [
      | true ↦ λ k. elim k [
        | inl e ↦ inl e
        | inr j ↦ inr (has-filter f ys x j)
      ]
      | false ↦ λ k. inr (has-filter f ys x k)
    ] h

pub has-take : {A : Type 0} (n : ℕ) (xs : List A) (x : A) → Has x (take n xs) → Has x xs
has-take zero xs x h = absurd h
has-take (suc n) [] x h = h
has-take (suc n) (y ∷ ys) x h = elim h [
  | inl e ↦ inl e
  | inr k ↦ inr (has-take n ys x k)
]

-- what is read at a place, and where nothing is
got-at : {A B : Type 0} (f : A → B) (xs : List A) (k : ℕ) (x : A) → IsItemAt xs k x → slice_get (map f xs) k ≡ Some (f x)
got-at f [] k x i = let l = i.within in absurd (omega (arith, l))
got-at f (y ∷ ys) zero x i = ap (λ z. Some (f z)) (i.at y)
got-at f (y ∷ ys) (suc k) x i = let l = i.within in got-at f ys k x (record { within = omega (arith, l); at = i.at })

pub none-at : {A B C : Type 0} (f : A → B) (g : A → C) (xs : List A) (k : ℕ) → slice_get (map f xs) k ≡ None → slice_get (map g xs) k ≡ None
none-at f g [] zero e = refl
none-at f g [] (suc k) e = refl
none-at f g (x ∷ xs) zero e = absurd (none-some (f x) (sym e))
none-at f g (x ∷ xs) (suc k) e = none-at f g xs k e

plain-at : {A : Type 0} (xs : List A) (k : ℕ) (x : A) → IsItemAt xs k x → slice_get xs k ≡ Some x
plain-at [] k x i = let l = i.within in absurd (omega (arith, l))
plain-at (y ∷ ys) zero x i = ap Some (i.at y)
plain-at (y ∷ ys) (suc k) x i = let l = i.within in plain-at ys k x (record { within = omega (arith, l); at = i.at })

-- the entry of an item that was found among those that pass a test
pub record IsPassed (v : Orders) (f : Entry First → Bool) (xs : List (Entry First)) (k item : ℕ) : Type 0 where
  pub entry : Entry First
  pub is : IsEntryOf v item entry
  pub has : Has entry xs
  pub number : slice_get (numbers (filter f xs)) k ≡ Some (number_of entry)

pub passed : (v : Orders) (q : ℕ) (f : Entry First → Bool) (xs : List (Entry First)) (k item : ℕ) → get v q ≡ Some xs → slice_get (items (filter f xs)) k ≡ Some item → IsPassed v f xs k item
passed v q f xs k item here e =
    let z = read-at (λ (y : Entry First). y.item) (filter f xs) k item e in
    let has = has-filter f xs z.0 (has-at (filter f xs) k z.0 z.1.0.within z.1.0.at) in
    let p = has-place z.0 xs has in
    record {
      entry = z.0;
      is = record { list = q; place = p.0; entries = xs; at = subst (λ j. IsAt v j q p.0 xs) z.1.1 (item-at v q p.0 xs z.0 here p.1); is = plain-at xs p.0 z.0 p.1 };
      has = has;
      number = got-at number_of (filter f xs) k z.0 z.1.0;
    }

module _ (ss : List (Option Slot)) (v : Orders) (n : ℕ) (s : Slot) (i : IsLinked ss v) (there : slot ss n ≡ Some s) where
  is_shown : (e : Entry First) → Has e (entries v s.list) → (is_element_at (nodes_of ss v) (number_of e) ≡ e.marked) × (is_element_at (nodes_of ss v) (number_of e) ≡ e.element)
  is_shown e k =
      let d = i.down n s e there k in
      let kind : is_element_at (nodes_of ss v) (number_of e) ≡ is_element d.child.content =
      ap (is_element_at (nodes_of ss v)) (number_hung ss n s e d) ∙ ap is_element_by (shown ss v d.number d.child d.is) in
      (kind ∙ sym d.marked, kind ∙ sym d.element)

  pub marked_are : numbers (filter (λ (e : Entry First). e.marked) (entries v s.list)) ≡ filter (is_element_at (nodes_of ss v)) (children_by (node (nodes_of ss v) n))
  marked_are =
      numbers_filter (λ (e : Entry First). e.marked) (is_element_at (nodes_of ss v)) (entries v s.list) (λ e k. sym (is_shown e k).0)
      ∙ ap (λ y. filter (is_element_at (nodes_of ss v)) (children_by y)) (sym (shown ss v n s there))

  pub elements_are : (place least : ℕ) → least ≡ min place s.count
      → length (filter (λ (e : Entry First). e.element) (take least (entries v s.list))) ≡ length (filter (is_element_at (nodes_of ss v)) (take place (children_by (node (nodes_of ss v) n))))
  elements_are place least m =
      sym (length-map (filter (λ (e : Entry First). e.element) (take least (entries v s.list))) number_of)
      ∙ ap length (numbers_filter (λ (e : Entry First). e.element) (is_element_at (nodes_of ss v)) (take least (entries v s.list)) (λ e k. sym (is_shown e (has-take least (entries v s.list) e k)).1))
      ∙ ap (λ l. length (filter (is_element_at (nodes_of ss v)) l)) (sym (take-map number_of least (entries v s.list)) ∙ upto)
    where
      count : s.count ≡ length (numbers (entries v s.list))
      count = counted ss v n s i there ∙ ap (λ y. length (children_by y)) (shown ss v n s there)

      upto : take least (numbers (entries v s.list)) ≡ take place (children_by (node (nodes_of ss v) n))
      upto = ap (λ k. take k (numbers (entries v s.list))) (m ∙ ap (min place) count) ∙ take_min place (numbers (entries v s.list)) ∙ ap (λ y. take place (children_by y)) (sym (shown ss v n s there))

-- where a number is of no node
pub no_element_at : (test : ℕ → Bool) (place : ℕ) (o : Option Node) → o ≡ None → None ≡ slice_get (filter test (children_by o)) place
no_element_at test place o e = sym (ap (λ y. slice_get (filter test (children_by y)) place) e ∙ slice_get_past [] place (omega arith))

none_taken : (test : ℕ → Bool) (place : ℕ) → 0 ≡ length (filter test (take place []))
none_taken test zero = refl
none_taken test (suc place) = refl

pub no_elements : (test : ℕ → Bool) (place : ℕ) (o : Option Node) → o ≡ None → 0 ≡ length (filter test (take place (children_by o)))
no_elements test place o e = none_taken test place ∙ ap (λ y. length (filter test (take place (children_by y)))) (sym e)
