-- The child elements of an element, settled one after another.
use Rattle.std.proofs.Common.{◌≡◌, ℕ, zero, suc, ◌+◌, ◌*◌, ◌-◌, ◌<◌, ◌≤◌, List, [], ◌∷◌, ◌++◌, map, take, drop, true, Option, None, Some, refl, sym, ap, ◌∙◌, subst, inl, inr, arith}
use Rattle.std.specs.Prelude.{filter, slice_get, unwrap_or}
use Rattle.std.specs.Option.{option_map}
use Rattle.std.proofs.lemmas.Option.{slice_get-map, same_Some, none-some}
use Rattle.assess_records.specs.Counts.{with_child, counts_of}
use Rattle.assess_records.specs.declared.counts.ChildCounts.{ChildCounts}
use Rattle.assess_records.specs.declared.record.ElementRecord.{ElementRecord}
use Rattle.compiled_schema.specs.declared.compiled.Compiled.{Compiled}
use Rattle.content_models.specs.declared.automaton.ContentAutomaton.{ContentAutomaton}
use Rattle.model_lists.specs.declared.handle.ModelList.{ModelList}
use Rattle.elem_governing.specs.declared.pairs.Governing.{Governing}
use Rattle.tree_rows.specs.Forest.{Forest}
use Rattle.doc_nodes.proofs.Among.{from-map}
use Rattle.doc_nodes.specs.Nodes.{Node, Nodes, node, Has, Distinct, IsSound, depth_by, children_by, is_element_at, element_children}
use Rattle.doc_changes.specs.Held.{parent_at}
use Rattle.doc_changes.specs.Readers.{element_numbers}
use Rattle.doc_changes.proofs.Reading.{depth_below}
use Rattle.kept_slots.specs.Slots.{at}
use Rattle.child_listing.specs.from_kept_records.Slots.{KeptSlots, IsMade, blank, pair_at, record_at}
use Rattle.child_listing.specs.from_kept_records.Fit.{models_of, IsListed, AboveIn}
use Rattle.child_listing.proofs.from_kept_records.Nodes.{child-parent}
use Rattle.child_listing.specs.from_kept_state.Governed.{Governed}
use Rattle.child_listing.specs.from_kept_state.KeptState.{KeptState}
use Rattle.child_listing.specs.from_kept_judging.Judged.{symbols_by, pair_by, AreChildren}
use Rattle.child_listing.specs.Children.{IsSpare, AreGoverned, IsListing}
use Rattle.kept_forgetting.specs.Below.{IsBelow, IsWithin, KeepsBut}
use Rattle.kept_below.specs.Below.{AreAbove, IsSettled}
use Rattle.child_listing.specs.declared.listing.Listing.{Listing}
use Rattle.kept_below.proofs.Counts.{counts-last}
use Rattle.child_listing.proofs.Distinct.{distinct-filter, filtered, has-place, place-has, place-from, front-other, front-more}
use Rattle.kept_forgetting.proofs.Keeping.{keeps-then, keeps-wider}
use Rattle.kept_below.specs.Moved.{moved, AreGivenDown}
use Rattle.kept_below.proofs.Moving.{HasRoom, room-stopped, room-next}
use Rattle.kept_forgetting.proofs.Walks.{has-get, self-within, child-below, siblings-apart}

abbrev pub number : Governed → ℕ
number g = g.node

-- it is governed so
abbrev pub IsSo : KeptState → Governed → Type 0
IsSo k g = IsMade k.records.slots g.node × (pair_at k.records.slots g.node ≡ g.pair)

abbrev pub record-of : KeptState → Governed → ElementRecord
record-of k g = record_at k.records.slots g.node

-- what the measure of all child elements is
abbrev pub left-of : Nodes → List Governed → ℕ
left-of ns [] = 0
left-of ns (g ∷ gs) = 4 * (130 - depth_by (node ns g.node)) + 4

map-through : {A : Type 0} (f : A → ℕ) (g : ℕ → ElementRecord) (xs : List A) → map (λ x. g (f x)) xs ≡ map g (map f xs)
map-through f g [] = refl
map-through f g (x ∷ xs) = ap (λ rs. g (f x) ∷ rs) (map-through f g xs)

maps-alike : {A : Type 0} (f g : A → ElementRecord) (xs : List A) → ((x : A) → Has x xs → g x ≡ f x) → map g xs ≡ map f xs
maps-alike f g [] h = refl
maps-alike f g (x ∷ xs) h = ap (λ r. r ∷ map g xs) (h x (inl refl)) ∙ ap (λ rs. f x ∷ rs) (maps-alike f g xs (λ y k. h y (inr k)))

front-last : {A B : Type 0} (f : A → B) (xs : List A) (i : ℕ) (x : A) → slice_get xs i ≡ Some x → map f (take (suc i) xs) ≡ map f (take i xs) ++ f x ∷ []
front-last f [] i x e = absurd (none-some x e)
front-last f (y ∷ ys) zero x e = ap (λ z. f z ∷ []) (same_Some y x e)
front-last f (y ∷ ys) (suc i) x e = ap (λ zs. f y ∷ zs) (front-last f ys i x e)

from-front : {A : Type 0} (xs : List A) (i : ℕ) (x : A) → Has x (take i xs) → Has x xs
from-front [] zero x h = absurd h
from-front [] (suc i) x h = absurd h
from-front (y ∷ ys) zero x h = absurd h
from-front (y ∷ ys) (suc i) x (inl e) = inl e
from-front (y ∷ ys) (suc i) x (inr k) = inr (from-front ys i x k)

module _ (c : Compiled) (ns : Nodes) (sound : IsSound ns) (parent : Governed) (children : List Governed) (are : AreGoverned c ns parent children) where
  pub child-place : (i : ℕ) (g : Governed) → slice_get children i ≡ Some g → slice_get (element_children ns parent.node) i ≡ Some g.node
  child-place i g e = ap (λ xs. slice_get xs i) (sym are.nodes) ∙ slice_get-map number children i ∙ ap (option_map number) e

  pub child-up : (i : ℕ) (g : Governed) → slice_get children i ≡ Some g → parent_at ns g.node ≡ Some parent.node
  child-up i g e = by (node ns parent.node) refl (child-place i g e)
    where
      by : (o : Option Node) → node ns parent.node ≡ o → slice_get (filter (is_element_at ns) (children_by o)) i ≡ Some g.node → parent_at ns g.node ≡ Some parent.node
      by None q h = absurd (none-some g.node h)
      by (Some it) q h = child-parent ns sound parent.node it q i g.node (child-place i g e)

  pub child-element : (i : ℕ) (g : Governed) → slice_get children i ≡ Some g → is_element_at ns g.node ≡ true
  child-element i g e = (filtered (is_element_at ns) (children_by (node ns parent.node)) g.node (has-get (element_children ns parent.node) i g.node (child-place i g e))).1

  pub apart : Distinct (map number children)
  apart = subst Distinct (sym are.nodes) (by (node ns parent.node) refl)
    where
      by : (o : Option Node) → node ns parent.node ≡ o → Distinct (filter (is_element_at ns) (children_by o))
      by None q = tt
      by (Some it) q = distinct-filter (is_element_at ns) it.children (sound.once parent.node it q)

  pub child-above : (i : ℕ) (g : Governed) → slice_get children i ≡ Some g → (waiting : List ℕ) → AboveIn ns g.node (parent.node ∷ waiting)
  child-above i g e waiting = λ p up. inl (same_Some parent.node p (sym (child-up i g e) ∙ up))

  pub all-above : (i : ℕ) (g : Governed) → slice_get children i ≡ Some g → (waiting : List ℕ) → AreAbove ns parent.node waiting → AreAbove ns g.node (parent.node ∷ waiting)
  all-above i g e waiting above = λ m has. by m has
    where
      deep : depth_by (node ns g.node) ≡ depth_by (node ns parent.node) + 1
      deep = depth_below ns parent.node g.node sound (child-up i g e)

      by : (m : ℕ) → Has m (parent.node ∷ waiting) → depth_by (node ns m) < depth_by (node ns g.node)
      by m (inl q) = let same : depth_by (node ns parent.node) ≡ depth_by (node ns m) = ap (λ x. depth_by (node ns x)) q in let d = deep in omega (arith, same, d)
      by m (inr k) = let less = above m k in let d = deep in omega (arith, less, d)

  same-depth : (i : ℕ) (g : Governed) → slice_get children i ≡ Some g → depth_by (node ns g.node) ≡ depth_by (node ns parent.node) + 1
  same-depth i g e = depth_below ns parent.node g.node sound (child-up i g e)

  -- the measure of one of them is less than that of all, and that of all than that of the parent
  pub one-less : (i : ℕ) (g : Governed) → slice_get children i ≡ Some g → 4 * (130 - depth_by (node ns g.node)) + 3 < left-of ns children
  one-less i g e = by children e (λ f q. same-depth 0 f q)
    where
      by : (xs : List Governed) → slice_get xs i ≡ Some g → ((f : Governed) → slice_get xs 0 ≡ Some f → depth_by (node ns f.node) ≡ depth_by (node ns parent.node) + 1) →
          4 * (130 - depth_by (node ns g.node)) + 3 < left-of ns xs
      by [] q first = absurd (none-some g q)
      by (f ∷ fs) q first = let a = first f refl in let b = same-depth i g e in omega (arith, a, b)

  pub all-less : ((i : ℕ) (g : Governed) → slice_get children i ≡ Some g → depth_by (node ns g.node) ≤ 128) → left-of ns children < 4 * (130 - depth_by (node ns parent.node)) + 1
  all-less low = by children (λ f q. same-depth 0 f q) (λ f q. low 0 f q)
    where
      by : (xs : List Governed) → ((f : Governed) → slice_get xs 0 ≡ Some f → depth_by (node ns f.node) ≡ depth_by (node ns parent.node) + 1) →
          ((f : Governed) → slice_get xs 0 ≡ Some f → depth_by (node ns f.node) ≤ 128) → left-of ns xs < 4 * (130 - depth_by (node ns parent.node)) + 1
      by [] first low = omega arith
      by (f ∷ fs) first low = let a = first f refl in let b = low f refl in omega (arith, a, b)

  -- those before are not within the next
  before-outside : (i : ℕ) (g d : Governed) → slice_get children i ≡ Some g → Has d (take i children) → ¬ IsWithin ns g.node d.node
  before-outside i g d e h = λ w.
      let at = place-has number children d (from-front children i d h) in
      siblings-apart ns sound parent.node d.node g.node d.node (child-up at.0 d at.1) (child-up i g e) (front-other number children apart i g d e h) (self-within ns d.node) w

  module _ (a b : KeptState) (i : ℕ) (g : Governed) (e : slice_get children i ≡ Some g) (settled : IsSettled ns a b g) where
    stays : (d : Governed) → Has d (take i children) → at b.records.slots d.node ≡ at a.records.slots d.node
    stays d h = settled.rest.slots d.node (before-outside i g d e h)

    -- one more of them is governed so
    pub governed-next : ((d : Governed) → Has d (take i children) → IsSo a d) → (d : Governed) → Has d (take (suc i) children) → IsSo b d
    governed-next so d h = elim (front-more number children i g d e h) [
      | inl before ↦
          let was = so d before in
          ((was.0.0, stays d before ∙ was.0.1), ap (λ o. (unwrap_or o blank).found.governing) (stays d before) ∙ was.1)
      | inr same ↦ subst (IsSo b) same (settled.made, settled.pair_is)
    ]

    -- and counted
    pub counts-next : (counts : ChildCounts) → counts ≡ counts_of (map (record-of a) (take i children)) →
        with_child (record-of b g).validity (record-of b g).attempted counts ≡ counts_of (map (record-of b) (take (suc i) children))
    counts-next counts is =
        ap (with_child (record-of b g).validity (record-of b g).attempted)
        (is ∙ ap counts_of (sym (maps-alike (record-of a) (record-of b) (take i children) (λ d h. ap (λ o. (unwrap_or o blank).found.element) (stays d h)))))
        ∙ sym (counts-last (map (record-of b) (take i children)) (record-of b g))
        ∙ ap counts_of (sym (front-last (record-of b) children i g e))

    -- nothing else is kept otherwise but below the parent
    pub keeps-next : (first : KeptState) → KeepsBut (IsBelow ns parent.node) first a → KeepsBut (IsBelow ns parent.node) first b
    keeps-next first keeps =
        keeps-then (IsBelow ns parent.node) first a b keeps
        (keeps-wider (IsWithin ns g.node) (IsBelow ns parent.node) (λ m w. child-below ns g.node parent.node m (child-up i g e) w) a b settled.rest)

-- ---- those that are left

left-step : (xs : List Governed) (i : ℕ) (g : Governed) → slice_get xs i ≡ Some g → drop i xs ≡ g ∷ drop (suc i) xs
left-step [] i g e = absurd (none-some g e)
left-step (x ∷ xs) zero g e = ap (λ y. y ∷ xs) (same_Some x g e)
left-step (x ∷ xs) (suc i) g e = left-step xs i g e

left-among : (xs : List Governed) (i : ℕ) (g : Governed) → Has g (drop i xs) → Has g xs
left-among [] zero g h = absurd h
left-among [] (suc i) g h = absurd h
left-among (x ∷ xs) zero g h = h
left-among (x ∷ xs) (suc i) g h = inr (left-among xs i g h)

left-distinct : (xs : List Governed) (i : ℕ) → Distinct (map number xs) → Distinct (map number (drop i xs))
left-distinct [] zero d = tt
left-distinct [] (suc i) d = tt
left-distinct (x ∷ xs) zero d = d
left-distinct (x ∷ xs) (suc i) d = left-distinct xs i d.1

module _ (c : Compiled) (ns : Nodes) (sound : IsSound ns) (parent : Governed) (children : List Governed) (are : AreGoverned c ns parent children) where
  left-up : (i d : ℕ) → Has d (map number (drop i children)) → parent_at ns d ≡ Some parent.node
  left-up i d h =
      let from = from-map number (drop i children) d h in
      let at = place-has number children from.item (left-among children i from.item from.has) in
      subst (λ m. parent_at ns m ≡ Some parent.node) from.is (child-up c ns sound parent children are at.0 from.item at.1)

  module _ (governs : ℕ → Governing) (i : ℕ) (g : Governed) (e : slice_get children i ≡ Some g) (ks new : KeptSlots) (steps now most : ℕ)
      (room : HasRoom c ns ks governs (map number (drop i children)) steps most)
      (own : (f : Forest) → AreGivenDown c ns governs f → element_numbers f ≡ g.node ∷ [] → now ≤ steps + 3 * moved ks governs f) where
    left-is : map number (drop i children) ≡ g.node ∷ map number (drop (suc i) children)
    left-is = ap (map number) (left-step children i g e)

    room-here : HasRoom c ns ks governs (g.node ∷ map number (drop (suc i) children)) steps most
    room-here = subst (λ xs. HasRoom c ns ks governs xs steps most) left-is room

    pub steps-stopped : now ≤ most
    steps-stopped = room-stopped c ns governs sound ks new g.node (map number (drop (suc i) children)) steps now most room-here own

    pub steps-next : ((m : ℕ) → ¬ IsWithin ns g.node m → at new m ≡ at ks m) → HasRoom c ns new governs (map number (drop (suc i) children)) now most
    steps-next frame =
        room-next c ns governs sound ks new g.node (map number (drop (suc i) children)) steps now most room-here own parent.node
        (λ d h. left-up i d (subst (Has d) (sym left-is) h)) (subst Distinct left-is (left-distinct children i (apart c ns sound parent children are))) frame

-- ---- all of them are settled

module _ (c : Compiled) (ns : Nodes) (first listed settled : KeptState) (parent : Governed) (listing : Listing) (is : IsListing c ns first listed parent listing)
    (keeps : KeepsBut (IsBelow ns parent.node) listed settled) (so : (d : Governed) → Has d listing.children.items → IsSo settled d) (counts : ChildCounts)
    (counted : counts ≡ counts_of (map (record-of settled) listing.children.items)) where
  list-stays : (model : Option ContentAutomaton) (list : Option ModelList) (symbols : List ℕ) → IsSpare listed list → IsListed listed.lists model list symbols → IsListed settled.lists model list symbols
  list-stays None None symbols spare has = tt
  list-stays None (Some h) symbols spare has = has
  list-stays (Some a) None symbols spare has = has
  list-stays (Some a) (Some h) symbols spare has = (keeps.lists h a symbols (λ m t. (spare h refl).1 m) has).0

  pub are-children : AreChildren c ns settled parent.node parent.pair (record { stuck = listing.stuck; counts = counts; list = listing.list })
  are-children = record {
    given = λ place child e.
        let from = place-from number listing.children.items place child (ap (λ xs. slice_get xs place) is.children_are.nodes ∙ e) in
        let own = so from.0 (has-place number listing.children.items place from.0 from.1) in
        record {
          made = subst (IsMade settled.records.slots) from.2 own.0;
          pair_is = subst (λ m. pair_at settled.records.slots m ≡ pair_by c ns parent.pair parent.node place m) from.2 (own.1 ∙ is.children_are.pairs place from.0 from.1);
        };
    list_is = list-stays (models_of c parent.pair.of) listing.list (symbols_by c ns parent.pair.of parent.node) is.spare is.list_is;
    stuck_is = is.stuck_is;
    counts_are = counted ∙ ap counts_of (map-through number (record_at settled.records.slots) listing.children.items) ∙ ap (λ xs. counts_of (map (record_at settled.records.slots) xs)) is.children_are.nodes;
  }
