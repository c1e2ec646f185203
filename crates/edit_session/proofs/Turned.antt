-- What has become of elements, as identity constraints see it, where a change began at one of them.
use Rattle.std.proofs.Common.{◌≡◌, ◌≢◌, ℕ, zero, suc, ◌≤◌, List, [], ◌∷◌, ◌++◌, cond, Bool, true, false, Option, None, Some, refl, sym, ap, ◌∙◌, subst, inl, inr, arith}
use Rattle.std.specs.Prelude.{filter, flat_map, insert, remove, slice_get}
use Rattle.std.specs.Option.{option_and_then}
use Rattle.std.specs.declared.alloc.Global.{Global}
use Rattle.std.specs.declared.vec.Vec.{Vec}
use Rattle.std.proofs.lemmas.Bool.{cases_eq, false≢true}
use Rattle.std.proofs.lemmas.Option.{none-some, same_Some}
use Rattle.xs_names.specs.Names.{NameTable}
use Rattle.tree_rows.specs.Forest.{Forest, none, text, element, Document}
use Rattle.tree_rows.specs.Whole.{HasRoot}
use Rattle.tree_edits.specs.Edits.{has}
use Rattle.doc_nodes.specs.Nodes.{Node, Nodes, node, IsNode, IsSound, Has, children_by, depth_by, is_element, is_element_by, is_element_at, element_children}
use Rattle.doc_nodes.proofs.Among.{from-insert}
use Rattle.doc_changes.specs.Held.{parent_at, attributes_at}
use Rattle.doc_changes.specs.Stands.{StandFor, StandsFor}
use Rattle.doc_changes.specs.Readers.{chars_at, name_at, name_by, own_chars, scope_at}
use Rattle.doc_changes.proofs.Reading.{depth_below}
use Rattle.kept_inverses.specs.from_kept_changes.Own.{HaveSameElements, Renames}
use Rattle.kept_inverses.specs.from_kept_changes.Turned.{Comes, Goes, TurnsAt}
use Rattle.kept_inverses.specs.from_kept_changes.Spot.{Spot}
use Rattle.kept_inverses.specs.from_kept_changes.Spot.TheVariants.{Planted, Pruned, Retexted, Attributed, Renamed}
use Rattle.kept_inverses.specs.from_kept_forgetting.Below.{upwards, IsWithin}
use Rattle.kept_inverses.proofs.from_kept_changes.Came.{come-elements}
use Rattle.kept_inverses.proofs.from_kept_changes.Changed.{flat-same}
use Rattle.kept_inverses.proofs.from_kept_changes.Gone.{has-below}
use Rattle.kept_inverses.proofs.from_kept_children.Still.{IsStill, still-node, still-held, says-same, scope-still, element-silent}
use Rattle.kept_inverses.proofs.from_kept_forgetting.Placed.{has-at, parent-has, parent-element, root-alone}
use Rattle.kept_inverses.proofs.from_kept_forgetting.Walks.{self-within, below-within, parent-of}
use Rattle.kept_inverses.proofs.from_kept_records.Nodes.{by-node}
use Rattle.kept_keys.specs.from_kept_targets.Moved.{Adds}
use Rattle.kept_keys.specs.from_kept_targets.Turn.{Turn}
use Rattle.kept_keys.specs.from_kept_targets.Turn.TheVariants as turns
use Rattle.kept_keys.specs.from_kept_targets.Turned.{Stays, Turns}
use Rattle.edit_session.specs.Turning.{IsGone, IsTurnOf}

-- ---- lists

filter-has : (p q : ℕ → Bool) (xs : List ℕ) → ((x : ℕ) → Has x xs → p x ≡ q x) → filter p xs ≡ filter q xs
filter-has p q [] same = refl
filter-has p q (x ∷ xs) same = let more = filter-has p q xs (λ y h. same y (inr h)) in λ i. cond (same x (inl refl) i) (x ∷ more i) (more i)

-- what gives nothing is not seen among what others give
flat-insert : (f : ℕ → List ℕ) (xs : List ℕ) (i c : ℕ) → f c ≡ [] → flat_map f (insert xs i c) ≡ flat_map f xs
flat-insert f [] zero c e = ap (λ ys. ys ++ []) e
flat-insert f [] (suc i) c e = ap (λ ys. ys ++ []) e
flat-insert f (x ∷ xs) zero c e = ap (λ ys. ys ++ flat_map f (x ∷ xs)) e
flat-insert f (x ∷ xs) (suc i) c e = ap (λ ys. f x ++ ys) (flat-insert f xs i c e)

flat-remove : (f : ℕ → List ℕ) (xs : List ℕ) (i c : ℕ) → slice_get xs i ≡ Some c → f c ≡ [] → flat_map f (remove xs i) ≡ flat_map f xs
flat-remove f [] i c at e = absurd (none-some c at)
flat-remove f (x ∷ xs) zero c at e = sym (ap (λ ys. ys ++ flat_map f xs) (ap f (same_Some x c at) ∙ e))
flat-remove f (x ∷ xs) (suc i) c at e = ap (λ ys. f x ++ ys) (flat-remove f xs i c at e)

apart : (b : Bool) → b ≡ true → b ≡ false → ⊥
apart b is not = false≢true (sym not ∙ is)

-- ---- the texts, the attributes or the name of one element are others

module _ (old new : Nodes) where
  own-turns : (n : ℕ) → is_element_at old n ≡ true → HaveSameElements old new → ((m : ℕ) → is_element_at old m ≡ true → name_at new m ≡ name_at old m)
      → ((m : ℕ) → is_element_at old m ≡ true → m ≢ n → attributes_at new m ≡ attributes_at old m) → ((m : ℕ) → is_element_at old m ≡ true → m ≢ n → own_chars new m ≡ own_chars old m)
      → Turns old new (turns.Own n)
  own-turns n is same names attributes texts = record {
    lowest = same.elements n ∙ is;
    parents = λ m stays. same.parents m stays.before;
    scopes = λ m stays. same.scopes m stays.before;
    attributes = λ m stays other. attributes m stays.before (λ e. other (ap Some (sym e)));
    texts = λ m stays other. texts m stays.before (λ e. other (ap Some (sym e)));
    names = λ m stays other. names m stays.before;
    children = λ m stays other. same.children m stays.before;
    come = λ m here absent. absurd (apart (is_element_at old m) (sym (same.elements m) ∙ here) absent);
    gone = λ m there absent. absurd (apart (is_element_at new m) (same.elements m ∙ there) absent);
    away = λ m h. absurd h;
  }

  named-turns : (n : ℕ) → is_element_at old n ≡ true → Renames old new n → Turns old new (turns.Listed n)
  named-turns n is renames =
      let same = renames.elements in record {
        lowest = same.elements n ∙ is;
        parents = λ m stays. same.parents m stays.before;
        scopes = λ m stays. same.scopes m stays.before;
        attributes = λ m stays other. renames.attributes m stays.before;
        texts = λ m stays other. renames.texts m stays.before;
        names = λ m stays other. renames.names m stays.before (λ e. other (ap Some (sym e)));
        children = λ m stays other. same.children m stays.before;
        come = λ m here absent. absurd (apart (is_element_at old m) (sym (same.elements m) ∙ here) absent);
        gone = λ m there absent. absurd (apart (is_element_at new m) (same.elements m ∙ there) absent);
        away = λ m h. absurd h;
      }

-- ---- nodes that stay as they are, but for the children of one

module _ (old new : Nodes) (was : IsSound old) (now : IsSound new) (Here : ℕ → Type 0) (up : (m q : ℕ) → Here m → parent_at old m ≡ Some q → Here q) (p : ℕ) (it : Node) (is : IsNode old p it) (children : List ℕ)
    (held : IsNode new p (record it { children = children })) (same : (m : ℕ) → Here m → m ≢ p → node new m ≡ node old m) where
  still : (m : ℕ) → Here m → IsStill old new m
  still m here = elim (cases_eq m p) [
    | inl e ↦ subst (IsStill old new) (sym e) (still-held old new p it (record it { children = children }) is held refl (says-same it.content))
    | inr other ↦ still-node old new m (same m here other)
  ]

  names-stay : (m : ℕ) → Here m → name_at new m ≡ name_at old m
  names-stay m here = elim (cases_eq m p) [
    | inl e ↦ ap (name_at new) e ∙ ap name_by held ∙ sym (ap name_by is) ∙ ap (name_at old) (sym e)
    | inr other ↦ ap name_by (same m here other)
  ]

  scopes-stay : (m : ℕ) → Here m → scope_at new m ≡ scope_at old m
  scopes-stay m here = scope-still old new was now Here still up m here

  -- with child elements that stay
  children-stay : (m : ℕ) → Here m → m ≢ p → ((x : ℕ) → Has x (children_by (node old m)) → Here x) → element_children new m ≡ element_children old m
  children-stay m here other down =
      ap (λ o. filter (is_element_at new) (children_by o)) (same m here other)
      ∙ filter-has (is_element_at new) (is_element_at old) (children_by (node old m)) (λ x h. (still x (down x h)).element)

  texts-stay : (m : ℕ) → Here m → m ≢ p → ((x : ℕ) → Has x (children_by (node old m)) → Here x) → own_chars new m ≡ own_chars old m
  texts-stay m here other down =
      ap (λ o. flat_map (chars_at new) (children_by o)) (same m here other)
      ∙ flat-same (chars_at new) (chars_at old) (children_by (node old m)) (λ x h. (still x (down x h)).chars)

root-element : (t : NameTable) (ns : Nodes) (f : Forest) → HasRoot f → StandFor t ns f → is_element_at ns 1 ≡ true
root-element t ns none root s = absurd root
root-element t ns (text number chars next) root s = absurd root
root-element t ns (element number name bindings attributes children next) root s = ap (is_element_at ns) (sym root.0) ∙ ap is_element_by s.0.is ∙ ap is_element s.0.content

-- ---- an element has come

module _ (t : NameTable) (old new : Nodes) (d e : Document) (z : StandsFor t old d) (y : StandsFor t new e) (n : ℕ) (h : Comes t old new n) where
  abbrev Was : ℕ → Type 0
  Was m = (it : Node) × IsNode old m it

  above : (it : Node) × IsNode old h.parent it
  above = by-node old h.parent (node old h.parent) refl h.was_element

  abbrev more : List ℕ
  more = insert above.0.children h.place n

  held : IsNode new h.parent (record above.0 { children = more })
  held = h.comes.parent above.0 above.1

  same : (m : ℕ) → Was m → m ≢ h.parent → node new m ≡ node old m
  same m was other = h.comes.others m was.0 was.1 other

  up : (m q : ℕ) → Was m → parent_at old m ≡ Some q → Was q
  up m q was e = let p = parent-has old z.links m q e in (p.0, p.1)

  down : (m : ℕ) → Was m → (x : ℕ) → Has x (children_by (node old m)) → Was x
  down m was x has = let c = z.links.down m x was.0 was.1 (subst (λ (o : Option Node). Has x (children_by o)) was.1 has) in (c.child, c.is)

  stays-was : (m : ℕ) → Stays old new m → Was m
  stays-was m stays = by-node old m (node old m) refl stays.before

  come-still : (m : ℕ) → Was m → IsStill old new m
  come-still = still old new z.links y.links Was up h.parent above.0 above.1 more held same

  parent-texts : own_chars new h.parent ≡ own_chars old h.parent
  parent-texts =
      ap (λ o. flat_map (chars_at new) (children_by o)) held
      ∙ flat-insert (chars_at new) above.0.children h.place n (element-silent new n h.element)
      ∙ flat-same (chars_at new) (chars_at old) above.0.children (λ x has. (come-still x (down h.parent above x (subst (λ (o : Option Node). Has x (children_by o)) (sym above.1) has))).chars)
      ∙ ap (λ o. flat_map (chars_at old) (children_by o)) (sym above.1)

  texts : (m : ℕ) → Was m → own_chars new m ≡ own_chars old m
  texts m was = elim (cases_eq m h.parent) [
    | inl q ↦ subst (λ k. own_chars new k ≡ own_chars old k) (sym q) parent-texts
    | inr other ↦ texts-stay old new z.links y.links Was up h.parent above.0 above.1 more held same m was other (down m was)
  ]

  -- a child of a node that was there was there, but for the one that came
  child-was : (q m : ℕ) → Was q → m ≢ n → parent_at new m ≡ Some q → Was m
  child-was q m was other up_now =
      let p = parent-has new y.links m q up_now in
      elim (cases_eq q h.parent) [
        | inl s ↦
            let among : Has m more = subst (λ (o : Option Node). Has m (children_by o)) (ap (node new) s ∙ held) (subst (λ (o : Option Node). Has m (children_by o)) (sym p.1) p.2) in
            elim (from-insert above.0.children h.place n m among) [
              | inl own ↦ absurd (other (sym own))
              | inr old_one ↦ down h.parent above m (subst (λ (o : Option Node). Has m (children_by o)) (sym above.1) old_one)
            ]
        | inr apart_from ↦ down q was m (subst (λ (o : Option Node). Has m (children_by o)) (sym p.1 ∙ same q was apart_from) p.2)
      ]

  abbrev IsNew : ℕ → Type 0
  IsNew m = (is_element_at old n ≡ false) × IsWithin new n m

  -- all that are new are at or below it
  new-by : (m : ℕ) → is_element_at new m ≡ true → is_element_at old m ≡ false → ((q : ℕ) → parent_at new m ≡ Some q → is_element_at new q ≡ true → is_element_at old q ≡ false → IsNew q) → IsNew m
  new-by m here absent on = elim (cases_eq m n) [
    | inl own ↦ (ap (is_element_at old) (sym own) ∙ absent, (0, ap Some own))
    | inr other ↦ by other (parent_at new m) refl
  ]
    where
      of : m ≢ n → (q : ℕ) → parent_at new m ≡ Some q → (b : Bool) → is_element_at old q ≡ b → IsNew m
      of other q up_now true there =
          let was = child-was q m (by-node old q (node old q) refl there) other up_now in
          absurd (apart (is_element_at old m) (sym (come-still m was).element ∙ here) absent)
      of other q up_now false gone =
          let found = on q up_now (parent-element t new e y m q up_now) gone in
          (found.0, (suc found.1.0, ap (option_and_then (upwards new found.1.0)) up_now ∙ found.1.1))

      by : m ≢ n → (o : Option ℕ) → parent_at new m ≡ o → IsNew m
      by other None bare = absurd (apart (is_element_at old m) (ap (is_element_at old) (root-alone t new e y m here bare) ∙ root-element t old d.forest z.tree.root z.nodes) absent)
      by other (Some q) up_now = of other q up_now (is_element_at old q) refl

  new-from : (levels m : ℕ) → depth_by (node new m) ≤ levels → is_element_at new m ≡ true → is_element_at old m ≡ false → IsNew m
  new-from zero m high here absent = new-by m here absent (λ q up_now is not. let deep = depth_below new q m y.links up_now in absurd (omega (arith, deep, high)))
  new-from (suc levels) m high here absent = new-by m here absent (λ q up_now is not. let deep = depth_below new q m y.links up_now in new-from levels q (omega (arith, deep, high)) is not)

  come-turns : Turns old new (turns.Listed n)
  come-turns = record {
    lowest = h.element;
    parents = λ m stays. (come-still m (stays-was m stays)).parent;
    scopes = λ m stays. scopes-stay old new z.links y.links Was up h.parent above.0 above.1 more held same m (stays-was m stays);
    attributes = λ m stays other. (come-still m (stays-was m stays)).attributes;
    texts = λ m stays other. texts m (stays-was m stays);
    names = λ m stays other. names-stay old new z.links y.links Was up h.parent above.0 above.1 more held same m (stays-was m stays);
    children = λ m stays other.
        let was = stays-was m stays in
        children-stay old new z.links y.links Was up h.parent above.0 above.1 more held same m was (λ q. other (h.parent_is ∙ ap Some (sym q))) (down m was);
    come = λ m here absent. let found = new-from (depth_by (node new m)) m (omega arith) here absent in (n, refl, found.0, found.1);
    gone = λ m there absent. absurd (apart (is_element_at new m) (come-elements old new h.parent h.place n h.comes m there) absent);
    away = λ m has. absurd has;
  }

-- ---- an element is gone

module _ (t : NameTable) (old new : Nodes) (d : Document) (z : StandsFor t old d) (now : IsSound new) (n : ℕ) (h : Goes t old new n) where
  abbrev Left : ℕ → Type 0
  Left m = (it : Node) × IsNode new m it

  abbrev fewer : List ℕ
  fewer = remove h.child.0.children h.place

  left-held : IsNode new h.parent (record h.child.0 { children = fewer })
  left-held = h.prunes.parent h.child.0 h.child.1

  parent-is : parent_at old n ≡ Some h.parent
  parent-is = parent-of old z.links h.parent n h.child.0 h.child.1 (has-at h.child.0.children h.place n h.child.2)

  not-gone : (m : ℕ) → Left m → m ≢ n
  not-gone m left e = none-some left.0 (sym h.prunes.here ∙ ap (node new) (sym e) ∙ left.1)

  left-same : (m : ℕ) → Left m → m ≢ h.parent → node new m ≡ node old m
  left-same m left other = by (has m h.below) refl
    where
      by : (b : Bool) → has m h.below ≡ b → node new m ≡ node old m
      by true e = absurd (none-some left.0 (sym (h.prunes.gone m e) ∙ left.1))
      by false e = h.prunes.others m other (not-gone m left) e

  left-parent : (m : ℕ) → Left m → parent_at new m ≡ parent_at old m
  left-parent m left = elim (cases_eq m h.parent) [
    | inl e ↦
        ap (parent_at new) e ∙ ap (option_and_then (λ (x : Node). x.parent)) left-held ∙ sym (ap (option_and_then (λ (x : Node). x.parent)) h.child.1) ∙ ap (parent_at old) (sym e)
    | inr other ↦ ap (option_and_then (λ (x : Node). x.parent)) (left-same m left other)
  ]

  left-up : (m q : ℕ) → Left m → parent_at old m ≡ Some q → Left q
  left-up m q left e = let p = parent-has new now m q (left-parent m left ∙ e) in (p.0, p.1)

  below-now : (m : ℕ) → Left m → (x : ℕ) → Has x (children_by (node new m)) → Left x
  below-now m left x among = let c = now.down m x left.0 left.1 (subst (λ (o : Option Node). Has x (children_by o)) left.1 among) in (c.child, c.is)

  left-down : (m : ℕ) → Left m → m ≢ h.parent → (x : ℕ) → Has x (children_by (node old m)) → Left x
  left-down m left other x among = below-now m left x (subst (λ (o : Option Node). Has x (children_by o)) (sym (left-same m left other)) among)

  stays-left : (m : ℕ) → Stays old new m → Left m
  stays-left m stays = by-node new m (node new m) refl stays.after

  left-still : (m : ℕ) → Left m → IsStill old new m
  left-still = still old new z.links now Left left-up h.parent h.child.0 h.child.1 fewer left-held left-same

  left-texts-at : own_chars new h.parent ≡ own_chars old h.parent
  left-texts-at =
      ap (λ o. flat_map (chars_at new) (children_by o)) left-held
      ∙ flat-same (chars_at new) (chars_at old) fewer
      (λ x among. (left-still x (below-now h.parent (record h.child.0 { children = fewer }, left-held) x (subst (λ (o : Option Node). Has x (children_by o)) (sym left-held) among))).chars)
      ∙ flat-remove (chars_at old) h.child.0.children h.place n h.child.2 (element-silent old n h.element)
      ∙ ap (λ o. flat_map (chars_at old) (children_by o)) (sym h.child.1)

  left-texts : (m : ℕ) → Left m → own_chars new m ≡ own_chars old m
  left-texts m left = elim (cases_eq m h.parent) [
    | inl q ↦ subst (λ k. own_chars new k ≡ own_chars old k) (sym q) left-texts-at
    | inr other ↦ texts-stay old new z.links now Left left-up h.parent h.child.0 h.child.1 fewer left-held left-same m left other (left-down m left other)
  ]

  -- what is left was not within it
  out-from : (levels m : ℕ) → Left m → upwards old levels m ≡ Some n → ⊥
  out-from zero m left w = not-gone m left (same_Some m n w)
  out-from (suc levels) m left w = by (out-from levels) (parent_at old m) refl w
    where
      by : ((q : ℕ) → Left q → upwards old levels q ≡ Some n → ⊥) → (o : Option ℕ) → parent_at old m ≡ o → option_and_then (upwards old levels) o ≡ Some n → ⊥
      by on None e f = none-some n f
      by on (Some q) e f = on q (left-up m q left e) f

  pub left-out : (m : ℕ) → is_element_at new m ≡ true → IsWithin old n m → ⊥
  left-out m is within = out-from within.0 m (by-node new m (node new m) refl is) within.1

  -- what hung below it was within it
  hung : (m : ℕ) → has m h.below ≡ true → IsWithin old n m
  hung m below =
      below-within old n m
      (has-below t old z.links n h.below h.over.stand (λ x among. parent-of old z.links n x h.over.it h.over.is (subst (Has x) (sym h.over.children) among)) m below)

  -- an element that is there no more was within it
  gone-within : (m : ℕ) → is_element_at old m ≡ true → is_element_at new m ≡ false → IsWithin old n m
  gone-within m was not = by (has m h.below) refl
    where
      stays-not : m ≢ h.parent → m ≢ n → has m h.below ≡ false → ⊥
      stays-not other apart_from out = apart (is_element_at new m) (ap is_element_by (h.prunes.others m other apart_from out) ∙ was) not

      at-parent : m ≡ h.parent → ⊥
      at-parent e = apart (is_element_at new m) (ap (is_element_at new) e ∙ ap is_element_by left-held ∙ sym (ap is_element_by h.child.1) ∙ ap (is_element_at old) (sym e) ∙ was) not

      by : (b : Bool) → has m h.below ≡ b → IsWithin old n m
      by true e = hung m e
      by false e = elim (cases_eq m n) [
        | inl own ↦ subst (IsWithin old n) (sym own) (self-within old n)
        | inr other ↦ elim (cases_eq m h.parent) [ inl q ↦ absurd (at-parent q) | inr above ↦ absurd (stays-not above other e) ]
      ]

  away-by : (m : ℕ) → IsWithin old n m → (b : Bool) → is_element_at new m ≡ b → is_element_at new m ≡ false
  away-by m within true here = absurd (left-out m here within)
  away-by m within false not = not

  gone-turns : (turn : Turn) → IsGone old n turn → Turns old new turn
  gone-turns turn is =
      let same_parent : h.parent ≡ is.parent = same_Some h.parent is.parent (sym parent-is ∙ is.parent_is) in
      let so : Turns old new (turns.Gone h.parent is.numbers) = record {
        lowest = (left-still h.parent (record h.child.0 { children = fewer }, left-held)).element ∙ parent-element t old d z n h.parent parent-is;
        parents = λ m stays. (left-still m (stays-left m stays)).parent;
        scopes = λ m stays. scopes-stay old new z.links now Left left-up h.parent h.child.0 h.child.1 fewer left-held left-same m (stays-left m stays);
        attributes = λ m stays other. (left-still m (stays-left m stays)).attributes;
        texts = λ m stays other. left-texts m (stays-left m stays);
        names = λ m stays other. names-stay old new z.links now Left left-up h.parent h.child.0 h.child.1 fewer left-held left-same m (stays-left m stays);
        children = λ m stays other.
            let left = stays-left m stays in
            let off : m ≢ h.parent = λ q. other (ap Some (sym q)) in
            children-stay old new z.links now Left left-up h.parent h.child.0 h.child.1 fewer left-held left-same m left off (left-down m left off);
        come = λ m here absent. absurd (apart (is_element_at old m) (sym (left-still m (by-node new m (node new m) refl here)).element ∙ here) absent);
        gone = λ m was not. (is.those m).1 (was, gone-within m was not);
        away = λ m among. away-by m ((is.those m).0 among).1 (is_element_at new m) refl;
      } in
      subst (λ (x : Turn). Turns old new x) (ap (λ (q : ℕ). turns.Gone q is.numbers) same_parent ∙ sym is.is) so

-- ---- at the spot of a change

module _ (t : NameTable) (old new : Nodes) (d e : Document) (z : StandsFor t old d) (y : StandsFor t new e) where
  pub turns-at : (spot : Spot) → TurnsAt t old new spot → (turn : Turn) → IsTurnOf old spot turn → Turns old new turn
  turns-at (Planted n) h turn is = subst (Turns old new) (sym is) (come-turns t old new d e z y n h)
  turns-at (Pruned n) h turn is = gone-turns t old new d z y.links n h turn is
  turns-at (Retexted n) h turn is = subst (Turns old new) (sym is) (own-turns old new n h.0 h.1.elements h.1.names (λ m there other. h.1.attributes m there) h.1.texts)
  turns-at (Attributed n) h turn is = subst (Turns old new) (sym is) (own-turns old new n h.0 h.1.elements h.1.names h.1.attributes (λ m there other. h.1.texts m there))
  turns-at (Renamed n) h turn is = subst (Turns old new) (sym is) (named-turns old new n h.0 h.1)

-- ---- the elements at and below one

numbers-within : (ns : Nodes) → IsSound ns → (n : ℕ) (numbers : List ℕ) → Adds ns [] numbers (λ m. m ≡ n) → (levels m : ℕ) → depth_by (node ns m) ≤ levels → Has m numbers → IsWithin ns n m
numbers-within ns sound n numbers adds zero m high h = elim (adds.only m h) [
  | inl bad ↦ absurd bad
  | inr new ↦ elim new.1 [ inl own ↦ (0, ap Some own) | inr up ↦ let deep = depth_below ns up.0 m sound up.1 in absurd (omega (arith, deep, high)) ]
]
numbers-within ns sound n numbers adds (suc levels) m high h = elim (adds.only m h) [
  | inl bad ↦ absurd bad
  | inr new ↦ elim new.1 [
    | inl own ↦ (0, ap Some own)
    | inr up ↦
        let deep = depth_below ns up.0 m sound up.1 in
        let above = numbers-within ns sound n numbers adds levels up.0 (omega (arith, deep, high)) up.2 in
        (suc above.0, ap (option_and_then (upwards ns above.0)) up.1 ∙ above.1)
  ]
]

pub gone-is : (ns : Nodes) → IsSound ns → (n parent : ℕ) → parent_at ns n ≡ Some parent → (numbers : Vec ℕ Global) → ((m : ℕ) → is_element_at ns m ≡ true → IsWithin ns n m → Has m numbers.items)
    → (first : List ℕ) → first ≡ [] → Adds ns first numbers.items (λ m. m ≡ n) → IsGone ns n (turns.Gone parent numbers)
gone-is ns sound n parent up numbers all first empty some =
    let adds : Adds ns [] numbers.items (λ m. m ≡ n) = subst (λ (xs : List ℕ). Adds ns xs numbers.items (λ m. m ≡ n)) empty some in
    record {
      parent = parent;
      parent_is = up;
      numbers = numbers;
      those = λ m. ((λ h. (is-one adds m h, numbers-within ns sound n numbers.items adds (depth_by (node ns m)) m (omega arith) h)), (λ both. all m both.0 both.1));
      is = refl;
    }
  where
    is-one : Adds ns [] numbers.items (λ m. m ≡ n) → (m : ℕ) → Has m numbers.items → is_element_at ns m ≡ true
    is-one adds m h = elim (adds.only m h) [ inl bad ↦ absurd bad | inr new ↦ new.0 ]
