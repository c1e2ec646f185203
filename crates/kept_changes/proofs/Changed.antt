-- What a change of one node leaves of what is read of elements.
use Rattle.std.proofs.Common.{◌≡◌, ◌≢◌, ℕ, zero, suc, ◌<◌, ◌≤◌, List, [], ◌∷◌, ◌++◌, length, map, cond, Bool, true, false, Option, None, Some, refl, sym, ap, ◌∙◌, subst, inl, inr, arith}
use Rattle.std.specs.Prelude.{filter, slice_get, insert, remove, reverse, flat_map, unwrap_or}
use Rattle.std.specs.Option.{option_and_then}
use Rattle.std.proofs.lemmas.Bool.{cases_eq, cases_lt, true≢false, false≢true}
use Rattle.std.proofs.lemmas.Option.{none-some, same_Some}
use Rattle.std.proofs.Math.ListN.{get_or-eq_default}
use Rattle.xs_names.specs.Names.{NameTable}
use Rattle.xs_names.specs.Scope.{first_scope}
use Rattle.tree_rows.specs.Forest.{none, text, Document}
use Rattle.doc_nodes.specs.Nodes.{Node, Nodes, node, IsNode, IsSound, Has, Holds, depth_by, children_by, is_element, is_element_by, is_element_at, element_children}
use Rattle.doc_nodes.specs.declared.content.Content.{Content}
use Rattle.doc_nodes.specs.declared.content.Content.TheVariants as contents
use Rattle.doc_nodes.specs.declared.content.Element.{Element}
use Rattle.doc_nodes.specs.declared.content.NameBinding.{NameBinding}
use Rattle.doc_changes.specs.Held.{chars_in, name_in, attributes_in, bindings_in, parent_at, attributes_by, bindings_by, bindings_at}
use Rattle.doc_changes.specs.Parts.{Prunes}
use Rattle.doc_changes.specs.Stands.{StandsFor}
use Rattle.doc_changes.specs.Readers.{name_by, chars_by, chars_at, own_chars, own_scope, outer_scope, scope_upto, scope_at}
use Rattle.doc_changes.specs.Planted.{Plants}
use Rattle.kept_children.proofs.from_kept_forgetting.Placed.{has-at, in-table, parent-element}
use Rattle.kept_children.specs.Edited.{ComesAt}
use Rattle.kept_changes.specs.Own.{Stays, HaveSameElements, Retexts, Reattributes, Renames}

-- ---- lists

filter-same : (p q : ℕ → Bool) (xs : List ℕ) → ((x : ℕ) → p x ≡ q x) → filter p xs ≡ filter q xs
filter-same p q xs same = λ i. filter (λ x. same x i) xs

pub flat-same : (f g : ℕ → List ℕ) (xs : List ℕ) → ((x : ℕ) → Has x xs → f x ≡ g x) → flat_map f xs ≡ flat_map g xs
flat-same f g [] same = refl
flat-same f g (x ∷ xs) same = λ i. same x (inl refl) i ++ flat-same f g xs (λ y h. same y (inr h)) i

-- what fails a test is not seen among what passes it
filter-insert : (p : ℕ → Bool) (xs : List ℕ) (i c : ℕ) → p c ≡ false → filter p (insert xs i c) ≡ filter p xs
filter-insert p [] zero c e = ap (λ b. cond b (c ∷ []) []) e
filter-insert p [] (suc i) c e = ap (λ b. cond b (c ∷ []) []) e
filter-insert p (x ∷ xs) zero c e = ap (λ b. cond b (c ∷ filter p (x ∷ xs)) (filter p (x ∷ xs))) e
filter-insert p (x ∷ xs) (suc i) c e = ap (λ ys. cond (p x) (x ∷ ys) ys) (filter-insert p xs i c e)

filter-remove : (p : ℕ → Bool) (xs : List ℕ) (i c : ℕ) → slice_get xs i ≡ Some c → p c ≡ false → filter p (remove xs i) ≡ filter p xs
filter-remove p [] i c at e = absurd (none-some c at)
filter-remove p (x ∷ xs) zero c at e = sym (ap (λ b. cond b (x ∷ filter p xs) (filter p xs)) (ap p (same_Some x c at) ∙ e))
filter-remove p (x ∷ xs) (suc i) c at e = ap (λ ys. cond (p x) (x ∷ ys) ys) (filter-remove p xs i c at e)

-- ---- nodes

-- a child of a node has it as its parent
pub child-up : (ns : Nodes) → IsSound ns → (m x : ℕ) → Has x (children_by (node ns m)) → parent_at ns x ≡ Some m
child-up ns sound m x = by (node ns m) refl
  where
    by : (o : Option Node) → node ns m ≡ o → Has x (children_by o) → parent_at ns x ≡ Some m
    by None e h = absurd h
    by (Some above) e h = let c = sound.down m x above e h in ap (option_and_then (λ (y : Node). y.parent)) c.is ∙ c.parent

-- ---- scopes

-- where elements have their parents, their depths and what they bind, they have their scopes
module _ (t : NameTable) (old new : Nodes) (d : Document) (z : StandsFor t old d) (parents : Stays parent_at old new) (bindings : Stays bindings_at old new) where
  own-stays : (m : ℕ) → is_element_at old m ≡ true → own_scope new m ≡ own_scope old m
  own-stays m is = ap (λ (bs : List NameBinding). reverse (map (λ (b : NameBinding). (b.prefix, b.namespace)) bs)) (bindings m is)

  upto-stays : (levels m : ℕ) → is_element_at old m ≡ true → scope_upto new levels m ≡ scope_upto old levels m
  unfolding scope_upto
  upto-stays zero m is = ap (λ s. s ++ first_scope) (own-stays m is)
  upto-stays (suc levels) m is =
      let own = own-stays m is in
      let outer = outer-stays (upto-stays levels) m (parent_at old m) refl in
      λ i. own i ++ (ap (outer_scope (scope_upto new levels)) (parents m is) ∙ outer) i
    where
      outer-stays : ((q : ℕ) → is_element_at old q ≡ true → scope_upto new levels q ≡ scope_upto old levels q) → (m : ℕ) (o : Option ℕ) → parent_at old m ≡ o →
          outer_scope (scope_upto new levels) o ≡ outer_scope (scope_upto old levels) o
      outer-stays above m None e = refl
      outer-stays above m (Some q) e = above q (parent-element t old d z m q e)

  scopes-stay : ((m : ℕ) → is_element_at old m ≡ true → depth_by (node new m) ≡ depth_by (node old m)) → Stays scope_at old new
  scopes-stay depths m is = ap (λ k. scope_upto new k m) (depths m is) ∙ upto-stays (depth_by (node old m)) m is

-- ---- one node holds something else

module _ (t : NameTable) (old new : Nodes) (d : Document) (z : StandsFor t old d) (n : ℕ) (it : Node) (is : IsNode old n it) (now : Content) (holds : Holds old new n now) where
  -- what is read of nodes is the same, where it is the same of what that node holds
  held-read : {A : Type 0} (read : Option Node → A) → read (Some (record it { content = now })) ≡ read (Some it) → (m : ℕ) → read (node new m) ≡ read (node old m)
  held-read read same m = elim (cases_eq m n) [
    | inl e ↦ ap (λ k. read (node new k)) e ∙ ap read (holds.here it is) ∙ same ∙ ap read (sym is) ∙ ap (λ k. read (node old k)) (sym e)
    | inr other ↦ ap read (holds.others m other)
  ]

  held-others : {A : Type 0} (read : Option Node → A) (m : ℕ) → m ≢ n → read (node new m) ≡ read (node old m)
  held-others read m other = ap read (holds.others m other)

  module _ (kind : is_element now ≡ is_element it.content) (bound : bindings_in now ≡ bindings_in it.content) where
    held-children : (m : ℕ) → children_by (node new m) ≡ children_by (node old m)
    held-children = held-read children_by refl

    held-elements : HaveSameElements old new
    held-elements = record {
      elements = held-read is_element_by kind;
      parents = λ m e. held-read (option_and_then (λ (x : Node). x.parent)) refl m;
      children = λ m e. filter-same (is_element_at new) (is_element_at old) (children_by (node new m)) (held-read is_element_by kind) ∙ ap (filter (is_element_at old)) (held-children m);
      scopes = scopes-stay t old new d z (λ m e. held-read (option_and_then (λ (x : Node). x.parent)) refl m) (λ m e. held-read bindings_by bound m)
          (λ m e. held-read depth_by refl m);
    }

    -- the texts of elements, but of the parent of a text that is another
    held-texts : (m : ℕ) → ((x : ℕ) → Has x (children_by (node old m)) → chars_at new x ≡ chars_at old x) → own_chars new m ≡ own_chars old m
    held-texts m same = ap (flat_map (chars_at new)) (held-children m) ∙ flat-same (chars_at new) (chars_at old) (children_by (node old m)) same

  -- a text
  pub text-held : (p : ℕ) (chars was : List ℕ) → now ≡ contents.Chars chars → it.content ≡ contents.Chars was → parent_at old n ≡ Some p → Retexts old new p
  text-held p chars was e f up =
      let kind : is_element now ≡ is_element it.content = ap is_element e ∙ sym (ap is_element f) in
      let bound : bindings_in now ≡ bindings_in it.content = ap bindings_in e ∙ sym (ap bindings_in f) in
      let named : name_in now ≡ name_in it.content = ap name_in e ∙ sym (ap name_in f) in
      let attributes : attributes_in now ≡ attributes_in it.content = ap attributes_in e ∙ sym (ap attributes_in f) in
      record {
        elements = held-elements kind bound;
        names = λ m k. held-read name_by (ap (λ o. unwrap_or o 0) named) m;
        attributes = λ m k. held-read attributes_by attributes m;
        texts = λ m k other. held-texts kind bound m (λ x h. held-others chars_by x (λ q. other (same_Some m p (sym (child-up old z.links m x h) ∙ ap (parent_at old) q ∙ up))));
      }

  -- an element
  module _ (was after : Element) (e : now ≡ contents.Element after) (f : it.content ≡ contents.Element was) (bound : after.bindings ≡ was.bindings) where
    kind : is_element now ≡ is_element it.content
    kind = ap is_element e ∙ sym (ap is_element f)

    binds : bindings_in now ≡ bindings_in it.content
    binds = ap bindings_in e ∙ bound ∙ sym (ap bindings_in f)

    silent : chars_in now ≡ chars_in it.content
    silent = ap chars_in e ∙ sym (ap chars_in f)

    texts-stay : Stays own_chars old new
    texts-stay m k = held-texts kind binds m (λ x h. held-read chars_by (ap (λ o. unwrap_or o []) silent) x)

    pub element-reattributed : after.name ≡ was.name → Reattributes old new n
    element-reattributed name = record {
      elements = held-elements kind binds;
      names = λ m k. held-read name_by (ap (λ o. unwrap_or o 0) (ap name_in e ∙ ap Some name ∙ sym (ap name_in f))) m;
      attributes = λ m k other. held-others attributes_by m other;
      texts = texts-stay;
    }

    pub element-renamed : after.attributes ≡ was.attributes → Renames old new n
    element-renamed attributes = record {
      elements = held-elements kind binds;
      names = λ m k other. held-others name_by m other;
      attributes = λ m k. held-read attributes_by (ap attributes_in e ∙ attributes ∙ sym (ap attributes_in f)) m;
      texts = texts-stay;
    }

-- ---- a text comes or goes

-- an element is a node
element-node : (o : Option Node) → is_element_by o ≡ true → (it : Node) × (o ≡ Some it)
element-node None is = absurd (false≢true is)
element-node (Some it) is = (it, refl)

module _ (t : NameTable) (old new : Nodes) (d : Document) (z : StandsFor t old d) (p place : ℕ) (it : Node) (is : IsNode old p it) where
  -- a text came
  module _ (n : ℕ) (comes : ComesAt old new p place n) (was_none : is_element_at old n ≡ false) (is_none : is_element_at new n ≡ false)
      (rest : (m : ℕ) → m ≢ n → node old m ≡ None → is_element_at new m ≡ false) where
    -- the same is read of all that were nodes, but for children
    alike : {A : Type 0} (read : Option Node → A) → read (Some (record it { children = insert it.children place n })) ≡ read (Some it) → (m : ℕ) (x : Node) → IsNode old m x → read (node new m) ≡ read (node old m)
    alike read same m x there = elim (cases_eq m p) [
      | inl e ↦ ap (λ k. read (node new k)) e ∙ ap read (comes.parent it is) ∙ same ∙ ap read (sym is) ∙ ap (λ k. read (node old k)) (sym e)
      | inr other ↦ ap read (comes.others m x there other)
    ]

    alike-at : {A : Type 0} (read : Option Node → A) → read (Some (record it { children = insert it.children place n })) ≡ read (Some it) → (m : ℕ) → is_element_at old m ≡ true → read (node new m) ≡ read (node old m)
    alike-at read same m k = let x = element-node (node old m) k in alike read same m x.0 x.1

    same-elements : (m : ℕ) → is_element_at new m ≡ is_element_at old m
    same-elements m = by (node old m) refl
      where
        by : (o : Option Node) → node old m ≡ o → is_element_at new m ≡ is_element_at old m
        by (Some x) there = alike is_element_by refl m x there
        by None absent = elim (cases_eq m n) [
          | inl e ↦ ap (is_element_at new) e ∙ is_none ∙ sym was_none ∙ ap (is_element_at old) (sym e)
          | inr other ↦ rest m other absent ∙ sym (ap is_element_by absent)
        ]

    same-children : (m : ℕ) → is_element_at old m ≡ true → element_children new m ≡ element_children old m
    same-children m k =
        filter-same (is_element_at new) (is_element_at old) (children_by (node new m)) same-elements
        ∙ elim (cases_eq m p) [
          | inl e ↦
              ap (λ j. filter (is_element_at old) (children_by (node new j))) e ∙ ap (λ o. filter (is_element_at old) (children_by o)) (comes.parent it is)
              ∙ filter-insert (is_element_at old) it.children place n was_none
              ∙ ap (λ o. filter (is_element_at old) (children_by o)) (sym is) ∙ ap (λ j. filter (is_element_at old) (children_by (node old j))) (sym e)
          | inr other ↦ let x = element-node (node old m) k in ap (λ o. filter (is_element_at old) (children_by o)) (comes.others m x.0 x.1 other)
        ]

    pub text-came : Retexts old new p
    text-came = record {
      elements = record {
        elements = same-elements;
        parents = λ m k. alike-at (option_and_then (λ (x : Node). x.parent)) refl m k;
        children = same-children;
        scopes = scopes-stay t old new d z (λ m k. alike-at (option_and_then (λ (x : Node). x.parent)) refl m k) (λ m k. alike-at bindings_by refl m k) (λ m k. alike-at depth_by refl m k);
      };
      names = λ m k. alike-at name_by refl m k;
      attributes = λ m k. alike-at attributes_by refl m k;
      texts = λ m k other.
          let above = element-node (node old m) k in
          ap (λ o. flat_map (chars_at new) (children_by o)) (comes.others m above.0 above.1 other)
          ∙ flat-same (chars_at new) (chars_at old) (children_by (node old m)) (λ x h.
          let below = z.links.down m x above.0 above.1 (subst (λ (o : Option Node). Has x (children_by o)) above.1 h) in alike chars_by refl x below.child below.is);
    }

  module _ (chars : List ℕ) (plants : Plants t old new p place (text 0 chars none)) where
    behind : (m : ℕ) → m ≢ length old → length old ≤ m → is_element_at new m ≡ false
    behind m other past = let size = plants.size in ap is_element_by (get_or-eq_default new None (omega arith))

    pub text-planted : Retexts old new p
    text-planted =
        text-came (length old) (record { parent = plants.parent; others = λ m x there other. plants.others m (in-table old m x there) other })
        (ap is_element_by (get_or-eq_default old None (omega arith))) (ap is_element_by plants.stand.0.is ∙ ap is_element plants.stand.0.content)
        (λ m other absent. elim (cases_lt m (length old)) [
          | inl lt ↦ elim (cases_eq m p) [
            | inl e ↦ absurd (none-some it (sym absent ∙ ap (node old) e ∙ is))
            | inr apart ↦ ap is_element_by (plants.others m lt apart ∙ absent)
          ]
          | inr past ↦ behind m other past
        ])

  module _ (c : ℕ) (gone : Node) (there : IsNode old c gone) (was : List ℕ) (f : gone.content ≡ contents.Chars was) (child : slice_get it.children place ≡ Some c) (prunes : Prunes old new p place c none) where
    up : parent_at old c ≡ Some p
    up = child-up old z.links p c (subst (λ (o : Option Node). Has c (children_by o)) (sym is) (has-at it.children place c child))

    text-old : is_element_at old c ≡ false
    text-old = ap is_element_by there ∙ ap is_element f

    other : (m : ℕ) → is_element_at old m ≡ true → m ≢ c
    other m k e = true≢false (sym k ∙ ap (is_element_at old) e ∙ text-old)

    -- the same is read of all other nodes, but for children
    left : {A : Type 0} (read : Option Node → A) → read (Some (record it { children = remove it.children place })) ≡ read (Some it) → (m : ℕ) → m ≢ c → read (node new m) ≡ read (node old m)
    left read same m off = elim (cases_eq m p) [
      | inl e ↦ ap (λ k. read (node new k)) e ∙ ap read (prunes.parent it is) ∙ same ∙ ap read (sym is) ∙ ap (λ k. read (node old k)) (sym e)
      | inr else ↦ ap read (prunes.others m else off refl)
    ]

    elements-left : (m : ℕ) → is_element_at new m ≡ is_element_at old m
    elements-left m = elim (cases_eq m c) [
      | inl e ↦ ap (is_element_at new) e ∙ ap is_element_by prunes.here ∙ sym text-old ∙ ap (is_element_at old) (sym e)
      | inr off ↦ left is_element_by refl m off
    ]

    children-left : (m : ℕ) → is_element_at old m ≡ true → element_children new m ≡ element_children old m
    children-left m k =
        filter-same (is_element_at new) (is_element_at old) (children_by (node new m)) elements-left
        ∙ elim (cases_eq m p) [
          | inl e ↦
              ap (λ j. filter (is_element_at old) (children_by (node new j))) e ∙ ap (λ o. filter (is_element_at old) (children_by o)) (prunes.parent it is)
              ∙ filter-remove (is_element_at old) it.children place c child text-old
              ∙ ap (λ o. filter (is_element_at old) (children_by o)) (sym is) ∙ ap (λ j. filter (is_element_at old) (children_by (node old j))) (sym e)
          | inr else ↦ ap (λ o. filter (is_element_at old) (children_by o)) (prunes.others m else (other m k) refl)
        ]

    pub text-pruned : Retexts old new p
    text-pruned = record {
      elements = record {
        elements = elements-left;
        parents = λ m k. left (option_and_then (λ (x : Node). x.parent)) refl m (other m k);
        children = children-left;
        scopes = scopes-stay t old new d z (λ m k. left (option_and_then (λ (x : Node). x.parent)) refl m (other m k)) (λ m k. left bindings_by refl m (other m k))
            (λ m k. left depth_by refl m (other m k));
      };
      names = λ m k. left name_by refl m (other m k);
      attributes = λ m k. left attributes_by refl m (other m k);
      texts = λ m k else.
          ap (λ o. flat_map (chars_at new) (children_by o)) (prunes.others m else (other m k) refl)
          ∙ flat-same (chars_at new) (chars_at old) (children_by (node old m))
          (λ x h. left chars_by refl x (λ q. else (same_Some m p (sym (child-up old z.links m x h) ∙ ap (parent_at old) q ∙ up))));
    }
