-- Where a node stands, in the document and among the nodes.
use Rattle.std.proofs.Common.{◌≡◌, ◌⊎◌, ℕ, zero, suc, ◌+◌, ◌≤◌, List, [], ◌∷◌, sym, ap, ◌∙◌, subst, false, Some, refl, inl, inr, arith}
use Rattle.std.specs.Prelude.{slice_get}
use Rattle.std.specs.Option.{option_and_then}
use Rattle.std.proofs.lemmas.Bool.{eq-eqb, eqb-true, true≢false}
use Rattle.std.proofs.lemmas.Option.{same_Some, none-some}
use Rattle.xs_names.specs.Names.{NameTable}
use Rattle.tree_rows.specs.Forest.{Forest, none, text, element, Document}
use Rattle.tree_rows.specs.Whole.{HasRoot}
use Rattle.tree_edits.specs.Edits.{Found, is_root}
use Rattle.tree_edits.proofs.Lying.{Lies, lies}
use Rattle.doc_nodes.specs.Nodes.{Node, Nodes, node, IsNode, IsChildAt, Has, depth_by}
use Rattle.doc_changes.specs.Held.{parent_at}
use Rattle.doc_changes.specs.Parts.{IsOver}
use Rattle.doc_changes.specs.Stands.{firsts, StandFor, StandsFor}
use Rattle.doc_changes.proofs.Changing.{own_below, is_over}
use Rattle.doc_changes.proofs.Lain.{stand_lies}
use Rattle.doc_changes.proofs.Inserting.{forests_once}
use Rattle.tree_edits.specs.Inverses.{Fits, take_out}
use Rattle.tree_edits.specs.Sites.{Site, site_in, site_of, node_of, node_by}
use Rattle.tree_edits.proofs.InverseLying.{found_has, one_lies}
use Rattle.tree_edits.proofs.Twice.{IsNodeOf}
use Rattle.doc_tree.specs.Parts.{AreRows}
use Rattle.doc_tree.specs.declared.part.PartRow.{PartRow}

-- the node is one of the siblings, or the child of a node at its site
abbrev Seated : Nodes → ℕ → ℕ → ℕ → Forest → Site → Type 0
Seated ns key parent place f s = ((i : ℕ) × (s.parent ≡ parent) × (s.place ≡ place + i) × (slice_get (firsts f) i ≡ Some key)) ⊎ IsChildAt ns s.parent s.place key

past : (ns : Nodes) (key parent place n : ℕ) (f next : Forest) (s : Site) → firsts f ≡ n ∷ firsts next → Seated ns key parent (place + 1) next s → Seated ns key parent place f s
past ns key parent place n f next s e (inl k) = inl (suc k.0, k.1, (let l = k.2 in omega (arith, l)), ap (λ l. slice_get l (suc k.0)) e ∙ k.3)
past ns key parent place n f next s e (inr k) = inr k

seated : (t : NameTable) (ns : Nodes) (key parent place depth : ℕ) (f : Forest) (it : Found) → Lies key depth f it → StandFor t ns f → Seated ns key parent place f (site_in key parent place f)
seated t ns key parent place depth none it l s = absurd l
seated t ns key parent place depth (text n chars next) it (inl l) s =
    let e : site_in key parent place (text n chars next) ≡ record { parent = parent; place = place } = rw (l.0) refl in
    subst (Seated ns key parent place (text n chars next)) (sym e) (inl (0, refl, omega arith, ap Some (eqb-true n key l.0)))
seated t ns key parent place depth (text n chars next) it (inr l) s =
    let e : site_in key parent place (text n chars next) ≡ site_in key parent (place + 1) next = rw (l.0) refl in
    subst (Seated ns key parent place (text n chars next)) (sym e) (past ns key parent place n (text n chars next) next (site_in key parent (place + 1) next) refl (seated t ns key parent (place + 1) depth next it l.1 s.1))
seated t ns key parent place depth (element n name bindings attributes children next) it (inl l) s =
    let e : site_in key parent place (element n name bindings attributes children next) ≡ record { parent = parent; place = place } = rw (l.0) refl in
    subst (Seated ns key parent place (element n name bindings attributes children next)) (sym e) (inl (0, refl, omega arith, ap Some (eqb-true n key l.0)))
seated t ns key parent place depth (element n name bindings attributes children next) it (inr (inl l)) s =
    let e : site_in key parent place (element n name bindings attributes children next) ≡ site_in key n 0 children = rw (l.0, l.1) refl in
    let r = site_in key n 0 children in
    subst (Seated ns key parent place (element n name bindings attributes children next)) (sym e) (elim (seated t ns key n 0 (depth + 1) children it l.2 s.1) [
      | inl k ↦ inr (s.0.it, ap (node ns) k.1 ∙ s.0.is, ap (λ l. slice_get l r.place) s.0.children_are ∙ ap (slice_get (firsts children)) (let p = k.2 in omega (arith, p)) ∙ k.3)
      | inr k ↦ inr k
    ])
seated t ns key parent place depth (element n name bindings attributes children next) it (inr (inr l)) s =
    let e : site_in key parent place (element n name bindings attributes children next) ≡ site_in key parent (place + 1) next = rw (l.0, l.1) refl in
    subst (Seated ns key parent place (element n name bindings attributes children next)) (sym e)
    (past ns key parent place n (element n name bindings attributes children next) next (site_in key parent (place + 1) next) refl (seated t ns key parent (place + 1) depth next it l.2 s.2))

not_top : (key i : ℕ) (f : Forest) → HasRoot f → is_root key f ≡ false → slice_get (firsts f) i ≡ Some key → ⊥
not_top key i none r o e = r
not_top key i (text n chars next) r o e = r
not_top key zero (element n name bindings attributes children next) r o e = true≢false (sym (eq-eqb n key (same_Some n key e)) ∙ o)
not_top key (suc i) (element n name bindings attributes children next) r o e = none-some key (ap (λ g. slice_get (firsts g) i) (sym r.1) ∙ e)

has_got : (key i : ℕ) (xs : List ℕ) → slice_get xs i ≡ Some key → Has key xs
has_got key i [] e = absurd (none-some key e)
has_got key zero (x ∷ xs) e = inl (same_Some x key e)
has_got key (suc i) (x ∷ xs) e = inr (has_got key i xs e)

-- a node that is not the root, with all that is below it
pub record IsAt (t : NameTable) (ns : Nodes) (d : Document) (key : ℕ) : Type 0 where
  pub it : Node
  pub is : IsNode ns key it
  pub below : Forest
  pub over : IsOver t ns key below
  pub rows : (more : List PartRow) → AreRows t 2 more below [] → AreRows t 1 (record { number = key; depth = 1; content = it.content } ∷ more) (node_of key d.forest) []
  pub child : IsChildAt ns (site_of key d.forest).parent (site_of key d.forest).place key
  pub parent : parent_at ns key ≡ Some (site_of key d.forest).parent
  pub deep : 1 ≤ depth_by (node ns key)

module _ (t : NameTable) (ns : Nodes) (d : Document) (key : ℕ) (z : StandsFor t ns d) (fits : Fits d (take_out key)) where
  child_at : IsChildAt ns (site_of key d.forest).parent (site_of key d.forest).place key
  child_at =
      let f = found_has key 1 d.forest fits.0 in
      elim (seated t ns key 0 0 1 d.forest f.0 (lies key 1 d.forest f.0 f.1) z.nodes) [
        | inl k ↦ absurd (not_top key k.0 d.forest z.tree.root fits.1 k.3)
        | inr k ↦ k
      ]

  deep : 1 ≤ depth_by (node ns key)
  deep =
      let c = child_at in
      let e = z.links.down (site_of key d.forest).parent key c.0 c.1 (has_got key (site_of key d.forest).place c.0.children c.2) in
      let a = ap depth_by e.is in let b = e.below in omega (arith, a, b)

  parent_is : parent_at ns key ≡ Some (site_of key d.forest).parent
  parent_is =
      let c = child_at in
      let e = z.links.down (site_of key d.forest).parent key c.0 c.1 (has_got key (site_of key d.forest).place c.0.children c.2) in
      ap (option_and_then (λ (x : Node). x.parent)) e.is ∙ e.parent

  over_of : (it : Node) (below : Forest) → IsNode ns key it → it.children ≡ firsts below → StandFor t ns below → IsOver t ns key below
  over_of it below is children stand =
      let o = is_over t ns ns d z key it is in
      let same = same_Some o.it it (sym o.is ∙ is) in
      subst (IsOver t ns key) (forests_once t ns (own_below t ns ns d z key it is) below o.stand stand (sym o.children ∙ ap (λ (x : Node). x.children) same ∙ children)) o

  node_at : (one : Forest) → node_of key d.forest ≡ one → IsNodeOf key one → StandFor t ns one → IsAt t ns d key
  node_at none e h s = absurd h
  node_at (text n chars next) e h s =
      let is : IsNode ns key s.0.text = ap (node ns) (sym h.0) ∙ s.0.is in record {
        it = s.0.text;
        is = is;
        below = none;
        over = over_of s.0.text none is s.0.no_children tt;
        rows = λ more a. subst (λ f. AreRows t 1 (record { number = key; depth = 1; content = s.0.text.content } ∷ more) f []) (sym (e ∙ (λ i. text (h.0 i) chars (h.1 i))))
            (more, ap (λ c. record { number = key; depth = 1; content = c } ∷ more) s.0.content, a);
        child = child_at;
        parent = parent_is;
        deep = deep;
      }
  node_at (element n name bindings attributes children next) e h s =
      let is : IsNode ns key s.0.it = ap (node ns) (sym h.0) ∙ s.0.is in record {
        it = s.0.it;
        is = is;
        below = children;
        over = over_of s.0.it children is s.0.children_are s.1;
        rows = λ more a. subst (λ f. AreRows t 1 (record { number = key; depth = 1; content = s.0.it.content } ∷ more) f []) (sym (e ∙ (λ i. element (h.0 i) name bindings attributes children (h.1 i)))) (
          s.0.parts,
          record { known = s.0.known; name_is = s.0.name_is; bindings_are = s.0.bindings_are; attributes_are = s.0.attributes_are },
          more,
          ap (λ c. record { number = key; depth = 1; content = c } ∷ more) s.0.content,
          [],
          a,
          refl,
        );
        child = child_at;
        parent = parent_is;
        deep = deep;
      }

  pub is_at : IsAt t ns d key
  is_at =
      let f = found_has key 1 d.forest fits.0 in
      let l = lies key 1 d.forest f.0 f.1 in
      node_at f.0.node (ap node_by f.1) (one_lies key 1 d.forest f.0 l) (stand_lies t ns key 1 d.forest f.0 l z.nodes)
