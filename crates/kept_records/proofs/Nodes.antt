-- The elements of a document and their child elements, by the nodes that stand for it.
use Rattle.std.proofs.Common.{◌≡◌, ◌⊎◌, ℕ, zero, suc, List, [], ◌∷◌, cond, Bool, true, false, Option, Some, None, refl, sym, ap, ◌∙◌, subst, inl, inr, All}
use Rattle.std.specs.Prelude.{filter, slice_get, ◌==◌, ◌||◌}
use Rattle.std.specs.Option.{option_map, option_and_then}
use Rattle.std.proofs.lemmas.Bool.{eqb-true, true≢false, false≢true}
use Rattle.std.proofs.lemmas.Option.{same_Some, none-some}
use Rattle.std.proofs.lemmas.List.Elements.{All-nil, All-cons}
use Rattle.xs_names.specs.Names.{NameTable}
use Rattle.tree_rows.specs.Forest.{Forest, none, text, element, Document}
use Rattle.tree_rows.specs.Whole.{HasRoot}
use Rattle.tree_rows.specs.declared.row.NodeKind.TheVariants as kinds
use Rattle.tree_edits.specs.Edits.{has}
use Rattle.assessment.specs.Local.{HasElement, element_numbers}
use Rattle.doc_nodes.specs.Nodes.{Node, Nodes, node, IsNode, Has, IsSound, is_element, is_element_by, is_element_at, children_by, element_children}
use Rattle.doc_changes.specs.Held.{kind_in, kind_at, parent_at}
use Rattle.doc_changes.specs.Stands.{IsText, IsElement, StandFor, StandsFor}

-- what holds at each place holds of all
pub all-of : (P : ℕ → Type 0) (xs : List ℕ) → ((i x : ℕ) → slice_get xs i ≡ Some x → P x) → All P xs
all-of P [] h = All-nil P
all-of P (x ∷ xs) h = All-cons P x xs (h 0 x refl) (all-of P xs (λ i y e. h (suc i) y e))

-- ---- elements of the tree

module _ (t : NameTable) (ns : Nodes) where
  pub shown : (f : Forest) → StandFor t ns f → (n : ℕ) → HasElement n f → kind_at ns n ≡ Some kinds.Element
  shown none s n h = absurd h
  shown (text number chars next) s n h = shown next s.1 n h
  shown (element number name bindings attributes children next) s n (inl e) =
      subst (λ m. kind_at ns m ≡ Some kinds.Element) e (ap (option_map (λ (it : Node). kind_in it.content)) s.0.is ∙ ap (λ c. Some (kind_in c)) s.0.content)
  shown (element number name bindings attributes children next) s n (inr (inl below)) = shown children s.1 n below
  shown (element number name bindings attributes children next) s n (inr (inr later)) = shown next s.2 n later

  pub there : (f : Forest) → StandFor t ns f → (n : ℕ) → HasElement n f → (it : Node) × IsNode ns n it
  there none s n h = absurd h
  there (text number chars next) s n h = there next s.1 n h
  there (element number name bindings attributes children next) s n (inl e) = (s.0.it, subst (λ m. IsNode ns m s.0.it) e s.0.is)
  there (element number name bindings attributes children next) s n (inr (inl below)) = there children s.1 n below
  there (element number name bindings attributes children next) s n (inr (inr later)) = there next s.2 n later

  either : (a b : Bool) → (a || b) ≡ true → (a ≡ true) ⊎ (b ≡ true)
  either true b h = inl refl
  either false b h = inr h

  no-text : (number n : ℕ) (chars : List ℕ) → number ≡ n → IsText ns number chars → is_element_at ns n ≡ true → ⊥
  no-text number n chars e s is = true≢false (sym is ∙ ap (is_element_at ns) (sym e) ∙ ap is_element_by s.is ∙ ap is_element s.content)

  pub is-element : (f : Forest) → StandFor t ns f → (n : ℕ) → has n f ≡ true → is_element_at ns n ≡ true → HasElement n f
  is-element none s n h is = absurd (false≢true h)
  is-element (text number chars next) s n h is = elim (either (number == n) (has n next) h) [
    | inl own ↦ absurd (no-text number n chars (eqb-true number n own) s.0 is)
    | inr later ↦ is-element next s.1 n later is
  ]
  is-element (element number name bindings attributes children next) s n h is = elim (either (number == n) (has n children || has n next) h) [
    | inl own ↦ inl (eqb-true number n own)
    | inr more ↦ elim (either (has n children) (has n next) more) [
      | inl below ↦ inr (inl (is-element children s.1 n below is))
      | inr later ↦ inr (inr (is-element next s.2 n later is))
    ]
  ]

pub by-node : (ns : Nodes) (n : ℕ) (o : Option Node) → node ns n ≡ o → is_element_by o ≡ true → (it : Node) × IsNode ns n it
by-node ns n None e is = absurd (false≢true is)
by-node ns n (Some it) e is = (it, e)

-- a node that is an element is one of the document
pub has-element : (t : NameTable) (ns : Nodes) (d : Document) → StandsFor t ns d → (n : ℕ) → is_element_at ns n ≡ true → HasElement n d.forest
has-element t ns d z n is = let at = by-node ns n (node ns n) refl is in is-element t ns d.forest z.nodes n (z.only n at.0 at.1) is

pub root-numbers : (f : Forest) → HasRoot f → element_numbers f ≡ 1 ∷ []
root-numbers none h = absurd h
root-numbers (text number chars next) h = absurd h
root-numbers (element number name bindings attributes children next) h = ap (λ m. m ∷ element_numbers next) h.0 ∙ ap (λ f. 1 ∷ element_numbers f) h.1

pub root-there : (f : Forest) → HasRoot f → HasElement 1 f
root-there none h = absurd h
root-there (text number chars next) h = absurd h
root-there (element number name bindings attributes children next) h = inl h.0

-- ---- child elements

filtered-by : (p : ℕ → Bool) (x c : ℕ) (xs : List ℕ) (b : Bool) (i : ℕ) → ((j : ℕ) → slice_get (filter p xs) j ≡ Some c → Has c xs) →
    slice_get (cond b (x ∷ filter p xs) (filter p xs)) i ≡ Some c → Has c (x ∷ xs)
filtered-by p x c xs true zero on e = inl (same_Some x c e)
filtered-by p x c xs true (suc i) on e = inr (on i e)
filtered-by p x c xs false i on e = inr (on i e)

among-filtered : (p : ℕ → Bool) (xs : List ℕ) (i c : ℕ) → slice_get (filter p xs) i ≡ Some c → Has c xs
among-filtered p [] i c e = absurd (none-some c e)
among-filtered p (x ∷ xs) i c e = filtered-by p x c xs (p x) i (λ j. among-filtered p xs j c) e

pub child-parent : (ns : Nodes) → IsSound ns → (n : ℕ) (it : Node) → IsNode ns n it → (i c : ℕ) → slice_get (element_children ns n) i ≡ Some c → parent_at ns c ≡ Some n
child-parent ns sound n it is i c e =
    let among = subst (λ (o : Option Node). Has c (children_by o)) is (among-filtered (is_element_at ns) (children_by (node ns n)) i c e) in
    let child = sound.down n c it is among in
    ap (option_and_then (λ (x : Node). x.parent)) child.is ∙ child.parent
