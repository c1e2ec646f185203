-- Something is kept of exactly the elements of a document.
use Rattle.std.proofs.Common.{◌≡◌, ℕ, List, [], ◌∷◌, None, Some, All, refl, sym, ap, ◌∙◌, subst, inl, inr}
use Rattle.std.specs.Prelude.{slice_get, unwrap_or}
use Rattle.std.specs.Option.{option_and_then}
use Rattle.std.proofs.lemmas.List.Elements.{All-nil, All-cons, All-head, All-tail}
use Rattle.xs_names.specs.Names.{NameTable}
use Rattle.xs_codes.specs.declared.fault.Found.{Found}
use Rattle.tree_rows.specs.Forest.{Forest, none, text, element, Document}
use Rattle.assessment.specs.Local.{AreRead, HasElement, element_numbers}
use Rattle.compiled_schema.specs.Usable.{set_of}
use Rattle.compiled_schema.specs.declared.compiled.Compiled.{Compiled}
use Rattle.doc_nodes.specs.Nodes.{Node, Nodes, IsNode, element_children}
use Rattle.doc_changes.specs.Held.{parent_at}
use Rattle.doc_changes.proofs.Reading.{are_read}
use Rattle.doc_readers.proofs.Reading.{readers_are}
use Rattle.doc_readers.specs.Heads.{readers_of}
use Rattle.model_lists.specs.Lists.{ListsView}
use Rattle.kept_records.specs.Slots.{KeptSlots, IsMade, kept_at}
use Rattle.kept_records.specs.Fit.{models_of, IsGiven, IsFit}
use Rattle.kept_records.specs.Found.{AreSettled}
use Rattle.kept_records.proofs.Nodes.{all-of, there, has-element, root-numbers, root-there, child-parent}

module _ (t : NameTable) (ns : Nodes) (ks : KeptSlots) (given : (n : ℕ) → IsMade ks n → (place child : ℕ) → slice_get (element_children ns n) place ≡ Some child → IsMade ks child) where
  pub made-in : (f : Forest) → AreRead (readers_of t ns) f → All (IsMade ks) (element_numbers f) → (n : ℕ) → HasElement n f → IsMade ks n
  made-in none r all n h = absurd h
  made-in (text number chars next) r all n h = made-in next r all n h
  made-in (element number name bindings attributes children next) r all n (inl e) = subst (IsMade ks) e (All-head (IsMade ks) number (element_numbers next) all)
  made-in (element number name bindings attributes children next) r all n (inr (inl below)) =
      let own = All-head (IsMade ks) number (element_numbers next) all in
      made-in children r.1 (subst (All (IsMade ks)) r.0.children_are (all-of (IsMade ks) (element_children ns number) (given number own))) n below
  made-in (element number name bindings attributes children next) r all n (inr (inr later)) =
      made-in next r.2 (All-tail (IsMade ks) number (element_numbers next) all) n later

module _ (c : Compiled) (ns : Nodes) (ks : KeptSlots) (v : ListsView) (ids : List Found) (d : Document) (a : AreSettled c ns ks v ids d) where
  pub fit-at : (n : ℕ) → IsMade ks n → IsFit (set_of c) (models_of c) ns ks v ids n
  fit-at n made = a.fit n made tt

  pub given-at : (n : ℕ) → IsMade ks n → (place child : ℕ) → slice_get (element_children ns n) place ≡ Some child → IsGiven (set_of c) (models_of c) ns ks n place child
  given-at n made place child e = (fit-at n made).gathered.given place child e

  pub read : AreRead (readers_of c.names ns) d.forest
  read = readers_are c.names ns d.forest (are_read c.names ns d.forest a.over.stands.nodes)

  pub made-elements : (n : ℕ) → HasElement n d.forest → IsMade ks n
  made-elements n h =
      let roots = subst (All (IsMade ks)) (sym (root-numbers d.forest a.over.stands.tree.root)) (All-cons (IsMade ks) 1 [] a.top.made (All-nil (IsMade ks))) in
      made-in c.names ns ks (λ m made place child e. (given-at m made place child e).made) d.forest read roots n h

  pub elements-made : (n : ℕ) → IsMade ks n → HasElement n d.forest
  elements-made n made = has-element c.names ns d a.over.stands n (a.over.only n made)

  pub children-elements : (n : ℕ) → IsMade ks n → All (λ m. HasElement m d.forest) (element_children ns n)
  children-elements n made = all-of (λ m. HasElement m d.forest) (element_children ns n) (λ place child e. elements-made child (given-at n made place child e).made)

  pub node-there : (n : ℕ) → IsMade ks n → (it : Node) × IsNode ns n it
  node-there n made = there c.names ns d.forest a.over.stands.nodes n (elements-made n made)

  -- an element bears the IDs of its child elements, and the root its own
  pub bearers : (n : ℕ) → IsMade ks n → All (λ m. (kept_at ks m).found.bearer ≡ n) (element_children ns n)
  bearers n made =
      let own = node-there n made in
      all-of (λ m. (kept_at ks m).found.bearer ≡ n) (element_children ns n) (λ place child e.
      (fit-at child (given-at n made place child e).made).gathered.bearer_is ∙ ap (λ o. unwrap_or o child) (child-parent ns a.over.stands.links n own.0 own.1 place child e))

  pub root-parent : parent_at ns 1 ≡ None
  root-parent =
      let own = there c.names ns d.forest a.over.stands.nodes 1 (root-there d.forest a.over.stands.tree.root) in
      ap (option_and_then (λ (x : Node). x.parent)) own.1 ∙ (a.over.stands.root own.0 own.1).0

  pub root-bearer : (kept_at ks 1).found.bearer ≡ 1
  root-bearer = (fit-at 1 a.top.made).gathered.bearer_is ∙ ap (λ o. unwrap_or o 1) root-parent
