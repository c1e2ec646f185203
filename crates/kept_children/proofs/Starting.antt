-- What holds of child elements before and after a change of the document, whatever it is.
use Rattle.std.proofs.Common.{◌≡◌, ℕ, ◌<◌, length, map, true, None, Some, sym, ap, ◌∙◌, inl, inr}
use Rattle.std.specs.Prelude.{slice_get}
use Rattle.std.proofs.lemmas.Bool.{cases_lt}
use Rattle.std.proofs.lemmas.Option.{none-some}
use Rattle.std.proofs.Math.ListN.{get_or-eq_default}
use Rattle.assess_records.specs.Numbered.{Head}
use Rattle.elem_governing.specs.Governing.{govern_child}
use Rattle.compiled_schema.specs.Usable.{set_of}
use Rattle.compiled_schema.specs.declared.compiled.Compiled.{Compiled}
use Rattle.doc_nodes.specs.Nodes.{Node, Nodes, IsNode, Lacks, is_element_at, element_children}
use Rattle.doc_changes.specs.Readers.{name_at}
use Rattle.child_lists.specs.from_kept_records.Slots.{IsMade, pair_at}
use Rattle.child_lists.specs.from_kept_records.Fit.{models_of, head_at, IsGiven}
use Rattle.child_lists.proofs.from_kept_records.Made.{made-elements}
use Rattle.child_lists.proofs.from_kept_records.Nodes.{has-element}
use Rattle.child_lists.specs.from_kept_state.KeptState.{KeptState}
use Rattle.child_lists.specs.from_kept_judging.Judged.{IsGivenBy}
use Rattle.kept_children.specs.Edited.{IsRightFor}
use Rattle.child_lists.specs.Family.{marked_places, model_of, symbols_of}
use Rattle.child_lists.proofs.Edits.{get-map}
use Rattle.child_lists.proofs.Terms.{terms-same}

-- a number of a node was given out
pub in-table : (ns : Nodes) (n : ℕ) (it : Node) → IsNode ns n it → n < length ns
in-table ns n it is = elim (cases_lt n (length ns)) [
  | inl lt ↦ lt
  | inr past ↦ absurd (none-some it (sym (get_or-eq_default ns None past) ∙ is))
]

-- where all that is kept is right, something is kept of each element
pub all-made : (c : Compiled) (ns : Nodes) (k : KeptState) → IsRightFor c ns k → (n : ℕ) → is_element_at ns n ≡ true → IsMade k.records.slots n
all-made c ns k r n is =
    let d = r.beside.over.0 in
    made-elements c ns k.records.slots k.lists k.root_ids d (record { over = r.beside.over.1; top = r.top; fit = r.fit }) n (has-element c.names ns d r.beside.over.1.stands n is)

-- ---- a child element that is given, and whose name is not ambivalent, is given wherever it stands now

module _ (c : Compiled) (old new : Nodes) (k : KeptState) (p : ℕ) where
  pub given-moved : (i j child : ℕ) → slice_get (element_children new p) i ≡ Some child → slice_get (element_children old p) j ≡ Some child → head_at (set_of c) new child ≡ head_at (set_of c) old child →
      Lacks i (marked_places (model_of c k p) (symbols_of c new k p)) → IsGiven (set_of c) (models_of c) old k.records.slots p j child → IsGivenBy c new k (pair_at k.records.slots p) p i child
  given-moved i j child e f head lacks g =
      let s = set_of c in
      let a = model_of c k p in
      let was = map (name_at old) (element_children old p) in
      let now = map (name_at new) (element_children new p) in
      let here = get-map (name_at new) (element_children new p) i child e in
      let there = get-map (name_at old) (element_children old p) j child f ∙ ap (λ (h : Head). Some h.name) (sym head) in
      let term = terms-same c.names a now was i j (name_at new child) here there lacks in
      record {
        made = g.made;
        pair_is = g.pair_is ∙ (λ t. govern_child s.names s.parts (pair_at k.records.slots p).mode (sym term t) (sym head t).name (sym head t).xsi (sym head t).scope);
      }
