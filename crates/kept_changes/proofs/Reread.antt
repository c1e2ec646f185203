-- What fits by nodes fits by others by which the same is read of it.
use Rattle.std.proofs.Common.{◌≡◌, ℕ, map, true, Option, Some, sym, ap, ◌∙◌, subst}
use Rattle.std.specs.Prelude.{slice_get, unwrap_or, Result, Ok, Err, OnOk}
use Rattle.xs_components.specs.declared.common.TypeId.{TypeId}
use Rattle.assess_records.specs.Counts.{counts_of}
use Rattle.assess_records.specs.Instance.{instance_text}
use Rattle.assess_records.specs.Numbered.{Head, shape_of}
use Rattle.assess_records.specs.declared.instance_names.InstanceAttribute.TheVariants.{TypeName}
use Rattle.elem_governing.specs.declared.pairs.Governing.{Governing}
use Rattle.assessment.specs.Attribution.{SchemaSet}
use Rattle.assessment.specs.Assessment.{AreJudged}
use Rattle.compiled_schema.specs.Usable.{set_of}
use Rattle.compiled_schema.specs.declared.compiled.Compiled.{Compiled}
use Rattle.model_terms.specs.Symbols.{child_symbols}
use Rattle.model_terms.specs.Terms.{stuck_in, term_in}
use Rattle.doc_nodes.specs.Nodes.{Nodes, is_element_at, element_children}
use Rattle.doc_changes.specs.Held.{parent_at, attributes_at}
use Rattle.doc_changes.specs.Readers.{name_at, own_chars, scope_at}
use Rattle.doc_readers.specs.Heads.{text_named, texts_named}
use Rattle.kept_children.specs.from_kept_records.Slots.{IsMade, kept_at, entry_at, record_at}
use Rattle.kept_children.specs.from_kept_records.Fit.{models_of, root_codes, head_at, IsListed, IsTop}
use Rattle.kept_children.proofs.from_kept_records.Frames.{map-same}
use Rattle.kept_children.proofs.from_kept_records.Made.{made-elements}
use Rattle.kept_children.proofs.from_kept_records.Nodes.{has-element}
use Rattle.kept_children.specs.from_kept_state.KeptChildren.{KeptChildren}
use Rattle.kept_children.specs.from_kept_state.KeptState.{KeptState}
use Rattle.kept_children.specs.from_kept_judging.Judged.{symbols_by, root_pair, given_pair, pair_by, AreChildren, IsJudgedBy}
use Rattle.kept_children.specs.Edited.{IsRightFor}

-- ---- one element

-- the same head
pub head-same : (s : SchemaSet) (old new : Nodes) (m : ℕ) → name_at new m ≡ name_at old m → attributes_at new m ≡ attributes_at old m → scope_at new m ≡ scope_at old m → head_at s new m ≡ head_at s old m
head-same s old new m name attributes scope = λ i. record { name = name i; xsi = instance_text s.names (map text_named (attributes i)) TypeName; scope = scope i }

pub texts-same : (old new : Nodes) (m : ℕ) → attributes_at new m ≡ attributes_at old m → texts_named new m ≡ texts_named old m
texts-same old new m attributes = ap (map text_named) attributes

module _ (c : Compiled) (old new : Nodes) (k : KeptState) (n : ℕ) where
  -- the symbols of child elements that have the same names
  pub symbols-same : element_children new n ≡ element_children old n → ((place child : ℕ) → slice_get (element_children old n) place ≡ Some child → name_at new child ≡ name_at old child) →
      (of : Option TypeId) → symbols_by c new of n ≡ symbols_by c old of n
  symbols-same children names of =
      ap (λ xs. child_symbols c.names (models_of c of) (map (name_at new) xs)) children
      ∙ ap (child_symbols c.names (models_of c of)) (map-same (name_at new) (name_at old) (element_children old n) names)

  -- what governs a child element by its parent
  pub given-same : (pair : Governing) (place child : ℕ) → symbols_by c new pair.of n ≡ symbols_by c old pair.of n → head_at (set_of c) new child ≡ head_at (set_of c) old child →
      pair_by c new pair n place child ≡ pair_by c old pair n place child
  given-same pair place child symbols head = λ i. given_pair (set_of c) pair (term_in (models_of c pair.of) (symbols i) place) (head i)

  module _ (children : element_children new n ≡ element_children old n)
      (heads : (place child : ℕ) → slice_get (element_children old n) place ≡ Some child → head_at (set_of c) new child ≡ head_at (set_of c) old child) where
    all-symbols : (of : Option TypeId) → symbols_by c new of n ≡ symbols_by c old of n
    all-symbols = symbols-same children (λ place child e. ap (λ (h : Head). h.name) (heads place child e))

    pub children-reread : (pair : Governing) (kept : KeptChildren) → AreChildren c old k n pair kept → AreChildren c new k n pair kept
    children-reread pair kept a = record {
      given = λ place child e.
          let was = ap (λ xs. slice_get xs place) (sym children) ∙ e in
          record { made = (a.given place child was).made; pair_is = (a.given place child was).pair_is ∙ sym (given-same pair place child (all-symbols pair.of) (heads place child was)) };
      list_is = subst (IsListed k.lists (models_of c pair.of) kept.list) (sym (all-symbols pair.of)) a.list_is;
      stuck_is = a.stuck_is ∙ ap (stuck_in (models_of c pair.of)) (sym (all-symbols pair.of));
      counts_are = a.counts_are ∙ ap (λ xs. counts_of (map (record_at k.records.slots) xs)) (sym children);
    }

  pub judged-reread : (s : SchemaSet) (kept : KeptChildren) → parent_at new n ≡ parent_at old n → head_at s new n ≡ head_at s old n → texts_named new n ≡ texts_named old n → own_chars new n ≡ own_chars old n →
      IsJudgedBy s old k n kept → IsJudgedBy s new k n kept
  judged-reread s kept parent head texts chars j = record {
    number_is = j.number_is;
    bearer_is = j.bearer_is ∙ ap (λ o. unwrap_or o n) (sym parent);
    text_is = j.text_is ∙ sym chars;
    known = subst (λ shape. AreJudged s shape (entry_at k.records.slots n))
        (λ i. shape_of (sym head i) (sym texts i) (sym chars i) kept.stuck kept.counts (kept_at k.records.slots n).identity (root_codes k.root_ids n)) j.known;
  }

-- ---- all

-- something is kept of all elements, where what is kept is right
pub right-made : (c : Compiled) (ns : Nodes) (k : KeptState) → IsRightFor c ns k → (m : ℕ) → is_element_at ns m ≡ true → IsMade k.records.slots m
right-made c ns k r m is =
    let over = r.beside.over in
    made-elements c ns k.records.slots k.lists k.root_ids over.0 (record { over = over.1; top = r.top; fit = r.fit }) m (has-element c.names ns over.0 over.1.stands m is)

-- the root is governed as before
pub top-reread : (s : SchemaSet) (old new : Nodes) (k : KeptState) → head_at s new 1 ≡ head_at s old 1 → IsTop s old k.records.slots → IsTop s new k.records.slots
top-reread s old new k head top = record { made = top.made; pair_is = top.pair_is ∙ ap (root_pair s) (sym head) }

-- ---- what a call ensures

-- what holds of an Ok by three facts of it
pub all-ok : {T E P Q R S : Type 0} (r : Result T E) → (P → Q → R → S) → OnOk r P → OnOk r Q → OnOk r R → OnOk r S
all-ok (Ok x) f p q o = f p q o
all-ok (Err e) f p q o = tt
