-- Nodes that stay as they are, and what elements see of them.
use Rattle.std.proofs.Common.{◌≡◌, ℕ, zero, suc, ◌+◌, ◌≤◌, List, [], ◌++◌, map, true, Option, None, Some, refl, sym, ap, ◌∙◌, subst, arith}
use Rattle.std.specs.Prelude.{filter, flat_map, reverse, slice_get, unwrap_or}
use Rattle.std.specs.Option.{option_and_then}
use Rattle.std.proofs.lemmas.Bool.{false≢true}
use Rattle.xs_codes.specs.declared.fault.Found.{Found}
use Rattle.xs_names.specs.Scope.{first_scope}
use Rattle.assess_records.specs.Counts.{counts_of}
use Rattle.assess_records.specs.Instance.{instance_text}
use Rattle.assess_records.specs.Numbered.{Head, shape_of}
use Rattle.assess_records.specs.declared.instance_names.InstanceAttribute.TheVariants.{TypeName}
use Rattle.elem_governing.specs.Governing.{govern_child}
use Rattle.assessment.specs.Attribution.{SchemaSet}
use Rattle.assessment.specs.Assessment.{AreJudged}
use Rattle.model_terms.specs.Symbols.{child_symbols}
use Rattle.model_terms.specs.Terms.{stuck_in, term_in}
use Rattle.model_lists.specs.Lists.{ListsView}
use Rattle.doc_nodes.specs.Nodes.{Node, Nodes, node, IsNode, Has, IsSound, is_element, is_element_by, is_element_at, children_by, element_children, depth_by}
use Rattle.doc_nodes.specs.declared.content.Content.{Content}
use Rattle.doc_nodes.specs.declared.content.Content.TheVariants as contents
use Rattle.doc_nodes.specs.declared.content.NameBinding.{NameBinding}
use Rattle.doc_changes.specs.Held.{chars_in, attributes_in, attributes_by, attributes_at, bindings_in, bindings_by, bindings_at, parent_at}
use Rattle.doc_changes.specs.Readers.{name_at, chars_by, chars_at, own_chars, own_scope, scope_at}
use Rattle.doc_changes.proofs.Reading.{scope_below, scope_root, depth_below}
use Rattle.doc_readers.specs.Heads.{text_named, texts_named}
use Rattle.child_lists.specs.from_kept_records.Slots.{KeptSlots, kept_at, entry_at, pair_at, record_at}
use Rattle.child_lists.specs.from_kept_records.Fit.{Models, bearer_at, head_at, root_codes, symbols_at, IsListed, IsGiven, IsGathered, IsFit}
use Rattle.child_lists.proofs.from_kept_records.Frames.{map-same}
use Rattle.child_lists.specs.from_kept_state.KeptChildren.{KeptChildren}
use Rattle.child_lists.specs.from_kept_state.KeptState.{KeptState}
use Rattle.child_lists.specs.from_kept_judging.Judged.{IsJudgedBy}
use Rattle.child_lists.proofs.Edits.{has-filter, filter-same, flat-has}

-- ---- nodes

-- a node is what it was, but that its children may be others, and its name
pub record IsStill (old new : Nodes) (n : ℕ) : Type 0 where
  pub element : is_element_at new n ≡ is_element_at old n
  pub parent : parent_at new n ≡ parent_at old n
  pub bindings : bindings_at new n ≡ bindings_at old n
  pub attributes : attributes_at new n ≡ attributes_at old n
  pub chars : chars_at new n ≡ chars_at old n

pub still-node : (old new : Nodes) (n : ℕ) → node new n ≡ node old n → IsStill old new n
still-node old new n e = record {
  element = ap is_element_by e;
  parent = ap (option_and_then (λ (it : Node). it.parent)) e;
  bindings = ap bindings_by e;
  attributes = ap attributes_by e;
  chars = ap chars_by e;
}

-- what it holds says the same
pub record SaysSame (was now : Content) : Type 0 where
  pub element : is_element now ≡ is_element was
  pub bindings : bindings_in now ≡ bindings_in was
  pub attributes : attributes_in now ≡ attributes_in was
  pub chars : unwrap_or (chars_in now) [] ≡ unwrap_or (chars_in was) []

pub says-same : (content : Content) → SaysSame content content
says-same content = record { element = refl; bindings = refl; attributes = refl; chars = refl }

pub still-held : (old new : Nodes) (n : ℕ) (was now : Node) → IsNode old n was → IsNode new n now → now.parent ≡ was.parent → SaysSame was.content now.content → IsStill old new n
still-held old new n was now e f up says = record {
  element = ap is_element_by f ∙ says.element ∙ sym (ap is_element_by e);
  parent = ap (option_and_then (λ (it : Node). it.parent)) f ∙ up ∙ sym (ap (option_and_then (λ (it : Node). it.parent)) e);
  bindings = ap bindings_by f ∙ says.bindings ∙ sym (ap bindings_by e);
  attributes = ap attributes_by f ∙ says.attributes ∙ sym (ap attributes_by e);
  chars = ap chars_by f ∙ says.chars ∙ sym (ap chars_by e);
}

-- ---- what an element sees

-- of the nodes, to be gathered
pub record SeesNodes (s : SchemaSet) (old new : Nodes) (n : ℕ) : Type 0 where
  pub bearer : bearer_at new n ≡ bearer_at old n
  pub chars : own_chars new n ≡ own_chars old n
  pub children : element_children new n ≡ element_children old n
  pub heads : (place child : ℕ) → slice_get (element_children old n) place ≡ Some child → head_at s new child ≡ head_at s old child

-- and what it shows itself
pub record ShowsSame (s : SchemaSet) (old new : Nodes) (n : ℕ) : Type 0 where
  pub head : head_at s new n ≡ head_at s old n
  pub texts : texts_named new n ≡ texts_named old n
  pub bearer : bearer_at new n ≡ bearer_at old n
  pub chars : own_chars new n ≡ own_chars old n

module _ (s : SchemaSet) (old new : Nodes) (n : ℕ) (sees : SeesNodes s old new n) where
  pub names-same : map (name_at new) (element_children new n) ≡ map (name_at old) (element_children old n)
  names-same =
      ap (map (name_at new)) sees.children
      ∙ map-same (name_at new) (name_at old) (element_children old n) (λ place child e. ap (λ (h : Head). h.name) (sees.heads place child e))

  module _ (models : Models) (ks : KeptSlots) (v : ListsView) where
    symbols-same : symbols_at s models new ks n ≡ symbols_at s models old ks n
    symbols-same = ap (child_symbols s.names (models (pair_at ks n).of)) names-same

    given-same : ((place child : ℕ) → slice_get (element_children old n) place ≡ Some child → IsGiven s models old ks n place child) →
        (place child : ℕ) → slice_get (element_children new n) place ≡ Some child → IsGiven s models new ks n place child
    given-same given place child e =
        let was : slice_get (element_children old n) place ≡ Some child = ap (λ xs. slice_get xs place) (sym sees.children) ∙ e in
        let g = given place child was in
        let symbols = symbols-same in
        let head = sees.heads place child was in
        record {
          made = g.made;
          pair_is = g.pair_is ∙ (λ i. govern_child s.names s.parts (pair_at ks n).mode (term_in (models (pair_at ks n).of) (sym symbols i) place)
              (sym head i).name (sym head i).xsi (sym head i).scope);
        }

    pub gathered-nodes : IsGathered s models old ks v n → IsGathered s models new ks v n
    gathered-nodes g = record {
      number_is = g.number_is;
      bearer_is = g.bearer_is ∙ sym sees.bearer;
      text_is = g.text_is ∙ sym sees.chars;
      given = given-same g.given;
      list_is = subst (λ symbols. IsListed v (models (pair_at ks n).of) (kept_at ks n).list symbols) (sym symbols-same) g.list_is;
      stuck_is = g.stuck_is ∙ ap (stuck_in (models (pair_at ks n).of)) (sym symbols-same);
      counts_are = g.counts_are ∙ ap (λ xs. counts_of (map (record_at ks) xs)) (sym sees.children);
    }

    pub fit-nodes : (ids : List Found) → ShowsSame s old new n → IsFit s models old ks v ids n → IsFit s models new ks v ids n
    fit-nodes ids shows f = record {
      gathered = gathered-nodes f.gathered;
      known =
          let head = shows.head in
          let texts = shows.texts in
          let chars = shows.chars in
          subst (λ shape. AreJudged s shape (entry_at ks n))
          (λ i. shape_of (sym head i) (sym texts i) (sym chars i) (kept_at ks n).stuck (kept_at ks n).counts (kept_at ks n).identity (root_codes ids n)) f.known;
    }

-- ---- nodes that stay, with those above them

module _ (old new : Nodes) (was : IsSound old) (now : IsSound new) (Stays : ℕ → Type 0) (still : (n : ℕ) → Stays n → IsStill old new n) (up : (n p : ℕ) → Stays n → parent_at old n ≡ Some p → Stays p) where
  own-still : (n : ℕ) → Stays n → own_scope new n ≡ own_scope old n
  own-still n stays = ap (λ bs. reverse (map (λ (b : NameBinding). (b.prefix, b.namespace)) bs)) (still n stays).bindings

  scope-by : (levels n : ℕ) → depth_by (node old n) ≤ levels → Stays n → ((p : ℕ) → depth_by (node old p) + 1 ≤ levels → Stays p → scope_at new p ≡ scope_at old p) →
      (o : Option ℕ) → parent_at old n ≡ o → scope_at new n ≡ scope_at old n
  scope-by levels n high stays on None e =
      scope_root new n ((still n stays).parent ∙ e) ∙ ap (λ xs. xs ++ first_scope) (own-still n stays) ∙ sym (scope_root old n e)
  scope-by levels n high stays on (Some p) e =
      let deep = depth_below old p n was e in
      let e2 = (still n stays).parent ∙ e in
      scope_below new p n e2 (depth_below new p n now e2)
      ∙ ap (λ xs. xs ++ scope_at new p) (own-still n stays)
      ∙ ap (λ xs. own_scope old n ++ xs) (on p (omega (arith, deep, high)) (up n p stays e))
      ∙ sym (scope_below old p n e deep)

  scope-from : (levels n : ℕ) → depth_by (node old n) ≤ levels → Stays n → scope_at new n ≡ scope_at old n
  scope-from zero n high stays = scope-by zero n high stays (λ p low more. absurd (omega (arith, low))) (parent_at old n) refl
  scope-from (suc levels) n high stays = scope-by (suc levels) n high stays (λ p low more. scope-from levels p (omega (arith, low)) more) (parent_at old n) refl

  pub scope-still : (n : ℕ) → Stays n → scope_at new n ≡ scope_at old n
  scope-still n stays = scope-from (depth_by (node old n)) n (omega arith) stays

  pub texts-still : (n : ℕ) → Stays n → texts_named new n ≡ texts_named old n
  texts-still n stays = ap (map text_named) (still n stays).attributes

  pub head-still : (s : SchemaSet) (n : ℕ) → Stays n → name_at new n ≡ name_at old n → head_at s new n ≡ head_at s old n
  head-still s n stays name =
      let texts = texts-still n stays in
      let scope = scope-still n stays in
      λ i. record { name = name i; xsi = instance_text s.names (texts i) TypeName; scope = scope i }

  bearer-still : (n : ℕ) → Stays n → bearer_at new n ≡ bearer_at old n
  bearer-still n stays = ap (λ o. unwrap_or o n) (still n stays).parent

  -- an element that stays, with its name and its child elements, and these with theirs
  pub sees-still : (s : SchemaSet) (n : ℕ) → Stays n → children_by (node new n) ≡ children_by (node old n) → ((c : ℕ) → Has c (children_by (node old n)) → Stays c × (name_at new c ≡ name_at old c)) →
      SeesNodes s old new n
  sees-still s n stays same below =
      let xs = children_by (node old n) in record {
        bearer = bearer-still n stays;
        chars = ap (flat_map (chars_at new)) same ∙ flat-has (chars_at new) (chars_at old) xs (λ c h. (still c (below c h).0).chars);
        children = ap (filter (is_element_at new)) same ∙ filter-same (is_element_at new) (is_element_at old) xs (λ c h. (still c (below c h).0).element);
        heads = λ place child e. let h = has-filter (is_element_at old) xs place child e in head-still s child (below child h).0 (below child h).1;
      }

  -- an element that stays shows what it showed
  pub shows-still : (s : SchemaSet) (n : ℕ) → Stays n → name_at new n ≡ name_at old n → own_chars new n ≡ own_chars old n → ShowsSame s old new n
  shows-still s n stays name chars = record { head = head-still s n stays name; texts = texts-still n stays; bearer = bearer-still n stays; chars = chars }

-- ---- an element by itself

-- what is kept of it is right, where it shows what it showed
pub judged-nodes : (s : SchemaSet) (old new : Nodes) (k : KeptState) (n : ℕ) (children : KeptChildren) → ShowsSame s old new n → IsJudgedBy s old k n children → IsJudgedBy s new k n children
judged-nodes s old new k n children shows j = record {
  number_is = j.number_is;
  bearer_is = j.bearer_is ∙ sym shows.bearer;
  text_is = j.text_is ∙ sym shows.chars;
  known =
      let head = shows.head in
      let texts = shows.texts in
      let chars = shows.chars in
      subst (λ shape. AreJudged s shape (entry_at k.records.slots n))
      (λ i. shape_of (sym head i) (sym texts i) (sym chars i) children.stuck children.counts (kept_at k.records.slots n).identity (root_codes k.root_ids n)) j.known;
}

-- ---- elements

element-in : (content : Content) → is_element content ≡ true → unwrap_or (chars_in content) [] ≡ []
element-in (contents.Element e) is = refl
element-in (contents.Chars chars) is = absurd (false≢true is)

element-by : (o : Option Node) → is_element_by o ≡ true → chars_by o ≡ []
element-by None is = refl
element-by (Some it) is = element-in it.content is

-- an element is no text
pub element-silent : (ns : Nodes) (n : ℕ) → is_element_at ns n ≡ true → chars_at ns n ≡ []
element-silent ns n is = element-by (node ns n) is
