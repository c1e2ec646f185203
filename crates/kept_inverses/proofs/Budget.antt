-- A change takes no more steps than its edit may cost.
use Rattle.std.proofs.Common.{◌≡◌, ◌⊎◌, ℕ, ◌+◌, ◌*◌, ◌≤◌, ◌==◌, max, List, [], ◌∷◌, length, map, Bool, true, false, Option, None, Some, refl, sym, ap, ◌∙◌, subst, inl, inr, arith}
use Rattle.std.specs.Prelude.{slice_get, if◌then◌else◌}
use Rattle.std.specs.Option.{option_map}
use Rattle.std.proofs.lemmas.Option.{none-some}
use Rattle.std.proofs.lemmas.Bool.{false≢true}
use Rattle.tree_rows.specs.Forest.{Forest, none, Document, count}
use Rattle.tree_rows.specs.declared.row.NodeKind.TheVariants as kinds
use Rattle.tree_edits.specs.Changes.{with_name, with_attributes, set_in, unset_in}
use Rattle.tree_edits.specs.Edits.{Found, found, has, replaced, renumbered, insert_at, with_children, width}
use Rattle.tree_edits.specs.Tests.{is_element, element_node, width_of}
use Rattle.tree_edits.specs.declared.edit.Edit.{Edit}
use Rattle.tree_edits.specs.declared.edit.Edit.TheVariants as edits
use Rattle.tree_edits.proofs.Keeping.{not_given}
use Rattle.tree_edits.proofs.Lying.{lies}
use Rattle.elem_governing.specs.Governing.{skipped}
use Rattle.elem_governing.specs.declared.pairs.Governing.{Governing}
use Rattle.assessment.specs.Attribution.{SchemaSet, content_particle}
use Rattle.assessment.specs.Assessment.{Entry, Beside, entries}
use Rattle.assessment.specs.Local.{AreRead, HasElement}
use Rattle.assessment.specs.Local as local
use Rattle.assessment.proofs.Alike.{element-counts}
use Rattle.what_is_found.specs.Identity.{beside_of}
use Rattle.assessment_laws.specs.Governed.{AreGovernings, governing_at}
use Rattle.assessment_laws.proofs.Governed.{assessed-governed}
use Rattle.compiled_schema.specs.Usable.{set_of}
use Rattle.compiled_schema.specs.declared.compiled.Compiled.{Compiled}
use Rattle.tree_assess.specs.Entries.{entry_of}
use Rattle.edit_budgets.specs.Budget.{list_budget, ambivalent_by, ambivalent_below, ambivalent_in, changed_list, edit_budget}
use Rattle.edit_budgets.specs.Budget as budget
use Rattle.edit_budgets.specs.Lists.{parent_in}
use Rattle.what_is_found.specs.IsFound.{IsFound}
use Rattle.session_model.specs.Asking as asking
use Rattle.doc_nodes.specs.Nodes.{Node, Nodes, node, element_children, is_element_by, is_element_at}
use Rattle.doc_nodes.specs.Nodes as nodes
use Rattle.doc_nodes.specs.declared.content.Content.{Content}
use Rattle.doc_nodes.specs.declared.content.Content.TheVariants as contents
use Rattle.doc_changes.specs.Held.{kind_in, kind_at, parent_at, attributes_in, attributes_by, attributes_at, has_number}
use Rattle.doc_changes.specs.Stands.{StandsFor, expanded_of}
use Rattle.doc_changes.proofs.Standing.{present_times, absent_times}
use Rattle.doc_changes.specs.Readers.{element_numbers, name_at}
use Rattle.doc_changes.proofs.Levels.{document_is}
use Rattle.doc_changes.proofs.Reading.{are_read}
use Rattle.doc_edits.specs.Changes.{CanMake, IsOf, changed}
use Rattle.doc_edits.specs.declared.change.Change.{Change}
use Rattle.doc_edits.specs.declared.change.Change.TheVariants as changes
use Rattle.doc_readers.specs.Heads.{readers_of}
use Rattle.doc_readers.proofs.Reading.{readers_are}
use Rattle.doc_changes.proofs.Numbering.{number_within}
use Rattle.kept_slots.specs.Slots.{at}
use Rattle.kept_changes.specs.from_kept_records.KeptElement.{KeptElement}
use Rattle.kept_changes.specs.from_kept_records.Slots.{KeptSlots, IsMade, kept_at, pair_at}
use Rattle.kept_changes.specs.from_kept_records.Fit.{models_of, root_codes, head_at}
use Rattle.kept_changes.specs.from_kept_records.Found.{IsOver, AreSettled, found_in}
use Rattle.kept_changes.proofs.from_kept_records.Kept.{entry-is}
use Rattle.kept_changes.proofs.from_kept_records.Made.{made-elements}
use Rattle.kept_changes.proofs.from_kept_records.Nodes.{has-element, root-there, root-numbers}
use Rattle.kept_changes.proofs.from_kept_records.Settled.{assessed}
use Rattle.kept_changes.proofs.from_kept_records.Sums.{kept-is}
use Rattle.kept_changes.specs.from_kept_state.KeptState.{KeptState}
use Rattle.kept_changes.specs.from_kept_judging.Judged.{root_pair, given_pair, again_pair, pair_by, symbols_by}
use Rattle.kept_changes.proofs.from_kept_forgetting.Placed.{child-place}
use Rattle.elem_governing.proofs.Regoverned.{child-again, root-again}
use Rattle.model_terms.specs.Symbols.{child_symbols}
use Rattle.model_terms.specs.Terms.{term_in}
use Rattle.tree_rows.specs.declared.row.Attribute.{Attribute}
use Rattle.kept_changes.specs.from_kept_below.Moved.{AreGivenDown, moved}
use Rattle.kept_changes.specs.from_kept_children.Edited.{IsRightFor}
use Rattle.kept_changes.specs.from_kept_children.Steps.{GovernsBelow, digits, marked_count}
use Rattle.kept_changes.specs.from_kept_children.Steps as steps
use Rattle.kept_changes.specs.Steps.{TakesBelow, TakesAt, TakesName, TakesAway, Takes}
use Rattle.kept_inverses.proofs.Attributed.{names_in, names-read, attributed-numbers, attributed-names, at-place}
use Rattle.kept_inverses.proofs.Governed.{given-down, root-given}
use Rattle.kept_inverses.proofs.Marks.{marked-are}
use Rattle.kept_inverses.proofs.Moves.{IsOld, AllOld, AllNew, elements-fit, old-moved, put-moved, at-moved}
use Rattle.kept_inverses.proofs.Nodes.{numbers-same, own-at, own-numbers, own-below, own-stand, own-moved, top-is}
use Rattle.kept_inverses.proofs.Paths.{IsAt, at-sym, at-element, at-below, at-stand, at-numbers, at-read, at-found, same-whole, below_of, put-at, ChangesBelow, changed-at}
use Rattle.kept_inverses.proofs.Rooms.{within, within-node}
use Rattle.kept_inverses.proofs.Shapes.{replaced-elements, named-elements, attributed-elements, gone-elements, changed-element, gone-width, parent-found}

-- ---- what governs an element, by entries

abbrev pair-of : Option Entry → Governing
pair-of None = skipped
pair-of (Some e) = e.governing

governing-of : (es : List Entry) (n : ℕ) → governing_at es n ≡ pair-of (asking.entry_at n es)
governing-of [] n = refl
governing-of (e ∷ more) n = by (e.number == n) (governing-of more n)
  where
    by : (b : Bool) → governing_at more n ≡ pair-of (asking.entry_at n more) → (if b then e.governing else governing_at more n) ≡ pair-of (if b then Some e else asking.entry_at n more)
    by true r = refl
    by false r = r

kind-by : (o : Option Node) → option_map (λ (it : Node). kind_in it.content) o ≡ Some kinds.Element → is_element_by o ≡ true
kind-by None h = absurd (none-some kinds.Element h)
kind-by (Some it) h = by it.content h
  where
    by : (held : Content) → Some (kind_in held) ≡ Some kinds.Element → nodes.is_element held ≡ true
    by (contents.Element e) g = refl
    by (contents.Chars chars) g = absurd (cc g)

kind-element : (ns : Nodes) (n : ℕ) → kind_at ns n ≡ Some kinds.Element → is_element_at ns n ≡ true
kind-element ns n h = kind-by (node ns n) h

-- what has an attribute is an element
attribute-by : (name : ℕ) (o : Option Node) → has_number name (attributes_by o) ≡ true → option_map (λ (it : Node). kind_in it.content) o ≡ Some kinds.Element
attribute-by name None h = absurd (false≢true h)
attribute-by name (Some it) h = by it.content h
  where
    by : (held : Content) → has_number name (attributes_in held) ≡ true → Some (kind_in held) ≡ Some kinds.Element
    by (contents.Element e) g = refl
    by (contents.Chars chars) g = absurd (false≢true g)

with-attribute : (ns : Nodes) (n name : ℕ) → has_number name (attributes_at ns n) ≡ true → kind_at ns n ≡ Some kinds.Element
with-attribute ns n name h = attribute-by name (node ns n) h

element-by : (n : ℕ) (o : Option Found) → is_element o ≡ true → (it : Found) × (o ≡ Some it) × (element_node it.node ≡ true)
element-by n None h = absurd (false≢true h)
element-by n (Some it) h = (it, refl, h)

module _ (c : Compiled) (old : Nodes) (k : KeptState) (d : Document) (right : IsRightFor c old k) (z : StandsFor c.names old d) where
  abbrev s : SchemaSet
  s = set_of c

  abbrev ks : KeptSlots
  ks = k.records.slots

  abbrev was : List Entry
  was = entries (found_in old ks d.forest)

  abbrev before : ℕ → Governing
  before = governing_at was

  over : IsOver c old ks d
  over =
      let own = right.beside.over in
      subst (IsOver c old ks) (sym (document_is c.names old own.0 own.1.stands) ∙ document_is c.names old d z) own.1

  settled : AreSettled c old ks k.lists k.root_ids d
  settled = record { over = over; top = right.top; fit = right.fit }

  abbrev said : Beside
  said = record { identity = λ n. (kept_at ks n).identity; ids = root_codes k.root_ids }

  old-governed : AreGovernings s before d.forest
  old-governed = assessed-governed s said d (found_in old ks d.forest) z.tree (assessed c old ks k.lists k.root_ids d settled said (record { identity = λ n made. refl; ids = λ n made. refl }))

  before-is : (n : ℕ) (x : KeptElement) → at ks n ≡ Some x → before n ≡ x.found.governing
  before-is n x there =
      governing-of was n
      ∙ ap pair-of (entry-is c old ks k.lists k.root_ids d settled n ∙ ap (option_map (λ (y : KeptElement). entry_of y.found)) there)

  made-at : (m : ℕ) → HasElement m d.forest → IsMade ks m
  made-at m h = made-elements c old ks k.lists k.root_ids d settled m h

  pair-is : (m : ℕ) → HasElement m d.forest → before m ≡ pair_at ks m
  pair-is m h = let made = made-at m h in before-is m made.0 made.1 ∙ ap (λ (x : KeptElement). x.found.governing) (sym (kept-is ks m made.0 made.1))

  module _ (new : Nodes) (e : Document) (w : StandsFor c.names new e) (found_es : List Entry) (is : IsFound s e found_es) where
    abbrev after : ℕ → Governing
    after = governing_at found_es

    new-governed : AreGovernings s after e.forest
    new-governed =
        subst (λ (es : List Entry). AreGovernings s (governing_at es) e.forest) (sym is.entries_are)
        (assessed-governed s (beside_of s is.identities e.forest is.found) e is.found is.tree is.assessed)

    new-read : AreRead (readers_of c.names new) e.forest
    new-read = readers_are c.names new e.forest (are_read c.names new e.forest w.nodes)

    old-at : (m : ℕ) → HasElement m d.forest → IsOld ks d.forest before after m
    old-at m h =
        let made = made-at m h in
        record { was = present_times m d.forest (element-counts m d.forest h); kept = made.0; is = made.1; pair_is = sym (before-is m made.0 made.1) }

    abbrev counted : Forest → ℕ
    counted f = budget.moved d.forest before after f

    -- ---- the child elements of an element are others

    module _ (p : ℕ) (cs ds : Forest) (path : IsAt p cs ds d.forest e.forest) where
      here : HasElement p e.forest
      here = at-element p cs ds d.forest e.forest path

      there : HasElement p d.forest
      there = at-element p ds cs e.forest d.forest (at-sym p cs ds d.forest e.forest path)

      same : after p ≡ pair_at ks p
      same = same-whole p cs ds s before after d.forest e.forest path old-governed new-governed ∙ pair-is p there

      numbers : element_children new p ≡ local.element_numbers ds
      numbers = at-numbers p cs ds (readers_of c.names new) d.forest e.forest path new-read

      below : GovernsBelow c new (pair_at ks p) p after ds
      below = record {
        down = record {
          names = c.names;
          stand = at-stand p cs ds c.names new d.forest e.forest path w.nodes;
          given = λ n place child h at_place. given-down c over.usable new e w after new-governed n (at-below p cs ds d.forest e.forest path n h) place child at_place;
        };
        are = numbers-same ds ∙ sym numbers;
        given = λ place child at_place.
            given-down c over.usable new e w after new-governed p here place child at_place ∙ ap (λ (g : Governing). pair_by c new g p place child) same;
      }

      marked : marked_count c new k p ≡ ambivalent_in s (content_particle c.parts (after p).of) (found p 1 e.forest)
      marked =
          let own = at-found p cs ds d.forest e.forest 1 path (w.tree.differ p) in
          marked-are c over.usable new e w (pair_at ks p).of p ds (at-read p cs ds (readers_of c.names new) d.forest e.forest path new-read) (λ m h. at-below p cs ds d.forest e.forest path m h) numbers
          ∙ ap (λ (g : Governing). ambivalent_by s (content_particle c.parts g.of) ds) (sym same)
          ∙ ap (λ (node : Forest). ambivalent_below s (content_particle c.parts (after p).of) node) (sym own.node_is)
          ∙ ap (ambivalent_in s (content_particle c.parts (after p).of)) (sym own.is)

      old-width : width_of (found p 1 d.forest) ≡ width cs
      old-width =
          let own = at-found p ds cs e.forest d.forest 1 (at-sym p cs ds d.forest e.forest path) (z.tree.differ p) in
          ap width_of own.is ∙ ap (λ (node : Forest). width_of (Some (record own.it { node = node }))) own.node_is

      new-width : width_of (found p 1 e.forest) ≡ width ds
      new-width =
          let own = at-found p cs ds d.forest e.forest 1 path (w.tree.differ p) in
          ap width_of own.is ∙ ap (λ (node : Forest). width_of (Some (record own.it { node = node }))) own.node_is

      elements : steps.width new p ≤ width ds
      elements =
          let many : length (element_children new p) ≡ length (element_numbers ds) = ap (λ (xs : List ℕ). length xs) (numbers ∙ sym (numbers-same ds)) in
          let fits = elements-fit ds in omega (arith, many, fits)

      pub list-budgeted : (most first last : ℕ) → (most ≤ width cs) ⊎ (most ≤ width ds) → moved ks after ds ≤ counted ds → TakesBelow c new k p most first last →
          last ≤ first + (changed_list s d was e found_es (Some p) + 8 * counted e.forest)
      list-budgeted most first last wide fits takes =
          let few = takes ds after below in
          let long : most ≤ max (width_of (found p 1 d.forest)) (width_of (found p 1 e.forest)) = (let x = old-width in let y = new-width in elim wide [ inl h ↦ omega (arith, x, y, h) | inr h ↦ omega (arith, x, y, h) ]) in
          let down = at-moved ks d.forest before after p cs ds d.forest e.forest path in
          let all : moved ks after ds ≤ counted e.forest = omega (arith, fits, down) in
          within most (max (width_of (found p 1 d.forest)) (width_of (found p 1 e.forest))) (ambivalent_in s (content_particle c.parts (after p).of) (found p 1 e.forest))
          (moved ks after ds) (counted e.forest) first last long all
          (subst (λ (a : ℕ). last ≤ first + (24 * digits most + 1 + 16 * digits most * a + 3 * moved ks after ds)) marked few)

    -- ---- an element is governed otherwise

    pub node-budgeted : (key : ℕ) (pair : Governing) (x first last : ℕ) (h : HasElement key e.forest) → ((m : ℕ) → HasElement m e.forest → HasElement m d.forest) → after key ≡ pair → TakesAt c new k key pair first last →
        last ≤ first + (x + 8 * counted e.forest)
    node-budgeted key pair x first last h all governed takes =
        let own = own-at key e.forest h in
        let down : AreGivenDown c new after own = record {
          names = c.names;
          stand = own-stand key c.names new e.forest h w.nodes;
          given = λ n place child has at_place. given-down c over.usable new e w after new-governed n (own-below key e.forest h n has) place child at_place;
        } in
        let few = takes own after down (own-numbers key e.forest h) governed in
        let mine = old-moved ks d.forest before after own (λ m has. old-at m (all m (own-below key e.forest h m has))) in
        let more = own-moved key d.forest before after e.forest h in
        within-node x (moved ks after own) (counted e.forest) first last (omega (arith, mine, more)) few

    root-budgeted : (pair : Governing) (x first last : ℕ) → ((m : ℕ) → HasElement m e.forest → HasElement m d.forest) → pair ≡ root_pair s (head_at s new 1) → TakesAt c new k 1 pair first last →
        last ≤ first + (x + 8 * counted e.forest)
    root-budgeted pair x first last all pair_is takes =
        node-budgeted 1 pair x first last (root-there e.forest w.tree.root) all (root-given c over.usable new e w after new-governed ∙ sym pair_is) takes

  -- ---- the changes

  none-taken : (first last x : ℕ) → last ≡ first → last ≤ first + x
  none-taken first last x e = omega (arith, e)

  -- nodes came below an element, none of which was there
  pub came-budgeted : (new : Nodes) (p index : ℕ) (fresh : Forest) (free : ℕ) (w : StandsFor c.names new (record { forest = replaced p (with_children index fresh) d.forest; next_free = free })) (found_es : List Entry) →
      IsFound s (record { forest = replaced p (with_children index fresh) d.forest; next_free = free }) found_es → is_element (found p 1 d.forest) ≡ true → ((m : ℕ) → HasElement m fresh → has m d.forest ≡ false) →
      (first last : ℕ) → TakesBelow c new k p (steps.width new p) first last →
      last ≤ first + (changed_list s d was (record { forest = replaced p (with_children index fresh) d.forest; next_free = free }) found_es (Some p)
      + 8 * budget.moved d.forest before (governing_at found_es) (replaced p (with_children index fresh) d.forest))
  came-budgeted new p index fresh free w found_es is below none-was first last takes =
      let own = element-by p (found p 1 d.forest) below in
      let lie = lies p 1 d.forest own.0 own.1 in
      let cs = below_of own.0.node in
      let ds = insert_at index fresh cs in
      let path = put-at p index 1 fresh d.forest own.0 lie own.2 in
      let e : Document = record { forest = replaced p (with_children index fresh) d.forest; next_free = free } in
      let after = governing_at found_es in
      let all-new : AllNew ks d.forest before after fresh = λ m h. record { was = none-was m h; none = unmade m (none-was m h) (at ks m) refl } in
      let all-old : AllOld ks d.forest before after cs = λ m h. old-at new e w found_es is m (at-below p ds cs e.forest d.forest (at-sym p cs ds d.forest e.forest path) m h) in
      list-budgeted new e w found_es is p cs ds path (steps.width new p) first last (inr (elements new e w found_es is p cs ds path))
      (put-moved ks d.forest before after index fresh cs all-new all-old) takes
    where
      unmade : (m : ℕ) → has m d.forest ≡ false → (o : Option KeptElement) → at ks m ≡ o → at ks m ≡ None
      unmade m gone None there = there
      unmade m gone (Some x) there =
          let h = has-element c.names old d z m (over.only m (x, there)) in
          absurd (false≢true (sym gone ∙ present_times m d.forest (element-counts m d.forest h)))

  put-budgeted : (new : Nodes) (p index : ℕ) (part : Document) (w : StandsFor c.names new (changed c.names d (changes.Insert p index part))) (found_es : List Entry) → IsFound s (changed c.names d (changes.Insert p index part)) found_es →
      CanMake c.names old d (changes.Insert p index part) → (first last : ℕ) → Takes c old new k (changes.Insert p index part) first last →
      last ≤ first + (changed_list s d was (changed c.names d (changes.Insert p index part)) found_es (Some p) + 8 * budget.moved d.forest before (governing_at found_es) (changed c.names d (changes.Insert p index part)).forest)
  put-budgeted new p index part w found_es is can first last takes =
      let fresh = renumbered d.next_free part.forest in
      came-budgeted new p index fresh (d.next_free + count part.forest) w found_es is can.0.element
      (λ m h.
      let above = (number_within d.next_free m part.forest (present_times m fresh (element-counts m fresh h))).0 in
      absent_times m d.forest (not_given d.next_free m d.forest z.tree.nodes above))
      first last takes

  -- the elements of an edited document that come of an element's children were there
  module _ (new : Nodes) (e : Document) (w : StandsFor c.names new e) (found_es : List Entry) (is : IsFound s e found_es) (key p : ℕ) (change : Forest → Forest)
      (few : (node : Forest) (m : ℕ) → HasElement m (change node) → HasElement m node) (same_forest : e.forest ≡ replaced key change d.forest) (up : parent_in key None d.forest ≡ Some p) where
    abbrev below_key : ChangesBelow key change p d.forest
    below_key = changed-at key change d.forest p up

    abbrev cs_of : Forest
    cs_of = below_key.0

    abbrev ds_of : Forest
    ds_of = replaced key change below_key.0

    path_of : IsAt p cs_of ds_of d.forest e.forest
    path_of = subst (IsAt p cs_of ds_of d.forest) (sym same_forest) below_key.2

    kept-moved : moved ks (governing_at found_es) ds_of ≤ budget.moved d.forest before (governing_at found_es) ds_of
    kept-moved =
        old-moved ks d.forest before (governing_at found_es) ds_of (λ m h. old-at new e w found_es is m
        (at-below p ds_of cs_of e.forest d.forest (at-sym p cs_of ds_of d.forest e.forest path_of) m (replaced-elements key change few cs_of m h)))

    changed-budgeted : (most first last : ℕ) → (most ≤ width cs_of) ⊎ (most ≤ width ds_of) → TakesBelow c new k p most first last →
        last ≤ first + (changed_list s d was e found_es (parent_in key None d.forest) + 8 * budget.moved d.forest before (governing_at found_es) e.forest)
    changed-budgeted most first last wide takes =
        subst (λ (list : Option ℕ). last ≤ first + (changed_list s d was e found_es list + 8 * budget.moved d.forest before (governing_at found_es) e.forest)) (sym up)
        (list-budgeted new e w found_es is p cs_of ds_of path_of most first last wide kept-moved takes)

    changed-elements : steps.width new p ≤ width ds_of
    changed-elements = elements new e w found_es is p cs_of ds_of path_of

  -- a removal
  remove-budgeted : (new : Nodes) (key : ℕ) (w : StandsFor c.names new (changed c.names d (changes.Remove key))) (found_es : List Entry) → IsFound s (changed c.names d (changes.Remove key)) found_es →
      (first last : ℕ) → Takes c old new k (changes.Remove key) first last →
      last ≤ first + (changed_list s d was (changed c.names d (changes.Remove key)) found_es (parent_in key None d.forest) + 8 * budget.moved d.forest before (governing_at found_es) (changed c.names d (changes.Remove key)).forest)
  remove-budgeted new key w found_es is first last takes = by (is_element_at old key) (parent_at old key) (parent-found key (λ node. none) c.names old d z) takes
    where
      by : (b : Bool) (o : Option ℕ) → parent_in key None d.forest ≡ o → TakesAway c new k b o first last →
          last ≤ first + (changed_list s d was (changed c.names d (changes.Remove key)) found_es (parent_in key None d.forest) + 8 * budget.moved d.forest before (governing_at found_es) (changed c.names d (changes.Remove key)).forest)
      by false o up took = none-taken first last _ took
      by true None up took = none-taken first last _ took
      by true (Some p) up took =
          let e = changed c.names d (changes.Remove key) in
          let one = gone-width key (λ node. none) (changed-at key (λ node. none) d.forest p up).0 (changed-at key (λ node. none) d.forest p up).1 in
          let fits = changed-elements new e w found_es is key p (λ node. none) gone-elements refl up in
          changed-budgeted new e w found_es is key p (λ node. none) gone-elements refl up (steps.width new p + 1) first last (inl (omega (arith, one, fits))) took

  element-here : (key : ℕ) → kind_at old key ≡ Some kinds.Element → HasElement key d.forest
  element-here key kind = has-element c.names old d z key (kind-element old key kind)

  -- another name
  rename-budgeted : (new : Nodes) (key name : ℕ) (w : StandsFor c.names new (changed c.names d (changes.Rename key name))) (found_es : List Entry) → IsFound s (changed c.names d (changes.Rename key name)) found_es →
      CanMake c.names old d (changes.Rename key name) → (first last : ℕ) → Takes c old new k (changes.Rename key name) first last →
      last ≤ first + (changed_list s d was (changed c.names d (changes.Rename key name)) found_es (parent_in key None d.forest) + 8 * budget.moved d.forest before (governing_at found_es) (changed c.names d (changes.Rename key name)).forest)
  rename-budgeted new key name w found_es is can first last takes = by (parent_at old key) (parent-found key (with_name (expanded_of c.names name)) c.names old d z) takes
    where
      by : (o : Option ℕ) → parent_in key None d.forest ≡ o → TakesName c new k key o first last →
          last ≤ first + (changed_list s d was (changed c.names d (changes.Rename key name)) found_es (parent_in key None d.forest) + 8 * budget.moved d.forest before (governing_at found_es) (changed c.names d (changes.Rename key name)).forest)
      by None up took =
          let e = changed c.names d (changes.Rename key name) in
          let top : key ≡ 1 = top-is key d.forest z.tree.root up (element-here key can.0) in
          root-budgeted new e w found_es is (root_pair s (head_at s new 1)) (changed_list s d was e found_es (parent_in key None d.forest)) first last
          (λ m h. replaced-elements key (with_name (expanded_of c.names name)) (named-elements (expanded_of c.names name)) d.forest m h) refl
          (subst (λ (n : ℕ). TakesAt c new k n (root_pair s (head_at s new n)) first last) top took)
      by (Some p) up took =
          let e = changed c.names d (changes.Rename key name) in
          let own = with_name (expanded_of c.names name) in
          changed-budgeted new e w found_es is key p own (named-elements (expanded_of c.names name)) refl up (steps.width new p) first last
          (inr (changed-elements new e w found_es is key p own (named-elements (expanded_of c.names name)) refl up)) took

  -- other attributes
  module _ (new : Nodes) (e : Document) (w : StandsFor c.names new e) (found_es : List Entry) (is : IsFound s e found_es) (key : ℕ) (change : List Attribute → List Attribute)
      (same_forest : e.forest ≡ replaced key (with_attributes change) d.forest) (kind : kind_at old key ≡ Some kinds.Element) where
    all-were : (m : ℕ) → HasElement m e.forest → HasElement m d.forest
    all-were m h = replaced-elements key (with_attributes change) (attributed-elements change) d.forest m (subst (HasElement m) same_forest h)

    old-read : AreRead (readers_of c.names old) d.forest
    old-read = readers_are c.names old d.forest (are_read c.names old d.forest z.nodes)

    -- below a parent
    module _ (p : ℕ) (up : parent_in key None d.forest ≡ Some p) where
      abbrev cs_at : Forest
      cs_at = (changed-at key (with_attributes change) d.forest p up).0

      abbrev ds_at : Forest
      ds_at = replaced key (with_attributes change) (changed-at key (with_attributes change) d.forest p up).0

      path_at : IsAt p cs_at ds_at d.forest e.forest
      path_at = path_of new e w found_es is key p (with_attributes change) (attributed-elements change) same_forest up

      back_at : IsAt p ds_at cs_at e.forest d.forest
      back_at = at-sym p cs_at ds_at d.forest e.forest path_at

      same-children : element_children new p ≡ element_children old p
      same-children =
          at-numbers p cs_at ds_at (readers_of c.names new) d.forest e.forest path_at (new-read new e w found_es is) ∙ attributed-numbers key change cs_at
          ∙ sym (at-numbers p ds_at cs_at (readers_of c.names old) e.forest d.forest back_at old-read)

      same-names : map (name_at new) (element_children old p) ≡ map (name_at old) (element_children old p)
      same-names =
          ap (map (name_at new)) (sym same-children ∙ at-numbers p cs_at ds_at (readers_of c.names new) d.forest e.forest path_at (new-read new e w found_es is))
          ∙ names-read c.names new e w ds_at (at-read p cs_at ds_at (readers_of c.names new) d.forest e.forest path_at (new-read new e w found_es is)) (λ m h. at-below p cs_at ds_at d.forest e.forest path_at m h)
          ∙ attributed-names key change c.names cs_at
          ∙ sym (names-read c.names old d z cs_at (at-read p ds_at cs_at (readers_of c.names old) e.forest d.forest back_at old-read) (λ m h. at-below p ds_at cs_at e.forest d.forest back_at m h))
          ∙ ap (map (name_at old)) (sym (at-numbers p ds_at cs_at (readers_of c.names old) e.forest d.forest back_at old-read))

      child-governed : governing_at found_es key ≡ again_pair s (pair_at ks key) (head_at s new key)
      child-governed =
          let g = pair_at ks p in
          let made = made-at p (at-element p ds_at cs_at e.forest d.forest back_at) in
          let place = child-place old z.links key p (sym (parent-found key (with_attributes change) c.names old d z) ∙ up) (kind-element old key kind) in
          let given = (right.fit p made tt).gathered.given place.0 key place.1 in
          let now = given-down c over.usable new e w (governing_at found_es) (new-governed new e w found_es is) p (at-element p cs_at ds_at d.forest e.forest path_at) place.0 key
          (ap (λ (xs : List ℕ). slice_get xs place.0) same-children ∙ place.1) in
          let parent = same new e w found_es is p cs_at ds_at path_at in
          let symbols = ap (λ (xs : List ℕ). child_symbols c.names (models_of c g.of) (map (name_at new) xs)) same-children ∙ ap (child_symbols c.names (models_of c g.of)) same-names in
          let named = at-place (name_at new) (name_at old) (element_children old p) place.0 key same-names place.1 in
          let was_head = head_at s old key in
          let head = head_at s new key in
          let term = term_in (models_of c g.of) (symbols_by c old g.of p) place.0 in
          now
          ∙ ap (λ (x : Governing). pair_by c new x p place.0 key) parent
          ∙ ap (λ (xs : List ℕ). given_pair s g (term_in (models_of c g.of) xs place.0) head) symbols
          ∙ ap (λ (name : ℕ). given_pair s g term (record head { name = name })) named
          ∙ sym (child-again c.names c.parts was_head.xsi head.xsi was_head.scope head.scope g.mode term was_head.name)
          ∙ ap (λ (x : Governing). again_pair s x head) (sym given.pair_is)

    root-governed : key ≡ 1 → governing_at found_es key ≡ again_pair s (pair_at ks key) (head_at s new key)
    root-governed top =
        let was_head = head_at s old 1 in
        let head = head_at s new 1 in
        let named : head.name ≡ was_head.name = root-named in
        subst (λ (n : ℕ). governing_at found_es n ≡ again_pair s (pair_at ks n) (head_at s new n)) (sym top)
        (root-given c over.usable new e w (governing_at found_es) (new-governed new e w found_es is)
        ∙ ap (λ (name : ℕ). root_pair s (record head { name = name })) named
        ∙ sym (root-again c.names c.parts was_head.xsi head.xsi was_head.scope head.scope was_head.name)
        ∙ ap (λ (x : Governing). again_pair s x head) (sym right.top.pair_is))
      where
        root-named : name_at new 1 ≡ name_at old 1
        root-named =
            at-place (name_at new) (name_at old) (1 ∷ []) 0 1
            (ap (map (name_at new)) (sym (root-numbers e.forest w.tree.root)) ∙ names-read c.names new e w e.forest (new-read new e w found_es is) (λ m h. h)
            ∙ ap (names_in c.names) same_forest ∙ attributed-names key change c.names d.forest ∙ sym (names-read c.names old d z d.forest old-read (λ m h. h))
            ∙ ap (map (name_at old)) (root-numbers d.forest z.tree.root)) refl

    attributed-governed : governing_at found_es key ≡ again_pair s (pair_at ks key) (head_at s new key)
    attributed-governed = by (parent_in key None d.forest) refl
      where
        by : (o : Option ℕ) → parent_in key None d.forest ≡ o → governing_at found_es key ≡ again_pair s (pair_at ks key) (head_at s new key)
        by None up = root-governed (top-is key d.forest z.tree.root up (element-here key kind))
        by (Some p) up = child-governed p up

    pub attributes-budgeted : (x first last : ℕ) → TakesAt c new k key (again_pair s (pair_at ks key) (head_at s new key)) first last → last ≤ first + (x + 8 * budget.moved d.forest before (governing_at found_es) e.forest)
    attributes-budgeted x first last takes =
        node-budgeted new e w found_es is key (again_pair s (pair_at ks key) (head_at s new key)) x first last
        (subst (HasElement key) (sym same_forest) (changed-element key change d.forest (element-here key kind))) all-were attributed-governed takes

  -- ---- any change

  abbrev IsBudgeted : Nodes → Edit → Change → Type 0
  IsBudgeted new edit change = CanMake c.names old d change → StandsFor c.names new (changed c.names d change) → (found_es : List Entry) → IsFound s (changed c.names d change) found_es →
      (first last : ℕ) → Takes c old new k change first last → last ≤ first + edit_budget s d was (changed c.names d change) found_es edit

  pub change-budgeted : (new : Nodes) (edit : Edit) (change : Change) → IsOf edit change → IsBudgeted new edit change
  change-budgeted new (edits.Insert p index its) change of =
      subst (IsBudgeted new (edits.Insert p index its)) (sym of.1) (λ can w es is first last takes. put-budgeted new p index of.0 w es is can first last takes)
  change-budgeted new (edits.AddText p index chars) change of =
      subst (IsBudgeted new (edits.AddText p index chars)) (sym of) (λ can w es is first last takes. none-taken first last (edit_budget s d was (changed c.names d (changes.AddText p index chars)) es (edits.AddText p index chars)) takes)
  change-budgeted new (edits.SetText key chars) change of =
      subst (IsBudgeted new (edits.SetText key chars)) (sym of) (λ can w es is first last takes. none-taken first last (edit_budget s d was (changed c.names d (changes.SetText key chars)) es (edits.SetText key chars)) takes)
  change-budgeted new (edits.Remove key) change of =
      subst (IsBudgeted new (edits.Remove key)) (sym of) (λ can w es is first last takes. remove-budgeted new key w es is first last takes)
  change-budgeted new (edits.Rename key name) change of =
      subst (IsBudgeted new (edits.Rename key name)) (sym of.1) (λ can w es is first last takes. rename-budgeted new key of.0 w es is can first last takes)
  change-budgeted new (edits.SetAttr key name value) change of =
      subst (IsBudgeted new (edits.SetAttr key name value)) (sym of.1) (λ can w es is first last takes.
      attributes-budgeted new (changed c.names d (changes.SetAttr key of.0 value)) w es is key (set_in (expanded_of c.names of.0) value) refl can.0 0 first last takes)
  change-budgeted new (edits.UnsetAttr key name) change of =
      subst (IsBudgeted new (edits.UnsetAttr key name)) (sym of.1) (λ can w es is first last takes.
      attributes-budgeted new (changed c.names d (changes.UnsetAttr key of.0)) w es is key (unset_in (expanded_of c.names of.0)) refl (with-attribute old key of.0 can) 0 first last takes)
