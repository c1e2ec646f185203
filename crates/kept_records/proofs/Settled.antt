-- What is kept of each element is settled as assessment reads it, and what is kept of the root is that of a root.
use Rattle.std.proofs.Common.{◌≡◌, ℕ, zero, suc, ◌+◌, List, [], ◌∷◌, ◌++◌, length, map, Option, None, Some, All, refl, sym, ap, ◌∙◌, subst, arith}
use Rattle.std.specs.Prelude.{slice_get}
use Rattle.std.specs.List.{range_with_len}
use Rattle.std.proofs.lemmas.List.{length-map}
use Rattle.std.proofs.lemmas.List.Elements.{All-nil, All-cons, All-head, All-tail}
use Rattle.xs_names.specs.Names.{NameTable}
use Rattle.xs_names.specs.Scope.{first_scope}
use Rattle.xs_codes.specs.declared.fault.Found.{Found}
use Rattle.tree_rows.specs.Forest.{Forest, none, text, element, Document}
use Rattle.tree_rows.specs.Whole.{HasRoot}
use Rattle.assess_records.specs.Instance.{instance_text}
use Rattle.assess_records.specs.declared.instance_names.InstanceAttribute.TheVariants.{TypeName}
use Rattle.assess_records.specs.declared.shape.ElementShape.{ElementShape}
use Rattle.assess_records.specs.Numbered.{Head, name_in, named_texts, scope_in, heads, names_of, shape_of}
use Rattle.elem_governing.specs.Governing.{govern_child}
use Rattle.elem_governing.specs.declared.pairs.Governing.{Governing}
use Rattle.content_models.specs.declared.automaton.ContentAutomaton.{ContentAutomaton}
use Rattle.assessment.specs.Attribution.{SchemaSet, content_particle, AreTerms}
use Rattle.assessment.specs.Assessment.{Beside, IsAssessment, governed, root_pairs, AreJudged}
use Rattle.assessment.specs.Local as local
use Rattle.assessment.specs.Local.{Readers, Kept, AreRead, HasElement, IsScoped, IsSettled, AreRoots, element_numbers}
use Rattle.assessment.proofs.Fitting.{assessment}
use Rattle.compiled_schema.specs.Usable.{set_of}
use Rattle.compiled_schema.specs.declared.compiled.Compiled.{Compiled}
use Rattle.model_terms.specs.Symbols.{child_symbols}
use Rattle.model_terms.specs.Terms.{stuck_in, term_in, terms_in}
use Rattle.model_terms.proofs.Runs.{runs-are}
use Rattle.model_lists.specs.Lists.{ListsView}
use Rattle.doc_nodes.specs.Nodes.{Nodes, element_children}
use Rattle.doc_changes.specs.Readers.{name_at, own_chars, own_scope, scope_at}
use Rattle.doc_changes.proofs.Reading.{scope_below, scope_root, depth_below}
use Rattle.doc_readers.specs.Heads.{readers_of, texts_named}
use Rattle.doc_readers.proofs.Showing.{name_shown, texts_shown, scope_shown}
use Rattle.kept_records.specs.Slots.{KeptSlots, IsMade, kept_at, entry_at, pair_at, record_at}
use Rattle.kept_records.specs.Fit.{models_of, head_at, model_at, symbols_at, shape_at}
use Rattle.kept_records.specs.Found.{AreSettled, SaysKept, read_as, found_in}
use Rattle.kept_records.proofs.Modelled.{type-fits}
use Rattle.kept_records.proofs.Nodes.{all-of, shown, child-parent, root-numbers, root-there}
use Rattle.kept_records.proofs.Made.{fit-at, given-at, read, made-elements, elements-made, children-elements, node-there, root-parent}

symbols-each : (t : NameTable) (m : Option ContentAutomaton) (names : List ℕ) → length (child_symbols t m names) ≡ length names
symbols-each t None names = length-map names _
symbols-each t (Some a) names = length-map names _

names-of-heads : (s : SchemaSet) (ns : Nodes) (xs : List ℕ) → names_of (map (head_at s ns) xs) ≡ map (name_at ns) xs
names-of-heads s ns [] = refl
names-of-heads s ns (x ∷ xs) = ap (λ l. name_at ns x ∷ l) (names-of-heads s ns xs)

-- ---- what governs child elements, one after another

module _ (s : SchemaSet) (ks : KeptSlots) (g : Governing) (m : Option ContentAutomaton) (symbols : List ℕ) (h : ℕ → Head) where
  abbrev pair-by : ℕ → ℕ → Governing
  pair-by place child = govern_child s.names s.parts g.mode (term_in m symbols place) (h child).name (h child).xsi (h child).scope

  governed-from : (xs : List ℕ) (from : ℕ) → ((i x : ℕ) → slice_get xs i ≡ Some x → pair_at ks x ≡ pair-by (from + i) x) →
      map (pair_at ks) xs ≡ governed s g (map (term_in m symbols) (range_with_len from (length xs))) (map h xs)
  governed-from [] from given = refl
  governed-from (x ∷ xs) from given =
      let first : pair_at ks x ≡ pair-by from x = (let e : from + 0 ≡ from = omega arith in given 0 x refl ∙ ap (λ j. pair-by j x) e) in
      let rest = governed-from xs (from + 1) (λ i y e. let same : from + suc i ≡ from + 1 + i = omega arith in given (suc i) y e ∙ ap (λ j. pair-by j y) same) in
      ap (λ p. p ∷ map (pair_at ks) xs) first ∙ ap (λ l. pair-by from x ∷ l) rest

module _ (c : Compiled) (ns : Nodes) (ks : KeptSlots) (v : ListsView) (ids : List Found) (d : Document) (a : AreSettled c ns ks v ids d) (b : Beside) (says : SaysKept b ks ids) where
  abbrev s : SchemaSet
  s = set_of c

  abbrev r : Readers
  r = readers_of c.names ns

  abbrev k : ℕ → Kept
  k = read_as ns ks

  abbrev local-head : ℕ → Head
  local-head = local.head_at s b r k

  head-is : (n : ℕ) → HasElement n d.forest → local-head n ≡ head_at s ns n
  head-is n h =
      let name = name_shown c.names ns d a.over.stands n (shown c.names ns d.forest a.over.stands.nodes n h) in
      let texts = texts_shown c.names ns d a.over.stands n in
      λ i. record { name = name i; xsi = instance_text c.names (texts i) TypeName; scope = scope_at ns n }

  heads-are : (xs : List ℕ) → All (λ m. HasElement m d.forest) xs → map local-head xs ≡ map (head_at s ns) xs
  heads-are [] h = refl
  heads-are (x ∷ xs) h =
      let P : ℕ → Type 0 = λ m. HasElement m d.forest in
      ap (λ l. l ∷ map local-head xs) (head-is x (All-head P x xs h)) ∙ ap (λ l. head_at s ns x ∷ l) (heads-are xs (All-tail P x xs h))

  module _ (n : ℕ) (made : IsMade ks n) where
    abbrev inner : List ℕ
    inner = element_children ns n

    abbrev model : Option ContentAutomaton
    model = model_at s (models_of c) ns ks n

    abbrev symbols : List ℕ
    symbols = symbols_at s (models_of c) ns ks n

    child-scope : (i x : ℕ) → slice_get inner i ≡ Some x → IsScoped s b r k (scope_at ns n) x
    child-scope i x e =
        let own = node-there c ns ks v ids d a n made in
        let up = child-parent ns a.over.stands.links n own.0 own.1 i x e in
        scope_below ns n x up (depth_below ns n x a.over.stands.links up) ∙ sym (scope_shown c.names ns d a.over.stands x (scope_at ns n))

    child-heads : map local-head inner ≡ map (head_at s ns) inner
    child-heads = heads-are inner (children-elements c ns ks v ids d a n made)

    child-names : names_of (map local-head inner) ≡ map (name_at ns) inner
    child-names = ap names_of child-heads ∙ names-of-heads s ns inner

    terms-are : AreTerms s (content_particle s.parts (pair_at ks n).of) (names_of (map local-head inner)) (kept_at ks n).stuck (terms_in model symbols)
    terms-are =
        let run = runs-are s (content_particle s.parts (pair_at ks n).of) model (map (name_at ns) inner) (type-fits c a.over.usable.first a.over.usable.models_are (pair_at ks n).of) in
        let placed = subst (λ (stuck : Option ℕ). AreTerms s (content_particle s.parts (pair_at ks n).of) (map (name_at ns) inner) stuck (terms_in model symbols))
        (sym (fit-at c ns ks v ids d a n made).gathered.stuck_is) run in
        subst (λ (names : List ℕ). AreTerms s (content_particle s.parts (pair_at ks n).of) names (kept_at ks n).stuck (terms_in model symbols)) (sym child-names) placed

    pairs-are : map (pair_at ks) inner ≡ governed s (pair_at ks n) (terms_in model symbols) (map local-head inner)
    pairs-are =
        let each : length inner ≡ length symbols = sym (symbols-each c.names model (map (name_at ns) inner) ∙ length-map inner (name_at ns)) in
        governed-from s ks (pair_at ks n) model symbols (head_at s ns) inner 0
        (λ i x e. let same : i ≡ 0 + i = omega arith in (given-at c ns ks v ids d a n made i x e).pair_is ∙ ap (λ j. pair-by s ks (pair_at ks n) model symbols (head_at s ns) j x) same)
        ∙ ap (λ size. governed s (pair_at ks n) (map (term_in model symbols) (range_with_len 0 size)) (map (head_at s ns) inner)) each
        ∙ ap (governed s (pair_at ks n) (terms_in model symbols)) (sym child-heads)

    shape-is : local.shape_at s b r k n ≡ shape_at s ns ks ids n
    shape-is =
        let head = head-is n (elements-made c ns ks v ids d a n made) in
        let texts = texts_shown c.names ns d a.over.stands n in
        let identity = says.identity n made in
        let codes = says.ids n made in
        λ i. shape_of (head i) (texts i) (own_chars ns n) (kept_at ks n).stuck (kept_at ks n).counts (identity i) (codes i)

    pub settled-at : IsSettled s b r k n
    settled-at = record {
      number_is = (fit-at c ns ks v ids d a n made).gathered.number_is;
      scopes = all-of (IsScoped s b r k (scope_at ns n)) inner child-scope;
      terms = terms_in model symbols;
      attributed = terms-are;
      pairs = pairs-are;
      counts_are = (fit-at c ns ks v ids d a n made).gathered.counts_are;
      known = subst (λ (shape : ElementShape). AreJudged s shape (entry_at ks n)) (sym shape-is) (fit-at c ns ks v ids d a n made).known;
    }

  -- ---- the root

  root-read : (f : Forest) → HasRoot f → AreRead r f → heads c.names first_scope f ≡
      record { name = name_in c.names (r.name 1); xsi = instance_text c.names (named_texts c.names (r.attributes 1)) TypeName; scope = scope_in c.names (r.bindings 1) first_scope } ∷ []
  root-read none h is = absurd h
  root-read (text number chars next) h is = absurd h
  root-read (element number name bindings attributes children next) h is =
      let own_name = sym is.0.name_is ∙ ap r.name h.0 in
      let own_attributes = sym is.0.attributes_are ∙ ap r.attributes h.0 in
      let own_bindings = sym is.0.bindings_are ∙ ap r.bindings h.0 in
      λ i. record { name = name_in c.names (own_name i); xsi = instance_text c.names (named_texts c.names (own_attributes i)) TypeName; scope = scope_in c.names (own_bindings i) first_scope }
      ∷ heads c.names first_scope (h.1 i)

  root-scope : scope_at ns 1 ≡ scope_in c.names (r.bindings 1) first_scope
  root-scope = scope_root ns 1 (root-parent c ns ks v ids d a) ∙ sym (scope_shown c.names ns d a.over.stands 1 first_scope)

  root-heads : heads c.names first_scope d.forest ≡ head_at s ns 1 ∷ []
  root-heads =
      let name = name_shown c.names ns d a.over.stands 1 (shown c.names ns d.forest a.over.stands.nodes 1 (root-there d.forest a.over.stands.tree.root)) in
      let texts = texts_shown c.names ns d a.over.stands 1 in
      let scope = sym root-scope in
      root-read d.forest a.over.stands.tree.root (read c ns ks v ids d a) ∙ (λ i. record { name = name i; xsi = instance_text c.names (texts i) TypeName; scope = scope i } ∷ [])

  pub roots : AreRoots s b r k d.forest
  roots =
      let numbers = root-numbers d.forest a.over.stands.tree.root in
      record {
        scopes = subst (All (IsScoped s b r k first_scope)) (sym numbers) (All-cons (IsScoped s b r k first_scope) 1 [] root-scope (All-nil (IsScoped s b r k first_scope)));
        pairs = ap (map (pair_at ks)) numbers ∙ ap (λ p. p ∷ []) a.top.pair_is ∙ ap (root_pairs s) (sym root-heads);
      }

  pub assessed : IsAssessment s b d.forest (found_in ns ks d.forest)
  assessed = assessment s b r k d.forest (read c ns ks v ids d a) (λ n h. settled-at n (made-elements c ns ks v ids d a n h)) roots
