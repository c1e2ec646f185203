-- What governs each element of a document, by the numbers of its nodes.
use Rattle.std.proofs.Common.{◌≡◌, ℕ, zero, suc, ◌+◌, List, [], ◌∷◌, ◌++◌, length, map, All, Option, None, Some, refl, sym, ap, ◌∙◌, subst, inl, inr, arith}
use Rattle.std.specs.Prelude.{slice_get}
use Rattle.std.specs.List.{range_with_len}
use Rattle.std.proofs.lemmas.List.{length-map}
use Rattle.std.proofs.lemmas.List.Elements.{All-nil, All-cons, All-head, All-tail}
use Rattle.std.proofs.lemmas.Option.{same_Some, none-some}
use Rattle.xs_names.specs.Names.{NameTable}
use Rattle.xs_names.specs.Scope.{first_scope}
use Rattle.tree_rows.specs.Forest.{Forest, none, text, element, Document}
use Rattle.tree_rows.specs.Whole.{HasRoot}
use Rattle.tree_rows.specs.declared.name.Expanded.{Expanded}
use Rattle.tree_rows.specs.declared.row.Attribute.{Attribute}
use Rattle.tree_rows.specs.declared.row.Binding.{Binding}
use Rattle.assess_records.specs.Instance.{instance_text}
use Rattle.assess_records.specs.declared.instance_names.InstanceAttribute.TheVariants.{TypeName}
use Rattle.assess_records.specs.Numbered.{Scope, Head, name_in, head_of, heads, names_of, scope_in}
use Rattle.elem_governing.specs.declared.pairs.Governing.{Governing}
use Rattle.content_models.specs.declared.automaton.ContentAutomaton.{ContentAutomaton}
use Rattle.assessment.specs.Attribution.{SchemaSet, content_particle, AreTerms}
use Rattle.assessment.specs.Assessment.{first_pair, other_pairs, governed, root_pairs}
use Rattle.assessment.specs.Local.{AreRead, IsRead, HasElement, element_numbers}
use Rattle.assessment_laws.proofs.Terms.{terms-are}
use Rattle.assessment_laws.specs.Governed.{AreInner, AreGoverned, AreGovernings}
use Rattle.compiled_schema.specs.Usable.{IsUsable, set_of}
use Rattle.compiled_schema.specs.declared.compiled.Compiled.{Compiled}
use Rattle.model_terms.specs.Symbols.{child_symbols}
use Rattle.model_terms.specs.Terms.{stuck_in, term_in, terms_in}
use Rattle.model_terms.proofs.Runs.{runs-are}
use Rattle.doc_nodes.specs.Nodes.{Node, Nodes, IsNode, element_children}
use Rattle.doc_changes.specs.Held.{parent_at}
use Rattle.doc_changes.specs.Stands.{StandFor, StandsFor}
use Rattle.doc_changes.specs.Readers.{name_at, own_scope, scope_at}
use Rattle.doc_changes.proofs.Reading.{are_read, scope_below, scope_root, depth_below}
use Rattle.doc_readers.specs.Heads.{readers_of, texts_named}
use Rattle.doc_readers.proofs.Reading.{readers_are}
use Rattle.doc_readers.proofs.Showing.{name_shown, texts_shown, scope_shown}
use Rattle.kept_changes.specs.from_kept_records.Fit.{models_of, head_at}
use Rattle.kept_changes.proofs.from_kept_records.Modelled.{type-fits}
use Rattle.kept_changes.proofs.from_kept_records.Nodes.{all-of, shown, child-parent, root-numbers}
use Rattle.kept_changes.proofs.from_kept_forgetting.Depths.{root-parent}
use Rattle.kept_changes.specs.from_kept_judging.Judged.{root_pair, given_pair, pair_by}

symbols-each : (t : NameTable) (m : Option ContentAutomaton) (names : List ℕ) → length (child_symbols t m names) ≡ length names
symbols-each t None names = length-map names _
symbols-each t (Some a) names = length-map names _

names-of-heads : (s : SchemaSet) (ns : Nodes) (xs : List ℕ) → names_of (map (head_at s ns) xs) ≡ map (name_at ns) xs
names-of-heads s ns [] = refl
names-of-heads s ns (x ∷ xs) = ap (λ (l : List ℕ). name_at ns x ∷ l) (names-of-heads s ns xs)

module _ (c : Compiled) (usable : IsUsable c) (ns : Nodes) (d : Document) (z : StandsFor c.names ns d) (governs : ℕ → Governing) where
  abbrev s : SchemaSet
  s = set_of c

  -- elements stand below one with this scope
  abbrev IsIn : Scope → ℕ → Type 0
  IsIn scope m = scope_at ns m ≡ own_scope ns m ++ scope

  module _ (number : ℕ) (name : Expanded) (bindings : List Binding) (attributes : List Attribute) (children : Forest) (r : IsRead (readers_of c.names ns) number name bindings attributes children) where
    inside-is : (scope : Scope) → IsIn scope number → scope_in c.names bindings scope ≡ scope_at ns number
    inside-is scope own =
        ap (λ (bs : List Binding). scope_in c.names bs scope) (sym r.bindings_are) ∙ scope_shown c.names ns d z number scope ∙ sym own

    head-is : (scope : Scope) → IsIn scope number → HasElement number d.forest → head_of c.names scope name bindings attributes ≡ head_at s ns number
    head-is scope own has =
        let named = ap (name_in c.names) (sym r.name_is) ∙ name_shown c.names ns d z number (shown c.names ns d.forest z.nodes number has) in
        let texts = ap (λ (xs : List Attribute). instance_text c.names (map (λ (a : Attribute). record { name = name_in c.names a.name; text = a.value }) xs) TypeName) (sym r.attributes_are)
        ∙ ap (λ xs. instance_text c.names xs TypeName) (texts_shown c.names ns d z number) in
        let scoped = inside-is scope own in
        λ i. record { name = named i; xsi = texts i; scope = scoped i }

  children-in : (number : ℕ) (it : Node) → IsNode ns number it → All (IsIn (scope_at ns number)) (element_children ns number)
  children-in number it is = all-of (IsIn (scope_at ns number)) (element_children ns number) (λ place child e.
      let up = child-parent ns z.links number it is place child e in
      scope_below ns number child up (depth_below ns number child z.links up))

  -- ---- siblings that are governed by their terms

  heads-are : (f : Forest) (scope : Scope) → AreRead (readers_of c.names ns) f → ((m : ℕ) → HasElement m f → HasElement m d.forest) → All (IsIn scope) (element_numbers f) →
      heads c.names scope f ≡ map (head_at s ns) (element_numbers f)
  heads-are none scope r has in_scope = refl
  heads-are (text number chars next) scope r has in_scope = heads-are next scope r has in_scope
  heads-are (element number name bindings attributes children next) scope r has in_scope =
      let own = head-is number name bindings attributes children r.0 scope (All-head (IsIn scope) number (element_numbers next) in_scope) (has number (inl refl)) in
      let rest = heads-are next scope r.2 (λ m h. has m (inr (inr h))) (All-tail (IsIn scope) number (element_numbers next) in_scope) in
      ap (λ (h : Head). h ∷ heads c.names scope next) own ∙ ap (λ (hs : List Head). head_at s ns number ∷ hs) rest

  module _ (g : Governing) (m : Option ContentAutomaton) (symbols : List ℕ) where
    abbrev given-from : ℕ → Forest → Scope → List Governing
    given-from from f scope = governed s g (map (term_in m symbols) (range_with_len from (length (element_numbers f)))) (heads c.names scope f)

    given-at : (f : Forest) (scope : Scope) (from : ℕ) → AreGoverned s governs scope (given-from from f scope) f → AreRead (readers_of c.names ns) f → ((k : ℕ) → HasElement k f → HasElement k d.forest) →
        All (IsIn scope) (element_numbers f) → (i child : ℕ) → slice_get (element_numbers f) i ≡ Some child → governs child ≡ given_pair s g (term_in m symbols (from + i)) (head_at s ns child)
    given-at none scope from are r has in_scope i child e = absurd (none-some child e)
    given-at (text number chars next) scope from are r has in_scope i child e = given-at next scope from are r has in_scope i child e
    given-at (element number name bindings attributes children next) scope from are r has in_scope zero child e =
        let own = head-is number name bindings attributes children r.0 scope (All-head (IsIn scope) number (element_numbers next) in_scope) (has number (inl refl)) in
        let same = same_Some number child e in
        let here : from ≡ from + 0 = omega arith in
        ap governs (sym same) ∙ are.1 ∙ ap (given_pair s g (term_in m symbols from)) own
        ∙ ap (λ (n : ℕ). given_pair s g (term_in m symbols from) (head_at s ns n)) same
        ∙ ap (λ (n : ℕ). given_pair s g (term_in m symbols n) (head_at s ns child)) here
    given-at (element number name bindings attributes children next) scope from are r has in_scope (suc i) child e =
        let there : from + 1 + i ≡ from + suc i = omega arith in
        given-at next scope (from + 1) are.4 r.2 (λ k h. has k (inr (inr h))) (All-tail (IsIn scope) number (element_numbers next) in_scope) i child e
        ∙ ap (λ (n : ℕ). given_pair s g (term_in m symbols n) (head_at s ns child)) there

  -- the child elements of one element
  module _ (number : ℕ) (children : Forest) (inside : Scope) (g : Governing) (inner : List Governing) (are : AreInner s g (heads c.names inside children) inner) (down : AreGoverned s governs inside inner children)
      (r : AreRead (readers_of c.names ns) children) (has : (m : ℕ) → HasElement m children → HasElement m d.forest) (in_scope : All (IsIn inside) (element_numbers children))
      (numbers : element_children ns number ≡ element_numbers children) where
    abbrev model : Option ContentAutomaton
    model = models_of c g.of

    abbrev names : List ℕ
    names = map (name_at ns) (element_children ns number)

    abbrev symbols : List ℕ
    symbols = child_symbols c.names model names

    names-are : names_of (heads c.names inside children) ≡ names
    names-are =
        ap names_of (heads-are children inside r has in_scope) ∙ names-of-heads s ns (element_numbers children) ∙ ap (map (name_at ns)) (sym numbers)

    size-is : length symbols ≡ length (element_numbers children)
    size-is = symbols-each c.names model names ∙ length-map (element_children ns number) (name_at ns) ∙ ap (λ (xs : List ℕ). length xs) numbers

    inner-is : inner ≡ given-from g model symbols 0 children inside
    inner-is =
        let run = runs-are s (content_particle c.parts g.of) model names (type-fits c usable.first usable.models_are g.of) in
        let mine = subst (λ (xs : List ℕ). AreTerms s (content_particle c.parts g.of) xs are.stuck are.terms) names-are are.attributed in
        let same = terms-are s (content_particle c.parts g.of) names are.stuck (stuck_in model symbols) are.terms (terms_in model symbols) mine run in
        are.inner_is ∙ ap (λ (terms : List (Option ℕ)). governed s g terms (heads c.names inside children)) same.1
        ∙ ap (λ (size : ℕ). governed s g (map (term_in model symbols) (range_with_len 0 size)) (heads c.names inside children)) size-is

    child-given : (place child : ℕ) → slice_get (element_children ns number) place ≡ Some child → governs child ≡ pair_by c ns g number place child
    child-given place child e =
        let here : 0 + place ≡ place = omega arith in
        given-at g model symbols children inside 0 (subst (λ (ps : List Governing). AreGoverned s governs inside ps children) inner-is down) r has in_scope place child
        (ap (λ (xs : List ℕ). slice_get xs place) (sym numbers) ∙ e)
        ∙ ap (λ (n : ℕ). given_pair s g (term_in model symbols n) (head_at s ns child)) here

  -- ---- all elements

  abbrev IsGivenDown : ℕ → Type 0
  IsGivenDown n = (place child : ℕ) → slice_get (element_children ns n) place ≡ Some child → governs child ≡ pair_by c ns (governs n) n place child

  by-number : (f : Forest) (scope : Scope) (pairs : List Governing) → AreGoverned s governs scope pairs f → StandFor c.names ns f → AreRead (readers_of c.names ns) f → ((m : ℕ) → HasElement m f → HasElement m d.forest) →
      All (IsIn scope) (element_numbers f) → (n : ℕ) → HasElement n f → IsGivenDown n
  by-number none scope pairs are st r has in_scope n h = absurd h
  by-number (text number chars next) scope pairs are st r has in_scope n h = by-number next scope pairs are st.1 r has in_scope n h
  by-number (element number name bindings attributes children next) scope pairs are st r has in_scope n h =
      let own = All-head (IsIn scope) number (element_numbers next) in_scope in
      let inside = inside-is number name bindings attributes children r.0 scope own in
      let kids : All (IsIn (scope_in c.names bindings scope)) (element_numbers children) =
      subst (λ (x : Scope). All (IsIn x) (element_numbers children)) (sym inside) (subst (All (IsIn (scope_at ns number))) r.0.children_are (children-in number st.0.it st.0.is)) in
      elim h [
        | inl e ↦ subst IsGivenDown e (λ place child at.
            child-given number children (scope_in c.names bindings scope) (first_pair pairs) are.0 are.2 are.3 r.1 (λ m g. has m (inr (inl g))) kids r.0.children_are place child at
            ∙ ap (λ (g : Governing). pair_by c ns g number place child) (sym are.1))
        | inr more ↦ elim more [
          | inl below ↦ by-number children (scope_in c.names bindings scope) are.0 are.3 st.1 r.1 (λ m g. has m (inr (inl g))) kids n below
          | inr later ↦ by-number next scope (other_pairs pairs) are.4 st.2 r.2 (λ m g. has m (inr (inr g))) (All-tail (IsIn scope) number (element_numbers next) in_scope) n later
        ]
      ]

  module _ (are : AreGovernings s governs d.forest) where
    root-in : All (IsIn first_scope) (element_numbers d.forest)
    root-in =
        subst (All (IsIn first_scope)) (sym (root-numbers d.forest z.tree.root))
        (All-cons (IsIn first_scope) 1 [] (scope_root ns 1 (root-parent c.names ns d z)) (All-nil (IsIn first_scope)))

    whole-read : AreRead (readers_of c.names ns) d.forest
    whole-read = readers_are c.names ns d.forest (are_read c.names ns d.forest z.nodes)

    pub given-down : (n : ℕ) → HasElement n d.forest → IsGivenDown n
    given-down n h = by-number d.forest first_scope (root_pairs s (heads c.names first_scope d.forest)) are z.nodes whole-read (λ m g. g) root-in n h

    root-by : (f : Forest) → HasRoot f → AreGoverned s governs first_scope (root_pairs s (heads c.names first_scope f)) f → heads c.names first_scope f ≡ head_at s ns 1 ∷ [] → governs 1 ≡ root_pair s (head_at s ns 1)
    root-by none h a e = absurd h
    root-by (text number chars next) h a e = absurd h
    root-by (element number name bindings attributes children next) h a e =
        ap governs (sym h.0) ∙ a.1 ∙ ap (λ (hs : List Head). first_pair (root_pairs s hs)) e

    pub root-given : governs 1 ≡ root_pair s (head_at s ns 1)
    root-given =
        root-by d.forest z.tree.root are
        (heads-are d.forest first_scope whole-read (λ m g. g) root-in ∙ ap (map (head_at s ns)) (root-numbers d.forest z.tree.root))
