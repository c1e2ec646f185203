-- A place among the children of an element, by what is kept of these.
use Rattle.std.proofs.Common.{◌≡◌, ℕ, zero, suc, ◌<◌, ◌≤◌, List, [], ◌∷◌, Bool, true, false, cond, nat_lt, Option, None, Some, Err, length, map, take, drop, refl, sym, ap, ◌∙◌, subst, arith}
use Rattle.std.specs.Prelude.{filter, unwrap_or, if◌then◌else◌}
use Rattle.std.proofs.lemmas.Bool.{lt-ltb, le-ltb}
use Rattle.tree_rows.specs.declared.name.Expanded.{Expanded}
use Rattle.tree_rows.specs.declared.row.Attribute.{Attribute}
use Rattle.tree_rows.specs.declared.row.Binding.{Binding}
use Rattle.model_terms.specs.Symbols.{child_symbols}
use Rattle.std.specs.Option.{option_map, option_and_then}
use Rattle.std.proofs.lemmas.List.{length-map}
use Rattle.xs_names.specs.Names.{NameTable, IsSound}
use Rattle.tree_rows.specs.Forest.{Forest, none, text, element}
use Rattle.tree_rows.specs.Kinds.{kind_of}
use Rattle.tree_rows.specs.declared.row.NodeKind.{NodeKind}
use Rattle.tree_rows.specs.declared.row.NodeKind.TheVariants as kinds
use Rattle.plain_tree.specs.Numbers.{name_in}
use Rattle.tree_edits.specs.Edits.{width}
use Rattle.content_automaton.specs.Symbols.{symbol_of}
use Rattle.content_automaton.specs.Terms.{ExpandedName, name_at}
use Rattle.content_models.specs.Built.{symbols_of}
use Rattle.content_models.specs.declared.automaton.ContentAutomaton.{ContentAutomaton}
use Rattle.assessment.specs.Attribution.{SchemaSet, content_particle}
use Rattle.assessment.specs.Assessment.{Entry}
use Rattle.assessment.specs.Fitting.{Fits, IsAutomatonFor}
use Rattle.compiled_schema.specs.Usable.{set_of}
use Rattle.compiled_schema.specs.declared.compiled.Compiled.{Compiled}
use Rattle.tree_assess.specs.Entries.{entry_of}
use Rattle.model_lists.specs.Lists.{ListsView, IsListOf}
use Rattle.model_lists.specs.declared.handle.ModelList.{ModelList}
use Rattle.session_model.specs.State.{State}
use Rattle.doc_nodes.specs.Nodes.{Nodes, node, is_element, is_element_by, is_element_at, children_by, element_children}
use Rattle.doc_changes.specs.Held.{kind_in, kind_at}
use Rattle.doc_changes.specs.Held as held
use Rattle.doc_changes.specs.Stands.{firsts, IsText, IsElement, StandFor, StandsFor}
use Rattle.doc_changes.proofs.Holding.{element_of, holds_element}
use Rattle.doc_changes.specs.Readers as readers
use Rattle.doc_changes.proofs.Named.{name_back}
use Rattle.doc_tree.proofs.Answering.{kind_is}
use Rattle.doc_edits.proofs.Placing.{width_firsts}
use Rattle.kept_records.specs.declared.element.KeptElement.{KeptElement}
use Rattle.kept_records.specs.Slots.{IsMade, blank, kept_at, pair_at}
use Rattle.kept_records.specs.Fit.{models_of, IsListed, symbols_at}
use Rattle.kept_records.proofs.Made.{fit-at, made-elements}
use Rattle.kept_records.proofs.Modelled.{type-fits}
use Rattle.kept_records.proofs.Nodes.{has-element}
use Rattle.kept_inverses.specs.from_kept_state.KeptState.{KeptState}
use Rattle.kept_next.specs.Place.{ListPlace, IsListBy, IsPlaceBy, children_in}
use Rattle.kept_next.specs.Spaces.{HasSpacesNamed}
use Rattle.kept_next.proofs.Places.{children-many}
use Rattle.edit_session.specs.Around.{IsAroundAt, asked_at, asked_by, asked_of, type_at, children_at, children_by as found_children, sibling_names, names_before, names_behind}
use Rattle.edit_session.specs.Held.{document_in, IsPresent, state_by}
use Rattle.edit_session.specs.declared.around.AroundError.{AroundError}
use Rattle.edit_session.specs.declared.around.AroundError.TheVariants as errors
use Rattle.kept_records.proofs.Kept.{entry-is}
use Rattle.edit_session.proofs.Standing.{settled}

-- ---- the names of child elements

fewer : (p : ℕ → Bool) (i : ℕ) (xs : List ℕ) → length (filter p (take i xs)) ≤ length (filter p xs)
fewer p zero [] = omega arith
fewer p (suc i) [] = omega arith
fewer p zero (x ∷ xs) = omega arith
fewer p (suc i) (x ∷ xs) = elim (p x) as (λ b. length (cond b (x ∷ filter p (take i xs)) (filter p (take i xs))) ≤ length (cond b (x ∷ filter p xs) (filter p xs))) [
  | true ↦ (let r = fewer p i xs in omega (arith, r))
  | false ↦ fewer p i xs
]

filtered-few : (p : ℕ → Bool) (xs : List ℕ) → length (filter p xs) ≤ length xs
filtered-few p [] = omega arith
filtered-few p (x ∷ xs) = elim (p x) as (λ b. length (cond b (x ∷ filter p xs) (filter p xs)) ≤ suc (length xs)) [
  | true ↦ (let r = filtered-few p xs in omega (arith, r))
  | false ↦ (let r = filtered-few p xs in omega (arith, r))
]

module _ (t : NameTable) (ns : Nodes) (sound : IsSound t) where
  -- the name of an element by its number
  abbrev pub name_of : ℕ → ExpandedName
  name_of n = name_at t (readers.name_at ns n)

  abbrev pub names_among : List ℕ → List ExpandedName
  names_among numbers = map name_of (filter (is_element_at ns) numbers)

  text-is : (number : ℕ) (chars : List ℕ) → IsText ns number chars → is_element_at ns number ≡ false
  text-is number chars s = ap is_element_by s.is ∙ ap is_element s.content

  module _ (number : ℕ) (name : Expanded) (bindings : List Binding) (attributes : List Attribute) (children : Forest) (s : IsElement t ns number name bindings attributes children) where
    element-is : is_element_at ns number ≡ true
    element-is = ap is_element_by s.is ∙ ap is_element s.content

    own-name : readers.name_at ns number ≡ s.parts.name
    own-name = ap readers.name_by s.is ∙ ap (λ c. unwrap_or (held.name_in c) 0) s.content

    named : name_of number ≡ name_at t (name_in t name)
    named = ap (name_at t) (own-name ∙ sym (ap (name_in t) (sym s.name_is) ∙ name_back t sound s.parts.name s.known.name))

  -- one sibling before others: of those up to a place, and of all
  text-first : (number : ℕ) (chars : List ℕ) (more : List ℕ) → IsText ns number chars → filter (is_element_at ns) (number ∷ more) ≡ filter (is_element_at ns) more
  text-first number chars more s = ap (λ b. cond b (number ∷ filter (is_element_at ns) more) (filter (is_element_at ns) more)) (text-is number chars s)

  element-first : (number : ℕ) (more : List ℕ) → is_element_at ns number ≡ true → filter (is_element_at ns) (number ∷ more) ≡ number ∷ filter (is_element_at ns) more
  element-first number more is = ap (λ b. cond b (number ∷ filter (is_element_at ns) more) (filter (is_element_at ns) more)) is

  all-named : (f : Forest) → StandFor t ns f → names_among (firsts f) ≡ sibling_names t f
  all-named none s = refl
  all-named (text number chars next) s = ap (map name_of) (text-first number chars (firsts next) s.0) ∙ all-named next s.1
  all-named (element number name bindings attributes children next) s =
      ap (map name_of) (element-first number (firsts next) (element-is number name bindings attributes children s.0))
      ∙ (λ i. named number name bindings attributes children s.0 i ∷ all-named next s.2 i)

  -- so many elements there are before a place
  abbrev pub upto : ℕ → List ℕ → ℕ
  upto place numbers = length (filter (is_element_at ns) (take place numbers))

  before-named : (place : ℕ) (f : Forest) → StandFor t ns f → take (upto place (firsts f)) (names_among (firsts f)) ≡ names_before t place f
  before-named place none s = take-none (upto place [])
    where
      take-none : (n : ℕ) → take {A = ExpandedName} n [] ≡ []
      take-none zero = refl
      take-none (suc n) = refl
  before-named zero (text number chars next) s = refl
  before-named (suc place) (text number chars next) s =
      (λ i. take (length (text-first number chars (take place (firsts next)) s.0 i)) (map name_of (text-first number chars (firsts next) s.0 i)))
      ∙ before-named place next s.1
  before-named zero (element number name bindings attributes children next) s = refl
  before-named (suc place) (element number name bindings attributes children next) s =
      let is = element-is number name bindings attributes children s.0 in
      (λ i. take (length (element-first number (take place (firsts next)) is i)) (map name_of (element-first number (firsts next) is i)))
      ∙ (λ i. named number name bindings attributes children s.0 i ∷ before-named place next s.2 i)

  behind-named : (place : ℕ) (f : Forest) → StandFor t ns f → drop (upto place (firsts f)) (names_among (firsts f)) ≡ names_behind t place f
  behind-named place none s = drop-none (upto place [])
    where
      drop-none : (n : ℕ) → drop {A = ExpandedName} n [] ≡ []
      drop-none zero = refl
      drop-none (suc n) = refl
  behind-named zero (text number chars next) s = all-named (text number chars next) s
  behind-named (suc place) (text number chars next) s =
      (λ i. drop (length (text-first number chars (take place (firsts next)) s.0 i)) (map name_of (text-first number chars (firsts next) s.0 i)))
      ∙ behind-named place next s.1
  behind-named zero (element number name bindings attributes children next) s = all-named (element number name bindings attributes children next) s
  behind-named (suc place) (element number name bindings attributes children next) s =
      let is = element-is number name bindings attributes children s.0 in
      (λ i. drop (length (element-first number (take place (firsts next)) is i)) (map name_of (element-first number (firsts next) is i)))
      ∙ behind-named place next s.2

-- ---- why there is no place

module _ (s : State) (ns : Nodes) (node_number place : ℕ) (z : StandsFor s.set.names ns s.document) where
  refused-kind : (kind : Option NodeKind) (e : AroundError) → kind ≡ kind_of node_number s.document.forest → asked_of s node_number place kind ≡ Err e → asked_at s node_number place ≡ Err e
  refused-kind kind e is why = ap (asked_of s node_number place) (sym is) ∙ why

  -- an element has as many children as its node
  children-of : kind_at ns node_number ≡ Some kinds.Element → (below : Forest) × StandFor s.set.names ns below × (children_by (node ns node_number) ≡ firsts below) × (children_at s.document node_number ≡ below)
  children-of kind =
      let held_one = holds_element ns node_number kind in
      let of = element_of s.set.names ns s.document z node_number held_one.it held_one.e held_one.is held_one.holds in
      (of.children, of.below, ap children_by of.shown.is ∙ of.shown.children_are, ap found_children of.is_found)

  pub width-is : kind_at ns node_number ≡ Some kinds.Element → width (children_at s.document node_number) ≡ length (children_by (node ns node_number))
  width-is kind =
      let c = children-of kind in
      ap width c.3 ∙ width_firsts c.0 ∙ ap length (sym c.2)

  by-width : (less : Bool) → nat_lt (width (children_at s.document node_number)) place ≡ less → (if less then Err errors.BadIndex else asked_by s node_number place (content_particle s.set.parts (type_at s node_number)))
      ≡ asked_of s node_number place (Some kinds.Element)
  by-width less is = ap (λ (b : Bool). if b then Err errors.BadIndex else asked_by s node_number place (content_particle s.set.parts (type_at s node_number))) (sym is)

  pub refused-index : kind_at ns node_number ≡ Some kinds.Element → Some kinds.Element ≡ kind_of node_number s.document.forest → length (children_by (node ns node_number)) < place → asked_at s node_number place ≡ Err errors.BadIndex
  refused-index kind is past =
      let many = width-is kind in
      refused-kind (Some kinds.Element) errors.BadIndex is (sym (by-width true (lt-ltb (width (children_at s.document node_number)) place (omega (arith, many, past)))))

  pub asked-element : kind_at ns node_number ≡ Some kinds.Element → Some kinds.Element ≡ kind_of node_number s.document.forest → place ≤ length (children_by (node ns node_number)) → (p : Option ℕ) → content_particle s.set.parts (type_at s node_number) ≡ p
      → asked_at s node_number place ≡ asked_by s node_number place p
  asked-element kind is within p content =
      let many = width-is kind in
      ap (asked_of s node_number place) (sym is)
      ∙ sym (by-width false (le-ltb (width (children_at s.document node_number)) place (omega (arith, many, within))))
      ∙ ap (asked_by s node_number place) content

-- ---- the place of an element

module _ (c : Compiled) (ns : Nodes) (k : KeptState) (present : IsPresent c ns k) (spaced : HasSpacesNamed (set_of c)) (n : ℕ) (kind : kind_at ns n ≡ Some kinds.Element) where
  pub stands : StandsFor c.names ns (document_in c ns)
  stands = (settled c ns k present.whole).over.stands

  known : Some kinds.Element ≡ kind_of n (document_in c ns).forest
  known = sym kind ∙ kind_is c.names ns (document_in c ns) stands n (node ns n) refl

  is-element : is_element_at ns n ≡ true
  is-element = let held_one = holds_element ns n kind in ap is_element_by held_one.is ∙ ap is_element held_one.holds

  pub made : IsMade k.records.slots n
  made = made-elements c ns k.records.slots k.lists k.root_ids (document_in c ns) (settled c ns k present.whole) n (has-element c.names ns (document_in c ns) stands n is-element)

  pub listed : IsListed k.lists (models_of c (pair_at k.records.slots n).of) (kept_at k.records.slots n).list (symbols_at (set_of c) (models_of c) ns k.records.slots n)
  listed = (fit-at c ns k.records.slots k.lists k.root_ids (document_in c ns) (settled c ns k present.whole) n made).gathered.list_is

  -- the names of its child elements
  abbrev pub names : List ExpandedName
  names = names_among c.names ns stands.table (children_by (node ns n))

  type-is : (revision : ℕ) (closed : Bool) → type_at (state_by c ns k revision closed) n ≡ (pair_at k.records.slots n).of
  type-is revision closed =
      ap (option_and_then (λ (e : Entry). e.governing.of)) (entry-is c ns k.records.slots k.lists k.root_ids (document_in c ns) (settled c ns k present.whole) n ∙ ap (option_map (λ (x : KeptElement). entry_of x.found)) made.1)
      ∙ sym (ap (λ (o : Option KeptElement). (unwrap_or o blank).found.governing.of) made.1)

  module _ (place : ℕ) (within : place ≤ length (children_by (node ns n))) (revision : ℕ) (closed : Bool) where
    abbrev s : State
    s = state_by c ns k revision closed

    -- without a content model
    pub no-model : models_of c (pair_at k.records.slots n).of ≡ None → asked_at s n place ≡ Err errors.NoModel
    no-model gone =
        let fits = type-fits c (settled c ns k present.whole).over.usable.first (settled c ns k present.whole).over.usable.models_are (pair_at k.records.slots n).of in
        asked-element s ns n place stands kind known within None
        (ap (content_particle c.parts) (type-is revision closed) ∙ none-fits (content_particle c.parts (pair_at k.records.slots n).of) (subst (Fits (set_of c) (content_particle c.parts (pair_at k.records.slots n).of)) gone fits))
      where
        none-fits : (p : Option ℕ) → Fits (set_of c) p None → p ≡ None
        none-fits None f = refl
        none-fits (Some p) f = absurd f

  module _ (a : ContentAutomaton) (h : ModelList) (model : models_of c (pair_at k.records.slots n).of ≡ Some a) (list : (kept_at k.records.slots n).list ≡ Some h) where
    pub particle : (p : ℕ) × (content_particle c.parts (pair_at k.records.slots n).of ≡ Some p) × IsAutomatonFor (set_of c) p a
    particle =
        by (content_particle c.parts (pair_at k.records.slots n).of) refl
        (subst (Fits (set_of c) (content_particle c.parts (pair_at k.records.slots n).of)) model (type-fits c (settled c ns k present.whole).over.usable.first (settled c ns k present.whole).over.usable.models_are (pair_at k.records.slots n).of))
      where
        by : (o : Option ℕ) → content_particle c.parts (pair_at k.records.slots n).of ≡ o → Fits (set_of c) o (Some a) → (p : ℕ) × (content_particle c.parts (pair_at k.records.slots n).of ≡ Some p) × IsAutomatonFor (set_of c) p a
        by None e f = absurd f
        by (Some p) e f = (p, e, f)

    list-is : IsListOf k.lists h a (map (symbol_of c.names (symbols_of a)) names)
    list-is =
        let both : IsListed k.lists (Some a) (Some h) (child_symbols c.names (Some a) (map (readers.name_at ns) (element_children ns n))) =
        subst (λ (m : Option ContentAutomaton). IsListed k.lists m (Some h) (child_symbols c.names m (map (readers.name_at ns) (element_children ns n)))) model
        (subst (λ (o : Option ModelList). IsListed k.lists (models_of c (pair_at k.records.slots n).of) o (child_symbols c.names (models_of c (pair_at k.records.slots n).of) (map (readers.name_at ns) (element_children ns n)))) list listed) in
        subst (IsListOf k.lists h a) (symbols-same (element_children ns n)) both
      where
        symbols-same : (xs : List ℕ) → map (λ name. symbol_of c.names (symbols_of a) (name_at c.names name)) (map (readers.name_at ns) xs) ≡ map (symbol_of c.names (symbols_of a)) (map (λ m. name_at c.names (readers.name_at ns m)) xs)
        symbols-same [] = refl
        symbols-same (x ∷ xs) = ap (λ ys. symbol_of c.names (symbols_of a) (name_at c.names (readers.name_at ns x)) ∷ ys) (symbols-same xs)

    pub list-by : IsListBy k.lists h a (set_of c) particle.0 names
    list-by = record { fits = particle.2; sound = stands.table; spaced = spaced; list_is = list-is }

    module _ (place : ℕ) (within : place ≤ length (children_by (node ns n))) where
      abbrev pub before : ℕ
      before = upto c.names ns stands.table place (children_by (node ns n))

      pub place-within : before ≤ length names
      place-within =
          let few = fewer (is_element_at ns) place (children_by (node ns n)) in
          let many = length-map (filter (is_element_at ns) (children_by (node ns n))) (name_of c.names ns stands.table) in
          omega (arith, few, many)

      -- it is asked about there
      around : (revision : ℕ) (closed : Bool) (v : ListPlace) → v.lists ≡ k.lists → v.list ≡ h → v.place ≡ before
          → IsPlaceBy v (set_of c) particle.0 names → IsAroundAt (state_by c ns k revision closed) n place v
      around revision closed v lists_are list_now place_is is =
          let st = state_by c ns k revision closed in
          let below = children-of st ns n place stands kind in
          let asked = asked-element st ns n place stands kind known within (Some particle.0) (ap (content_particle c.parts) (type-is revision closed) ∙ particle.1) in
          let many = children-many k.lists h a (map (symbol_of c.names (symbols_of a)) names) list-is in
          let all = length-map names (symbol_of c.names (symbols_of a)) in
          let own = length-map (filter (is_element_at ns) (children_by (node ns n))) (name_of c.names ns stands.table) in
          let few = filtered-few (is_element_at ns) (children_by (node ns n)) in
          let wide = width-is st ns n place stands kind in
          let same : children_in v.lists v.list ≡ children_in k.lists h = λ i. children_in (lists_are i) (list_now i) in
          record {
            question = record { set = set_of c; particle = particle.0; before = names_before c.names place (children_at (document_in c ns) n); behind = names_behind c.names place (children_at (document_in c ns) n) };
            asked_is = asked;
            names = names;
            place_is = is;
            set_is = refl;
            before_is =
                ap (names_before c.names place) below.3 ∙ sym (before-named c.names ns stands.table place below.0 below.1) ∙ (λ i. take (length (filter (is_element_at ns) (take place (sym below.2 i)))) (map (name_of c.names ns stands.table) (filter (is_element_at ns) (sym below.2 i)))) ∙ sym (λ i. take (place_is i) names);
            behind_is =
                ap (names_behind c.names place) below.3 ∙ sym (behind-named c.names ns stands.table place below.0 below.1) ∙ (λ i. drop (length (filter (is_element_at ns) (take place (sym below.2 i)))) (map (name_of c.names ns stands.table) (filter (is_element_at ns) (sym below.2 i)))) ∙ sym (λ i. drop (place_is i) names);
            few = omega (arith, same, many, all, own, few, wide);
          }

      -- so a call that makes the place is asked, and so it answers
      module _ (lists : ListsView) (lists_are : lists ≡ k.lists) (counted : ℕ) (counted_is : counted ≡ before) where
        pub asks : (s : SchemaSet) × (p : ℕ) × (given : List ExpandedName) × IsListBy lists h a s p given × (s.names ≡ c.names) × (counted ≤ length given)
        asks = (set_of c, particle.0, names, subst (λ (l : ListsView). IsListBy l h a (set_of c) particle.0 names) (sym lists_are) list-by, refl, subst (λ (m : ℕ). m ≤ length names) (sym counted_is) place-within)

        pub around-so : (v : ListPlace) → v.lists ≡ lists → v.list ≡ h → v.place ≡ counted
            → ((s : SchemaSet) (p : ℕ) (given : List ExpandedName) → IsListBy lists h a s p given → s.names ≡ c.names → counted ≤ length given → IsPlaceBy v s p given)
            → (revision : ℕ) (closed : Bool) → IsAroundAt (state_by c ns k revision closed) n place v
        around-so v lists_now list_now place_is is revision closed =
            around revision closed v (lists_now ∙ lists_are) list_now (place_is ∙ counted_is)
            (is (set_of c) particle.0 names (subst (λ (l : ListsView). IsListBy l h a (set_of c) particle.0 names) (sym lists_are) list-by) refl (subst (λ (m : ℕ). m ≤ length names) (sym counted_is) place-within))
