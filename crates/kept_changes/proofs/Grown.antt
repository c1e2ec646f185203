-- What is kept stays right as names are added to the table of the set.
use Rattle.std.proofs.Common.{◌≡◌, ℕ, suc, ◌<◌, List, [], ◌∷◌, length, map, true, Option, None, Some, refl, sym, ap, ◌∙◌, subst}
use Rattle.std.specs.Prelude.{slice_get}
use Rattle.std.proofs.lemmas.Bool.{false≢true}
use Rattle.std.proofs.lemmas.Option.{none-some, same_Some}
use Rattle.xs_names.specs.Names.{NameTable, Grown, IsSound}
use Rattle.assess_records.specs.Instance.{instance_text}
use Rattle.assess_records.specs.declared.instance_names.InstanceAttribute.TheVariants.{TypeName}
use Rattle.elem_governing.specs.Governing.{govern_root, govern_child}
use Rattle.elem_governing.specs.View.{AreKnown}
use Rattle.content_automaton.specs.Terms.{name_at as expanded_at}
use Rattle.content_automaton.specs.Symbols.{symbol_of, AreNamesOf}
use Rattle.content_automaton.proofs.Symboling.{name_grown, symbol_grown}
use Rattle.content_models.specs.Built.{symbols_of}
use Rattle.content_models.specs.declared.automaton.ContentAutomaton.{ContentAutomaton}
use Rattle.assessment.specs.Attribution.{SchemaSet, content_particle}
use Rattle.assessment.specs.Assessment.{AreJudged, judged_of}
use Rattle.assessment.specs.Fitting.{Fits}
use Rattle.assessment.proofs.Walking.{symbols-known}
use Rattle.compiled_schema.specs.Usable.{IsUsable, set_of}
use Rattle.compiled_schema.specs.declared.compiled.Compiled.{Compiled}
use Rattle.compiled_schema.proofs.UsableLaws.{usable-more}
use Rattle.assessment_laws.specs.GrownThere.{ArePartsNamed, IsShapeNamed}
use Rattle.assessment_laws.proofs.Spaces.{instance-text-kept}
use Rattle.assessment_laws.proofs.Types.{child-kept, root-kept}
use Rattle.assessment_laws.proofs.Elements.{local-kept}
use Rattle.model_terms.specs.Symbols.{child_symbols}
use Rattle.model_terms.specs.Terms.{stuck_in, term_in}
use Rattle.tree_rows.specs.Forest.{Document}
use Rattle.doc_nodes.specs.Nodes.{Node, Nodes, node, IsNode, is_element, is_element_by, is_element_at, element_children}
use Rattle.doc_nodes.specs.declared.content.Content.{Content}
use Rattle.doc_nodes.specs.declared.content.Content.TheVariants as contents
use Rattle.doc_changes.specs.Stands.{StandsFor, HasNames}
use Rattle.doc_changes.proofs.Holding.{element_of}
use Rattle.doc_changes.specs.Readers.{name_by, name_at, scope_at}
use Rattle.doc_changes.proofs.Named.{stands_grown}
use Rattle.doc_readers.specs.Heads.{texts_named}
use Rattle.kept_children.specs.from_kept_records.Slots.{IsMade, kept_at, entry_at, pair_at}
use Rattle.kept_children.specs.from_kept_records.Fit.{models_of, head_at, shape_at, symbols_at, IsListed, IsGathered, IsFit, IsTop}
use Rattle.kept_children.proofs.from_kept_records.Modelled.{type-fits}
use Rattle.kept_children.proofs.from_kept_records.Nodes.{by-node}
use Rattle.kept_children.specs.from_kept_state.KeptState.{KeptState}
use Rattle.kept_children.proofs.from_kept_judging.Heads.{scope-known, texts-named}
use Rattle.kept_children.specs.Edited.{IsRightFor}

-- ---- names of a document

module _ (t : NameTable) (ns : Nodes) (d : Document) (z : StandsFor t ns d) where
  named-by : (n : ℕ) (it : Node) → IsNode ns n it → (held : Content) → it.content ≡ held → is_element held ≡ true → name_by (Some it) < length t.names
  named-by n it is (contents.Chars chars) e k = absurd (false≢true k)
  named-by n it is (contents.Element parts) e k =
      let own = element_of t ns d z n it parts is e in
      let known = subst (HasNames t) own.parts own.shown.known in
      subst (λ (held : Content). name_by (Some (record it { content = held })) < length t.names) (sym e) known.name

  -- the name of an element has a number of the table
  name-known : (n : ℕ) → is_element_at ns n ≡ true → name_at ns n < length t.names
  name-known n is = let it = by-node ns n (node ns n) refl is in subst (λ o. name_by o < length t.names) (sym it.1) (named-by n it.0 it.1 it.0.content refl (ap is_element_by (sym it.1) ∙ is))

-- ---- symbols

module _ (old new : NameTable) (g : Grown old new) where
  known-symbols : (a : ContentAutomaton) → AreNamesOf old (symbols_of a).names → (ns : Nodes) (xs : List ℕ) → ((place x : ℕ) → slice_get xs place ≡ Some x → name_at ns x < length old.names) →
      child_symbols new (Some a) (map (name_at ns) xs) ≡ child_symbols old (Some a) (map (name_at ns) xs)
  known-symbols a within ns [] known = refl
  known-symbols a within ns (x ∷ xs) known =
      let name = name_grown old new g (name_at ns x) (known 0 x refl) in
      let rest = known-symbols a within ns xs (λ place y e. known (suc place) y e) in
      let first = ap (symbol_of new (symbols_of a)) name ∙ symbol_grown old new (symbols_of a) g within (expanded_at old (name_at ns x)) in
      λ i. first i ∷ rest i

  same-symbols : (m : Option ContentAutomaton) → ((a : ContentAutomaton) → m ≡ Some a → AreNamesOf old (symbols_of a).names) → (ns : Nodes) (xs : List ℕ) →
      ((place x : ℕ) → slice_get xs place ≡ Some x → name_at ns x < length old.names) → child_symbols new m (map (name_at ns) xs) ≡ child_symbols old m (map (name_at ns) xs)
  same-symbols None within ns xs known = refl
  same-symbols (Some a) within ns xs known = known-symbols a (within a refl) ns xs known

-- the symbols of an automaton that fits have names of the table
fits-known : (s : SchemaSet) (p : Option ℕ) (m : Option ContentAutomaton) → Fits s p m → (a : ContentAutomaton) → m ≡ Some a → AreNamesOf s.names (symbols_of a).names
fits-known s p None fits a e = absurd (none-some a e)
fits-known s None (Some b) fits a e = absurd fits
fits-known s (Some p) (Some b) fits a e = subst (λ (x : ContentAutomaton). AreNamesOf s.names (symbols_of x).names) (same_Some b a e) (symbols-known s p b fits)

-- ---- what is kept

module _ (c : Compiled) (new : NameTable) (ns : Nodes) (k : KeptState) (g : Grown c.names new) (sound : IsSound new) (r : IsRightFor c ns k) where
  abbrev grown : Compiled
  grown = record c { names = new }

  usable : IsUsable c
  usable = r.beside.over.1.usable

  stands : StandsFor c.names ns r.beside.over.0
  stands = r.beside.over.1.stands

  parts-named : ArePartsNamed c.names c.parts
  parts-named = record { simples = usable.named.simples; complexes = usable.named.complexes; attributes = usable.named.attributes }

  xsi-same : (n : ℕ) → instance_text new (texts_named ns n) TypeName ≡ instance_text c.names (texts_named ns n) TypeName
  xsi-same n = instance-text-kept c.names new g stands.table TypeName (texts_named ns n) (texts-named c.names ns r.beside.over.0 stands n)

  known-scope : (n : ℕ) → AreKnown c.names (scope_at ns n)
  known-scope n = scope-known c.names ns r.beside.over.0 stands n

  head-same : (n : ℕ) → head_at (set_of grown) ns n ≡ head_at (set_of c) ns n
  head-same n = λ i. record { name = name_at ns n; xsi = xsi-same n i; scope = scope_at ns n }

  shape-named : (n : ℕ) → IsShapeNamed c.names (shape_at (set_of c) ns k.records.slots k.root_ids n)
  shape-named n = record { attrs = texts-named c.names ns r.beside.over.0 stands n; scope = known-scope n }

  module _ (n : ℕ) (made : IsMade k.records.slots n) where
    was : IsFit (set_of c) (models_of c) ns k.records.slots k.lists k.root_ids n
    was = r.fit n made tt

    symbols-same : symbols_at (set_of grown) (models_of grown) ns k.records.slots n ≡ symbols_at (set_of c) (models_of c) ns k.records.slots n
    symbols-same =
        let of = (pair_at k.records.slots n).of in
        same-symbols c.names new g (models_of c of) (fits-known (set_of c) (content_particle c.parts of) (models_of c of) (type-fits c usable.first usable.models_are of)) ns (element_children ns n)
        (λ place child e. name-known c.names ns r.beside.over.0 stands child (r.beside.over.1.only child (was.gathered.given place child e).made))

    gathered-grown : IsGathered (set_of grown) (models_of grown) ns k.records.slots k.lists n
    gathered-grown =
        let gathered = was.gathered in
        let pair = pair_at k.records.slots n in
        record {
          number_is = gathered.number_is;
          bearer_is = gathered.bearer_is;
          text_is = gathered.text_is;
          given = λ place child e.
              let given = gathered.given place child e in
              let term = λ (symbols : List ℕ). term_in (models_of c pair.of) symbols place in
              let head = head_at (set_of c) ns child in
              record {
                made = given.made;
                pair_is =
                    given.pair_is
                    ∙ sym (child-kept c.names new g c.parts parts-named stands.table (scope_at ns child) (known-scope child) pair.mode (term (symbols_at (set_of c) (models_of c) ns k.records.slots n)) head.name head.xsi)
                    ∙ (λ i. govern_child new c.parts pair.mode (term (sym symbols-same i)) head.name (sym (xsi-same child) i) head.scope);
              };
          list_is = subst (IsListed k.lists (models_of c pair.of) (kept_at k.records.slots n).list) (sym symbols-same) gathered.list_is;
          stuck_is = gathered.stuck_is ∙ ap (stuck_in (models_of c pair.of)) (sym symbols-same);
          counts_are = gathered.counts_are;
        }

    judged-grown : AreJudged (set_of grown) (shape_at (set_of grown) ns k.records.slots k.root_ids n) (entry_at k.records.slots n)
    judged-grown =
        let shape = shape_at (set_of c) ns k.records.slots k.root_ids n in
        local-kept c.names new g stands.table c.parts (pair_at k.records.slots n) shape (shape-named n) parts-named (judged_of (entry_at k.records.slots n)) was.known

    fit-grown : IsFit (set_of grown) (models_of grown) ns k.records.slots k.lists k.root_ids n
    fit-grown = record { gathered = gathered-grown; known = judged-grown }

  top-grown : IsTop (set_of grown) ns k.records.slots
  top-grown =
      let head = head_at (set_of c) ns 1 in
      record {
        made = r.top.made;
        pair_is =
            r.top.pair_is
            ∙ sym (root-kept c.names new g c.parts parts-named stands.table (scope_at ns 1) (known-scope 1) head.name head.xsi)
            ∙ (λ i. govern_root new c.parts head.name (sym (xsi-same 1) i) head.scope);
      }

  pub right-grown : IsRightFor grown ns k
  right-grown = record {
    beside = record {
      over = (r.beside.over.0, record { usable = usable-more c new usable g; stands = stands_grown c.names new ns r.beside.over.0 g sound stands; only = r.beside.over.1.only });
      governed = r.beside.governed;
      plain = r.beside.plain;
      booked = r.beside.booked;
      own = r.beside.own;
    };
    top = top-grown;
    fit = λ n made lacks. fit-grown n made;
  }
