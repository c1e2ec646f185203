-- An element fits as before where what is kept of it stays, and what it sees of its child elements.
use Rattle.std.proofs.Common.{◌≡◌, ◌≢◌, ◌⊎◌, ℕ, zero, suc, List, [], ◌∷◌, map, true, Option, None, Some, refl, sym, ap, ◌∙◌, subst, inl, inr}
use Rattle.std.specs.Prelude.{slice_get, unwrap_or}
use Rattle.std.proofs.lemmas.Bool.{cases_eq}
use Rattle.std.proofs.lemmas.Option.{none-some}
use Rattle.xs_codes.specs.declared.fault.Found.{Found}
use Rattle.assess_records.specs.Counts.{counts_of}
use Rattle.assess_records.specs.Numbered.{shape_of}
use Rattle.elem_governing.specs.Governing.{govern_child}
use Rattle.elem_governing.specs.declared.pairs.Governing.{Governing}
use Rattle.assessment.specs.Attribution.{SchemaSet}
use Rattle.assessment.specs.Assessment.{AreJudged}
use Rattle.tree_assess.specs.Entries.{entry_of}
use Rattle.model_terms.specs.Symbols.{child_symbols}
use Rattle.model_terms.specs.Terms.{stuck_in, term_in}
use Rattle.model_lists.specs.Lists.{ListsView, KeepLists}
use Rattle.model_lists.specs.declared.handle.ModelList.{ModelList}
use Rattle.doc_nodes.specs.Nodes.{Nodes, node, Has, Lacks, IsSound, is_element_at, element_children}
use Rattle.doc_changes.specs.Held.{parent_at}
use Rattle.doc_changes.specs.Readers.{name_at, own_chars}
use Rattle.doc_readers.specs.Heads.{texts_named}
use Rattle.kept_slots.specs.Slots.{at, Writes}
use Rattle.kept_records.specs.declared.element.KeptElement.{KeptElement}
use Rattle.kept_records.specs.Slots.{KeptSlots, IsMade, blank, kept_at, pair_at, record_at}
use Rattle.kept_records.specs.Fit.{Models, root_codes, head_at, model_at, symbols_at, IsListed, IsGiven, IsGathered, IsFit, AllFitBut, AboveIn}
use Rattle.kept_records.proofs.Lists.{listed-kept}
use Rattle.kept_records.proofs.Nodes.{by-node, child-parent}

-- functions that agree at each place map a list alike
pub map-same : {X : Type 0} (f g : ℕ → X) (xs : List ℕ) → ((i c : ℕ) → slice_get xs i ≡ Some c → f c ≡ g c) → map f xs ≡ map g xs
map-same f g [] same = refl
map-same f g (x ∷ xs) same = ap (λ y. y ∷ map f xs) (same 0 x refl) ∙ ap (λ ys. g x ∷ ys) (map-same f g xs (λ i c e. same (suc i) c e))

-- what an element sees of a child element: that something is kept of it, and what governs it
pub record SeesChild (ks new : KeptSlots) (c : ℕ) : Type 0 where
  pub made : IsMade ks c → IsMade new c
  pub pair_stays : pair_at new c ≡ pair_at ks c

pub sees-same : (ks new : KeptSlots) (c : ℕ) → at new c ≡ at ks c → SeesChild ks new c
sees-same ks new c e = record {
  made = λ m. (m.0, e ∙ m.1);
  pair_stays = ap (λ o. (unwrap_or o blank).found.governing) e;
}

module _ (s : SchemaSet) (models : Models) (ns : Nodes) (ks new : KeptSlots) (v : ListsView) (ids : List Found) (n : ℕ) (own : at new n ≡ at ks n)
    (below : (i c : ℕ) → slice_get (element_children ns n) i ≡ Some c → SeesChild ks new c)
    (counts : counts_of (map (record_at new) (element_children ns n)) ≡ counts_of (map (record_at ks) (element_children ns n))) where
  kept-same : kept_at new n ≡ kept_at ks n
  kept-same = ap (λ o. unwrap_or o blank) own

  abbrev names : List ℕ
  names = map (name_at ns) (element_children ns n)

  abbrev pair-by : Governing → ℕ → ℕ → Governing
  pair-by g place child =
      govern_child s.names s.parts g.mode (term_in (models g.of) (child_symbols s.names (models g.of) names) place) (head_at s ns child).name (head_at s ns child).xsi (head_at s ns child).scope

  given-same : (place child : ℕ) → slice_get (element_children ns n) place ≡ Some child → IsGiven s models ns ks n place child → IsGiven s models ns new n place child
  given-same place child e g =
      let seen = below place child e in
      record {
        made = seen.made g.made;
        pair_is = seen.pair_stays ∙ g.pair_is ∙ ap (λ (k : KeptElement). pair-by k.found.governing place child) (sym kept-same);
      }

  pub gathered-same : IsGathered s models ns ks v n → IsGathered s models ns new v n
  gathered-same g = record {
    number_is = ap (λ (k : KeptElement). k.found.number) kept-same ∙ g.number_is;
    bearer_is = ap (λ (k : KeptElement). k.found.bearer) kept-same ∙ g.bearer_is;
    text_is = ap (λ (k : KeptElement). k.text) kept-same ∙ g.text_is;
    given = λ place child e. given-same place child e (g.given place child e);
    list_is = subst (λ (k : KeptElement). IsListed v (models k.found.governing.of) k.list (child_symbols s.names (models k.found.governing.of) names)) (sym kept-same) g.list_is;
    stuck_is = subst (λ (k : KeptElement). k.stuck ≡ stuck_in (models k.found.governing.of) (child_symbols s.names (models k.found.governing.of) names)) (sym kept-same) g.stuck_is;
    counts_are = ap (λ (k : KeptElement). k.counts) kept-same ∙ g.counts_are ∙ sym counts;
  }

  pub fit-same : IsFit s models ns ks v ids n → IsFit s models ns new v ids n
  fit-same f = record {
    gathered = gathered-same f.gathered;
    known = subst (λ (k : KeptElement). AreJudged s (shape_of (head_at s ns n) (texts_named ns n) (own_chars ns n) k.stuck k.counts k.identity (root_codes ids n)) (entry_of k.found)) (sym kept-same) f.known;
  }

-- what is kept of an element and of all its child elements stays
pub fit-apart : (s : SchemaSet) (models : Models) (ns : Nodes) (ks new : KeptSlots) (v : ListsView) (ids : List Found) (n : ℕ) → at new n ≡ at ks n →
    ((i c : ℕ) → slice_get (element_children ns n) i ≡ Some c → at new c ≡ at ks c) → IsFit s models ns ks v ids n → IsFit s models ns new v ids n
fit-apart s models ns ks new v ids n own below =
    fit-same s models ns ks new v ids n own (λ i c e. sees-same ks new c (below i c e))
    (ap counts_of (map-same (record_at new) (record_at ks) (element_children ns n) (λ i c e. ap (λ o. (unwrap_or o blank).found.element) (below i c e))))

-- ---- one element is written

has-lacks : (x : ℕ) (xs : List ℕ) → Has x xs → Lacks x xs → ⊥
has-lacks x [] has lacks = has
has-lacks x (c ∷ cs) (inl e) lacks = lacks.0 e
has-lacks x (c ∷ cs) (inr more) lacks = has-lacks x cs more lacks.1

module _ (s : SchemaSet) (models : Models) (ns : Nodes) (ks new : KeptSlots) (v : ListsView) (ids : List Found) (sound : IsSound ns) (only : (m : ℕ) → IsMade ks m → is_element_at ns m ≡ true)
    (n : ℕ) (x : Option KeptElement) (writes : Writes ks new n x) (waiting : List ℕ) (all : AllFitBut s models ns ks v ids (n ∷ waiting)) (above : AboveIn ns n waiting) where
  -- the others fit as before
  pub rest-fit : (m : ℕ) → IsMade new m → m ≢ n → Lacks m waiting → IsFit s models ns new v ids m
  rest-fit m made other lacks =
      let was : IsMade ks m = (made.0, sym (writes.others m other) ∙ made.1) in
      let own = by-node ns m (node ns m) refl (only m was) in
      let child-other : (i c : ℕ) → slice_get (element_children ns m) i ≡ Some c → c ≢ n = λ i c e q.
      has-lacks m waiting (above m (subst (λ y. parent_at ns y ≡ Some m) q (child-parent ns sound m own.0 own.1 i c e))) lacks in
      fit-apart s models ns ks new v ids m (writes.others m other) (λ i c e. writes.others c (child-other i c e)) (all m was ((λ e. other (sym e)), lacks))

  -- so all do where it fits itself
  pub put-fit : IsFit s models ns new v ids n → AllFitBut s models ns new v ids waiting
  put-fit fit m made lacks = elim (cases_eq m n) [
    | inl e ↦ subst (IsFit s models ns new v ids) (sym e) fit
    | inr other ↦ rest-fit m made other lacks
  ]

-- where nothing is kept of it, nothing is asked of it
pub take-fit : (s : SchemaSet) (models : Models) (ns : Nodes) (ks new : KeptSlots) (v : ListsView) (ids : List Found) → IsSound ns → ((m : ℕ) → IsMade ks m → is_element_at ns m ≡ true) →
    (n : ℕ) → Writes ks new n None → (waiting : List ℕ) → AllFitBut s models ns ks v ids (n ∷ waiting) → AboveIn ns n waiting → AllFitBut s models ns new v ids waiting
take-fit s models ns ks new v ids sound only n writes waiting all above m made lacks = elim (cases_eq m n) [
  | inl e ↦ absurd (none-some made.0 (sym (ap (at new) e ∙ writes.here) ∙ made.1))
  | inr other ↦ rest-fit s models ns ks new v ids sound only n None writes waiting all above m made other lacks
]

-- ---- lists change

pub fit-lists : (s : SchemaSet) (models : Models) (ns : Nodes) (ks : KeptSlots) (v w : ListsView) (ids : List Found) (but : ModelList → Type 0) → KeepLists v w but →
    (n : ℕ) → ((h : ModelList) → (kept_at ks n).list ≡ Some h → ¬ but h) → IsFit s models ns ks v ids n → IsFit s models ns ks w ids n
fit-lists s models ns ks v w ids but keeps n not_it f = record {
  gathered = record {
    number_is = f.gathered.number_is;
    bearer_is = f.gathered.bearer_is;
    text_is = f.gathered.text_is;
    given = f.gathered.given;
    list_is = listed-kept v w but keeps (model_at s models ns ks n) (kept_at ks n).list (symbols_at s models ns ks n) not_it f.gathered.list_is;
    stuck_is = f.gathered.stuck_is;
    counts_are = f.gathered.counts_are;
  };
  known = f.known;
}
