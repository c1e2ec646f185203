-- The child elements whose names are ambivalent, one after another.
use Rattle.std.proofs.Common.{◌≡◌, ◌+◌, ◌<◌, ◌≤◌, ℕ, zero, suc, List, [], length, map, Option, None, Some, inl, inr, refl, sym, ap, ◌∙◌, subst, arith}
use Rattle.std.specs.Prelude.{slice_get, MatchOption}
use Rattle.std.proofs.lemmas.Bool.{cases_eq}
use Rattle.std.proofs.lemmas.Option.{none-some, same_Some}
use Rattle.xs_names.specs.Names.{NameTable}
use Rattle.content_models.specs.declared.automaton.ContentAutomaton.{ContentAutomaton}
use Rattle.compiled_schema.specs.Usable.{set_of}
use Rattle.compiled_schema.specs.declared.compiled.Compiled.{Compiled}
use Rattle.model_terms.specs.Symbols.{child_symbols}
use Rattle.model_terms.specs.Terms.{is_ambivalent_symbol}
use Rattle.model_lists.specs.Lists.{ListsView, IsListOf, ambivalent_places}
use Rattle.model_lists.specs.declared.handle.ModelList.{ModelList}
use Rattle.doc_nodes.specs.Nodes.{Nodes, Has, node, children_by, is_element_at, element_children}
use Rattle.doc_changes.specs.Readers.{name_at}
use Rattle.std.proofs.lemmas.List.{length-map}
use Rattle.child_lists.specs.Family.{marked_places}
use Rattle.child_lists.proofs.Edits.{few-marked, marked-below, some-get}
use Rattle.child_lists.proofs.Terms.{many-symbols}
use Rattle.child_lists.specs.from_kept_records.Fit.{models_of, model_at, IsListed}
use Rattle.child_lists.specs.from_kept_state.KeptState.{KeptState}
use Rattle.kept_targets.specs.Moved.{IsLookedAt, IsMarked, marks}
use Rattle.kept_targets.specs.declared.keys.ElementSign.{ElementSign}
use Rattle.kept_targets.proofs.Adding.{has-place, looked-more, place-before}
use Rattle.kept_targets.proofs.Firsts.{fewer}

-- ---- by the list

pub unlisted : (v : ListsView) (model : Option ContentAutomaton) (list : Option ModelList) (symbols : List ℕ) → list ≡ None → IsListed v model list symbols → (number : ℕ) → slice_get (marked_places model symbols) number ≡ None
unlisted v model list symbols e listed number = by model (subst (λ (l : Option ModelList). IsListed v model l symbols) e listed)
  where
    empty : (i : ℕ) → slice_get {X = ℕ} [] i ≡ None
    empty zero = refl
    empty (suc i) = refl

    by : (m : Option ContentAutomaton) → IsListed v m None symbols → slice_get (marked_places m symbols) number ≡ None
    by None l = empty number
    by (Some a) l = absurd l

pub marked-get : (v : ListsView) (model : Option ContentAutomaton) (list : Option ModelList) (h : ModelList) (symbols : List ℕ) → list ≡ Some h → IsListed v model list symbols → (found : Option ℕ) (number : ℕ)
    → ((a : ContentAutomaton) (xs : List ℕ) → IsListOf v h a xs → found ≡ slice_get (ambivalent_places a xs) number) → found ≡ slice_get (marked_places model symbols) number
marked-get v model list h symbols e listed found number is = by model (subst (λ (l : Option ModelList). IsListed v model l symbols) e listed)
  where
    by : (m : Option ContentAutomaton) → IsListed v m (Some h) symbols → found ≡ slice_get (marked_places m symbols) number
    by None l = absurd l
    by (Some a) l = is a symbols l

-- ---- places

place-in : (model : Option ContentAutomaton) (symbols : List ℕ) (number place : ℕ) → slice_get (marked_places model symbols) number ≡ Some place → place < length symbols
place-in None symbols number place e = absurd (none-some place e)
place-in (Some a) symbols number place e = marked-below (is_ambivalent_symbol a) symbols number place e

few-places : (model : Option ContentAutomaton) (symbols : List ℕ) → length (marked_places model symbols) ≤ length symbols
few-places None symbols = omega arith
few-places (Some a) symbols = let h = few-marked (map (is_ambivalent_symbol a) symbols) 0 in let n = length-map symbols (is_ambivalent_symbol a) in omega (arith, h, n)

module _ (names : NameTable) (ns : Nodes) (model : Option ContentAutomaton) (n : ℕ) where
  abbrev places : List ℕ
  places = marked_places model (child_symbols names model (map (name_at ns) (element_children ns n)))

  -- at each there is a child element
  pub child-at : (number place : ℕ) → slice_get places number ≡ Some place → slice_get (element_children ns n) place ≡ None → ⊥
  child-at number place e none =
      let l = place-in model (child_symbols names model (map (name_at ns) (element_children ns n))) number place e in
      let m = many-symbols names model (name_at ns) (element_children ns n) in
      let there = some-get (element_children ns n) place (omega (arith, l, m)) in
      none-some there.0 (sym none ∙ there.1)

  pub few-all : length places ≤ length (element_children ns n)
  few-all = let h = few-places model (child_symbols names model (map (name_at ns) (element_children ns n))) in let m = many-symbols names model (name_at ns) (element_children ns n) in omega (arith, h, m)

-- the child element at the place, if there is one
pub at-child : (c : Compiled) (ns : Nodes) (k : KeptState) (n number place : ℕ) → Some place ≡ slice_get (marks c ns k n) number → (found : Option ℕ) → found ≡ slice_get (element_children ns n) place
    → MatchOption found (slice_get (marks c ns k n) number ≡ None) (λ child. (p : ℕ) × (slice_get (marks c ns k n) number ≡ Some p) × (slice_get (element_children ns n) p ≡ Some child))
at-child c ns k n number place e None none =
    absurd (child-at (set_of c).names ns (model_at (set_of c) (models_of c) ns k.records.slots n) n number place (sym e) (sym none))
at-child c ns k n number place e (Some child) there = (place, sym e, sym there)

module _ (c : Compiled) (ns : Nodes) (k : KeptState) (was : ℕ → Option ElementSign) (n : ℕ) (but : Option ℕ) where
  abbrev pub AreMarkedUpTo : List ℕ → ℕ → Type 0
  AreMarkedUpTo moved number =
      (i place child : ℕ) → i < number → slice_get (marks c ns k n) i ≡ Some place → slice_get (element_children ns n) place ≡ Some child → (but ≡ Some child → ⊥) → IsLookedAt c.parts ns k.records.slots was moved child

  pub marked-next : (number place child : ℕ) (old new : List ℕ) → slice_get (marks c ns k n) number ≡ Some place → slice_get (element_children ns n) place ≡ Some child → ((m : ℕ) → Has m old → Has m new)
      → ((but ≡ Some child → ⊥) → IsLookedAt c.parts ns k.records.slots was new child) → AreMarkedUpTo old number → AreMarkedUpTo new (number + 1)
  marked-next number place child old new e f still own done i p x l g h off =
      elim (cases_eq i number) [
        | inl q ↦
            let same_place = same_Some p place (sym g ∙ ap (slice_get (marks c ns k n)) q ∙ e) in
            let same = same_Some x child (sym h ∙ ap (slice_get (element_children ns n)) same_place ∙ f) in
            subst (IsLookedAt c.parts ns k.records.slots was new) (sym same) (own (λ b. off (b ∙ ap Some (sym same))))
        | inr other ↦ looked-more c.parts ns k.records.slots was old new still x (done i p x (omega (arith, l, other)) g h off)
      ]

  pub marked-all : (number : ℕ) (moved : List ℕ) → slice_get (marks c ns k n) number ≡ None → AreMarkedUpTo moved number → (x : ℕ) → IsMarked c ns k n x → (but ≡ Some x → ⊥) → IsLookedAt c.parts ns k.records.slots was moved x
  marked-all number moved ended done x marked off =
      let at = has-place (marks c ns k n) marked.place marked.marked in
      done at.0 marked.place x (place-before (marks c ns k n) number at.0 marked.place ended at.1) at.1 marked.there off

-- there are no more of them than children
pub few-marks : (c : Compiled) (ns : Nodes) (k : KeptState) (n : ℕ) → length (marks c ns k n) ≤ length (children_by (node ns n))
few-marks c ns k n =
    let few = few-all (set_of c).names ns (model_at (set_of c) (models_of c) ns k.records.slots n) n in
    let passed = fewer (is_element_at ns) (children_by (node ns n)) in
    omega (arith, few, passed)
