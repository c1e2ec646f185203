-- Lists by automata over states.
use Rattle.std.proofs.Common.{◌≡◌, ℕ, ◌≤◌, Bool, true, List, Some, Result, Ok, Err, map, length, refl, sym, ap, subst, ◌∙◌, arith}
use Rattle.std.specs.Prelude.{insert, remove, slice_set, IfOk}
use Rattle.std.proofs.lemmas.Option.{same_Some}
use Rattle.child_trees.specs.declared.leaf.Leaf.{Leaf}
use Rattle.child_trees.specs.Lists.{Entry, get, Updates, AreEntries, AreNew, entry}
use Rattle.content_automaton.specs.Modelled.{ModelAutomaton}
use Rattle.content_models.specs.declared.automaton.ContentAutomaton.{ContentAutomaton}
use Rattle.content_models.specs.declared.automaton.ContentAutomaton.TheVariants.{States, All}
use Rattle.model_summaries.specs.Maps.{width_of, leaf_of}
use Rattle.model_terms.specs.Terms.{is_ambivalent_symbol}
use Rattle.model_lists.specs.Lists.{RowLists, HasLeaves, IsRowList}
use Rattle.model_lists.specs.Inside.{leaf_for}
use Rattle.model_lists.proofs.Entries.{many, kept, removed, made, inserted-leaf, written-leaf}

abbrev RowEntry : Type 0
RowEntry = Entry (List ℕ)

module _ (v : RowLists) (list : ℕ) where
  pub over-states : (a : ContentAutomaton) (symbols : List ℕ) → IsRowList v list a symbols → (m : ModelAutomaton) × (a ≡ States m)
  over-states (States m) symbols h = (m, refl)
  over-states (All m) symbols h = absurd h

  pub row-live : (a : ContentAutomaton) (symbols : List ℕ) → IsRowList v list a symbols → (xs : List RowEntry) × (get v list ≡ Some xs) × (length xs ≡ length symbols)
  row-live (States m) symbols (shape, h) = (h.entries, h.list_is, many v v list (leaf_of m) (is_ambivalent_symbol (States m)) symbols h)
  row-live (All m) symbols h = absurd h

  pub row-marks : (a : ContentAutomaton) (symbols : List ℕ) → IsRowList v list a symbols →
      (xs : List RowEntry) × (get v list ≡ Some xs) × (map (λ (e : RowEntry). e.marked) xs ≡ map (is_ambivalent_symbol a) symbols)
  row-marks (States m) symbols (shape, h) = (h.entries, h.list_is, h.marks)
  row-marks (All m) symbols h = absurd h

  -- as many as there are symbols
  pub row-many : (a : ContentAutomaton) (symbols : List ℕ) → IsRowList v list a symbols → (xs : List RowEntry) → get v list ≡ Some xs → length xs ≡ length symbols
  row-many a symbols h xs e = let l = row-live a symbols h in ap length (same_Some xs l.0 (sym e ∙ l.1)) ∙ l.2

  pub row-place : (a : ContentAutomaton) (symbols : List ℕ) → IsRowList v list a symbols → (place : ℕ) → place ≤ length symbols → (xs : List RowEntry) → get v list ≡ Some xs → place ≤ length xs
  row-place a symbols h place l xs e = let m = row-many a symbols h xs e in omega arith

  module _ (w : RowLists) where
    pub row-kept : get w list ≡ get v list → w.shape ≡ v.shape → (a : ContentAutomaton) (symbols : List ℕ) → IsRowList v list a symbols → IsRowList w list a symbols
    row-kept e s (States m) symbols (shape, h) = (s ∙ shape, kept v w list (leaf_of m) (is_ambivalent_symbol (States m)) symbols h e)
    row-kept e s (All m) symbols h = absurd h

    pub row-removed : (place : ℕ) → ((xs : List RowEntry) → get v list ≡ Some xs → Updates v w list (Some (remove xs place))) →
        (a : ContentAutomaton) (symbols : List ℕ) → IsRowList v list a symbols → IsRowList w list a (remove symbols place)
    row-removed place upd (States m) symbols (shape, h) =
        let u = upd h.entries h.list_is in
        (u.shape ∙ shape, removed v w list (leaf_of m) (is_ambivalent_symbol (States m)) symbols h place u.changed)
    row-removed place upd (All m) symbols h = absurd h

-- ---- by one automaton
same-states : (m n : ModelAutomaton) → States m ≡ States n → m ≡ n
same-states m n e = cc

module _ (a : ContentAutomaton) (m : ModelAutomaton) (a_is : a ≡ States m) where
  pub shape-of : (shape : ℕ) → ((n : ModelAutomaton) × (a ≡ States n) × (shape ≡ width_of n)) → shape ≡ width_of m
  shape-of shape (n, e, s) = s ∙ ap width_of (same-states n m (sym e ∙ a_is))

  module _ (v : RowLists) (list : ℕ) (symbols : List ℕ) where
    pub row-has : IsRowList v list a symbols → (v.shape ≡ width_of m) × HasLeaves v list (leaf_of m) (is_ambivalent_symbol a) symbols
    row-has h =
        let own : IsRowList v list (States m) symbols = subst (λ (a : ContentAutomaton). IsRowList v list a symbols) a_is h in
        (own.0, subst (λ (a : ContentAutomaton). HasLeaves v list (leaf_of m) (is_ambivalent_symbol a) symbols) (sym a_is) own.1)

    pub row-by : v.shape ≡ width_of m → HasLeaves v list (leaf_of m) (is_ambivalent_symbol a) symbols → IsRowList v list a symbols
    row-by s h =
        let own : HasLeaves v list (leaf_of m) (is_ambivalent_symbol (States m)) symbols = subst (λ (a : ContentAutomaton). HasLeaves v list (leaf_of m) (is_ambivalent_symbol a) symbols) a_is h in
        let both : IsRowList v list (States m) symbols = (s, own) in
        subst (λ (a : ContentAutomaton). IsRowList v list a symbols) (sym a_is) both

  -- a new list
  pub row-made : {E : Type 0} (v w : RowLists) (symbols : List ℕ) (leaves : List (Leaf ℕ)) → leaves ≡ map (leaf_for (λ n. n) (is_ambivalent_symbol a)) symbols → v.shape ≡ width_of m → (unit : List ℕ) (r : Result ℕ E) →
      IfOk r (λ q. (xs : List RowEntry) × AreEntries unit (leaf_of m) leaves xs × AreNew v xs × Updates v w q (Some xs)) → IfOk r (λ q. IsRowList w q a symbols)
  row-made v w symbols leaves are s unit (Ok q) (xs, entries, new, u) =
      let own : AreEntries unit (leaf_of m) (map (leaf_for (λ n. n) (is_ambivalent_symbol a)) symbols) xs = subst (λ (ls : List (Leaf ℕ)). AreEntries unit (leaf_of m) ls xs) are entries in
      row-by w q symbols (u.shape ∙ s) (made unit (leaf_of m) (λ n. n) (is_ambivalent_symbol a) w q symbols xs own u.changed)
  row-made v w symbols leaves are s unit (Err e) h = tt

  -- a changed one
  module _ (v w : RowLists) (list : ℕ) (unit : List ℕ) (place n : ℕ) (l : Leaf ℕ) (marked : Bool) (l_is : l ≡ record { letter = Some n; element = true; marked = marked }) (mark : marked ≡ is_ambivalent_symbol a n) where
    pub row-inserted : (item : ℕ) → ((xs : List RowEntry) → get v list ≡ Some xs → Updates v w list (Some (insert xs place (entry unit (leaf_of m) item l)))) →
        (symbols : List ℕ) → IsRowList v list a symbols → IsRowList w list a (insert symbols place n)
    row-inserted item upd symbols h =
        let own = row-has v list symbols h in
        let u = upd own.1.entries own.1.list_is in
        row-by w list (insert symbols place n) (u.shape ∙ own.0) (inserted-leaf v w list unit (leaf_of m) (λ n. n) (is_ambivalent_symbol a) symbols own.1 place n item l marked l_is mark u.changed)

    pub row-written : ((xs : List RowEntry) → get v list ≡ Some xs → (item : ℕ) × Updates v w list (Some (slice_set xs place (entry unit (leaf_of m) item l)))) →
        (symbols : List ℕ) → IsRowList v list a symbols → IsRowList w list a (slice_set symbols place n)
    row-written upd symbols h =
        let own = row-has v list symbols h in
        let u = upd own.1.entries own.1.list_is in
        row-by w list (slice_set symbols place n) (u.1.shape ∙ own.0) (written-leaf v w list unit (leaf_of m) (λ n. n) (is_ambivalent_symbol a) symbols own.1 place n u.0 l marked l_is mark u.1.changed)
