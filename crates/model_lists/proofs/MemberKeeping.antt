-- Lists by the automata of alls.
use Rattle.std.proofs.Common.{◌≡◌, ℕ, ◌≤◌, Bool, true, List, Some, Result, Ok, Err, map, length, refl, sym, ap, subst, ◌∙◌, arith}
use Rattle.std.specs.Prelude.{insert, remove, slice_set, IfOk}
use Rattle.std.proofs.lemmas.Option.{same_Some}
use Rattle.child_trees.specs.declared.leaf.Leaf.{Leaf}
use Rattle.child_trees.specs.Lists.{Entry, get, Updates, AreEntries, AreNew, entry}
use Rattle.content_models.specs.Modelled.{AllModel, letter_of}
use Rattle.content_models.specs.declared.automaton.ContentAutomaton.{ContentAutomaton}
use Rattle.content_models.specs.declared.automaton.ContentAutomaton.TheVariants.{States, All}
use Rattle.model_summaries.specs.declared.map.AllMap.{AllMap}
use Rattle.model_summaries.specs.Masks.{of_letter}
use Rattle.model_terms.specs.Terms.{is_ambivalent_symbol}
use Rattle.model_lists.specs.Lists.{MemberLists, HasLeaves, IsMemberList, member_of}
use Rattle.model_lists.specs.Inside.{leaf_for}
use Rattle.model_lists.proofs.Entries.{many, kept, removed, made, inserted-leaf, written-leaf}

abbrev MemberEntry : Type 0
MemberEntry = Entry AllMap

module _ (v : MemberLists) (list : ℕ) where
  pub over-members : (a : ContentAutomaton) (symbols : List ℕ) → IsMemberList v list a symbols → (m : AllModel) × (a ≡ All m)
  over-members (States m) symbols h = absurd h
  over-members (All m) symbols h = (m, refl)

  pub member-live : (a : ContentAutomaton) (symbols : List ℕ) → IsMemberList v list a symbols → (xs : List MemberEntry) × (get v list ≡ Some xs) × (length xs ≡ length symbols)
  member-live (States m) symbols h = absurd h
  member-live (All m) symbols h = (h.entries, h.list_is, many v v list (member_of m) (is_ambivalent_symbol (All m)) symbols h)

  pub member-marks : (a : ContentAutomaton) (symbols : List ℕ) → IsMemberList v list a symbols →
      (xs : List MemberEntry) × (get v list ≡ Some xs) × (map (λ (e : MemberEntry). e.marked) xs ≡ map (is_ambivalent_symbol a) symbols)
  member-marks (States m) symbols h = absurd h
  member-marks (All m) symbols h = (h.entries, h.list_is, h.marks)

  -- as many as there are symbols
  pub member-many : (a : ContentAutomaton) (symbols : List ℕ) → IsMemberList v list a symbols → (xs : List MemberEntry) → get v list ≡ Some xs → length xs ≡ length symbols
  member-many a symbols h xs e = let l = member-live a symbols h in ap length (same_Some xs l.0 (sym e ∙ l.1)) ∙ l.2

  pub member-place : (a : ContentAutomaton) (symbols : List ℕ) → IsMemberList v list a symbols → (place : ℕ) → place ≤ length symbols → (xs : List MemberEntry) → get v list ≡ Some xs → place ≤ length xs
  member-place a symbols h place l xs e = let m = member-many a symbols h xs e in omega arith

  module _ (w : MemberLists) where
    pub member-kept : get w list ≡ get v list → (a : ContentAutomaton) (symbols : List ℕ) → IsMemberList v list a symbols → IsMemberList w list a symbols
    member-kept e (States m) symbols h = absurd h
    member-kept e (All m) symbols h = kept v w list (member_of m) (is_ambivalent_symbol (All m)) symbols h e

    pub member-removed : (place : ℕ) → ((xs : List MemberEntry) → get v list ≡ Some xs → Updates v w list (Some (remove xs place))) →
        (a : ContentAutomaton) (symbols : List ℕ) → IsMemberList v list a symbols → IsMemberList w list a (remove symbols place)
    member-removed place upd (States m) symbols h = absurd h
    member-removed place upd (All m) symbols h = removed v w list (member_of m) (is_ambivalent_symbol (All m)) symbols h place (upd h.entries h.list_is).changed

-- ---- the leaf of a child
pub member-leaf : (m : AllModel) (n : ℕ) (marked : Bool) (letter : ℕ) (l : Leaf ℕ) → l ≡ record { letter = Some letter; element = true; marked = marked } → letter ≡ letter_of m n →
    l ≡ record { letter = Some (letter_of m n); element = true; marked = marked }
member-leaf m n marked letter l is e = is ∙ (λ i. record { letter = Some (e i); element = true; marked = marked })

-- ---- by one automaton
module _ (a : ContentAutomaton) (m : AllModel) (a_is : a ≡ All m) where
  module _ (v : MemberLists) (list : ℕ) (symbols : List ℕ) where
    pub member-has : IsMemberList v list a symbols → HasLeaves v list (member_of m) (is_ambivalent_symbol a) symbols
    member-has h =
        let own : IsMemberList v list (All m) symbols = subst (λ (a : ContentAutomaton). IsMemberList v list a symbols) a_is h in
        subst (λ (a : ContentAutomaton). HasLeaves v list (member_of m) (is_ambivalent_symbol a) symbols) (sym a_is) own

    pub member-by : HasLeaves v list (member_of m) (is_ambivalent_symbol a) symbols → IsMemberList v list a symbols
    member-by h =
        let own : IsMemberList v list (All m) symbols = subst (λ (a : ContentAutomaton). HasLeaves v list (member_of m) (is_ambivalent_symbol a) symbols) a_is h in
        subst (λ (a : ContentAutomaton). IsMemberList v list a symbols) (sym a_is) own

  -- a new list
  pub member-made : {E : Type 0} (v w : MemberLists) (symbols : List ℕ) (leaves : List (Leaf ℕ)) → leaves ≡ map (leaf_for (letter_of m) (is_ambivalent_symbol a)) symbols → (unit : AllMap) (r : Result ℕ E) →
      IfOk r (λ q. (xs : List MemberEntry) × AreEntries unit of_letter leaves xs × AreNew v xs × Updates v w q (Some xs)) → IfOk r (λ q. IsMemberList w q a symbols)
  member-made v w symbols leaves are unit (Ok q) (xs, entries, new, u) =
      let own : AreEntries unit of_letter (map (leaf_for (letter_of m) (is_ambivalent_symbol a)) symbols) xs = subst (λ (ls : List (Leaf ℕ)). AreEntries unit of_letter ls xs) are entries in
      member-by w q symbols (made unit of_letter (letter_of m) (is_ambivalent_symbol a) w q symbols xs own u.changed)
  member-made v w symbols leaves are unit (Err e) h = tt

  -- a changed one
  module _ (v w : MemberLists) (list : ℕ) (unit : AllMap) (place n : ℕ) (l : Leaf ℕ) (marked : Bool) (l_is : l ≡ record { letter = Some (letter_of m n); element = true; marked = marked }) (mark : marked ≡ is_ambivalent_symbol a n) where
    pub member-inserted : (item : ℕ) → ((xs : List MemberEntry) → get v list ≡ Some xs → Updates v w list (Some (insert xs place (entry unit of_letter item l)))) →
        (symbols : List ℕ) → IsMemberList v list a symbols → IsMemberList w list a (insert symbols place n)
    member-inserted item upd symbols h =
        let own = member-has v list symbols h in
        let u = upd own.entries own.list_is in
        member-by w list (insert symbols place n) (inserted-leaf v w list unit of_letter (letter_of m) (is_ambivalent_symbol a) symbols own place n item l marked l_is mark u.changed)

    pub member-written : ((xs : List MemberEntry) → get v list ≡ Some xs → (item : ℕ) × Updates v w list (Some (slice_set xs place (entry unit of_letter item l)))) →
        (symbols : List ℕ) → IsMemberList v list a symbols → IsMemberList w list a (slice_set symbols place n)
    member-written upd symbols h =
        let own = member-has v list symbols h in
        let u = upd own.entries own.list_is in
        member-by w list (slice_set symbols place n) (written-leaf v w list unit of_letter (letter_of m) (is_ambivalent_symbol a) symbols own place n u.0 l marked l_is mark u.1.changed)
