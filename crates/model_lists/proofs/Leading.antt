-- What the states along a list say of the symbols of its children.
use Rattle.std.proofs.Common.{◌≡◌, ℕ, ◌+◌, ◌<◌, ◌≤◌, ◌==◌, Bool, true, false, List, [], ◌∷◌, ◌++◌, Option, None, Some, map, take, drop, length, refl, sym, ap, subst, ◌∙◌, arith}
use Rattle.std.specs.Prelude.{slice_index, nat_lt, not}
use Rattle.std.specs.Option.{ForSome}
use Rattle.std.proofs.lemmas.List.{drop-map, map-append}
use Rattle.std.proofs.lemmas.Option.{same_Some}
use Rattle.child_trees.specs.declared.leaf.Leaf.{Leaf}
use Rattle.child_trees.specs.Lists.{Entry, get, acts_along, IsFirstDead, NoneIsDead}
use Rattle.content_automaton.specs.Symbols.{count_of}
use Rattle.content_automaton.specs.Automaton.{start_of, state_of, run, step_of, dead_of, accepts_at}
use Rattle.content_automaton.specs.Modelled.{ModelAutomaton}
use Rattle.content_models.specs.States as alls
use Rattle.content_models.specs.Modelled.{AllModel, letter_of}
use Rattle.content_models.specs.declared.state.AllState.{AllState}
use Rattle.content_models.specs.declared.automaton.ContentAutomaton.{ContentAutomaton}
use Rattle.content_models.specs.declared.automaton.ContentAutomaton.TheVariants.{States, All}
use Rattle.model_summaries.specs.declared.map.AllMap.{AllMap}
use Rattle.model_summaries.specs.Masks.{acts, of_letter}
use Rattle.model_summaries.proofs.MaskRunning.{letters_are}
use Rattle.model_summaries.specs.Maps.{width_of, leaf_of}
use Rattle.model_summaries.proofs.Running.{rows_are, run-within}
use Rattle.model_terms.specs.Symbols.{AreSymbolsBy}
use Rattle.model_terms.specs.Terms.{begins, is_word, is_ambivalent_symbol, stuck_in}
use Rattle.model_terms.proofs.Along.{run-append}
use Rattle.model_terms.proofs.Naming.{below-count}
use Rattle.model_lists.specs.declared.around.Reached.{Reached}
use Rattle.model_lists.specs.declared.around.Reached.TheVariants.{Row, Seen}
use Rattle.model_lists.specs.Around.{LeadIn}
use Rattle.model_lists.specs.Lists.{RowLists, MemberLists, HasLeaves, IsRowList, IsMemberList, member_of}
use Rattle.model_lists.proofs.RowKeeping.{row-has}
use Rattle.model_lists.proofs.MemberKeeping.{member-has}
use Rattle.model_lists.proofs.Running.{start-within, led, first-stuck, none-stuck, end-stuck, map-twice, all-led, all-first_stuck, all-none_stuck, all-end_stuck}

-- ---- the row of a symbol
pub one-below : (a : ContentAutomaton) (m : ModelAutomaton) → a ≡ States m → (n : ℕ) → AreSymbolsBy a (n ∷ []) → n < count_of m.symbols
one-below a m a_is n of = below-count m (n ∷ []) (subst (λ (a : ContentAutomaton). AreSymbolsBy a (n ∷ [])) a_is of) 0 (omega arith)

pub symbol-below : (a : ContentAutomaton) (m : ModelAutomaton) → a ≡ States m → (symbols : List ℕ) (k n : ℕ) → AreSymbolsBy a symbols → k < length symbols → slice_index symbols k ≡ n → n < count_of m.symbols
symbol-below a m a_is symbols k n of l at =
    subst (λ n. n < count_of m.symbols) at (below-count m symbols (subst (λ (a : ContentAutomaton). AreSymbolsBy a symbols) a_is of) k l)

pub row-fits : (m : ModelAutomaton) (n width : ℕ) → width ≡ width_of m → n < count_of m.symbols → (l : Leaf ℕ) (marked : Bool) → l ≡ record { letter = Some n; element = true; marked = marked } →
    ForSome l.letter (λ x. (width_of m ≡ width) × (x < count_of m.symbols))
row-fits m n width e below l marked is = λ x f. (sym e, subst (λ k. k < count_of m.symbols) (same_Some n x (sym (ap (λ (l : Leaf ℕ). l.letter) is) ∙ f)) below)

-- ---- by states
module _ (a : ContentAutomaton) (m : ModelAutomaton) (a_is : a ≡ States m) (v : RowLists) (list : ℕ) where
  pub row-shape : (symbols : List ℕ) → IsRowList v list a symbols → v.shape ≡ width_of m
  row-shape symbols h = (row-has a m a_is v list symbols h).0

  pub row-state : (symbols : List ℕ) → IsRowList v list a symbols → (s : ℕ) → s ≤ dead_of m.machine → s < v.shape
  row-state symbols h s l = let e = row-shape symbols h in omega arith

  module _ (start : ℕ) (start_is : start ≡ start_of m.machine) (symbols : List ℕ) (h : IsRowList v list a symbols) where
    abbrev own : HasLeaves v list (leaf_of m) (is_ambivalent_symbol a) symbols
    own = (row-has a m a_is v list symbols h).1

    shape : v.shape ≡ width_of m
    shape = row-shape symbols h

    by-one : (o : Option ℕ) → o ≡ stuck_in (Some (States m)) symbols → o ≡ stuck_in (Some a) symbols
    by-one o e = subst (λ (a : ContentAutomaton). o ≡ stuck_in (Some a) symbols) (sym a_is) e

    pub rows-first : (p : ℕ) → ((xs : List (Entry (List ℕ))) → get v list ≡ Some xs → IsFirstDead slice_index (λ s. s + 1 == v.shape) start xs p) → Some p ≡ stuck_in (Some a) symbols
    rows-first p f =
        let here = f own.entries own.list_is in
        let begun = subst (λ s. IsFirstDead slice_index (λ s. s + 1 == v.shape) s own.entries p) start_is here in
        by-one (Some p) (first-stuck m symbols own.entries own.maps p (subst (λ w. IsFirstDead slice_index (λ s. s + 1 == w) (start_of m.machine) own.entries p) shape begun))

    module _ (none : (xs : List (Entry (List ℕ))) → get v list ≡ Some xs → NoneIsDead slice_index (λ s. s + 1 == v.shape) start xs) (end : ℕ)
        (end_is : (xs : List (Entry (List ℕ))) → get v list ≡ Some xs → end ≡ acts_along slice_index start xs) where
      none-now : NoneIsDead slice_index (λ s. s + 1 == width_of m) (start_of m.machine) own.entries
      none-now =
          let here = none own.entries own.list_is in
          let begun = subst (λ s. NoneIsDead slice_index (λ s. s + 1 == v.shape) s own.entries) start_is here in
          subst (λ w. NoneIsDead slice_index (λ s. s + 1 == w) (start_of m.machine) own.entries) shape begun

      end-now : end ≡ acts_along slice_index (start_of m.machine) own.entries
      end-now = end_is own.entries own.list_is ∙ ap (λ s. acts_along slice_index s own.entries) start_is

      pub rows-none : accepts_at m.machine end ≡ true → None ≡ stuck_in (Some a) symbols
      rows-none e = by-one None (none-stuck m symbols own.entries own.maps none-now end end-now e)

      pub rows-end : (count : ℕ) → count ≡ length symbols → accepts_at m.machine end ≡ false → Some count ≡ stuck_in (Some a) symbols
      rows-end count c e = by-one (Some count) (end-stuck m symbols own.entries own.maps none-now end end-now count c e)

    pub rows-led : (k state : ℕ) → ((xs : List (Entry (List ℕ))) → get v list ≡ Some xs → state ≡ acts_along slice_index start (take k xs)) → state ≡ state_of m.machine (take k symbols)
    rows-led k state e = e own.entries own.list_is ∙ (ap (λ s. acts_along slice_index s (take k own.entries)) start_is ∙ led m symbols own.entries own.maps k)

    pub rows-upto : (k state : ℕ) → ((xs : List (Entry (List ℕ))) → get v list ≡ Some xs → state ≡ acts_along slice_index start (take k xs)) → LeadIn a (take k symbols) (Row state)
    rows-upto k state e = subst (λ (a : ContentAutomaton). LeadIn a (take k symbols) (Row state)) (sym a_is) (rows-led k state e)

-- ---- on from a state
pub row-states : (a : ContentAutomaton) (before : List ℕ) (s : ℕ) → LeadIn a before (Row s) → (m : ModelAutomaton) × (a ≡ States m)
row-states (States m) before s l = (m, refl)
row-states (All m) before s l = absurd l

pub row-reached : (a : ContentAutomaton) (before : List ℕ) (m : ModelAutomaton) → a ≡ States m → (s : ℕ) → LeadIn a before (Row s) → s ≡ state_of m.machine before
row-reached a before m a_is s l = subst (λ (a : ContentAutomaton). LeadIn a before (Row s)) a_is l

pub row-led : (a : ContentAutomaton) (m : ModelAutomaton) → a ≡ States m → (before : List ℕ) (r : Reached) → LeadIn a before r → (state : ℕ) × (r ≡ Row state)
row-led a m a_is before r l = by r (subst (λ (a : ContentAutomaton). LeadIn a before r) a_is l)
  where
    by : (r : Reached) → LeadIn (States m) before r → (state : ℕ) × (r ≡ Row state)
    by (Row s) l = (s, refl)
    by (Seen s) l = absurd l

pub row-next : (a : ContentAutomaton) (before : List ℕ) (m : ModelAutomaton) → a ≡ States m → (s n next : ℕ) → LeadIn a before (Row s) → next ≡ step_of m.machine s n → LeadIn a (before ++ n ∷ []) (Row next)
row-next a before m a_is s n next l e =
    let at : s ≡ state_of m.machine before = row-reached a before m a_is s l in
    let own : next ≡ state_of m.machine (before ++ n ∷ []) = e ∙ (ap (λ s. step_of m.machine s n) at ∙ sym (run-append m.machine (start_of m.machine) before (n ∷ []))) in
    subst (λ (a : ContentAutomaton). LeadIn a (before ++ n ∷ []) (Row next)) (sym a_is) own

pub row-begins : (a : ContentAutomaton) (symbols : List ℕ) (m : ModelAutomaton) → a ≡ States m → (s dead : ℕ) → dead ≡ dead_of m.machine → LeadIn a symbols (Row s) → nat_lt s dead ≡ begins a symbols
row-begins a symbols m a_is s dead d l =
    let own : nat_lt s dead ≡ begins (States m) symbols = (λ i. nat_lt (row-reached a symbols m a_is s l i) (d i)) in
    subst (λ (a : ContentAutomaton). nat_lt s dead ≡ begins a symbols) (sym a_is) own

pub row-word : (a : ContentAutomaton) (symbols : List ℕ) (m : ModelAutomaton) → a ≡ States m → (s : ℕ) → LeadIn a symbols (Row s) → accepts_at m.machine s ≡ is_word a symbols
row-word a symbols m a_is s l =
    let own : accepts_at m.machine s ≡ is_word (States m) symbols = ap (accepts_at m.machine) (row-reached a symbols m a_is s l) in
    subst (λ (a : ContentAutomaton). accepts_at m.machine s ≡ is_word a symbols) (sym a_is) own

module _ (v : RowLists) (list : ℕ) where
  pub lead-row : (a : ContentAutomaton) (before symbols : List ℕ) (r : Reached) → LeadIn a before r → IsRowList v list a symbols → (state : ℕ) × (r ≡ Row state)
  lead-row (States m) before symbols (Row s) l h = (s, refl)
  lead-row (States m) before symbols (Seen s) l h = absurd l
  lead-row (All m) before symbols r l h = absurd h

  pub lead-below : (a : ContentAutomaton) (before symbols : List ℕ) (s : ℕ) → LeadIn a before (Row s) → IsRowList v list a symbols → s < v.shape
  lead-below (States m) before symbols s l (shape, h) = let w = run-within m.machine (start_of m.machine) before (start-within m symbols h.entries h.maps) in omega arith
  lead-below (All m) before symbols s l h = absurd h

  pub rows-from : (a : ContentAutomaton) (before symbols : List ℕ) (s place after : ℕ) → LeadIn a before (Row s) → IsRowList v list a symbols →
      ((xs : List (Entry (List ℕ))) → get v list ≡ Some xs → after ≡ acts_along slice_index s (drop place xs)) → LeadIn a (before ++ drop place symbols) (Row after)
  rows-from (States m) before symbols s place after l (shape, h) e =
      let within : s ≤ dead_of m.machine = (let w = run-within m.machine (start_of m.machine) before (start-within m symbols h.entries h.maps) in omega arith) in
      let maps : map (λ (e : Entry (List ℕ)). e.act) (drop place h.entries) ≡ map (leaf_of m) (drop place symbols) =
      sym (drop-map (λ (e : Entry (List ℕ)). e.act) place h.entries) ∙ (ap (drop place) h.maps ∙ drop-map (leaf_of m) place symbols) in
      e h.entries h.list_is ∙ (rows_are m (drop place symbols) s (drop place h.entries) within maps ∙
      (ap (λ s. run m.machine s (drop place symbols)) l ∙ sym (run-append m.machine (start_of m.machine) before (drop place symbols))))
  rows-from (All m) before symbols s place after l h e = absurd h

-- ---- by the members of an all
module _ (a : ContentAutomaton) (m : AllModel) (a_is : a ≡ All m) (v : MemberLists) (list : ℕ) where
  module _ (start : AllState) (start_is : start ≡ alls.start_of m.machine) (symbols : List ℕ) (h : IsMemberList v list a symbols) where
    abbrev leaves : HasLeaves v list (member_of m) (is_ambivalent_symbol a) symbols
    leaves = member-has a m a_is v list symbols h

    by-all : (o : Option ℕ) → o ≡ stuck_in (Some (All m)) symbols → o ≡ stuck_in (Some a) symbols
    by-all o e = subst (λ (a : ContentAutomaton). o ≡ stuck_in (Some a) symbols) (sym a_is) e

    pub members-first : (p : ℕ) → ((xs : List (Entry AllMap)) → get v list ≡ Some xs → IsFirstDead acts (λ (s : AllState). s.dead) start xs p) → Some p ≡ stuck_in (Some a) symbols
    members-first p f =
        by-all (Some p) (all-first_stuck m symbols leaves.entries leaves.maps p (subst (λ (s : AllState). IsFirstDead acts (λ (s : AllState). s.dead) s leaves.entries p) start_is (f leaves.entries leaves.list_is)))

    module _ (none : (xs : List (Entry AllMap)) → get v list ≡ Some xs → NoneIsDead acts (λ (s : AllState). s.dead) start xs) (end : AllState)
        (end_is : (xs : List (Entry AllMap)) → get v list ≡ Some xs → end ≡ acts_along acts start xs) where
      all-none_now : NoneIsDead acts (λ (s : AllState). s.dead) (alls.start_of m.machine) leaves.entries
      all-none_now = subst (λ (s : AllState). NoneIsDead acts (λ (s : AllState). s.dead) s leaves.entries) start_is (none leaves.entries leaves.list_is)

      all-end_now : end ≡ acts_along acts (alls.start_of m.machine) leaves.entries
      all-end_now = end_is leaves.entries leaves.list_is ∙ ap (λ (s : AllState). acts_along acts s leaves.entries) start_is

      pub members-none : alls.accepts_at m.machine end ≡ true → None ≡ stuck_in (Some a) symbols
      members-none e = by-all None (all-none_stuck m symbols leaves.entries leaves.maps all-none_now end all-end_now e)

      pub members-end : (count : ℕ) → count ≡ length symbols → alls.accepts_at m.machine end ≡ false → Some count ≡ stuck_in (Some a) symbols
      members-end count c e = by-all (Some count) (all-end_stuck m symbols leaves.entries leaves.maps all-none_now end all-end_now count c e)

    pub members-upto : (k : ℕ) (state : AllState) → ((xs : List (Entry AllMap)) → get v list ≡ Some xs → state ≡ acts_along acts start (take k xs)) → LeadIn a (take k symbols) (Seen state)
    members-upto k state e =
        let own : state ≡ alls.state_of m.machine (map (letter_of m) (take k symbols)) =
        e leaves.entries leaves.list_is ∙ (ap (λ (s : AllState). acts_along acts s (take k leaves.entries)) start_is ∙ all-led m symbols leaves.entries leaves.maps k) in
        subst (λ (a : ContentAutomaton). LeadIn a (take k symbols) (Seen state)) (sym a_is) own

pub seen-members : (a : ContentAutomaton) (before : List ℕ) (s : AllState) → LeadIn a before (Seen s) → (m : AllModel) × (a ≡ All m)
seen-members (States m) before s l = absurd l
seen-members (All m) before s l = (m, refl)

seen-reached : (a : ContentAutomaton) (before : List ℕ) (m : AllModel) → a ≡ All m → (s : AllState) → LeadIn a before (Seen s) → s ≡ alls.state_of m.machine (map (letter_of m) before)
seen-reached a before m a_is s l = subst (λ (a : ContentAutomaton). LeadIn a before (Seen s)) a_is l

all-append : (s : AllState) (xs ys : List ℕ) → alls.run s (xs ++ ys) ≡ alls.run (alls.run s xs) ys
all-append s [] ys = refl
all-append s (x ∷ xs) ys = all-append (alls.next_of s x) xs ys

-- after more children
all-more : (m : AllModel) (before more : List ℕ) → alls.run (alls.state_of m.machine (map (letter_of m) before)) (map (letter_of m) more) ≡ alls.state_of m.machine (map (letter_of m) (before ++ more))
all-more m before more =
    sym (ap (alls.run (alls.start_of m.machine)) (map-append (letter_of m) before more) ∙ all-append (alls.start_of m.machine) (map (letter_of m) before) (map (letter_of m) more))

pub seen-next : (a : ContentAutomaton) (before : List ℕ) (m : AllModel) → a ≡ All m → (s next : AllState) (n : ℕ) → LeadIn a before (Seen s) → next ≡ alls.next_of s (letter_of m n) → LeadIn a (before ++ n ∷ []) (Seen next)
seen-next a before m a_is s next n l e =
    let at : s ≡ alls.state_of m.machine (map (letter_of m) before) = seen-reached a before m a_is s l in
    let own : next ≡ alls.state_of m.machine (map (letter_of m) (before ++ n ∷ [])) = e ∙ (ap (λ (s : AllState). alls.next_of s (letter_of m n)) at ∙ all-more m before (n ∷ [])) in
    subst (λ (a : ContentAutomaton). LeadIn a (before ++ n ∷ []) (Seen next)) (sym a_is) own

pub seen-begins : (a : ContentAutomaton) (symbols : List ℕ) (s : AllState) → LeadIn a symbols (Seen s) → not s.dead ≡ begins a symbols
seen-begins (States m) symbols s l = absurd l
seen-begins (All m) symbols s l = ap (λ (s : AllState). not s.dead) l

pub seen-word : (a : ContentAutomaton) (symbols : List ℕ) (m : AllModel) → a ≡ All m → (s : AllState) → LeadIn a symbols (Seen s) → alls.accepts_at m.machine s ≡ is_word a symbols
seen-word a symbols m a_is s l =
    let own : alls.accepts_at m.machine s ≡ is_word (All m) symbols = ap (alls.accepts_at m.machine) (seen-reached a symbols m a_is s l) in
    subst (λ (a : ContentAutomaton). alls.accepts_at m.machine s ≡ is_word a symbols) (sym a_is) own

module _ (v : MemberLists) (list : ℕ) where
  pub lead-seen : (a : ContentAutomaton) (before symbols : List ℕ) (r : Reached) → LeadIn a before r → IsMemberList v list a symbols → (state : AllState) × (r ≡ Seen state)
  lead-seen (States m) before symbols r l h = absurd h
  lead-seen (All m) before symbols (Row s) l h = absurd l
  lead-seen (All m) before symbols (Seen s) l h = (s, refl)

  pub members-from : (a : ContentAutomaton) (before symbols : List ℕ) (s after : AllState) (place : ℕ) → LeadIn a before (Seen s) → IsMemberList v list a symbols →
      ((xs : List (Entry AllMap)) → get v list ≡ Some xs → after ≡ acts_along acts s (drop place xs)) → LeadIn a (before ++ drop place symbols) (Seen after)
  members-from (States m) before symbols s after place l h e = absurd h
  members-from (All m) before symbols s after place l h e =
      let maps : map (λ (e : Entry AllMap). e.act) (drop place h.entries) ≡ map of_letter (map (letter_of m) (drop place symbols)) =
      sym (drop-map (λ (e : Entry AllMap). e.act) place h.entries) ∙ (ap (drop place) h.maps ∙ (drop-map (member_of m) place symbols ∙ sym (map-twice (letter_of m) of_letter (drop place symbols)))) in
      e h.entries h.list_is ∙ (letters_are (map (letter_of m) (drop place symbols)) s (drop place h.entries) maps ∙
      (ap (λ (s : AllState). alls.run s (map (letter_of m) (drop place symbols))) l ∙ all-more m before (drop place symbols)))
