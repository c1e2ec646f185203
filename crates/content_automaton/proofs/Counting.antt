-- The states of an automaton are all the sets that are reached, each once.
use Rattle.std.proofs.Common.{◌≡◌, ◌≢◌, ℕ, zero, suc, ◌+◌, ◌<◌, ◌≤◌, ◌↔◌, List, [], ◌∷◌, length, get_or, refl, ap, subst, sym, ◌∙◌, inl, inr, arith, nat_eq}
use Rattle.std.specs.Prelude.{Contains, All}
use Rattle.std.specs.List.{AllPairs}
use Rattle.std.specs.List.Sorted.{IsStrictlyIncreasing}
use Rattle.std.specs.Bool.{Decides}
use Rattle.std.specs.Cmp.Lexicographic.{pointwise}
use Rattle.std.proofs.lemmas.Bool.{cases_lt}
use Rattle.std.proofs.lemmas.Bool.Decides.{Decides-eqb}
use Rattle.std.proofs.lemmas.Cmp.{nat_list_eq_equiv}
use Rattle.std.proofs.lemmas.List.{get_or_past}
use Rattle.std.proofs.lemmas.List.Elements.{All-push, All-tail}
use Rattle.std.proofs.lemmas.List.Kept.{AllPairs-from_increasing}
use Rattle.std.proofs.lemmas.Map.Made.{length-le_from_is_member, IsDistinct-from_AllPairs, is_member-Decides}
use Rattle.std.proofs.lemmas.Slice.Eq.{slice_eq-Decides}
use Rattle.xs_positions.specs.Tree.{Tree}
use Rattle.xs_positions.specs.Positions.{Table, ArePositionsOf}
use Rattle.content_automaton.specs.Moves.{takes}
use Rattle.content_automaton.specs.Built.{set_of, IsState, AreStates, AreTooMany}
use Rattle.content_automaton.specs.Automaton.{Automaton, run, IsAutomaton}
use Rattle.content_automaton.specs.Count.{IsReachSet, IsStateCount}
use Rattle.content_automaton.proofs.Members.{some_of, none_contained, contains_cases, contains_head, contains_tail}
use Rattle.content_automaton.proofs.Running.{stands_run, stands_start}
use Rattle.content_automaton.proofs.Reached.{turned, ends_reach}
use Rattle.content_automaton.proofs.Language.{reached}

-- ---- lists of lists, no two the same
same_lists : (a b : List ℕ) → Decides (pointwise nat_eq a b) (a ≡ b)
same_lists a b = slice_eq-Decides Decides-eqb a b (pointwise nat_eq a b) refl

pub no_more_than : (xs ys : List (List ℕ)) → AllPairs (λ x y. x ≢ y) xs → ((set : List ℕ) → Contains xs set → Contains ys set) → length xs ≤ length ys
no_more_than xs ys apart inside =
    length-le_from_is_member nat_list_eq_equiv xs ys (IsDistinct-from_AllPairs same_lists xs apart)
    (λ q m. (is_member-Decides same_lists ys q).1 (inside q ((is_member-Decides same_lists xs q).0 m)))

-- ---- rising lists with the same members
rising_tail : (x : ℕ) (xs : List ℕ) → IsStrictlyIncreasing (x ∷ xs) → IsStrictlyIncreasing xs
rising_tail x xs h k l =
    let m : suc k + 1 ≡ suc (k + 1) = omega arith in
    subst (λ (i : ℕ). get_or xs k 0 < get_or (x ∷ xs) i 0) m (h (suc k) (omega arith))

above_head : (x : ℕ) (xs : List ℕ) (q : ℕ) → IsStrictlyIncreasing (x ∷ xs) → Contains xs q → x < q
above_head x xs q h (k, l, e) =
    let a : x < get_or xs k q = AllPairs-from_increasing (x ∷ xs) h 0 (suc k) q (omega arith) (omega arith) in omega arith

pub same_rising : (xs ys : List ℕ) → IsStrictlyIncreasing xs → IsStrictlyIncreasing ys → ((q : ℕ) → Contains xs q ↔ Contains ys q) → xs ≡ ys
same_rising [] [] a b h = refl
same_rising [] (y ∷ ys) a b h = absurd (none_contained y ((h y).1 (contains_head y ys y refl)))
same_rising (x ∷ xs) [] a b h = absurd (none_contained x ((h x).0 (contains_head x xs x refl)))
same_rising (x ∷ xs) (y ∷ ys) a b h =
    let e : x ≡ y = heads in
    let t : xs ≡ ys = same_rising xs ys (rising_tail x xs a) (rising_tail y ys b) (λ q. (
      (λ c. elim (contains_cases y ys q ((h q).0 (contains_tail x xs q c))) [ inl k ↦ (let l = above_head x xs q a c in absurd (omega arith)) | inr k ↦ k ]),
      (λ c. elim (contains_cases x xs q ((h q).1 (contains_tail y ys q c))) [ inl k ↦ (let l = above_head y ys q b c in absurd (omega arith)) | inr k ↦ k ]),
    )) in
    cc
  where
    heads : x ≡ y
    heads = elim (contains_cases y ys x ((h x).0 (contains_head x xs x refl))) [
      | inl k ↦ k
      | inr k ↦ elim (contains_cases x xs y ((h y).1 (contains_head y ys y refl))) [
        | inl m ↦ sym m
        | inr m ↦ (let p = above_head y ys x b k in let q = above_head x xs y a m in absurd (omega arith))
      ]
    ]

-- ---- the states
default : (rest : List (List ℕ)) (k : ℕ) (d : List ℕ) → k < length rest → get_or rest k d ≡ get_or rest k []
default [] k d l = absurd (omega arith)
default (x ∷ rest) zero d l = refl
default (x ∷ rest) (suc k) d l = default rest k d (omega arith)

behind_start : (states : List (List ℕ)) (set : List ℕ) (k : ℕ) → 0 < k → k < length states → set_of states k ≡ set → (first : List ℕ) (rest : List (List ℕ)) → states ≡ first ∷ rest → Contains rest set
behind_start states set zero p l e first rest same = absurd (omega arith)
behind_start states set (suc k) p l e first rest same =
    let l2 : suc k < length (first ∷ rest) = rw same at l in
    let e2 : get_or rest k [] ≡ set = rw same at e in
    (k, omega arith, default rest k set (omega arith) ∙ e2)

from_start : (first : List ℕ) (rest : List (List ℕ)) (set : List ℕ) → Contains rest set → (k : ℕ) × (0 < k) × (k < length (first ∷ rest)) × (set_of (first ∷ rest) k ≡ set)
from_start first rest set (k, l, e) = (suc k, omega arith, omega arith, sym (default rest k set l) ∙ e)

module _ (tree : Tree) (table : Table) (are : ArePositionsOf tree table) (accepted : List (List ℕ)) where
  turned_below : (m : ℕ) (before : List ℕ) → All (λ n. n < m) before → All (λ n. n < m) (turned tree table are (takes table accepted) before)
  turned_below m [] h = h
  turned_below m (n ∷ before) h = All-push (λ n. n < m) (turned tree table are (takes table accepted) before) n (turned_below m before (All-tail (λ n. n < m) n before h)) (h 0 0 (omega arith))

  -- names lead to a state by the one and the other definition
  pub state_reach_set : (symbols : ℕ) (set : List ℕ) → IsState table accepted symbols set → IsReachSet tree table accepted symbols set
  state_reach_set symbols set is = record {
    filled = is.filled;
    rises = is.rises;
    names = turned tree table are (takes table accepted) is.reached.0;
    below = turned_below symbols is.reached.0 is.reached.1;
    reached = λ q. (let e = ends_reach tree table are (takes table accepted) is.reached.0 q in let r = is.reached.2 q in ((λ c. e.0 (r.0 c)), (λ h. r.1 (e.1 h))));
  }

  -- any states are among all the sets
  different_states : (symbols : ℕ) (states : List (List ℕ)) → AreStates table accepted symbols states → (count : ℕ) → IsStateCount tree table accepted symbols count → length states ≤ count
  different_states symbols [] s count all = omega arith
  different_states symbols (first ∷ rest) s count all =
      let l : length rest ≤ length all.sets = no_more_than rest all.sets
      (λ i j d a b. let e : d ≡ d = refl in apart_at i j d a b)
      (λ set c. let k = from_start first rest set c in
      (all.all set).1 (subst (λ (x : List ℕ). IsReachSet tree table accepted symbols x) k.3 (state_reach_set symbols (set_of (first ∷ rest) k.0) (s.each k.0 k.1 k.2)))) in
      let n = all.counted in omega arith
    where
      apart_at : AllPairs (λ x y. x ≢ y) rest
      apart_at i j d a b e = s.apart (suc i) (suc j) (omega arith) (omega arith) (sym (default rest i d (omega arith)) ∙ (e ∙ default rest j d b))

  pub too_many_states : (symbols : ℕ) → AreTooMany table accepted symbols → (count : ℕ) → IsStateCount tree table accepted symbols count → 2048 < count
  too_many_states symbols many count all = let l = different_states symbols many.0 many.1 count all in let m = many.2 in omega arith

  module _ (sets : List (List ℕ)) (a : Automaton) (is : IsAutomaton table accepted sets a) where
    -- a set that is reached is a state
    reach_set_state : (set : List ℕ) → IsReachSet tree table accepted a.symbols set → (k : ℕ) × (0 < k) × (k < a.count) × (set_of sets k ≡ set)
    reach_set_state set h =
        let s : ℕ = run a 0 h.names in
        let st = stands_run table accepted sets a is h.names [] 0 h.below (stands_start table accepted sets a is) in
        let r = reached tree table are accepted sets a is h.names s st in
        let q = some_of set h.filled in
        let c : Contains (set_of sets s) q.0 = (r q.0).1 ((h.reached q.0).0 q.1) in
        let p : 0 < s = not_start s q.0 c in let l : s < a.count = inside s q.0 c in
        (s, p, l, same_rising (set_of sets s) set (is.states.each s p (let n = is.counted in omega arith)).rises h.rises (λ q. ((λ c. (h.reached q).1 ((r q).0 c)), (λ c. (r q).1 ((h.reached q).0 c)))))
      where
        not_start : (s q : ℕ) → Contains (set_of sets s) q → 0 < s
        not_start zero q c = absurd (none_contained q (rw is.states.start at c))
        not_start (suc s) q c = omega arith

        inside : (s q : ℕ) → Contains (set_of sets s) q → s < a.count
        inside s q c = elim (cases_lt s a.count) [
          | inl l ↦ l
          | inr l ↦ absurd (none_contained q (rw (get_or_past sets s [] (let n = is.counted in omega arith)) at c))
        ]

    count_of : (states : List (List ℕ)) → sets ≡ states → IsStateCount tree table accepted a.symbols (length states)
    count_of [] e = (let m = is.states.some in let counted = is.counted in let n = ap length e in absurd (omega arith))
    count_of (first ∷ rest) e = record {
      sets = rest;
      all = λ set. (
        (λ c. let k = from_start first rest set c in let n = ap length e in let l : k.0 < length sets = (let m = k.2 in omega arith) in
            let same : set_of sets k.0 ≡ set = ap (λ xs. set_of xs k.0) e ∙ k.3 in
            subst (λ (x : List ℕ). IsReachSet tree table accepted a.symbols x) same (state_reach_set a.symbols (set_of sets k.0) (is.states.each k.0 k.1 l))),
        (λ h. let k = reach_set_state set h in behind_start sets set k.0 k.1 (let l = k.2 in let m = is.counted in omega arith) k.3 first rest e),
      );
      different = λ i j d l m same. (let n = ap length e in
          is.states.apart (suc i) (suc j) (omega arith) (omega arith)
          (ap (λ xs. set_of xs (suc i)) e ∙ (sym (default rest i d (omega arith)) ∙ (same ∙ (default rest j d m ∙ sym (ap (λ xs. set_of xs (suc j)) e))))));
      counted = refl;
    }

    pub counted : IsStateCount tree table accepted a.symbols a.count
    counted = subst (λ (k : ℕ). IsStateCount tree table accepted a.symbols k) is.counted (count_of sets refl)
