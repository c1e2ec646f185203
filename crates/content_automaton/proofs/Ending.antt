-- In which states a word may end.
use Rattle.std.proofs.Common.{◌≡◌, ℕ, ◌+◌, ◌<◌, ◌≤◌, ◌↔◌, ◌⊎◌, ◌==◌, Bool, true, false, IsTrue, List, [], ◌∷◌, ◌++◌, length, map, get_or, take, refl, ap, sym, ◌∙◌, inl, inr, arith, eq-eqb, below_more}
use Rattle.std.specs.Prelude.{Contains}
use Rattle.std.specs.List.{list_any}
use Rattle.std.proofs.lemmas.Bool.{both_ways, or_left, or_right, false≢true}
use Rattle.std.proofs.lemmas.List.{take_all, get_or_append_left, get_or_push}
use Rattle.xs_positions.specs.Positions.{Table}
use Rattle.content_automaton.specs.Built.{set_of}
use Rattle.content_automaton.specs.Automaton.{MayEnd}
use Rattle.content_automaton.proofs.Members.{some_of, none_contained, contains_cases}
use Rattle.content_automaton.proofs.Numbering.{set_at, not_empty_set}
use Rattle.content_automaton.proofs.Moving.{taken_cases}

contains_any : (x : ℕ) (xs : List ℕ) → Contains xs x → list_any (λ y. y == x) xs ≡ true
contains_any x [] c = absurd (none_contained x c)
contains_any x (z ∷ xs) c = elim (contains_cases z xs x c) [
  | inl e ↦ or_left (z == x) (list_any (λ y. y == x) xs) (eq-eqb z x (sym e))
  | inr k ↦ or_right (z == x) (list_any (λ y. y == x) xs) (contains_any x xs k)
]

pub none_more : (set last last' : List ℕ) (i : ℕ) (r : Bool) → i < length set → last' ≡ last → r ≡ list_any (λ y. y == get_or set i 0) last' → r ≡ false →
    ((p : ℕ) → Contains (take i set) p → Contains last p → ⊥) → (p : ℕ) → Contains (take (i + 1) set) p → Contains last p → ⊥
none_more set last last' i r l same e f none p c d = elim (taken_cases set i p l c) [
  | inl a ↦ none p a d
  | inr b ↦ both_ways r f (e ∙ contains_any (get_or set i 0) last' (rw (same, ← b) d))
]

pub none_at_all : (set last : List ℕ) (i : ℕ) → length set ≤ i → ((p : ℕ) → Contains (take i set) p → Contains last p → ⊥) →
    IsTrue false ↔ ((p : ℕ) × Contains set p × Contains last p)
none_at_all set last i l none = ((λ h. absurd (false≢true h)), (λ h. absurd (none h.0 (rw (take_all i set l) h.1) h.2)))

pub ends_more : {X : Type 0} (f : X → List ℕ) (table : Table) (xs : List X) (ends ends' : List Bool) (i : ℕ) (x : X) (set : List ℕ) (r : Bool) → i < length xs → x ≡ get_or xs i x → set ≡ f x →
    IsTrue r ↔ MayEnd table (i == 0) set → length ends ≡ i → ends' ≡ ends ++ r ∷ [] →
    ((s : ℕ) → s < i → IsTrue (get_or ends s false) ↔ MayEnd table (s == 0) (set_of (map f xs) s)) →
    (s : ℕ) → s < i + 1 → IsTrue (get_or ends' s false) ↔ MayEnd table (s == 0) (set_of (map f xs) s)
ends_more f table xs ends ends' i x set r l e v says n p old =
    below_more (λ s. IsTrue (get_or ends' s false) ↔ MayEnd table (s == 0) (set_of (map f xs) s)) i
    (λ s k. let g : get_or ends' s false ≡ get_or ends s false = ap (λ bs. get_or bs s false) p ∙ get_or_append_left ends (r ∷ []) false s (omega arith) in rw g (old s k))
    (let g : get_or ends' i false ≡ r = ap (λ bs. get_or bs i false) p ∙ get_or_push ends r false i n in
    let h : set_of (map f xs) i ≡ set = set_at f xs i x l e ∙ sym v in rw (g, h) says)

pub some_first : (N : Type 0) (first now : List ℕ) (b : Bool) → now ≡ first → b ≡ (length now == 0) → b ≡ false → IsTrue true ↔ (N ⊎ ((p : ℕ) × Contains first p))
some_first N first now b e t y = ((λ h. inr (some_of first (rw e at (not_empty_set now (length now) b t y refl)))), (λ h. refl))
