-- A row of cells, one symbol after another, with the sets of the symbols that are left.
use Rattle.std.proofs.Common.{◌≡◌, ℕ, suc, ◌+◌, ◌-◌, ◌*◌, ◌<◌, ◌≤◌, ◌↔◌, ◌==◌, List, [], ◌∷◌, ◌++◌, length, map, get_or, drop, refl, sym, ap, subst, ◌∙◌, arith, add-one, drop-cons}
use Rattle.std.specs.Prelude.{Contains, filter}
use Rattle.std.specs.List.Sorted.{IsStrictlyIncreasing}
use Rattle.xs_positions.specs.Positions.{Table}
use Rattle.content_automaton.specs.Moves.{IsWithin, takes, Comes}
use Rattle.content_automaton.specs.Built.{IsNew, IsNumbered, AreStates, AreTooMany, AreSteps, IsRow}
use Rattle.content_automaton.proofs.Building.{row_begun, row_done, turn_too_many, turn_more}
use Rattle.content_automaton.proofs.Putting.{AreLeft, left_head, left_tail}

-- the sets that are left, one after another
pub left_here : {X : Type 0} (all : List X) (i : ℕ) (x : X) → i < length all → x ≡ get_or all i x → drop i all ≡ x ∷ drop (i + 1) all
left_here all i x l is = rw add-one (drop-cons all i x l ∙ ap (λ y. y ∷ drop (suc i) all) (sym is))

-- the symbol whose set comes next
abbrev pub symbol_next : {Y : Type 0} → ℕ → List Y → ℕ
symbol_next symbols sets = symbols - length sets

pub record IsTurn (table : Table) (accepted : List (List ℕ)) (symbols : ℕ) {Y : Type 0} (g : Y → List ℕ) (states : List (List ℕ)) (cells : List ℕ) (state : ℕ) (next : List ℕ) (least : ℕ) (sets : List Y) : Type 0 where
  pub row : IsRow table accepted symbols states cells state (symbol_next symbols sets) next least
  pub few : length sets ≤ symbols
  pub left : AreLeft g (takes table accepted) next sets (symbol_next symbols sets)

module _ (table : Table) (accepted : List (List ℕ)) (symbols : ℕ) {X : Type 0} (f : X → List ℕ) (w : IsWithin table) where
  pub turns_begun : (xs : List X) (cells : List ℕ) (s : ℕ) (x : X) (set next now : List ℕ) (sets rest : List X) → AreStates table accepted symbols (map f xs) → length xs ≤ 2048 → s < length xs →
      AreSteps table accepted symbols (map f xs) cells → length cells ≡ s * symbols → x ≡ get_or xs s x → set ≡ f x →
      ((q : ℕ) → Contains next q ↔ Comes table (s == 0) set q) → now ≡ next →
      length sets ≡ symbols → ((n : ℕ) → n < symbols → get_or (map f sets) n [] ≡ filter (λ p. takes table accepted p n) now) → rest ≡ sets →
      IsTurn table accepted symbols f (map f xs) cells s next (length xs) rest
  turns_begun xs cells s x set next now sets rest are few l steps count e v h is all each same =
      let n : 0 ≡ symbol_next symbols rest = (let k = ap length same in omega arith) in
      let k : length rest ≤ symbols = (let k = ap length same in omega arith) in record {
        row = subst (λ (k : ℕ). IsRow table accepted symbols (map f xs) cells s k next (length xs)) n (row_begun table accepted symbols f w xs cells s x set next are few l steps count e v h);
        few = k;
        left = λ m b.
            (ap (λ ys. get_or (map f ys) m []) same ∙ (each m (omega arith) ∙ (ap (λ ys. filter (λ p. takes table accepted p m) ys) is ∙
            ap (λ i. filter (λ p. takes table accepted p i) next) (let z : m ≡ symbol_next symbols rest + m = omega arith in z))));
      }

  module _ (xs : List X) (cells : List ℕ) (s : ℕ) (next : List ℕ) (least : ℕ) (sets : List X) (turn : IsTurn table accepted symbols f (map f xs) cells s next least sets)
      (x : X) (rest : List X) (is : sets ≡ x ∷ rest) (rise : IsStrictlyIncreasing next) where
    abbrev n : ℕ
    n = symbol_next symbols sets

    below : n < symbols
    below = let k = ap length is in let m = turn.few in omega arith

    left : AreLeft f (takes table accepted) next (x ∷ rest) n
    left = subst (λ (ys : List X). AreLeft f (takes table accepted) next ys n) is turn.left

    taken : f x ≡ filter (λ p. takes table accepted p n) next
    taken = left_head f (takes table accepted) next x rest n left

    pub turns_too_many : IsNew (map f xs) (f x) → length xs ≡ 2048 → AreTooMany table accepted symbols
    turns_too_many = turn_too_many table accepted symbols f w xs cells s n next least next (f x) turn.row below rise refl taken

    pub turns_more : (ys : List X) (to : ℕ) → IsNumbered (map f xs) (map f ys) (f x) to → (cells' : List ℕ) → cells' ≡ cells ++ to ∷ [] →
        IsTurn table accepted symbols f (map f ys) cells' s next least rest
    turns_more ys to h cells' p =
        let e : n + 1 ≡ symbol_next symbols rest = (let k = ap length is in let m = turn.few in omega arith) in record {
          row = subst (λ (k : ℕ). IsRow table accepted symbols (map f ys) cells' s k next least) e
              (turn_more table accepted symbols f w xs cells s n next least next (f x) turn.row below rise refl taken ys to h cells' p);
          few = (let k = ap length is in let m = turn.few in omega arith);
          left = subst (λ (k : ℕ). AreLeft f (takes table accepted) next rest k) e (left_tail f (takes table accepted) next x rest n left);
        }

  pub turns_done : (xs : List X) (cells : List ℕ) (s : ℕ) (next : List ℕ) (least : ℕ) (sets : List X) → IsTurn table accepted symbols f (map f xs) cells s next least sets → length sets ≡ 0 →
      (length xs ≤ 2048) × (least ≤ length xs) × (length cells ≡ (s + 1) * symbols)
  turns_done xs cells s next least sets turn e =
      row_done table accepted symbols f w xs cells s (symbol_next symbols sets) next least turn.row (let z : symbol_next symbols sets ≡ symbols = omega arith in z)
