-- The measures of sequences and choices, a part more at a time.
use Rattle.std.proofs.Common.{◌≡◌, ℕ, zero, suc, ◌+◌, ◌-◌, ◌^◌, ◌<◌, min, Bool, true, false, ◌&&◌, ◌||◌, List, [], ◌∷◌, ◌++◌, map, length, get_or, take, All, sym, refl, ap, ◌∙◌, arith}
use Rattle.std.proofs.lemmas.List.{length-map, take_more}
use Rattle.xs_positions.specs.Tree.{Tree, nothing, size, sequence_of, choice_of}
use Rattle.xs_positions.specs.Nodes.{tree_at}
use Rattle.xs_positions.specs.Measures.{has_empty, has_word, measure_of}
use Rattle.xs_positions.specs.declared.measures.Measure.{Measure}

pub get_or-map : {A B : Type 0} (f : A → B) (xs : List A) (i : ℕ) (d : A) (e : B) → i < length xs → get_or (map f xs) i e ≡ f (get_or xs i d)
get_or-map f [] i d e l = absurd (omega arith)
get_or-map f (x ∷ xs) zero d e l = refl
get_or-map f (x ∷ xs) (suc i) d e l = get_or-map f xs i d e (omega arith)

-- the measure under a tree's number
pub measure_is : (ms : List Measure) (trees : List Tree) (i : ℕ) (d : Measure) → ms ≡ map measure_of trees → i < length ms → get_or ms i d ≡ measure_of (tree_at trees i)
measure_is ms trees i d same l =
    let k : i < length trees = (let a = length-map trees measure_of in let b = ap length same in omega arith) in
    ap (λ ns. get_or ns i d) same ∙ get_or-map measure_of trees i nothing d k

-- the parts so far and one more
pub taken_more : (f : ℕ → Tree) (parts : List ℕ) (i p : ℕ) → i < length parts → p ≡ get_or parts i p → take (i + 1) (map f parts) ≡ take i (map f parts) ++ f p ∷ []
taken_more f parts i p l e =
    take_more (map f parts) i nothing (let a = length-map parts f in omega arith) ∙
    ap (λ t. take i (map f parts) ++ t ∷ []) (get_or-map f parts i p nothing l ∙ ap f (sym e))

and_assoc : (a b c : Bool) → (a && (b && c)) ≡ ((a && b) && c)
and_assoc true b c = refl
and_assoc false b c = refl

or_assoc : (a b c : Bool) → (a || (b || c)) ≡ ((a || b) || c)
or_assoc true b c = refl
or_assoc false b c = refl

and-true : (a : Bool) → (a && true) ≡ a
and-true true = refl
and-true false = refl

or-false : (a : Bool) → (a || false) ≡ a
or-false true = refl
or-false false = refl

pub size-sequence_of : (ts : List Tree) (t : Tree) → size (sequence_of (ts ++ t ∷ [])) ≡ size (sequence_of ts) + size t
size-sequence_of [] t = omega arith
size-sequence_of (s ∷ ts) t = let e = size-sequence_of ts t in omega arith

pub size-choice_of : (ts : List Tree) (t : Tree) → size (choice_of (ts ++ t ∷ [])) ≡ size (choice_of ts) + size t
size-choice_of [] t = omega arith
size-choice_of (s ∷ ts) t = let e = size-choice_of ts t in omega arith

pub has_empty-sequence_of : (ts : List Tree) (t : Tree) → has_empty (sequence_of (ts ++ t ∷ [])) ≡ (has_empty (sequence_of ts) && has_empty t)
has_empty-sequence_of [] t = and-true (has_empty t)
has_empty-sequence_of (s ∷ ts) t = ap (λ b. has_empty s && b) (has_empty-sequence_of ts t) ∙ and_assoc (has_empty s) (has_empty (sequence_of ts)) (has_empty t)

pub has_word-sequence_of : (ts : List Tree) (t : Tree) → has_word (sequence_of (ts ++ t ∷ [])) ≡ (has_word (sequence_of ts) && has_word t)
has_word-sequence_of [] t = and-true (has_word t)
has_word-sequence_of (s ∷ ts) t = ap (λ b. has_word s && b) (has_word-sequence_of ts t) ∙ and_assoc (has_word s) (has_word (sequence_of ts)) (has_word t)

-- some parts and those after them
pub size-append : (ts us : List Tree) → size (sequence_of (ts ++ us)) ≡ size (sequence_of ts) + size (sequence_of us)
size-append [] us = omega arith
size-append (s ∷ ts) us = let e = size-append ts us in omega arith

pub has_empty-append : (ts us : List Tree) → has_empty (sequence_of (ts ++ us)) ≡ (has_empty (sequence_of ts) && has_empty (sequence_of us))
has_empty-append [] us = refl
has_empty-append (s ∷ ts) us = ap (λ b. has_empty s && b) (has_empty-append ts us) ∙ and_assoc (has_empty s) (has_empty (sequence_of ts)) (has_empty (sequence_of us))

pub has_word-append : (ts us : List Tree) → has_word (sequence_of (ts ++ us)) ≡ (has_word (sequence_of ts) && has_word (sequence_of us))
has_word-append [] us = refl
has_word-append (s ∷ ts) us = ap (λ b. has_word s && b) (has_word-append ts us) ∙ and_assoc (has_word s) (has_word (sequence_of ts)) (has_word (sequence_of us))

pub has_empty-choice_of : (ts : List Tree) (t : Tree) → has_empty (choice_of (ts ++ t ∷ [])) ≡ (has_empty (choice_of ts) || has_empty t)
has_empty-choice_of [] t = or-false (has_empty t)
has_empty-choice_of (s ∷ ts) t = ap (λ b. has_empty s || b) (has_empty-choice_of ts t) ∙ or_assoc (has_empty s) (has_empty (choice_of ts)) (has_empty t)

has_word-choice_of : (ts : List Tree) (t : Tree) → has_word (choice_of (ts ++ t ∷ [])) ≡ (has_word (choice_of ts) || has_word t)
has_word-choice_of [] t = or-false (has_word t)
has_word-choice_of (s ∷ ts) t = ap (λ b. has_word s || b) (has_word-choice_of ts t) ∙ or_assoc (has_word s) (has_word (choice_of ts)) (has_word t)

same_measure : (m n : Measure) → m.size ≡ n.size → m.nullable ≡ n.nullable → m.inhabited ≡ n.inhabited → m ≡ n
same_measure m n e f g = λ i. record { size = e i; nullable = f i; inhabited = g i }

pub sequence_more : (ts : List Tree) (t : Tree) (m n r : Measure) → m ≡ measure_of (sequence_of ts) → n ≡ measure_of t →
    r.size ≡ min (m.size + n.size) (2 ^ 64 - 1) → r.nullable ≡ (m.nullable && n.nullable) → r.inhabited ≡ (m.inhabited && n.inhabited) →
    r ≡ measure_of (sequence_of (ts ++ t ∷ []))
sequence_more ts t m n r em en es ee ew =
    same_measure r (measure_of (sequence_of (ts ++ t ∷ [])))
    (let a = size-sequence_of ts t in let b = ap (λ x. x.size) em in let c = ap (λ x. x.size) en in omega arith)
    (ee ∙ (let b = ap (λ x. x.nullable) em in let c = ap (λ x. x.nullable) en in rw (b, c) (sym (has_empty-sequence_of ts t))))
    (ew ∙ (let b = ap (λ x. x.inhabited) em in let c = ap (λ x. x.inhabited) en in rw (b, c) (sym (has_word-sequence_of ts t))))

pub choice_more : (ts : List Tree) (t : Tree) (m n r : Measure) → m ≡ measure_of (choice_of ts) → n ≡ measure_of t →
    r.size ≡ min (m.size + n.size) (2 ^ 64 - 1) → r.nullable ≡ (m.nullable || n.nullable) → r.inhabited ≡ (m.inhabited || n.inhabited) →
    r ≡ measure_of (choice_of (ts ++ t ∷ []))
choice_more ts t m n r em en es ee ew =
    same_measure r (measure_of (choice_of (ts ++ t ∷ [])))
    (let a = size-choice_of ts t in let b = ap (λ x. x.size) em in let c = ap (λ x. x.size) en in omega arith)
    (ee ∙ (let b = ap (λ x. x.nullable) em in let c = ap (λ x. x.nullable) en in rw (b, c) (sym (has_empty-choice_of ts t))))
    (ew ∙ (let b = ap (λ x. x.inhabited) em in let c = ap (λ x. x.inhabited) en in rw (b, c) (sym (has_word-choice_of ts t))))

module _ (trees : List Tree) (ms : List Measure) (parts : List ℕ) (i part j : ℕ) (d m r : Measure) (same : ms ≡ map measure_of trees)
    (below : All (λ p. p < length ms) parts) (more : i < length parts) (part_is : part ≡ get_or parts i part) (index : j ≡ part) where
  next_is : get_or ms j d ≡ measure_of (tree_at trees part)
  next_is =
      let l : part < length ms = rw (part_is) (below i part more) in
      rw index (measure_is ms trees part d same l)

  pub sequence_step : m ≡ measure_of (sequence_of (take i (map (tree_at trees) parts))) →
      r.size ≡ min (m.size + (get_or ms j d).size) (2 ^ 64 - 1) → r.nullable ≡ (m.nullable && (get_or ms j d).nullable) →
      r.inhabited ≡ (m.inhabited && (get_or ms j d).inhabited) → r ≡ measure_of (sequence_of (take (i + 1) (map (tree_at trees) parts)))
  sequence_step e es ee ew =
      rw (taken_more (tree_at trees) parts i part more part_is)
      (sequence_more (take i (map (tree_at trees) parts)) (tree_at trees part) m (get_or ms j d) r e next_is es ee ew)

  pub choice_step : m ≡ measure_of (choice_of (take i (map (tree_at trees) parts))) →
      r.size ≡ min (m.size + (get_or ms j d).size) (2 ^ 64 - 1) → r.nullable ≡ (m.nullable || (get_or ms j d).nullable) →
      r.inhabited ≡ (m.inhabited || (get_or ms j d).inhabited) → r ≡ measure_of (choice_of (take (i + 1) (map (tree_at trees) parts)))
  choice_step e es ee ew =
      rw (taken_more (tree_at trees) parts i part more part_is)
      (choice_more (take i (map (tree_at trees) parts)) (tree_at trees part) m (get_or ms j d) r e next_is es ee ew)
