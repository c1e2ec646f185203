-- Rows by their numbers.
use Rattle.std.proofs.Common.{◌≡◌, ℕ, suc, ◌<◌, ◌≤◌, List, [], ◌∷◌, ◌++◌, map, length, get_or, All, Vec, Global, sym, refl, ap, ◌∙◌, inl, inr, arith}
use Rattle.std.proofs.lemmas.List.{length-map, length_push, get_or_push, get_or_append_left}
use Rattle.std.proofs.lemmas.Bool.{cases_lt}
use Rattle.xs_positions.specs.Sets.{row}
use Rattle.xs_positions.specs.Shared.{IsAmong}
use Rattle.xs_positions.proofs.Linking.{lists}
use Rattle.xs_positions.proofs.Measuring.{get_or-map}

-- the rows of these numbers
abbrev pub rows_of : List (List ℕ) → List ℕ → List (List ℕ)
rows_of rows numbers = map (λ n. row rows n) numbers

pub number_there : (rows : List (List ℕ)) (numbers : List ℕ) (place : ℕ) → place < length (rows_of rows numbers) → place < length numbers
number_there rows numbers place l = let e = length-map numbers (λ (n : ℕ). row rows n) in omega arith

pub row_at : (rows : List (Vec ℕ Global)) (numbers : List ℕ) (place number : ℕ) (it : Vec ℕ Global) → place < length (rows_of (lists rows) numbers) →
    number ≡ get_or numbers place number → number < length rows → it ≡ get_or rows number it → it.items ≡ row (rows_of (lists rows) numbers) place
row_at rows numbers place number it l n k e =
    sym (get_or-map (λ (m : ℕ). row (lists rows) m) numbers place number [] (number_there (lists rows) numbers place l) ∙
    (ap (λ (m : ℕ). row (lists rows) m) (sym n) ∙ (get_or-map (λ (v : Vec ℕ Global). v.items) rows number it [] k ∙ ap (λ (v : Vec ℕ Global). v.items) (sym e))))

pub one_row : (rows : List (List ℕ)) (numbers : List ℕ) (p q m n : ℕ) → p < length (rows_of rows numbers) → q < length (rows_of rows numbers) →
    m ≡ get_or numbers p m → n ≡ get_or numbers q n → m ≡ n → row (rows_of rows numbers) p ≡ row (rows_of rows numbers) q
one_row rows numbers p q m n lp lq em en e =
    get_or-map (λ (k : ℕ). row rows k) numbers p m [] (number_there rows numbers p lp) ∙
    (ap (λ (k : ℕ). row rows k) (sym em ∙ (e ∙ en)) ∙ sym (get_or-map (λ (k : ℕ). row rows k) numbers q n [] (number_there rows numbers q lq)))

-- ---- one row more
same_rows : (old new : List (List ℕ)) (numbers : List ℕ) → All (λ n. n < length old) numbers → ((n : ℕ) → n < length old → row new n ≡ row old n) →
    rows_of new numbers ≡ rows_of old numbers
same_rows old new [] there kept = refl
same_rows old new (n ∷ numbers) there kept =
    let a : row new n ≡ row old n = kept n (there 0 n (omega arith)) in
    let b : rows_of new numbers ≡ rows_of old numbers = same_rows old new numbers (λ k d l. there (suc k) d (omega arith)) kept in
    cc

rows_push : (rows : List (List ℕ)) (numbers : List ℕ) (n : ℕ) → rows_of rows (numbers ++ n ∷ []) ≡ rows_of rows numbers ++ row rows n ∷ []
rows_push rows [] n = refl
rows_push rows (m ∷ numbers) n = ap (λ (xs : List (List ℕ)). row rows m ∷ xs) (rows_push rows numbers n)

pub rows_more : (old new : List (List ℕ)) (numbers : List ℕ) (one : List ℕ) (n : ℕ) → All (λ k. k < length old) numbers → IsAmong one n old new →
    rows_of new (numbers ++ n ∷ []) ≡ rows_of old numbers ++ one ∷ []
rows_more old new numbers one n there a =
    let s = same_rows old new numbers there a.kept in
    rows_push new numbers n ∙ (ap (λ (xs : List (List ℕ)). xs ++ row new n ∷ []) s ∙ ap (λ (x : List ℕ). rows_of old numbers ++ x ∷ []) a.is)

pub numbers_more : (new numbers : List ℕ) (k m n : ℕ) → All (λ x. x < k) numbers → k ≤ m → n < m → new ≡ numbers ++ n ∷ [] → All (λ x. x < m) new
numbers_more new numbers k m n there le l made = rw made at_each
  where
    at_each : All (λ x. x < m) (numbers ++ n ∷ [])
    at_each i d b = elim (cases_lt i (length numbers)) [
      | inl s ↦ rw (get_or_append_left numbers (n ∷ []) d i s) (let a = there i d s in omega arith)
      | inr g ↦ (let c = length_push numbers n in let e : i ≡ length numbers = omega arith in let v = get_or_push numbers n d i (sym e) in omega arith)
    ]

-- a row that is there already, and one that is put behind
pub known_row : (rows : List (Vec ℕ Global)) (one : List ℕ) (n : ℕ) → n < length rows → row (lists rows) n ≡ one → IsAmong one n (lists rows) (lists rows)
known_row rows one n l e = record {
  there = (let c = length-map rows (λ (v : Vec ℕ Global). v.items) in omega arith);
  is = e;
  kept = λ k b. refl;
  more = omega arith;
  few = omega arith;
}

lists_push : (rows : List (Vec ℕ Global)) (it : Vec ℕ Global) → lists (rows ++ it ∷ []) ≡ lists rows ++ it.items ∷ []
lists_push [] it = refl
lists_push (r ∷ rows) it = ap (λ (xs : List (List ℕ)). r.items ∷ xs) (lists_push rows it)

pub row_pushed : (old new : List (Vec ℕ Global)) (it : Vec ℕ Global) (n : ℕ) → n ≡ length old → new ≡ old ++ it ∷ [] → IsAmong it.items n (lists old) (lists new)
row_pushed old new it n e made = rw (made, lists_push old it) pushed
  where
    pushed : IsAmong it.items n (lists old) (lists old ++ it.items ∷ [])
    pushed =
        let c = length-map old (λ (v : Vec ℕ Global). v.items) in
        let p = length_push (lists old) it.items in
        record {
          there = omega arith;
          is = get_or_push (lists old) it.items [] n (c ∙ sym e);
          kept = λ k l. get_or_append_left (lists old) (it.items ∷ []) [] k l;
          more = omega arith;
          few = omega arith;
        }

map_same : (rows : List (Vec ℕ Global)) → map (λ (r : Vec ℕ Global). r) rows ≡ rows
map_same [] = refl
map_same (r ∷ rows) = ap (λ (xs : List (Vec ℕ Global)). r ∷ xs) (map_same rows)

-- all rows were taken
pub all_rows : (yielded rows : List (Vec ℕ Global)) (made : List (List ℕ)) → map (λ (r : Vec ℕ Global). r) yielded ≡ rows → made ≡ lists yielded → made ≡ lists rows
all_rows yielded rows made all e = e ∙ ap lists (sym (map_same yielded) ∙ all)

-- a row taken
pub taken_row : (old new yielded : List (Vec ℕ Global)) (was numbers : List ℕ) (it : Vec ℕ Global) (n : ℕ) → All (λ k. k < length old) was → IsAmong it.items n (lists old) (lists new) →
    numbers ≡ was ++ n ∷ [] → rows_of (lists old) was ≡ lists yielded → rows_of (lists new) numbers ≡ lists (yielded ++ it ∷ [])
taken_row old new yielded was numbers it n there a made e =
    let c = length-map old (λ (v : Vec ℕ Global). v.items) in
    let in_lists : All (λ k. k < length (lists old)) was = (λ k d l. (let b = there k d l in omega arith)) in
    ap (rows_of (lists new)) made ∙ (rows_more (lists old) (lists new) was it.items n in_lists a ∙
    (ap (λ (xs : List (List ℕ)). xs ++ it.items ∷ []) e ∙ sym (lists_push yielded it)))

pub taken_numbers : (old new : List (Vec ℕ Global)) (was numbers one : List ℕ) (n : ℕ) → All (λ k. k < length old) was → IsAmong one n (lists old) (lists new) →
    numbers ≡ was ++ n ∷ [] → All (λ k. k < length new) numbers
taken_numbers old new was numbers one n there a made =
    let c = length-map old (λ (v : Vec ℕ Global). v.items) in
    let d = length-map new (λ (v : Vec ℕ Global). v.items) in
    let b = a.there in
    let e = a.more in
    numbers_more numbers was (length old) (length new) n there (omega arith) (omega arith) made

pub taken_few : (old new : List (Vec ℕ Global)) (was numbers one : List ℕ) (n : ℕ) → IsAmong one n (lists old) (lists new) → numbers ≡ was ++ n ∷ [] → length old ≤ length was →
    length new ≤ length numbers
taken_few old new was numbers one n a made few =
    let c = length-map old (λ (v : Vec ℕ Global). v.items) in
    let d = length-map new (λ (v : Vec ℕ Global). v.items) in
    let b = a.few in
    let e = length_push was n in
    let f = ap length made in
    omega arith

-- copies of rows and of their numbers
pub cloned_there : (rows copy : List (Vec ℕ Global)) (numbers same : List ℕ) → lists copy ≡ lists rows → same ≡ numbers → All (λ n. n < length rows) numbers →
    All (λ n. n < length copy) same
cloned_there rows copy numbers same e f there = rw f (λ k d l.
    let a = length-map rows (λ (v : Vec ℕ Global). v.items) in
    let b = length-map copy (λ (v : Vec ℕ Global). v.items) in
    let c = ap length e in
    let t = there k d l in
    omega arith)

pub cloned_rows : (rows copy : List (Vec ℕ Global)) (numbers same : List ℕ) → lists copy ≡ lists rows → same ≡ numbers →
    rows_of (lists copy) same ≡ rows_of (lists rows) numbers
cloned_rows rows copy numbers same e f = ap (rows_of (lists copy)) f ∙ ap (λ (xs : List (List ℕ)). rows_of xs numbers) e
