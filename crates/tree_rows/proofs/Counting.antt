-- How many rows are below each.
use Rattle.std.proofs.Common.{◌≡◌, ℕ, zero, suc, ◌+◌, ◌-◌, get_or, set, ◌≤◌, ◌<◌, List, [], ◌∷◌, ◌++◌, Bool, true, false, length, take, drop, nat_lt, refl, sym, ap, ◌∙◌, arith, append_assoc, append-nil, subst}
use Rattle.std.specs.Prelude.{if◌then◌else◌}
use Rattle.std.proofs.lemmas.Bool.Decides.{nat_tests}
use Rattle.std.proofs.lemmas.Grind.{common_steps}
use Rattle.std.proofs.lemmas.List.{drop-drop, drop_more, drop-set}
use Rattle.tree_rows.specs.Forest.{Forest, none, text, element, count}
use Rattle.tree_rows.specs.Rows.{rows_of}
use Rattle.tree_rows.specs.RowLaws.{Ends}
use Rattle.tree_rows.specs.declared.row.Row.{Row}
use Rattle.tree_rows.specs.Sizes.{deeper_count, sizes, counts_of}

-- rows that are not deeper are not counted
deeper-ends : (depth : ℕ) (rows : List Row) → Ends (depth + 1) rows → deeper_count depth rows ≡ 0
deeper-ends depth [] e = refl
deeper-ends depth (row ∷ rows) e = let not_deeper : nat_lt depth row.depth ≡ false = grind (arith, nat_tests, e) in rw not_deeper refl

deeper-skip : (low depth : ℕ) (f : Forest) (rows : List Row) → low + 1 ≤ depth → deeper_count low (rows_of depth f ++ rows) ≡ count f + deeper_count low rows
deeper-skip low depth none rows h = omega arith
deeper-skip low depth (text n chars next) rows h =
    let deeper : nat_lt low depth ≡ true = grind (arith, nat_tests) in
    let later = deeper-skip low depth next rows h in
    rw deeper (omega (arith, later))
deeper-skip low depth (element n name bindings attributes children next) rows h =
    let deeper : nat_lt low depth ≡ true = grind (arith, nat_tests) in
    let all = ap (deeper_count low) (append_assoc (rows_of (depth + 1) children) (rows_of depth next) rows) in
    let below = deeper-skip low (depth + 1) children (rows_of depth next ++ rows) (omega arith) in
    let later = deeper-skip low depth next rows h in
    rw deeper (omega (arith, all, below, later))

next_ends : (depth : ℕ) (next : Forest) (rows : List Row) → Ends (depth + 1) rows → Ends (depth + 1) (rows_of depth next ++ rows)
next_ends depth none rows e = e
next_ends depth (text n chars next) rows e = omega arith
next_ends depth (element n name bindings attributes children next) rows e = omega arith

ends_more : (depth : ℕ) (rows : List Row) → Ends depth rows → Ends (depth + 1) rows
ends_more depth [] e = tt
ends_more depth (row ∷ rows) e = omega (arith, e)

sizes-rows : (depth : ℕ) (f : Forest) (rows : List Row) → Ends (depth + 1) rows → sizes (rows_of depth f ++ rows) ≡ counts_of f ++ sizes rows
sizes-rows depth none rows e = refl
sizes-rows depth (text n chars next) rows e =
    ap (λ k. k ∷ sizes (rows_of depth next ++ rows)) (deeper-ends depth (rows_of depth next ++ rows) (next_ends depth next rows e))
    ∙ ap (λ l. 0 ∷ l) (sizes-rows depth next rows e)
sizes-rows depth (element n name bindings attributes children next) rows e =
    let behind = rows_of depth next ++ rows in
    let all = append_assoc (rows_of (depth + 1) children) (rows_of depth next) rows in
    let ends = next_ends depth next rows e in
    let own : deeper_count depth (rows_of (depth + 1) children ++ behind) ≡ count children =
    omega (arith, deeper-skip depth (depth + 1) children behind (omega arith), deeper-ends depth behind ends) in
    ap (λ l. deeper_count depth l ∷ sizes l) all
    ∙ ap (λ k. k ∷ sizes (rows_of (depth + 1) children ++ behind)) own
    ∙ ap (λ l. count children ∷ l) (sizes-rows (depth + 1) children behind (ends_more (depth + 1) behind ends)
    ∙ ap (λ l. counts_of children ++ l) (sizes-rows depth next rows e) ∙ sym (append_assoc (counts_of children) (counts_of next) (sizes rows)))

pub sizes_all : (depth : ℕ) (f : Forest) → sizes (rows_of depth f) ≡ counts_of f
sizes_all depth f = ap sizes (sym (append-nil (rows_of depth f))) ∙ sizes-rows depth f [] tt ∙ append-nil (counts_of f)

plus_zero : (x : ℕ) → x ≡ 0 + x
plus_zero x = omega arith

-- what is deeper is below the first row, or comes behind that
hop_if : (depth high : ℕ) (row : Row) (rows : List Row) → depth ≤ high
    → deeper_count depth rows ≡ deeper_count high rows + deeper_count depth (drop (deeper_count high rows) rows)
    → (t : Bool) → nat_lt high row.depth ≡ t
    → deeper_count depth (row ∷ rows) ≡ deeper_count high (row ∷ rows) + deeper_count depth (drop (deeper_count high (row ∷ rows)) (row ∷ rows))
hop_if depth high row rows h later true e =
    let deeper : nat_lt depth row.depth ≡ true = grind (arith, nat_tests, e) in
    let step : deeper_count high (row ∷ rows) ≡ suc (deeper_count high rows) = rw e (omega arith) in
    let first : deeper_count depth (row ∷ rows) ≡ 1 + deeper_count depth rows = rw deeper refl in
    let on : drop (deeper_count high (row ∷ rows)) (row ∷ rows) ≡ drop (deeper_count high rows) rows = ap (λ j. drop j (row ∷ rows)) step in
    let rest = ap (deeper_count depth) on in
    omega (arith, step, first, rest, later)
hop_if depth high row rows h later false e = rw e (plus_zero (deeper_count depth (row ∷ rows)))

pub hop : (depth high : ℕ) (rows : List Row) → depth ≤ high
    → deeper_count depth rows ≡ deeper_count high rows + deeper_count depth (drop (deeper_count high rows) rows)
hop depth high [] h = refl
hop depth high (row ∷ rows) h = hop_if depth high row rows h (hop depth high rows h) (nat_lt high row.depth) refl

within_if : (depth : ℕ) (row : Row) (rows : List Row) → deeper_count depth rows ≤ length rows → (t : Bool) → nat_lt depth row.depth ≡ t → deeper_count depth (row ∷ rows) ≤ length (row ∷ rows)
within_if depth row rows h true e = rw e (omega (arith, h))
within_if depth row rows h false e = rw e (omega arith)

pub deeper_within : (depth : ℕ) (rows : List Row) → deeper_count depth rows ≤ length rows
deeper_within depth [] = omega arith
deeper_within depth (row ∷ rows) = within_if depth row rows (deeper_within depth rows) (nat_lt depth row.depth) refl

pub length-sizes : (rows : List Row) → length (sizes rows) ≡ length rows
length-sizes [] = refl
length-sizes (row ∷ rows) = omega (arith, length-sizes rows)

pub drop-sizes : (k : ℕ) (rows : List Row) → drop k (sizes rows) ≡ sizes (drop k rows)
drop-sizes zero rows = refl
drop-sizes (suc k) [] = refl
drop-sizes (suc k) (row ∷ rows) = drop-sizes k rows

-- what is known from a place on is known from a later one
known_later : (from k : ℕ) (rows : List Row) (below : List ℕ) → drop from below ≡ sizes (drop from rows) → from ≤ k → drop k below ≡ sizes (drop k rows)
known_later from k rows below known h =
    let on : from + (k - from) ≡ k = omega (arith, h) in
    ap (λ j. drop j below) (sym on) ∙ sym (drop-drop (k - from) from below) ∙ ap (drop (k - from)) known
    ∙ drop-sizes (k - from) (drop from rows) ∙ ap sizes (drop-drop (k - from) from rows) ∙ ap (λ j. sizes (drop j rows)) on

first_is : (x y : ℕ) (xs ys : List ℕ) → x ∷ xs ≡ y ∷ ys → x ≡ y
first_is x y xs ys e = cc e

-- the count at a place
count_at : (from k : ℕ) (rows : List Row) (below : List ℕ) (row : Row) → length below ≡ length rows → drop from below ≡ sizes (drop from rows) → from ≤ k → k < length rows
    → row ≡ get_or rows k row → get_or below k 0 ≡ deeper_count row.depth (drop (k + 1) rows)
count_at from k rows below row long known h within read =
    let here : drop k rows ≡ row ∷ drop (k + 1) rows = drop_more rows k row within ∙ ap (λ r. r ∷ drop (k + 1) rows) (sym read) in
    let counted : drop k below ≡ get_or below k 0 ∷ drop (k + 1) below = drop_more below k 0 (omega (arith, long, within)) in
    first_is _ _ _ _ (sym counted ∙ known_later from k rows below known h ∙ ap sizes here)

length_drop : (k : ℕ) (rows : List Row) → length (drop k rows) ≡ length rows - k
length_drop k rows = grind (arith, common_steps)

pub count_within : (from k : ℕ) (rows : List Row) (below : List ℕ) (row : Row) → length below ≡ length rows → drop from below ≡ sizes (drop from rows) → from ≤ k → k < length rows
    → row ≡ get_or rows k row → k + (get_or below k 0 + 1) ≤ length rows
count_within from k rows below row long known h within read =
    let own = count_at from k rows below row long known h within read in
    omega (arith, own, deeper_within row.depth (drop (k + 1) rows), length_drop (k + 1) rows, within)

-- a row that is deeper is passed over with those below it
pub passes : (from k depth : ℕ) (rows : List Row) (below : List ℕ) (row : Row) → length below ≡ length rows → drop from below ≡ sizes (drop from rows) → from ≤ k → k < length rows
    → row ≡ get_or rows k row → depth < row.depth
    → (k + (get_or below k 0 + 1)) + deeper_count depth (drop (k + (get_or below k 0 + 1)) rows) ≡ k + deeper_count depth (drop k rows)
passes from k depth rows below row long known h within read deep =
    let own = count_at from k rows below row long known h within read in
    let here : drop k rows ≡ row ∷ drop (k + 1) rows = drop_more rows k row within ∙ ap (λ r. r ∷ drop (k + 1) rows) (sym read) in
    let deeper : nat_lt depth row.depth ≡ true = grind (arith, nat_tests, deep) in
    let counted : deeper_count depth (row ∷ drop (k + 1) rows) ≡ 1 + deeper_count depth (drop (k + 1) rows) = rw deeper refl in
    let all : deeper_count depth (drop k rows) ≡ 1 + deeper_count depth (drop (k + 1) rows) = ap (deeper_count depth) here ∙ counted in
    let hopped = hop depth row.depth (drop (k + 1) rows) (omega (arith, deep)) in
    let on : drop (deeper_count row.depth (drop (k + 1) rows)) (drop (k + 1) rows) ≡ drop (k + (get_or below k 0 + 1)) rows =
    drop-drop (deeper_count row.depth (drop (k + 1) rows)) (k + 1) rows ∙ ap (λ j. drop j rows) (omega (arith, own)) in
    let rest = ap (deeper_count depth) on in
    omega (arith, all, hopped, rest, own)

-- a row that is not deeper ends the count
pub stops : (k depth : ℕ) (rows : List Row) (row : Row) → k < length rows → row ≡ get_or rows k row → row.depth ≤ depth → deeper_count depth (drop k rows) ≡ 0
stops k depth rows row within read low =
    let here : drop k rows ≡ row ∷ drop (k + 1) rows = drop_more rows k row within ∙ ap (λ r. r ∷ drop (k + 1) rows) (sym read) in
    let ends : nat_lt depth row.depth ≡ false = grind (arith, nat_tests, low) in
    ap (deeper_count depth) here ∙ the_end ends
  where
    the_end : nat_lt depth row.depth ≡ false → deeper_count depth (row ∷ drop (k + 1) rows) ≡ 0
    the_end e = rw e refl

pub stops_at_end : (k depth : ℕ) (rows : List Row) → length rows ≤ k → deeper_count depth (drop k rows) ≡ 0
stops_at_end k depth rows past = ap (deeper_count depth) (no_rows (drop k rows) (omega (arith, length_drop k rows, past)))
  where
    no_rows : (l : List Row) → length l ≡ 0 → l ≡ []
    no_rows [] e = refl
    no_rows (x ∷ xs) e = absurd (omega (arith, e))

-- a count more
pub counted_at : (k n : ℕ) (rows : List Row) (below : List ℕ) (row : Row) → length below ≡ length rows → k < length rows → row ≡ get_or rows k row
    → drop (k + 1) below ≡ sizes (drop (k + 1) rows) → n ≡ deeper_count row.depth (drop (k + 1) rows) → drop k (set below k n) ≡ sizes (drop k rows)
counted_at k n rows below row long within read known count =
    let here : drop k rows ≡ row ∷ drop (k + 1) rows = drop_more rows k row within ∙ ap (λ r. r ∷ drop (k + 1) rows) (sym read) in
    drop-set below k n (omega (arith, long, within)) ∙ ap (λ l. n ∷ l) known ∙ ap (λ m. m ∷ sizes (drop (k + 1) rows)) count ∙ ap sizes (sym here)
