-- A tree is the tree of its rows.
use Rattle.std.proofs.Common.{◌≡◌, ℕ, ◌+◌, ◌<◌, ◌≤◌, List, [], ◌∷◌, ◌++◌, Bool, true, false, if◌then◌else◌, ◌==◌, refl, ap, subst, ◌∙◌, nat_lt, append_assoc, append-nil, sym}
use Rattle.std.proofs.lemmas.Bool.{lt-ltb, le-ltb, ne_eqb, eq-eqb}
use Rattle.std.proofs.Math.Nat.{le_of_lt, le_refl, le_trans, le-add_right, ne_of_lt}
use Rattle.std.proofs.Math.Numerals.{add-one}
use Rattle.tree_rows.specs.Forest.{Forest, none, text, element}
use Rattle.tree_rows.specs.Rows.{siblings, rows_of}
use Rattle.tree_rows.specs.declared.row.Row.{Row}

-- rows that are less deep, or none, end the siblings of a depth
abbrev pub Ends : ℕ → List Row → Type 0
Ends depth [] = Unit {0}
Ends depth (row ∷ rows) = row.depth + 1 ≤ depth

below : (a b : ℕ) → a + 1 ≤ b → a < b
below a b h = subst (λ n. n ≤ b) (add-one a) h

apart : (a b : ℕ) → a < b → (b == a) ≡ false
apart a b h = ne_eqb b a (λ e. ne_of_lt h (sym e))

-- a choice of three, by what its two tests are
first : {A : Type 0} (a : Bool) (x y : A) → a ≡ true → (if a then x else y) ≡ x
first a x y p = ap (λ t. if t then x else y) p

second : {A : Type 0} (a b : Bool) (x y z : A) → a ≡ false → b ≡ true → (if a then x else (if b then y else z)) ≡ y
second a b x y z p q = ap (λ t. if t then x else (if b then y else z)) p ∙ ap (λ t. if t then y else z) q

third : {A : Type 0} (a b : Bool) (x y z : A) → a ≡ false → b ≡ false → (if a then x else (if b then y else z)) ≡ z
third a b x y z p q = ap (λ t. if t then x else (if b then y else z)) p ∙ ap (λ t. if t then y else z) q

siblings-ends : (depth : ℕ) (rows : List Row) → Ends depth rows → siblings rows depth ≡ none
siblings-ends depth [] e = refl
siblings-ends depth (row ∷ rows) e =
    let less : row.depth < depth = below row.depth depth e in
    third (row.depth == depth) (nat_lt depth row.depth) _ _ _ (ne_eqb row.depth depth (ne_of_lt less)) (le-ltb depth row.depth (le_of_lt less))

-- deeper rows are skipped
pub siblings-skip : (low depth : ℕ) (f : Forest) (rows : List Row) → low + 1 ≤ depth → siblings (rows_of depth f ++ rows) low ≡ siblings rows low
siblings-skip low depth none rows h = refl
siblings-skip low depth (text n chars next) rows h =
    second (depth == low) (nat_lt low depth) _ _ _ (apart low depth (below low depth h)) (lt-ltb low depth (below low depth h))
    ∙ siblings-skip low depth next rows h
siblings-skip low depth (element n name bindings attributes children next) rows h =
    second (depth == low) (nat_lt low depth) _ _ _ (apart low depth (below low depth h)) (lt-ltb low depth (below low depth h))
    ∙ ap (λ l. siblings l low) (append_assoc (rows_of (depth + 1) children) (rows_of depth next) rows)
    ∙ siblings-skip low (depth + 1) children (rows_of depth next ++ rows) (le_trans h (le-add_right depth 1))
    ∙ siblings-skip low depth next rows h

pub Ends-below : (depth : ℕ) (f : Forest) (rows : List Row) → Ends depth rows → Ends (depth + 1) (rows_of depth f ++ rows)
Ends-below depth none [] e = tt
Ends-below depth none (row ∷ rows) e = le_trans e (le-add_right depth 1)
Ends-below depth (text n chars next) rows e = le_refl (depth + 1)
Ends-below depth (element n name bindings attributes children next) rows e = le_refl (depth + 1)

pub siblings-rows_of : (depth : ℕ) (f : Forest) (rows : List Row) → Ends depth rows → siblings (rows_of depth f ++ rows) depth ≡ f
siblings-rows_of depth none rows e = siblings-ends depth rows e
siblings-rows_of depth (text n chars next) rows e =
    first (depth == depth) _ _ (eq-eqb depth depth refl) ∙ ap (text n chars) (siblings-rows_of depth next rows e)
siblings-rows_of depth (element n name bindings attributes children next) rows e =
    let behind = rows_of depth next ++ rows in
    first (depth == depth) _ _ (eq-eqb depth depth refl)
    ∙ ap (λ l. element n name bindings attributes (siblings l (depth + 1)) (siblings l depth)) (append_assoc (rows_of (depth + 1) children) (rows_of depth next) rows)
    ∙ ap (λ f. element n name bindings attributes f (siblings (rows_of (depth + 1) children ++ behind) depth)) (siblings-rows_of (depth + 1) children behind (Ends-below depth next rows e))
    ∙ ap (element n name bindings attributes children) (siblings-skip depth (depth + 1) children behind (le_refl (depth + 1)) ∙ siblings-rows_of depth next rows e)

-- a tree is the tree of its rows
pub siblings-all : (f : Forest) → siblings (rows_of 1 f) 1 ≡ f
siblings-all f = ap (λ rows. siblings rows 1) (sym (append-nil (rows_of 1 f))) ∙ siblings-rows_of 1 f [] tt
