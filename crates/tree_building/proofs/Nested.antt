-- Rows in document order are those of a tree: each row stands at most one level below the element before it.
use Rattle.std.proofs.Common.{◌≡◌, ℕ, ◌+◌, ◌≤◌, List, [], ◌∷◌, ◌++◌, Bool, true, false, ◌==◌, Option, Some, refl, sym, ap, ◌∙◌, arith, nat_lt, if◌then◌else◌}
use Rattle.std.proofs.lemmas.Bool.Decides.{nat_tests}
use Rattle.tree_rows.specs.Rows.{siblings, rows_of, node}
use Rattle.tree_rows.specs.declared.row.Attribute.{Attribute}
use Rattle.tree_rows.specs.declared.row.Binding.{Binding}
use Rattle.tree_rows.specs.declared.row.Row.{Row}
use Rattle.tree_rows.specs.declared.row.Content.{Content}
use Rattle.tree_rows.specs.declared.row.Content.TheVariants as contents
use Rattle.tree_building.specs.Rules.{past}
use Rattle.tree_building.specs.Shape.{deepest_with, deepest_row, AreUnder}

-- an element stands within the limit on depth, and a text has no bindings and no attributes
abbrev pub FitsContent : Option ℕ → ℕ → Content → List Binding → List Attribute → Type 0
FitsContent levels depth (contents.Element name) bindings attributes = past levels depth ≡ false
FitsContent levels depth (contents.Chars chars) bindings attributes = (bindings ≡ []) × (attributes ≡ [])

-- how deep the row behind may stand
abbrev pub deepest : ℕ → Content → ℕ
deepest depth (contents.Element name) = depth + 1
deepest depth (contents.Chars chars) = depth

-- the first row stands at most so deep, and each other at most one level below an element before it
abbrev pub AreNested : Option ℕ → ℕ → List Row → Type 0
AreNested levels most [] = Unit {0}
AreNested levels most (row ∷ rows) =
    (1 ≤ row.depth) × (row.depth ≤ most) × FitsContent levels row.depth row.content row.bindings row.attributes × AreNested levels (deepest row.depth row.content) rows

-- the rows up to the first that is less deep
abbrev front : ℕ → List Row → List Row
front depth [] = []
front depth (row ∷ rows) = if nat_lt row.depth depth then [] else row ∷ front depth rows

-- the rows from the first that is not deeper on
abbrev behind : ℕ → List Row → List Row
behind depth [] = []
behind depth (row ∷ rows) = if nat_lt depth row.depth then behind depth rows else row ∷ rows

below_then_next : (depth : ℕ) (row : Row) (rows : List Row) → front (depth + 1) rows ++ front depth (behind depth rows) ≡ front depth rows
    → (t : Bool) → nat_lt depth row.depth ≡ t → front (depth + 1) (row ∷ rows) ++ front depth (behind depth (row ∷ rows)) ≡ front depth (row ∷ rows)
below_then_next depth row rows later true e =
    let one : nat_lt row.depth (depth + 1) ≡ false = grind (arith, nat_tests) in
    let two : nat_lt row.depth depth ≡ false = grind (arith, nat_tests) in
    rw (e, one, two) (ap (λ l. row ∷ l) later)
below_then_next depth row rows later false e =
    let one : nat_lt row.depth (depth + 1) ≡ true = grind (arith, nat_tests) in
    rw (e, one) refl

below_then : (depth : ℕ) (rows : List Row) → front (depth + 1) rows ++ front depth (behind depth rows) ≡ front depth rows
below_then depth [] = refl
below_then depth (row ∷ rows) = below_then_next depth row rows (below_then depth rows) (nat_lt depth row.depth) refl

behind-nested : (levels : Option ℕ) (most : ℕ) (rows : List Row) → AreNested levels most rows → behind most rows ≡ rows
behind-nested levels most [] n = refl
behind-nested levels most (row ∷ rows) n = let no : nat_lt most row.depth ≡ false = grind (arith, nat_tests, n.1) in rw no refl

front-all : (levels : Option ℕ) (most : ℕ) (rows : List Row) → AreNested levels most rows → front 1 rows ≡ rows
front-all levels most [] n = refl
front-all levels most (row ∷ rows) n =
    let no : nat_lt row.depth 1 ≡ false = grind (arith, nat_tests, n.0) in
    rw no (ap (λ l. row ∷ l) (front-all levels (deepest row.depth row.content) rows n.3))

abbrev Recovers : List Row → Type 0
Recovers rows = (depth : ℕ) → rows_of depth (siblings rows depth) ≡ front depth (behind depth rows)

node_rows : (levels : Option ℕ) (number depth : ℕ) (content : Content) (bindings : List Binding) (attributes : List Attribute) (rows : List Row)
    → FitsContent levels depth content bindings attributes → AreNested levels (deepest depth content) rows → Recovers rows
    → rows_of depth (node number content bindings attributes (siblings rows (depth + 1)) (siblings rows depth))
    ≡ record { number = number; depth = depth; content = content; bindings = bindings; attributes = attributes } ∷ front depth rows
node_rows levels number depth (contents.Element name) bindings attributes rows f n later =
    ap (λ l. record { number = number; depth = depth; content = contents.Element name; bindings = bindings; attributes = attributes } ∷ l)
    (ap (λ l. l ++ rows_of depth (siblings rows depth)) (later (depth + 1) ∙ ap (front (depth + 1)) (behind-nested levels (depth + 1) rows n))
    ∙ ap (λ l. front (depth + 1) rows ++ l) (later depth) ∙ below_then depth rows)
node_rows levels number depth (contents.Chars chars) bindings attributes rows f n later =
    ap (λ b. record { number = number; depth = depth; content = contents.Chars chars; bindings = b; attributes = [] } ∷ rows_of depth (siblings rows depth)) (sym f.0)
    ∙ ap (λ a. record { number = number; depth = depth; content = contents.Chars chars; bindings = bindings; attributes = a } ∷ rows_of depth (siblings rows depth)) (sym f.1)
    ∙ ap (λ l. record { number = number; depth = depth; content = contents.Chars chars; bindings = bindings; attributes = attributes } ∷ l)
    (later depth ∙ ap (front depth) (behind-nested levels depth rows n))

at_row : (levels : Option ℕ) (depth : ℕ) (row : Row) (rows : List Row) → FitsContent levels row.depth row.content row.bindings row.attributes
    → AreNested levels (deepest row.depth row.content) rows → Recovers rows
    → (same : Bool) → (row.depth == depth) ≡ same → (deeper : Bool) → nat_lt depth row.depth ≡ deeper
    → rows_of depth (siblings (row ∷ rows) depth) ≡ front depth (behind depth (row ∷ rows))
at_row levels depth row rows f n later true e deeper d =
    let is : row.depth ≡ depth = grind (arith, nat_tests) in
    let no : nat_lt depth row.depth ≡ false = grind (arith, nat_tests) in
    let not_less : nat_lt row.depth depth ≡ false = grind (arith, nat_tests) in
    rw (e, no, not_less) (ap (λ k. rows_of k (node row.number row.content row.bindings row.attributes (siblings rows (k + 1)) (siblings rows k))) (sym is)
    ∙ node_rows levels row.number row.depth row.content row.bindings row.attributes rows f n later ∙ ap (λ k. row ∷ front k rows) is)
at_row levels depth row rows f n later false e true d = rw (e, d) (later depth)
at_row levels depth row rows f n later false e false d =
    let less : nat_lt row.depth depth ≡ true = grind (arith, nat_tests) in
    rw (e, d, less) refl

rows_of-siblings : (levels : Option ℕ) (most : ℕ) (rows : List Row) → AreNested levels most rows → Recovers rows
rows_of-siblings levels most [] n = λ depth. refl
rows_of-siblings levels most (row ∷ rows) n =
    λ depth. at_row levels depth row rows n.2 n.3 (rows_of-siblings levels (deepest row.depth row.content) rows n.3) (row.depth == depth) refl (nat_lt depth row.depth) refl

-- nested rows are those of their tree
pub whole-nested : (levels : Option ℕ) (rows : List Row) → AreNested levels 1 rows → rows ≡ rows_of 1 (siblings rows 1)
whole-nested levels rows n = sym (rows_of-siblings levels 1 rows n 1 ∙ ap (front 1) (behind-nested levels 1 rows n) ∙ front-all levels 1 rows n)

pub weaker : (levels : Option ℕ) (low high : ℕ) (rows : List Row) → low ≤ high → AreNested levels low rows → AreNested levels high rows
weaker levels low high [] h n = tt
weaker levels low high (row ∷ rows) h n = (n.0, omega (arith, n.1, h), n.2, n.3)

-- no element stands deeper than a limit
pub nested_shallow : (limit most : ℕ) (rows : List Row) → AreNested (Some limit) most rows → deepest_row 0 rows ≤ limit
nested_shallow limit most [] n = omega arith
nested_shallow limit most (row ∷ rows) n =
    shallow_with row.content row.depth row.bindings row.attributes (deepest_row 0 rows) n.2 (nested_shallow limit (deepest row.depth row.content) rows n.3)
  where
    shallow_with : (content : Content) (depth : ℕ) (bindings : List Binding) (attributes : List Attribute) (later : ℕ)
        → FitsContent (Some limit) depth content bindings attributes → later ≤ limit → deepest_with content (depth + 0) later ≤ limit
    shallow_with (contents.Element name) depth bindings attributes later f h =
        let low : depth ≤ limit = grind (arith, nat_tests, f) in omega (arith, low, h)
    shallow_with (contents.Chars chars) depth bindings attributes later f h = h

-- a text stands at most one level below the deepest element
pub under_from : (levels : Option ℕ) (most bound : ℕ) (rows : List Row) → AreNested levels most rows → most ≤ bound → deepest_row 0 rows + 1 ≤ bound → AreUnder bound rows
under_from levels most bound [] n m h = tt
under_from levels most bound (row ∷ rows) n m h =
    let both = under_with row.content row.depth (deepest_row 0 rows) (omega (arith, n.1, m)) h in
    (omega (arith, n.1, m), under_from levels (deepest row.depth row.content) bound rows n.3 both.0 both.1)
  where
    under_with : (content : Content) (depth later : ℕ) → depth ≤ bound → deepest_with content (depth + 0) later + 1 ≤ bound → (deepest depth content ≤ bound) × (later + 1 ≤ bound)
    under_with (contents.Element name) depth later m h = (omega (arith, h), omega (arith, h))
    under_with (contents.Chars chars) depth later m h = (m, h)
