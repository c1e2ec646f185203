-- The row of a node, and the rows of its children behind it.
use Rattle.std.proofs.Common.{◌≡◌, ℕ, ◌+◌, ◌-◌, ◌≤◌, List, [], ◌∷◌, ◌++◌, Bool, true, false, ◌==◌, Option, Some, None, refl, sym, ap, ◌∙◌, arith, nat_lt, append_assoc, append-nil, subst, if◌then◌else◌}
use Rattle.std.proofs.lemmas.Bool.Decides.{nat_tests}
use Rattle.tree_rows.specs.Forest.{Forest, none, text, element}
use Rattle.tree_rows.specs.Rows.{rows_of, siblings}
use Rattle.tree_rows.specs.RowLaws.{Ends, Ends-below}
use Rattle.tree_rows.specs.declared.name.Expanded.{Expanded}
use Rattle.tree_rows.specs.declared.row.Attribute.{Attribute}
use Rattle.tree_rows.specs.declared.row.Binding.{Binding}
use Rattle.tree_rows.specs.declared.row.Row.{Row}
use Rattle.tree_building.specs.Shape.{AreWhole}
use Rattle.plain_tree.specs.Nodes.{Node, first_of, node_at, number_at}
use Rattle.plain_tree.specs.Behind.{tail_at, number_in, IsRow, IsNode}

-- rows that are less deep end the siblings
ends-none : (place depth : ℕ) (rows : List Row) → Ends depth rows → number_in place depth rows ≡ None
ends-none place depth [] e = refl
ends-none place depth (row ∷ rows) e = let less : nat_lt row.depth depth ≡ true = grind (arith, nat_tests, e) in rw less refl

-- deeper rows are skipped
number-skip : (place low depth : ℕ) (f : Forest) (rows : List Row) → low + 1 ≤ depth → number_in place low (rows_of depth f ++ rows) ≡ number_in place low rows
number-skip place low depth none rows h = refl
number-skip place low depth (text n chars next) rows h =
    let no : nat_lt depth low ≡ false = grind (arith, nat_tests) in
    let other : (depth == low) ≡ false = grind (arith, nat_tests) in
    rw (no, other) (number-skip place low depth next rows h)
number-skip place low depth (element n name bindings attributes children next) rows h =
    let no : nat_lt depth low ≡ false = grind (arith, nat_tests) in
    let other : (depth == low) ≡ false = grind (arith, nat_tests) in
    rw (no, other) (ap (number_in place low) (append_assoc (rows_of (depth + 1) children) (rows_of depth next) rows)
    ∙ number-skip place low (depth + 1) children (rows_of depth next ++ rows) (omega arith) ∙ number-skip place low depth next rows h)

number-rows : (place depth : ℕ) (f : Forest) (rows : List Row) → Ends depth rows → number_in place depth (rows_of depth f ++ rows) ≡ number_at place f
number-rows place depth none rows e = ends-none place depth rows e
number-rows place depth (text n chars next) rows e =
    let no : nat_lt depth depth ≡ false = grind (arith, nat_tests) in
    let same : (depth == depth) ≡ true = grind (arith, nat_tests) in
    rw (no, same) (ap (λ r. if place == 0 then Some n else r) (number-rows (place - 1) depth next rows e))
number-rows place depth (element n name bindings attributes children next) rows e =
    let no : nat_lt depth depth ≡ false = grind (arith, nat_tests) in
    let same : (depth == depth) ≡ true = grind (arith, nat_tests) in
    rw (no, same) (ap (λ r. if place == 0 then Some n else r)
    (ap (number_in (place - 1) depth) (append_assoc (rows_of (depth + 1) children) (rows_of depth next) rows)
    ∙ number-skip (place - 1) depth (depth + 1) children (rows_of depth next ++ rows) (omega arith) ∙ number-rows (place - 1) depth next rows e))

abbrev IsFound : Option (Row × List Row) → Node → Type 0
IsFound None node = ⊥
IsFound (Some found) node = IsRow found.0 found.1 node

-- the node is found, or what comes later is
abbrev Finds : Option Node → Option (Row × List Row) → Option (Row × List Row) → Type 0
Finds None found later = found ≡ later
Finds (Some node) found later = IsFound found node

join : (a b : Option Node) (found behind later : Option (Row × List Row)) → Finds a found behind → Finds b behind later → Finds (first_of a b) found later
join None b found behind later p q = subst (λ x. Finds b x later) (sym p) q
join (Some node) b found behind later p q = p

text_finds : (key depth number : ℕ) (chars : List ℕ) (next : Forest) (rows : List Row) → Ends depth rows → Finds (node_at key next) (tail_at key (rows_of depth next ++ rows)) (tail_at key rows)
    → (t : Bool) → (number == key) ≡ t → Finds (node_at key (text number chars next)) (tail_at key (rows_of depth (text number chars next) ++ rows)) (tail_at key rows)
text_finds key depth number chars next rows e later true t = rw t (record {
  content = refl;
  bindings = refl;
  attributes = refl;
  children = λ place. ends-none place (depth + 1) (rows_of depth next ++ rows) (Ends-below depth next rows e);
})
text_finds key depth number chars next rows e later false t = rw t later

element_finds : (key depth number : ℕ) (name : Expanded) (bindings : List Binding) (attributes : List Attribute) (children next : Forest) (rows : List Row) → Ends depth rows
    → Finds (node_at key children) (tail_at key (rows_of (depth + 1) children ++ (rows_of depth next ++ rows))) (tail_at key (rows_of depth next ++ rows))
    → Finds (node_at key next) (tail_at key (rows_of depth next ++ rows)) (tail_at key rows)
    → (t : Bool) → (number == key) ≡ t
    → Finds (node_at key (element number name bindings attributes children next)) (tail_at key (rows_of depth (element number name bindings attributes children next) ++ rows)) (tail_at key rows)
element_finds key depth number name bindings attributes children next rows e below later true t = rw t (record {
  content = refl;
  bindings = refl;
  attributes = refl;
  children = λ place. ap (number_in place (depth + 1)) (append_assoc (rows_of (depth + 1) children) (rows_of depth next) rows)
      ∙ number-rows place (depth + 1) children (rows_of depth next ++ rows) (Ends-below depth next rows e);
})
element_finds key depth number name bindings attributes children next rows e below later false t =
    rw t (subst (λ l. Finds (first_of (node_at key children) (node_at key next)) (tail_at key l) (tail_at key rows)) (sym (append_assoc (rows_of (depth + 1) children) (rows_of depth next) rows))
    (join (node_at key children) (node_at key next) (tail_at key (rows_of (depth + 1) children ++ (rows_of depth next ++ rows))) (tail_at key (rows_of depth next ++ rows)) (tail_at key rows) below later))

finds : (key depth : ℕ) (f : Forest) (rows : List Row) → Ends depth rows → Finds (node_at key f) (tail_at key (rows_of depth f ++ rows)) (tail_at key rows)
finds key depth none rows e = refl
finds key depth (text number chars next) rows e = text_finds key depth number chars next rows e (finds key depth next rows e) (number == key) refl
finds key depth (element number name bindings attributes children next) rows e =
    element_finds key depth number name bindings attributes children next rows e
    (finds key (depth + 1) children (rows_of depth next ++ rows) (Ends-below depth next rows e)) (finds key depth next rows e) (number == key) refl

nothing_else : (n : Option Node) (found : Option (Row × List Row)) → Finds n found None → IsNode found n
nothing_else None None p = tt
nothing_else None (Some found) p = cc
nothing_else (Some node) None p = absurd p
nothing_else (Some node) (Some found) p = p

-- whole rows have the row of each node of their tree, and no other
pub node_found : (key : ℕ) (rows : List Row) → AreWhole rows → IsNode (tail_at key rows) (node_at key (siblings rows 1))
node_found key rows whole =
    let f : Forest = siblings rows 1 in
    subst (λ l. IsNode (tail_at key l) (node_at key f)) (append-nil (rows_of 1 f) ∙ sym whole)
    (nothing_else (node_at key f) (tail_at key (rows_of 1 f ++ [])) (finds key 1 f [] tt))

-- the parts of a node that was found
pub parts_of : (found : Option (Row × List Row)) (node : Option Node) → IsNode found node → (row : Row) (behind : List Row) → found ≡ Some (row, behind)
    → (n : Node) × (node ≡ Some n) × IsRow row behind n
parts_of None node is row behind e = cc
parts_of (Some p) None is row behind e = absurd is
parts_of (Some p) (Some n) is row behind e =
    let same : p ≡ (row, behind) = cc in (n, refl, subst (λ q. IsRow q.0 q.1 n) same is)

pub no_node : (node : Option Node) → IsNode None node → node ≡ None
no_node None is = refl
no_node (Some n) is = absurd is
