-- The scope of a node, from the rows before its own.
use Rattle.std.proofs.Common.{◌≡◌, ℕ, ◌≤◌, ◌<◌, List, [], ◌++◌, Bool, true, false, ◌==◌, ◌||◌, length, take, get_or, refl, sym, ap, ◌∙◌, arith, append-nil, reverse}
use Rattle.std.specs.List.{position_or_len}
use Rattle.std.proofs.lemmas.Grind.{common_steps}
use Rattle.std.proofs.Math.Seq.{take-append-add}
use Rattle.tree_rows.specs.Forest.{Forest, none, text, element}
use Rattle.tree_rows.specs.Rows.{rows_of, siblings}
use Rattle.tree_rows.specs.declared.row.Binding.{Binding}
use Rattle.tree_rows.specs.declared.row.Row.{Row}
use Rattle.tree_building.specs.Shape.{AreWhole}
use Rattle.tree_edits.specs.Edits.{has, scope_in}
use Rattle.tree_edits.specs.EditRows.{is_numbered}
use Rattle.tree_edits.specs.Places.{scope_above}
use Rattle.tree_edits.proofs.Standing.{own, IsNode, stands, rows-node}
use Rattle.tree_edits.proofs.Spotting.{standing, top, row_is}

or_first : (a b : Bool) → (a || b) ≡ false → a ≡ false
or_first false b e = refl
or_first true b e = cc

or_second : (a b : Bool) → (a || b) ≡ false → b ≡ false
or_second false b e = e
or_second true b e = cc

-- where no node has the number
outside : (key : ℕ) (scope : List Binding) (f : Forest) → has key f ≡ false → scope_in key scope f ≡ scope
outside key scope none e = refl
outside key scope (text n chars next) e =
    rw (or_first (n == key) (has key next) e) (outside key scope next (or_second (n == key) (has key next) e))
outside key scope (element n name bindings attributes children next) e =
    let later = or_second (n == key) (has key children || has key next) e in
    rw (or_first (n == key) (has key children || has key next) e, or_first (has key children) (has key next) later)
    (outside key scope next (or_second (has key children) (has key next) later))

no_scope_if : (rows : List Row) (key : ℕ) (scope : List Binding) → AreWhole rows → length rows ≤ position_or_len (is_numbered key) rows
    → (h : Bool) → has key (siblings rows 1) ≡ h → scope_in key scope (siblings rows 1) ≡ scope
no_scope_if rows key scope whole past true e =
    let s = stands key 1 (siblings rows 1) e in
    let first : position_or_len (is_numbered key) rows ≡ length s.before = ap (position_or_len (is_numbered key)) whole ∙ s.first in
    let long : length rows ≡ length (s.before ++ (rows_of s.depth s.node ++ s.after)) = ap length (whole ∙ s.rows_are) in
    let more : 1 ≤ length (rows_of s.depth s.node) = rows-node key s.depth s.node s.is_node in
    absurd (grind (arith, common_steps, first, long, more, past))
no_scope_if rows key scope whole past false e = outside key scope (siblings rows 1) e

pub no_scope : (rows : List Row) (key k : ℕ) (scope : List Binding) → AreWhole rows → k ≡ position_or_len (is_numbered key) rows → length rows ≤ k
    → scope_in key scope (siblings rows 1) ≡ scope
no_scope rows key k scope whole at_k past = no_scope_if rows key scope whole (omega (arith, at_k, past)) (has key (siblings rows 1)) refl

-- the bindings and the depth of a node are those of its row
own_row : (key depth : ℕ) (node : Forest) (row : Row) → IsNode key node → row ≡ top depth node row → (row.bindings ≡ own node) × (row.depth ≡ depth)
own_row key depth none row i is = absurd i
own_row key depth (text n chars next) row i is = (ap (λ (r : Row). r.bindings) is, ap (λ (r : Row). r.depth) is)
own_row key depth (element n name bindings attributes children next) row i is = (ap (λ (r : Row). r.bindings) is, ap (λ (r : Row). r.depth) is)

front_is : (before behind : List Row) → take (length before) (before ++ behind) ≡ before
front_is before behind = ap (λ k. take k (before ++ behind)) (omega arith) ∙ take-append-add before behind 0 ∙ append-nil before

pub node_scope : (rows : List Row) (key k : ℕ) (row : Row) (scope : List Binding) → AreWhole rows → k ≡ position_or_len (is_numbered key) rows → k < length rows
    → row ≡ get_or rows k row → row.bindings ++ scope_above row.depth scope (reverse (take k rows)) ≡ scope_in key scope (siblings rows 1)
node_scope rows key k row scope whole at_k within read =
    let s = standing rows key whole (omega (arith, at_k, within)) in
    let both = own_row key s.depth s.node row s.is_node (row_is rows key k row whole s at_k read) in
    let place : k ≡ length s.before = at_k ∙ ap (position_or_len (is_numbered key)) whole ∙ s.first in
    let front : take k rows ≡ s.before =
    ap (λ j. take j rows) place ∙ ap (take (length s.before)) (whole ∙ s.rows_are) ∙ front_is s.before (rows_of s.depth s.node ++ s.after) in
    ap (λ b. b ++ scope_above row.depth scope (reverse (take k rows))) both.0
    ∙ ap (λ d. own s.node ++ scope_above d scope (reverse (take k rows))) both.1
    ∙ ap (λ l. own s.node ++ scope_above s.depth scope (reverse l)) front
    ∙ ap (λ l. own s.node ++ scope_above s.depth scope l) (sym (append-nil (reverse s.before)))
    ∙ sym (s.scoped scope [])
