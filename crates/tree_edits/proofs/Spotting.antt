-- A node that a search over the rows finds is the one that the tree has.
use Rattle.std.proofs.Common.{◌≡◌, ℕ, suc, ◌+◌, ◌≤◌, ◌<◌, List, [], ◌∷◌, ◌++◌, Bool, true, false, Some, None, Result, Err, length, take, drop, get_or, refl, sym, ap, ◌∙◌, arith, append-nil, nat_lt, max, reverse}
use Rattle.std.specs.List.{position_or_len}
use Rattle.std.proofs.lemmas.Bool.Decides.{nat_tests}
use Rattle.std.proofs.lemmas.Grind.{common_steps, elements}
use Rattle.std.proofs.lemmas.List.{reverse-append}
use Rattle.std.proofs.Math.Seq.{take-append-add}
use Rattle.tree_rows.specs.Forest.{Forest, none, text, element, Document}
use Rattle.tree_rows.specs.Rows.{rows_of, siblings}
use Rattle.tree_rows.specs.RowLaws.{Ends}
use Rattle.tree_edits.specs.Edits.{width, insert_at, has, scope_in, found, replaced, with_children, put_at, put_into}
use Rattle.tree_building.specs.Shape.{AreWhole, deepest_row}
use Rattle.tree_edits.specs.EditRows.{is_numbered, rows_width, put_rows}
use Rattle.tree_edits.specs.Places.{scope_above}
use Rattle.tree_edits.specs.Spots.{CannotPut, IsSpot}
use Rattle.tree_edits.specs.declared.edit.EditError.{EditError}
use Rattle.tree_rows.specs.declared.name.Expanded.{Expanded}
use Rattle.tree_rows.specs.declared.row.Attribute.{Attribute}
use Rattle.tree_rows.specs.declared.row.Binding.{Binding}
use Rattle.tree_rows.specs.declared.row.Row.{Row}
use Rattle.tree_rows.specs.declared.row.Content.TheVariants as contents
use Rattle.tree_edits.specs.declared.edit.EditError.TheVariants.{UnknownNode, NotElement, BadIndex}
use Rattle.tree_edits.proofs.Standing.{text_row, element_row, own, IsNode, Stands, stands, missing, absent, rows-node}
use Rattle.tree_edits.proofs.Placing.{width-rows, put-rows, deepest-append}

unknown_if : (rows : List Row) (key : ℕ) → AreWhole rows → length rows ≤ position_or_len (is_numbered key) rows
    → (h : Bool) → has key (siblings rows 1) ≡ h → found key 1 (siblings rows 1) ≡ None
unknown_if rows key whole past true e =
    let s = stands key 1 (siblings rows 1) e in
    let first : position_or_len (is_numbered key) rows ≡ length s.before = ap (position_or_len (is_numbered key)) whole ∙ s.first in
    let long : length rows ≡ length (s.before ++ (rows_of s.depth s.node ++ s.after)) = ap length (whole ∙ s.rows_are) in
    let more : 1 ≤ length (rows_of s.depth s.node) = rows-node key s.depth s.node s.is_node in
    absurd (grind (arith, common_steps, first, long, more, past))
unknown_if rows key whole past false e = missing key 1 (siblings rows 1) e

-- where no row has the number, no node has it
pub unknown : (rows : List Row) (key : ℕ) → AreWhole rows → length rows ≤ position_or_len (is_numbered key) rows → found key 1 (siblings rows 1) ≡ None
unknown rows key whole past = unknown_if rows key whole past (has key (siblings rows 1)) refl

standing_if : (rows : List Row) (key : ℕ) → AreWhole rows → position_or_len (is_numbered key) rows < length rows
    → (h : Bool) → has key (siblings rows 1) ≡ h → Stands key 1 (siblings rows 1)
standing_if rows key whole within true e = stands key 1 (siblings rows 1) e
standing_if rows key whole within false e =
    let all = ap (position_or_len (is_numbered key)) whole ∙ absent key 1 (siblings rows 1) e in
    let long : length rows ≡ length (rows_of 1 (siblings rows 1)) = ap length whole in
    absurd (omega (arith, all, long, within))

-- where a row has the number, a node has it
pub standing : (rows : List Row) (key : ℕ) → AreWhole rows → position_or_len (is_numbered key) rows < length rows → Stands key 1 (siblings rows 1)
standing rows key whole within = standing_if rows key whole within (has key (siblings rows 1)) refl

at_length : (xs : List Row) (y : Row) (ys : List Row) (d : Row) → get_or (xs ++ (y ∷ ys)) (length xs) d ≡ y
at_length xs y ys d = grind (arith, common_steps, elements)

-- the row of a node itself
abbrev pub top : ℕ → Forest → Row → Row
top depth none d = d
top depth (text n chars next) d = text_row n depth chars
top depth (element n name bindings attributes children next) d = element_row n depth name bindings attributes

top_there : (key depth : ℕ) (node : Forest) (rows before after : List Row) (d : Row) → IsNode key node → rows ≡ before ++ (rows_of depth node ++ after)
    → get_or rows (length before) d ≡ top depth node d
top_there key depth none rows before after d i e = absurd i
top_there key depth (text n chars next) rows before after d i e =
    ap (λ l. get_or l (length before) d) e ∙ at_length before (text_row n depth chars) (rows_of depth next ++ after) d
top_there key depth (element n name bindings attributes children next) rows before after d i e =
    ap (λ l. get_or l (length before) d) e ∙ at_length before (element_row n depth name bindings attributes) ((rows_of (depth + 1) children ++ rows_of depth next) ++ after) d

-- what a search over the rows finds
pub row_is : (rows : List Row) (key k : ℕ) (row : Row) (whole : AreWhole rows) (s : Stands key 1 (siblings rows 1))
    → k ≡ position_or_len (is_numbered key) rows → row ≡ get_or rows k row → row ≡ top s.depth s.node row
row_is rows key k row whole s place read =
    let first : k ≡ length s.before = place ∙ ap (position_or_len (is_numbered key)) whole ∙ s.first in
    read ∙ ap (λ j. get_or rows j row) first ∙ top_there key s.depth s.node rows s.before s.after row s.is_node (whole ∙ s.rows_are)

pub cannot_find : (rows : List Row) (key place k : ℕ) → AreWhole rows → k ≡ position_or_len (is_numbered key) rows → length rows ≤ k → CannotPut rows key place UnknownNode
cannot_find rows key place k whole at_k past =
    λ change. ap (put_at place change) (unknown rows key whole (omega (arith, at_k, past)))

not_into_text : (key place depth : ℕ) (change : ℕ → Result Document EditError) (node : Forest) (row : Row) (chars : List ℕ) → IsNode key node
    → row ≡ top depth node row → row.content ≡ contents.Chars chars → put_into place change depth node ≡ Err NotElement
not_into_text key place depth change none row chars i is c = absurd i
not_into_text key place depth change (text n old next) row chars i is c = refl
not_into_text key place depth change (element n name bindings attributes children next) row chars i is c =
    let e : row.content ≡ contents.Element name = ap (λ (r : Row). r.content) is in cc

pub cannot_text : (rows : List Row) (key place k : ℕ) (row : Row) (chars : List ℕ) → AreWhole rows → k ≡ position_or_len (is_numbered key) rows → k < length rows
    → row ≡ get_or rows k row → row.content ≡ contents.Chars chars → CannotPut rows key place NotElement
cannot_text rows key place k row chars whole at_k within read c =
    let s = standing rows key whole (omega (arith, at_k, within)) in
    λ change. ap (put_at place change) s.is_found
    ∙ not_into_text key place s.depth change s.node row chars s.is_node (row_is rows key k row whole s at_k read) c

-- an element, by its row
pub record ElementAt (rows : List Row) (key k : ℕ) (row : Row) : Type 0 where
  pub number : ℕ
  pub name : Expanded
  pub bindings : List Binding
  pub attributes : List Attribute
  pub children : Forest
  pub before : List Row
  pub after : List Row
  pub is_found : found key 1 (siblings rows 1) ≡ Some (record { depth = row.depth; node = element number name bindings attributes children none })
  pub place : k ≡ length before
  pub rows_are : rows ≡ before ++ (row ∷ (rows_of (row.depth + 1) children ++ after))
  pub ends : Ends (row.depth + 1) after
  pub has_content : row.content ≡ contents.Element name
  pub has_bindings : row.bindings ≡ bindings
  pub has_attributes : row.attributes ≡ attributes
  pub scoped : (scope : List Binding) → scope_in key scope (siblings rows 1) ≡ row.bindings ++ scope_above row.depth scope (reverse before)
  pub becomes : (place : ℕ) (new : Forest) → rows_of 1 (replaced key (with_children place new) (siblings rows 1))
      ≡ before ++ (row ∷ (rows_of (row.depth + 1) (insert_at place new children) ++ after))
  pub stays : (change : Forest → Forest) (fresh : Expanded) (more : List Attribute)
      → change (element number name bindings attributes children none) ≡ element number fresh bindings more children none
      → rows_of 1 (replaced key change (siblings rows 1))
      ≡ before ++ (record row { content = contents.Element fresh; attributes = more } ∷ (rows_of (row.depth + 1) children ++ after))

element_is : (rows : List Row) (key k : ℕ) (row : Row) (name : Expanded) (whole : AreWhole rows) (before after : List Row) (depth : ℕ) (node : Forest) → IsNode key node
    → found key 1 (siblings rows 1) ≡ Some (record { depth = depth; node = node }) → k ≡ length before → rows ≡ before ++ (rows_of depth node ++ after)
    → Ends (depth + 1) after
    → ((scope : List Binding) (more : List Row) → scope_in key (scope_above 1 scope more) (siblings rows 1) ≡ own node ++ scope_above depth scope (reverse before ++ more))
    → ((change : Forest → Forest) → rows_of 1 (replaced key change (siblings rows 1)) ≡ before ++ (rows_of depth (change node) ++ after))
    → row ≡ top depth node row → row.content ≡ contents.Element name → ElementAt rows key k row
element_is rows key k row name whole before after depth none i f p e ends sc b is c = absurd i
element_is rows key k row name whole before after depth (text n chars next) i f p e ends sc b is c =
    let d : row.content ≡ contents.Chars chars = ap (λ (r : Row). r.content) is in absurd (cc)
element_is rows key k row name whole before after depth (element n other bindings attributes children next) i f p e ends sc b is c =
    let deep : row.depth ≡ depth = ap (λ (r : Row). r.depth) is in
    record {
      number = n;
      name = other;
      bindings = bindings;
      attributes = attributes;
      children = children;
      before = before;
      after = after;
      is_found = f ∙ ap (λ g. Some (record { depth = depth; node = element n other bindings attributes children g })) i.1
          ∙ ap (λ j. Some (record { depth = j; node = element n other bindings attributes children none })) (sym deep);
      place = p;
      rows_are = e ∙ ap (λ g. before ++ (element_row n depth other bindings attributes ∷ ((rows_of (depth + 1) children ++ rows_of depth g) ++ after))) i.1
          ∙ ap (λ l. before ++ (element_row n depth other bindings attributes ∷ (l ++ after))) (append-nil (rows_of (depth + 1) children))
          ∙ ap (λ j. before ++ (element_row n depth other bindings attributes ∷ (rows_of (j + 1) children ++ after))) (sym deep)
          ∙ ap (λ r. before ++ (r ∷ (rows_of (row.depth + 1) children ++ after))) (sym is);
      ends = rw deep ends;
      has_content = ap (λ (r : Row). r.content) is;
      has_bindings = ap (λ (r : Row). r.bindings) is;
      has_attributes = ap (λ (r : Row). r.attributes) is;
      scoped = λ scope. sc scope [] ∙ ap (λ l. bindings ++ scope_above depth scope l) (append-nil (reverse before))
          ∙ ap (λ l. l ++ scope_above depth scope (reverse before)) (sym (ap (λ (r : Row). r.bindings) is))
          ∙ ap (λ j. row.bindings ++ scope_above j scope (reverse before)) (sym deep);
      becomes = λ place new. b (with_children place new)
          ∙ ap (λ g. before ++ (element_row n depth other bindings attributes ∷ ((rows_of (depth + 1) (insert_at place new children) ++ rows_of depth g) ++ after))) i.1
          ∙ ap (λ l. before ++ (element_row n depth other bindings attributes ∷ (l ++ after))) (append-nil (rows_of (depth + 1) (insert_at place new children)))
          ∙ ap (λ j. before ++ (element_row n depth other bindings attributes ∷ (rows_of (j + 1) (insert_at place new children) ++ after))) (sym deep)
          ∙ ap (λ r. before ++ (r ∷ (rows_of (row.depth + 1) (insert_at place new children) ++ after))) (sym is);
      stays = λ change fresh more g. b change
          ∙ ap (λ h. before ++ (rows_of depth (change (element n other bindings attributes children h)) ++ after)) i.1
          ∙ ap (λ f. before ++ (rows_of depth f ++ after)) g
          ∙ ap (λ l. before ++ (element_row n depth fresh bindings more ∷ (l ++ after))) (append-nil (rows_of (depth + 1) children))
          ∙ ap (λ j. before ++ (element_row n depth fresh bindings more ∷ (rows_of (j + 1) children ++ after))) (sym deep)
          ∙ ap (λ (r : Row). before ++ (record r { content = contents.Element fresh; attributes = more } ∷ (rows_of (row.depth + 1) children ++ after))) (sym is);
    }

pub element_at : (rows : List Row) (key k : ℕ) (row : Row) (name : Expanded) → AreWhole rows → k ≡ position_or_len (is_numbered key) rows → k < length rows
    → row ≡ get_or rows k row → row.content ≡ contents.Element name → ElementAt rows key k row
element_at rows key k row name whole at_k within read c =
    let s = standing rows key whole (omega (arith, at_k, within)) in
    element_is rows key k row name whole s.before s.after s.depth s.node s.is_node s.is_found (at_k ∙ ap (position_or_len (is_numbered key)) whole ∙ s.first)
    (whole ∙ s.rows_are) s.ends s.scoped s.becomes (row_is rows key k row whole s at_k read) c

pub behind_is : (before : List Row) (x : Row) (more : List Row) → drop (length before + 1) (before ++ (x ∷ more)) ≡ more
behind_is [] x more = refl
behind_is (y ∷ ys) x more =
    let up : length (y ∷ ys) + 1 ≡ suc (length ys + 1) = omega arith in
    ap (λ k. drop k (y ∷ (ys ++ (x ∷ more)))) up ∙ behind_is ys x more

cut_in : (before : List Row) (x : Row) (more new : List Row) (p : ℕ)
    → before ++ (x ∷ (take p more ++ (new ++ drop p more))) ≡ take (length before + 1 + p) (before ++ (x ∷ more)) ++ (new ++ drop (length before + 1 + p) (before ++ (x ∷ more)))
cut_in [] x more new p =
    let up : length {A = Row} [] + 1 + p ≡ suc p = omega arith in
    sym (ap (λ k. take k (x ∷ more) ++ (new ++ drop k (x ∷ more))) up)
cut_in (y ∷ ys) x more new p =
    let up : length (y ∷ ys) + 1 + p ≡ suc (length ys + 1 + p) = omega arith in
    ap (λ l. y ∷ l) (cut_in ys x more new p) ∙ sym (ap (λ k. take k (y ∷ (ys ++ (x ∷ more))) ++ (new ++ drop k (y ∷ (ys ++ (x ∷ more))))) up)

-- the rows up to an element's own
up_to : (before : List Row) (x : Row) (more : List Row) → take (length before + 1) (before ++ (x ∷ more)) ≡ before ++ (x ∷ [])
up_to before x more = take-append-add before (x ∷ more) 1

module _ (rows : List Row) (key k : ℕ) (row : Row) (e : ElementAt rows key k row) where
  -- the rows behind an element's
  pub behind_element : drop (k + 1) rows ≡ rows_of (row.depth + 1) e.children ++ e.after
  behind_element =
      ap (λ j. drop (j + 1) rows) e.place ∙ ap (drop (length e.before + 1)) e.rows_are ∙ behind_is e.before row (rows_of (row.depth + 1) e.children ++ e.after)

  children_counted : rows_width (row.depth + 1) (drop (k + 1) rows) ≡ width e.children
  children_counted = ap (rows_width (row.depth + 1)) behind_element ∙ width-rows (row.depth + 1) e.children e.after e.ends

  pub depth_is : deepest_row 0 rows ≤ 128 → row.depth ≤ 128
  depth_is shallow =
      let all = ap (deepest_row 0) e.rows_are ∙ deepest-append 0 e.before (row ∷ (rows_of (row.depth + 1) e.children ++ e.after)) in
      let own : deepest_row 0 (row ∷ (rows_of (row.depth + 1) e.children ++ e.after)) ≡ max (row.depth + 0) (deepest_row 0 (rows_of (row.depth + 1) e.children ++ e.after)) =
      rw e.has_content refl in
      omega (arith, all, own, shallow)

  -- the scope of what the element holds, and of its names
  pub scope_is : (scope : List Binding) → scope_in key scope (siblings rows 1) ≡ scope_above (row.depth + 1) scope (reverse (take (k + 1) rows))
  scope_is scope =
      let yes : nat_lt row.depth (row.depth + 1) ≡ true = grind (arith, nat_tests) in
      let front : reverse (take (k + 1) rows) ≡ row ∷ reverse e.before =
      ap (λ j. reverse (take (j + 1) rows)) e.place ∙ ap (λ l. reverse (take (length e.before + 1) l)) e.rows_are
      ∙ ap reverse (up_to e.before row (rows_of (row.depth + 1) e.children ++ e.after)) ∙ reverse-append e.before (row ∷ []) in
      let deeper : scope_above (row.depth + 1) scope (row ∷ reverse e.before) ≡ row.bindings ++ scope_above row.depth scope (reverse e.before) = rw yes refl in
      e.scoped scope ∙ sym deeper ∙ ap (scope_above (row.depth + 1) scope) (sym front)

  pub cannot_count : (place count : ℕ) → count ≡ rows_width (row.depth + 1) (drop (k + 1) rows) → count < place → CannotPut rows key place BadIndex
  cannot_count place count is less =
      let yes : nat_lt (width e.children) place ≡ true = grind (arith, nat_tests, is, children_counted, less) in
      λ change. ap (put_at place change) e.is_found ∙ rw yes refl

  pub spot_is : (place count p : ℕ) → deepest_row 0 rows ≤ 128 → count ≡ rows_width (row.depth + 1) (drop (k + 1) rows) → place ≤ count
      → p ≤ length (drop (k + 1) rows)
      → ((new : List Row) → put_rows place (row.depth + 1) new (drop (k + 1) rows) ≡ take p (drop (k + 1) rows) ++ (new ++ drop p (drop (k + 1) rows)))
      → IsSpot rows key place (record { parent = k; place = k + 1 + p; depth = row.depth })
  spot_is place count p shallow is most within puts =
      let few : place ≤ width e.children = omega (arith, is, children_counted, most) in
      let no : nat_lt (width e.children) place ≡ false = grind (arith, nat_tests, few) in
      let more : List Row = rows_of (row.depth + 1) e.children ++ e.after in
      let long : length rows ≡ length (e.before ++ (row ∷ more)) = ap length e.rows_are in
      record {
        within = grind (arith, common_steps, within, behind_element, e.place, long);
        shallow = depth_is shallow;
        inside = grind (arith, common_steps, e.place, long);
        scoped = scope_is;
        puts = λ change. ap (put_at place change) e.is_found ∙ rw no refl;
        becomes = λ new. e.becomes place new
            ∙ ap (λ l. e.before ++ (row ∷ l)) (sym (put-rows place (row.depth + 1) new e.children e.after few e.ends)
            ∙ ap (put_rows place (row.depth + 1) (rows_of (row.depth + 1) new)) (sym behind_element) ∙ puts (rows_of (row.depth + 1) new)
            ∙ ap (λ l. take p l ++ (rows_of (row.depth + 1) new ++ drop p l)) behind_element)
            ∙ cut_in e.before row more (rows_of (row.depth + 1) new) p
            ∙ ap (λ l. take (length e.before + 1 + p) l ++ (rows_of (row.depth + 1) new ++ drop (length e.before + 1 + p) l)) (sym e.rows_are)
            ∙ ap (λ j. take (j + 1 + p) rows ++ (rows_of (row.depth + 1) new ++ drop (j + 1 + p) rows)) (sym e.place);
      }
