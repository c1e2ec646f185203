-- Where a node stands among the rows of its tree.
use Rattle.std.proofs.Common.{◌≡◌, ℕ, ◌+◌, ◌≤◌, List, [], ◌∷◌, ◌++◌, Bool, true, false, ◌==◌, ◌||◌, Some, None, length, refl, sym, ap, ◌∙◌, arith, append_assoc, append-nil, nat_lt, reverse}
use Rattle.std.specs.List.{position_or_len}
use Rattle.std.proofs.lemmas.Bool.Decides.{nat_tests}
use Rattle.std.proofs.lemmas.Grind.{common_steps}
use Rattle.std.proofs.lemmas.List.{reverse-append}
use Rattle.tree_rows.specs.Forest.{Forest, none, text, element}
use Rattle.tree_rows.specs.Rows.{rows_of}
use Rattle.tree_rows.specs.RowLaws.{Ends}
use Rattle.tree_edits.specs.Edits.{append, has, scope_in, found, replaced}
use Rattle.tree_edits.specs.EditRows.{is_numbered}
use Rattle.tree_edits.specs.Places.{scope_above}
use Rattle.tree_rows.specs.declared.name.Expanded.{Expanded}
use Rattle.tree_rows.specs.declared.row.Attribute.{Attribute}
use Rattle.tree_rows.specs.declared.row.Binding.{Binding}
use Rattle.tree_rows.specs.declared.row.Row.{Row}
use Rattle.tree_rows.specs.declared.row.Content.TheVariants as contents

abbrev pub text_row : ℕ → ℕ → List ℕ → Row
text_row number depth chars = record { number = number; depth = depth; content = contents.Chars chars; bindings = []; attributes = [] }

abbrev pub element_row : ℕ → ℕ → Expanded → List Binding → List Attribute → Row
element_row number depth name bindings attributes = record { number = number; depth = depth; content = contents.Element name; bindings = bindings; attributes = attributes }

pub rows-append : (depth : ℕ) (f g : Forest) → rows_of depth (append f g) ≡ rows_of depth f ++ rows_of depth g
rows-append depth none g = refl
rows-append depth (text n chars next) g = ap (λ l. text_row n depth chars ∷ l) (rows-append depth next g)
rows-append depth (element n name bindings attributes children next) g =
    ap (λ l. element_row n depth name bindings attributes ∷ l)
    (ap (λ l. rows_of (depth + 1) children ++ l) (rows-append depth next g) ∙ sym (append_assoc (rows_of (depth + 1) children) (rows_of depth next) (rows_of depth g)))

-- rows that are not deeper than this
Ends-rows : (depth : ℕ) (f : Forest) → Ends (depth + 1) (rows_of depth f)
Ends-rows depth none = tt
Ends-rows depth (text n chars next) = omega arith
Ends-rows depth (element n name bindings attributes children next) = omega arith

Ends-more : (low depth : ℕ) (rows : List Row) (f : Forest) → low ≤ depth → Ends (depth + 1) rows → Ends (depth + 1) (rows ++ rows_of low f)
Ends-more low depth [] none h e = tt
Ends-more low depth [] (text n chars next) h e = omega arith
Ends-more low depth [] (element n name bindings attributes children next) h e = omega arith
Ends-more low depth (row ∷ rows) f h e = e

abbrev pub IsNode : ℕ → Forest → Type 0
IsNode key none = ⊥
IsNode key (text number chars next) = (number ≡ key) × (next ≡ none)
IsNode key (element number name bindings attributes children next) = (number ≡ key) × (next ≡ none)

-- the scope above a depth is that of the elements that are less deep
not_above : (d : ℕ) → nat_lt d d ≡ false
not_above d = grind (arith, nat_tests)

reverse_onto : (x : Row) (xs more : List Row) → reverse (x ∷ xs) ++ more ≡ reverse xs ++ (x ∷ more)
reverse_onto x xs more = ap (λ l. l ++ more) (reverse-append (x ∷ []) xs) ∙ append_assoc (reverse xs) (x ∷ []) more

reverse_both : (x : Row) (xs ys more : List Row) → reverse (x ∷ (xs ++ ys)) ++ more ≡ reverse ys ++ (reverse xs ++ (x ∷ more))
reverse_both x xs ys more =
    reverse_onto x (xs ++ ys) more ∙ ap (λ l. l ++ (x ∷ more)) (reverse-append xs ys) ∙ append_assoc (reverse ys) (reverse xs) (x ∷ more)

above_other : (low : ℕ) (scope : List Binding) (row : Row) (more : List Row) → low ≤ row.depth → scope_above low scope (row ∷ more) ≡ scope_above low scope more
above_other low scope row more h = let no : nat_lt row.depth low ≡ false = grind (arith, nat_tests) in rw no refl

above_skip : (low depth : ℕ) (scope : List Binding) (f : Forest) (more : List Row) → low ≤ depth
    → scope_above low scope (reverse (rows_of depth f) ++ more) ≡ scope_above low scope more
above_skip low depth scope none more h = refl
above_skip low depth scope (text n chars next) more h =
    ap (scope_above low scope) (reverse_onto (text_row n depth chars) (rows_of depth next) more)
    ∙ above_skip low depth scope next (text_row n depth chars ∷ more) h ∙ above_other low scope (text_row n depth chars) more h
above_skip low depth scope (element n name bindings attributes children next) more h =
    let row = element_row n depth name bindings attributes in
    ap (scope_above low scope) (reverse_both row (rows_of (depth + 1) children) (rows_of depth next) more)
    ∙ above_skip low depth scope next (reverse (rows_of (depth + 1) children) ++ (row ∷ more)) h
    ∙ above_skip low (depth + 1) scope children (row ∷ more) (omega (arith, h)) ∙ above_other low scope row more h

-- the bindings of a node
abbrev pub own : Forest → List Binding
own none = []
own (text number chars next) = []
own (element number name bindings attributes children next) = bindings

-- the node, the rows before it and those after it
pub record Stands (key low : ℕ) (f : Forest) : Type 0 where
  pub before : List Row
  pub after : List Row
  pub depth : ℕ
  pub node : Forest
  pub is_node : IsNode key node
  pub is_found : found key low f ≡ Some (record { depth = depth; node = node })
  pub rows_are : rows_of low f ≡ before ++ (rows_of depth node ++ after)
  pub first : position_or_len (is_numbered key) (rows_of low f) ≡ length before
  pub deep : low ≤ depth
  pub ends : Ends (depth + 1) after
  pub scoped : (scope : List Binding) (more : List Row) → scope_in key (scope_above low scope more) f ≡ own node ++ scope_above depth scope (reverse before ++ more)
  pub becomes : (change : Forest → Forest) → rows_of low (replaced key change f) ≡ before ++ (rows_of depth (change node) ++ after)

or_first : (a b : Bool) → (a || b) ≡ false → a ≡ false
or_first false b e = refl
or_first true b e = cc

or_second : (a b : Bool) → (a || b) ≡ false → b ≡ false
or_second false b e = e
or_second true b e = cc

-- a number that no node has
pub missing : (key low : ℕ) (f : Forest) → has key f ≡ false → found key low f ≡ None
missing key low none e = refl
missing key low (text n chars next) e = rw (or_first (n == key) (has key next) e) (missing key low next (or_second (n == key) (has key next) e))
missing key low (element n name bindings attributes children next) e =
    let later = or_second (n == key) (has key children || has key next) e in
    rw (or_first (n == key) (has key children || has key next) e, or_first (has key children) (has key next) later)
    (missing key low next (or_second (has key children) (has key next) later))

passes : (key : ℕ) (xs ys : List Row) → position_or_len (is_numbered key) xs ≡ length xs → position_or_len (is_numbered key) (xs ++ ys) ≡ length xs + position_or_len (is_numbered key) ys
passes key [] ys e = omega arith
passes key (x ∷ xs) ys e = passes_row key x xs ys (passes key xs ys) (x.number == key) refl e
  where
    passes_row : (key : ℕ) (x : Row) (xs ys : List Row)
        → (position_or_len (is_numbered key) xs ≡ length xs → position_or_len (is_numbered key) (xs ++ ys) ≡ length xs + position_or_len (is_numbered key) ys)
        → (t : Bool) → (x.number == key) ≡ t → position_or_len (is_numbered key) (x ∷ xs) ≡ length (x ∷ xs)
        → position_or_len (is_numbered key) (x ∷ (xs ++ ys)) ≡ length (x ∷ xs) + position_or_len (is_numbered key) ys
    passes_row key x xs ys more true is e = absurd (omega (arith, rw is at e))
    passes_row key x xs ys more false is e = let rest = rw is at e in rw is (omega (arith, more (omega (arith, rest))))

pub absent : (key low : ℕ) (f : Forest) → has key f ≡ false → position_or_len (is_numbered key) (rows_of low f) ≡ length (rows_of low f)
absent key low none e = refl
absent key low (text n chars next) e = rw (or_first (n == key) (has key next) e) (ap (λ k. 1 + k) (absent key low next (or_second (n == key) (has key next) e)) ∙ omega arith)
absent key low (element n name bindings attributes children next) e =
    let later = or_second (n == key) (has key children || has key next) e in
    let one = absent key (low + 1) children (or_first (has key children) (has key next) later) in
    let two = absent key low next (or_second (has key children) (has key next) later) in
    rw (or_first (n == key) (has key children || has key next) e) (grind (arith, common_steps, passes key (rows_of (low + 1) children) (rows_of low next) one, two))

here_text : (key low n : ℕ) (chars : List ℕ) (next : Forest) → (n == key) ≡ true → Stands key low (text n chars next)
here_text key low n chars next is = record {
  before = [];
  after = rows_of low next;
  depth = low;
  node = text n chars none;
  is_node = (grind (arith, nat_tests), refl);
  is_found = rw is refl;
  rows_are = refl;
  first = rw is refl;
  deep = omega arith;
  ends = Ends-rows low next;
  scoped = λ scope more. rw is refl;
  becomes = λ change. rw is (rows-append low (change (text n chars none)) next);
}

here_element : (key low n : ℕ) (name : Expanded) (bindings : List Binding) (attributes : List Attribute) (children next : Forest) → (n == key) ≡ true
    → Stands key low (element n name bindings attributes children next)
here_element key low n name bindings attributes children next is = record {
  before = [];
  after = rows_of low next;
  depth = low;
  node = element n name bindings attributes children none;
  is_node = (grind (arith, nat_tests), refl);
  is_found = rw is refl;
  rows_are = ap (λ l. element_row n low name bindings attributes ∷ (l ++ rows_of low next)) (sym (append-nil (rows_of (low + 1) children)));
  first = rw is refl;
  deep = omega arith;
  ends = Ends-rows low next;
  scoped = λ scope more. rw is refl;
  becomes = λ change. rw is (rows-append low (change (element n name bindings attributes children none)) next);
}

later_text : (key low n : ℕ) (chars : List ℕ) (next : Forest) → (n == key) ≡ false → Stands key low next → Stands key low (text n chars next)
later_text key low n chars next is s = record {
  before = text_row n low chars ∷ s.before;
  after = s.after;
  depth = s.depth;
  node = s.node;
  is_node = s.is_node;
  is_found = rw is s.is_found;
  rows_are = ap (λ l. text_row n low chars ∷ l) s.rows_are;
  first = rw is (ap (λ k. 1 + k) s.first ∙ omega arith);
  deep = s.deep;
  ends = s.ends;
  scoped = λ scope more.
      let row = text_row n low chars in
      rw is (ap (λ x. scope_in key x next) (sym (above_other low scope row more (omega arith))) ∙ s.scoped scope (row ∷ more)
      ∙ ap (λ l. own s.node ++ scope_above s.depth scope l) (sym (reverse_onto row s.before more)));
  becomes = λ change. rw is (ap (λ l. text_row n low chars ∷ l) (s.becomes change));
}

later_element : (key low n : ℕ) (name : Expanded) (bindings : List Binding) (attributes : List Attribute) (children next : Forest) → (n == key) ≡ false → has key children ≡ false
    → Stands key low next → Stands key low (element n name bindings attributes children next)
later_element key low n name bindings attributes children next is not_below s = record {
  before = element_row n low name bindings attributes ∷ (rows_of (low + 1) children ++ s.before);
  after = s.after;
  depth = s.depth;
  node = s.node;
  is_node = s.is_node;
  is_found = rw (is, not_below) s.is_found;
  rows_are = ap (λ l. element_row n low name bindings attributes ∷ l) (ap (λ l. rows_of (low + 1) children ++ l) s.rows_are
      ∙ sym (append_assoc (rows_of (low + 1) children) s.before (rows_of s.depth s.node ++ s.after)));
  first = rw is (grind (arith, common_steps, passes key (rows_of (low + 1) children) (rows_of low next) (absent key (low + 1) children not_below), s.first));
  deep = s.deep;
  ends = s.ends;
  scoped = λ scope more.
      let row = element_row n low name bindings attributes in
      rw (is, not_below) (ap (λ x. scope_in key x next) (sym (above_skip low (low + 1) scope children (row ∷ more) (omega arith) ∙ above_other low scope row more (omega arith)))
      ∙ s.scoped scope (reverse (rows_of (low + 1) children) ++ (row ∷ more))
      ∙ ap (λ l. own s.node ++ scope_above s.depth scope l) (sym (reverse_both row (rows_of (low + 1) children) s.before more)));
  becomes = λ change. rw (is, not_below) (ap (λ l. element_row n low name bindings attributes ∷ l) (ap (λ l. rows_of (low + 1) children ++ l) (s.becomes change)
      ∙ sym (append_assoc (rows_of (low + 1) children) s.before (rows_of s.depth (change s.node) ++ s.after))));
}

inner : (xs ys zs ws : List Row) → (xs ++ (ys ++ zs)) ++ ws ≡ xs ++ (ys ++ (zs ++ ws))
inner xs ys zs ws = append_assoc xs (ys ++ zs) ws ∙ ap (λ l. xs ++ l) (append_assoc ys zs ws)

first_inner : (key : ℕ) (xs ys : List Row) (k : ℕ) → position_or_len (is_numbered key) xs ≡ k → k + 1 ≤ length xs → position_or_len (is_numbered key) (xs ++ ys) ≡ k
first_inner key [] ys k e h = absurd (omega arith)
first_inner key (x ∷ xs) ys k e h = first_row key x xs ys k (first_inner key xs ys) (x.number == key) refl e h
  where
    first_row : (key : ℕ) (x : Row) (xs ys : List Row) (k : ℕ)
        → ((j : ℕ) → position_or_len (is_numbered key) xs ≡ j → j + 1 ≤ length xs → position_or_len (is_numbered key) (xs ++ ys) ≡ j)
        → (t : Bool) → (x.number == key) ≡ t → position_or_len (is_numbered key) (x ∷ xs) ≡ k → k + 1 ≤ length (x ∷ xs)
        → position_or_len (is_numbered key) (x ∷ (xs ++ ys)) ≡ k
    first_row key x xs ys k more true is e h = let zero_is = rw is at e in rw is zero_is
    first_row key x xs ys k more false is e h =
        let rest = rw is at e in
        rw is (omega (arith, more (position_or_len (is_numbered key) xs) refl (omega (arith, rest, h)), rest))

-- a node has a row
pub rows-node : (key depth : ℕ) (node : Forest) → IsNode key node → 1 ≤ length (rows_of depth node)
rows-node key depth none i = absurd i
rows-node key depth (text n chars next) i = omega arith
rows-node key depth (element n name bindings attributes children next) i = omega arith

below : (key low n : ℕ) (name : Expanded) (bindings : List Binding) (attributes : List Attribute) (children next : Forest) → (n == key) ≡ false → has key children ≡ true
    → Stands key (low + 1) children → Stands key low (element n name bindings attributes children next)
below key low n name bindings attributes children next is is_below s =
    let long : length s.before + 1 ≤ length (rows_of (low + 1) children) = grind (arith, common_steps, ap length s.rows_are, rows-node key s.depth s.node s.is_node) in
    record {
      before = element_row n low name bindings attributes ∷ s.before;
      after = s.after ++ rows_of low next;
      depth = s.depth;
      node = s.node;
      is_node = s.is_node;
      is_found = rw (is, is_below) s.is_found;
      rows_are = ap (λ l. element_row n low name bindings attributes ∷ l) (ap (λ l. l ++ rows_of low next) s.rows_are ∙ inner s.before (rows_of s.depth s.node) s.after (rows_of low next));
      first = rw is (ap (λ k. 1 + k) (first_inner key (rows_of (low + 1) children) (rows_of low next) (length s.before) s.first long) ∙ omega arith);
      deep = omega (arith, s.deep);
      ends = Ends-more low s.depth s.after next (omega (arith, s.deep)) s.ends;
      scoped = λ scope more.
          let row = element_row n low name bindings attributes in
          let yes : nat_lt low (low + 1) ≡ true = grind (arith, nat_tests) in
          let deeper : scope_above (low + 1) scope (row ∷ more) ≡ bindings ++ scope_above low scope more = rw yes refl in
          rw (is, is_below) (ap (λ x. scope_in key x children) (sym deeper) ∙ s.scoped scope (row ∷ more)
          ∙ ap (λ l. own s.node ++ scope_above s.depth scope l) (sym (reverse_onto row s.before more)));
      becomes = λ change. rw (is, is_below) (ap (λ l. element_row n low name bindings attributes ∷ l) (ap (λ l. l ++ rows_of low next) (s.becomes change)
          ∙ inner s.before (rows_of s.depth (change s.node)) s.after (rows_of low next)));
    }

text_stands : (key low n : ℕ) (chars : List ℕ) (next : Forest) → (has key next ≡ true → Stands key low next)
    → (t : Bool) → (n == key) ≡ t → (t || has key next) ≡ true → Stands key low (text n chars next)
text_stands key low n chars next more true is h = here_text key low n chars next is
text_stands key low n chars next more false is h = later_text key low n chars next is (more h)

element_stands : (key low n : ℕ) (name : Expanded) (bindings : List Binding) (attributes : List Attribute) (children next : Forest)
    → (has key children ≡ true → Stands key (low + 1) children) → (has key next ≡ true → Stands key low next)
    → (t : Bool) → (n == key) ≡ t → (u : Bool) → has key children ≡ u → (t || (u || has key next)) ≡ true → Stands key low (element n name bindings attributes children next)
element_stands key low n name bindings attributes children next inside more true is u below_is h = here_element key low n name bindings attributes children next is
element_stands key low n name bindings attributes children next inside more false is true below_is h = below key low n name bindings attributes children next is below_is (inside below_is)
element_stands key low n name bindings attributes children next inside more false is false below_is h = later_element key low n name bindings attributes children next is below_is (more h)

-- a number that a node has
pub stands : (key low : ℕ) (f : Forest) → has key f ≡ true → Stands key low f
stands key low none h = absurd (cc h)
stands key low (text n chars next) h = text_stands key low n chars next (stands key low next) (n == key) refl h
stands key low (element n name bindings attributes children next) h =
    element_stands key low n name bindings attributes children next (stands key (low + 1) children) (stands key low next) (n == key) refl (has key children) refl h
