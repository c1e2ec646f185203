-- A block is built exactly where its tags are those of one element.
use Rattle.std.proofs.Common.{◌≡◌, ℕ, ◌+◌, ◌≤◌, List, [], ◌∷◌, ◌++◌, Bool, true, false, ◌==◌, ◌&&◌, Result, Ok, Err, length, refl, sym, ap, ◌∙◌, arith}
use Rattle.tag_names.specs.Scopes.{first_scope}
use Rattle.std.specs.Prelude.{if◌then◌else◌}
use Rattle.std.specs.Result.{is_ok}
use Rattle.std.proofs.lemmas.Bool.Decides.{nat_tests}
use Rattle.item_listing.specs.declared.item.Item.{Item}
use Rattle.item_listing.specs.declared.item.Item.TheVariants as items
use Rattle.xs_names.specs.White as white
use Rattle.tree_rows.specs.declared.row.Binding.{Binding}
use Rattle.tree_rows.specs.declared.row.Row.{Row}
use Rattle.tree_building.specs.Blocks.{ends, outer, one_from, one_by_tags, one_element}
use Rattle.tree_building.specs.Building.{◌>>=◌, refused, with_row, with_element, text_row, element_row, settled_by, counted, started, text_begun, ended, finished, ended_all, after_all, built, is_empty}
use Rattle.tree_building.specs.Nest.{OpenElement, closes, without_first}
use Rattle.tree_building.specs.Rules.{block_rules}
use Rattle.tree_building.specs.declared.pending.Pending.{Pending}
use Rattle.tree_building.specs.declared.pending.Pending.TheVariants as pending
use Rattle.tree_building.specs.declared.building.Building.{Building}
use Rattle.tree_building.specs.declared.build.Built.{Built}
use Rattle.tree_building.specs.declared.fault.TreeFault.{TreeFault}
use Rattle.tree_building.specs.declared.fault.TreeReason.TheVariants as reasons

-- the names of the open elements
abbrev names : List OpenElement → List (List ℕ)
names [] = []
names (element ∷ elements) = element.name ∷ names elements

abbrev tags : List OpenElement → Pending → List (List ℕ)
tags elements pending.Nothing = names elements
tags elements (pending.Start tag item) = tag.name ∷ names elements
tags elements (pending.Chars chars) = names elements

abbrev is_start : Pending → Bool
is_start pending.Nothing = false
is_start (pending.Start tag item) = true
is_start (pending.Chars chars) = false

abbrev State : List Row → List Binding → List OpenElement → Pending → Bool → ℕ → ℕ → Building
State rows scope elements p rooted next taken =
    record { rules = block_rules; rows = rows; nest = record { outer = scope; elements = elements }; pending = p; rooted = rooted; next = next; taken = taken }

none_open : (elements : List OpenElement) → (length elements == 0) ≡ (length (names elements) == 0)
none_open [] = refl
none_open (element ∷ elements) =
    let one : (length (element ∷ elements) == 0) ≡ false = (let some : 1 ≤ length (element ∷ elements) = omega arith in grind (arith, nat_tests, some)) in
    let two : (length (element.name ∷ names elements) == 0) ≡ false = (let some : 1 ≤ length (element.name ∷ names elements) = omega arith in grind (arith, nat_tests, some)) in
    one ∙ sym two

some_open : (tag : List ℕ) (tags : List (List ℕ)) → (length (tag ∷ tags) == 0) ≡ false
some_open tag tags = let some : 1 ≤ length (tag ∷ tags) = omega arith in grind (arith, nat_tests, some)

same_end : (name : List ℕ) (elements : List OpenElement) → closes name elements ≡ ends name (names elements)
same_end name [] = refl
same_end name (element ∷ elements) = refl

same_outer : (elements : List OpenElement) → names (without_first elements) ≡ outer (names elements)
same_outer [] = refl
same_outer (element ∷ elements) = refl

-- what comes of the items that are left
abbrev Whole : Result Building TreeFault → List Item → Bool
Whole r more = is_ok (after_all r more >>= ended_all)

fault_stays : (fault : TreeFault) (more : List Item) → Whole (Err fault) more ≡ false
fault_stays fault [] = refl
fault_stays fault (item ∷ more) = fault_stays fault more

whole_if : (t s : Bool) (x y : Result Building TreeFault) (more : List Item) (p q : Bool) → t ≡ s → Whole x more ≡ p → Whole y more ≡ q
    → Whole (if t then x else y) more ≡ (if s then p else q)
whole_if true true x y more p q same hx hy = hx
whole_if true false x y more p q same hx hy = cc
whole_if false true x y more p q same hx hy = cc
whole_if false false x y more p q same hx hy = hy

ok_if : (t s : Bool) (x y : Result Built TreeFault) (p q : Bool) → t ≡ s → is_ok x ≡ p → is_ok y ≡ q → is_ok (if t then x else y) ≡ (if s then p else q)
ok_if true true x y p q same hx hy = hx
ok_if true false x y p q same hx hy = cc
ok_if false true x y p q same hx hy = cc
ok_if false false x y p q same hx hy = hy

-- a state with nothing that came last, for one whose tags are these
record Settled (end : Result Building TreeFault) (scope : List Binding) (rooted : Bool) (taken : ℕ) (open_tags : List (List ℕ)) : Type 0 where
  pub rows : List Row
  pub elements : List OpenElement
  pub next : ℕ
  pub is : end ≡ Ok (State rows scope elements pending.Nothing rooted next taken)
  pub has : names elements ≡ open_tags

settle : (rows : List Row) (scope : List Binding) (elements : List OpenElement) (p : Pending) (rooted : Bool) (next taken : ℕ)
    → Settled (settled_by (State rows scope elements p rooted next taken) p) scope rooted taken (tags elements p)
settle rows scope elements pending.Nothing rooted next taken = record { rows = rows; elements = elements; next = next; is = refl; has = refl }
settle rows scope elements (pending.Start tag item) rooted next taken =
    let b = State rows scope elements (pending.Start tag item) rooted next taken in
    let w = with_element b tag.name (element_row b tag) in record { rows = w.rows; elements = w.nest.elements; next = w.next; is = refl; has = refl }
settle rows scope elements (pending.Chars chars) rooted next taken =
    let b = State rows scope elements (pending.Chars chars) rooted next taken in
    let w = with_row b (text_row b chars) in record { rows = w.rows; elements = elements; next = w.next; is = refl; has = refl }

same_rooted : (rooted : Bool) → (if rooted then true else false) ≡ rooted
same_rooted true = refl
same_rooted false = refl

-- at the end
end_none : (rows : List Row) (scope : List Binding) (elements : List OpenElement) (p : Pending) (rooted : Bool) (next taken : ℕ)
    → is_ok (finished (State rows scope elements p rooted next taken)) ≡ (if length (names elements) == 0 then rooted else false)
end_none rows scope elements p rooted next taken =
    ok_if (length elements == 0) (length (names elements) == 0) _ (refused (State rows scope elements p rooted next taken) reasons.Unclosed) rooted false (none_open elements)
    (ok_if rooted rooted (Ok (record { rows = rows; next = next })) (refused (State rows scope elements p rooted next taken) reasons.NoRoot) true false refl refl refl ∙ same_rooted rooted) refl

and_true : (b : Bool) → (b && true) ≡ b
and_true true = refl
and_true false = refl

and_false : (b : Bool) → (b && false) ≡ false
and_false true = refl
and_false false = refl

end_by : (rows : List Row) (scope : List Binding) (elements : List OpenElement) (p : Pending) (rooted : Bool) (next taken : ℕ)
    → is_ok (settled_by (State rows scope elements p rooted next taken) p >>= finished) ≡ one_from (tags elements p) rooted (is_start p) []
end_by rows scope elements pending.Nothing rooted next taken =
    end_none rows scope elements pending.Nothing rooted next taken ∙ ap (λ t. if t then rooted else false) (sym (and_true (length (names elements) == 0)))
end_by rows scope elements (pending.Start tag item) rooted next taken =
    let b = State rows scope elements (pending.Start tag item) rooted next taken in
    let w = with_element b tag.name (element_row b tag) in
    end_none w.rows scope w.nest.elements pending.Nothing rooted w.next taken
    ∙ ap (λ t. if t then rooted else false) (some_open tag.name (names elements) ∙ sym (and_false (length (tag.name ∷ names elements) == 0)))
end_by rows scope elements (pending.Chars chars) rooted next taken =
    let b = State rows scope elements (pending.Chars chars) rooted next taken in
    let w = with_row b (text_row b chars) in
    end_none w.rows scope elements pending.Nothing rooted w.next taken ∙ ap (λ t. if t then rooted else false) (sym (and_true (length (names elements) == 0)))

-- a text is begun in an element
abbrev Stands : List OpenElement → Pending → Type 0
Stands elements pending.Nothing = Unit {0}
Stands elements (pending.Start tag item) = Unit {0}
Stands elements (pending.Chars chars) = (length elements == 0) ≡ false

whole_when : (t s : Bool) (x y : Result Building TreeFault) (more : List Item) (p q : Bool) → t ≡ s → Whole x more ≡ p → (t ≡ false → Whole y more ≡ q)
    → Whole (if t then x else y) more ≡ (if s then p else q)
whole_when true true x y more p q same hx hy = hx
whole_when true false x y more p q same hx hy = cc
whole_when false true x y more p q same hx hy = cc
whole_when false false x y more p q same hx hy = hy refl

-- the induction: each item from a state, where the items behind it do as their tags say
abbrev Ones : List Item → Type 0
Ones more = (rows : List Row) (scope : List Binding) (elements : List OpenElement) (p : Pending) (rooted : Bool) (next taken : ℕ) → Stands elements p
    → Whole (Ok (State rows scope elements p rooted next taken)) more ≡ one_from (tags elements p) rooted (is_start p) more

start_ones : (name : List ℕ) (more : List Item) → Ones more → (scope : List Binding) (rooted : Bool) (taken : ℕ) (end : Result Building TreeFault) (open_tags : List (List ℕ))
    → Settled end scope rooted taken open_tags
    → Whole (end >>= started name) more ≡ (if length open_tags == 0 && rooted then false else one_from (name ∷ open_tags) true true more)
start_ones name more later scope rooted taken end open_tags s =
    let b = State s.rows scope s.elements pending.Nothing rooted s.next taken in
    let p : Pending = pending.Start (record { name = name; attributes = [] }) taken in
    ap (λ r. Whole (r >>= started name) more) s.is
    ∙ whole_if (length s.elements == 0 && rooted) (length open_tags == 0 && rooted) (refused b reasons.TwoRoots) (Ok (State s.rows scope s.elements p true s.next (taken + 1))) more
    false (one_from (name ∷ open_tags) true true more)
    (ap (λ t. t && rooted) (none_open s.elements ∙ ap (λ l. length l == 0) s.has))
    (fault_stays (record { item = taken; reason = reasons.TwoRoots }) more)
    (later s.rows scope s.elements p true s.next (taken + 1) tt ∙ ap (λ l. one_from (name ∷ l) true true more) s.has)

close_ones : (name : List ℕ) (more : List Item) → Ones more → (scope : List Binding) (rooted : Bool) (taken : ℕ) (end : Result Building TreeFault) (open_tags : List (List ℕ))
    → Settled end scope rooted taken open_tags
    → Whole (end >>= ended name) more ≡ (if ends name open_tags then one_from (outer open_tags) rooted false more else false)
close_ones name more later scope rooted taken end open_tags s =
    let b = State s.rows scope s.elements pending.Nothing rooted s.next taken in
    ap (λ r. Whole (r >>= ended name) more) s.is
    ∙ whole_if (closes name s.elements) (ends name open_tags) (Ok (State s.rows scope (without_first s.elements) pending.Nothing rooted s.next (taken + 1))) (refused b reasons.EndMismatch) more
    (one_from (outer open_tags) rooted false more) false
    (same_end name s.elements ∙ ap (ends name) s.has)
    (later s.rows scope (without_first s.elements) pending.Nothing rooted s.next (taken + 1) tt
    ∙ ap (λ l. one_from l rooted false more) (same_outer s.elements ∙ ap outer s.has))
    (fault_stays (record { item = taken; reason = reasons.EndMismatch }) more)

-- characters that begin a text, where no start tag waits
begun_ones : (chars : List ℕ) (more : List Item) → Ones more → (rows : List Row) (scope : List Binding) (elements : List OpenElement) (rooted : Bool) (next taken : ℕ)
    → Whole (text_begun chars (State rows scope elements pending.Nothing rooted next taken)) more
    ≡ (if length (names elements) == 0 then (if white.is_white chars then one_from (names elements) rooted false more else false) else one_from (names elements) rooted false more)
begun_ones chars more later rows scope elements rooted next taken =
    let b = State rows scope elements pending.Nothing rooted next taken in
    let same = later rows scope elements pending.Nothing rooted next (taken + 1) tt in
    whole_when (length elements == 0) (length (names elements) == 0) (if white.is_white chars then Ok (counted b) else refused b reasons.TextOutside)
    (if is_empty chars then Ok (counted b) else Ok (record (counted b) { pending = pending.Chars chars })) more
    (if white.is_white chars then one_from (names elements) rooted false more else false) (one_from (names elements) rooted false more)
    (none_open elements)
    (whole_if (white.is_white chars) (white.is_white chars) (Ok (counted b)) (refused b reasons.TextOutside) more (one_from (names elements) rooted false more) false refl same
    (fault_stays (record { item = taken; reason = reasons.TextOutside }) more))
    (λ some. either (is_empty chars) (Ok (counted b)) (Ok (record (counted b) { pending = pending.Chars chars })) same (later rows scope elements (pending.Chars chars) rooted next (taken + 1) some))
  where
    either : (t : Bool) (x y : Result Building TreeFault) → Whole x more ≡ one_from (names elements) rooted false more → Whole y more ≡ one_from (names elements) rooted false more
        → Whole (if t then x else y) more ≡ one_from (names elements) rooted false more
    either true x y hx hy = hx
    either false x y hx hy = hy

if_same : (t : Bool) (x : Bool) (y : Bool) → t ≡ false → (if t then x else y) ≡ y
if_same true x y e = cc
if_same false x y e = refl

item_ones : (item : Item) (more : List Item) → Ones more → Ones (item ∷ more)
item_ones (items.Start name) more later = λ rows scope elements p rooted next taken stands.
    start_ones name more later scope rooted taken _ (tags elements p) (settle rows scope elements p rooted next taken)
item_ones (items.Attr name value) more later = λ rows scope elements p rooted next taken stands. line_ones rows scope elements p rooted next taken
  where
    line_ones : (rows : List Row) (scope : List Binding) (elements : List OpenElement) (p : Pending) (rooted : Bool) (next taken : ℕ)
        → Whole (Ok (State rows scope elements p rooted next taken)) (items.Attr name value ∷ more) ≡ one_from (tags elements p) rooted (is_start p) (items.Attr name value ∷ more)
    line_ones rows scope elements pending.Nothing rooted next taken = fault_stays (record { item = taken; reason = reasons.NotHere }) more
    line_ones rows scope elements (pending.Start tag item) rooted next taken =
        later rows scope elements (pending.Start (record tag { attributes = tag.attributes ++ record { name = name; value = value } ∷ [] }) item) rooted next (taken + 1) tt
    line_ones rows scope elements (pending.Chars chars) rooted next taken = fault_stays (record { item = taken; reason = reasons.NotHere }) more
item_ones (items.Chars text) more later = λ rows scope elements p rooted next taken stands. text_ones rows scope elements p rooted next taken stands
  where
    text_ones : (rows : List Row) (scope : List Binding) (elements : List OpenElement) (p : Pending) (rooted : Bool) (next taken : ℕ) → Stands elements p
        → Whole (Ok (State rows scope elements p rooted next taken)) (items.Chars text ∷ more) ≡ one_from (tags elements p) rooted (is_start p) (items.Chars text ∷ more)
    text_ones rows scope elements pending.Nothing rooted next taken stands = begun_ones text more later rows scope elements rooted next taken
    text_ones rows scope elements (pending.Start tag item) rooted next taken stands =
        let b = State rows scope elements (pending.Start tag item) rooted next taken in
        let w = with_element b tag.name (element_row b tag) in
        begun_ones text more later w.rows scope w.nest.elements rooted w.next taken
        ∙ if_same (length (tag.name ∷ names elements) == 0) (if white.is_white text then one_from (tag.name ∷ names elements) rooted false more else false) (one_from (tag.name ∷ names elements) rooted false more) (some_open tag.name (names elements))
        ∙ sym (if_same (length (tag.name ∷ names elements) == 0) (if white.is_white text then one_from (tag.name ∷ names elements) rooted true more else false) (one_from (tag.name ∷ names elements) rooted false more) (some_open tag.name (names elements)))
    text_ones rows scope elements (pending.Chars chars) rooted next taken stands =
        later rows scope elements (pending.Chars (chars ++ text)) rooted next (taken + 1) stands
        ∙ sym (if_same (length (names elements) == 0) (if white.is_white text then one_from (names elements) rooted false more else false) (one_from (names elements) rooted false more)
        (sym (none_open elements) ∙ stands))
item_ones (items.Close name) more later = λ rows scope elements p rooted next taken stands.
    close_ones name more later scope rooted taken _ (tags elements p) (settle rows scope elements p rooted next taken)
item_ones items.Instruction more later = λ rows scope elements p rooted next taken stands. passed_ones rows scope elements p rooted next taken stands
  where
    passed_ones : (rows : List Row) (scope : List Binding) (elements : List OpenElement) (p : Pending) (rooted : Bool) (next taken : ℕ) → Stands elements p
        → Whole (Ok (State rows scope elements p rooted next taken)) (items.Instruction ∷ more) ≡ one_from (tags elements p) rooted (is_start p) (items.Instruction ∷ more)
    passed_ones rows scope elements pending.Nothing rooted next taken stands = later rows scope elements pending.Nothing rooted next (taken + 1) tt
    passed_ones rows scope elements (pending.Start tag item) rooted next taken stands =
        let b = State rows scope elements (pending.Start tag item) rooted next taken in
        let w = with_element b tag.name (element_row b tag) in
        later w.rows scope w.nest.elements pending.Nothing rooted w.next (taken + 1) tt
    passed_ones rows scope elements (pending.Chars chars) rooted next taken stands = later rows scope elements (pending.Chars chars) rooted next (taken + 1) stands
item_ones (items.Schema locations) more later = λ rows scope elements p rooted next taken stands. fault_stays (record { item = taken; reason = reasons.NotHere }) more
item_ones items.Document more later = λ rows scope elements p rooted next taken stands. fault_stays (record { item = taken; reason = reasons.NotHere }) more
item_ones items.Edits more later = λ rows scope elements p rooted next taken stands. fault_stays (record { item = taken; reason = reasons.NotHere }) more
item_ones items.End more later = λ rows scope elements p rooted next taken stands. fault_stays (record { item = taken; reason = reasons.NotHere }) more
item_ones items.Dot more later = λ rows scope elements p rooted next taken stands. fault_stays (record { item = taken; reason = reasons.NotHere }) more
item_ones (items.Command line) more later = λ rows scope elements p rooted next taken stands. fault_stays (record { item = taken; reason = reasons.NotHere }) more

all_ones : (its : List Item) → Ones its
all_ones [] = λ rows scope elements p rooted next taken stands. end_by rows scope elements p rooted next taken
all_ones (item ∷ its) = item_ones item its (all_ones its)

by_tags : (scope : List Binding) (its : List Item) → is_ok (built block_rules scope its) ≡ one_by_tags its
by_tags scope its = all_ones its [] scope [] pending.Nothing false 1 0 tt

pub block_built : (its : List Item) → one_by_tags its ≡ one_element its
block_built its = sym (by_tags first_scope its)

-- in one scope and in another
pub block-built : (scope : List Binding) (its : List Item) → is_ok (built block_rules scope its) ≡ one_element its
block-built scope its = by_tags scope its ∙ block_built its
