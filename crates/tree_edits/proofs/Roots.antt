-- Whatever items come, what is built of them has one root, and its nodes are numbered from 1 on in document order.
use Rattle.std.proofs.Common.{◌≡◌, ℕ, ◌+◌, ◌≤◌, List, [], ◌∷◌, ◌++◌, Bool, true, false, ◌==◌, ◌&&◌, Option, Some, None, Result, Ok, Err, length, refl, sym, ap, ◌∙◌, arith, subst}
use Rattle.std.specs.Prelude.{if◌then◌else◌}
use Rattle.std.proofs.lemmas.List.{length-append}
use Rattle.item_listing.specs.declared.item.Item.{Item}
use Rattle.item_listing.specs.declared.item.Item.TheVariants as items
use Rattle.tag_names.specs.declared.fault.NameReason.{NameReason}
use Rattle.tag_names.specs.declared.lines.AttributeLine.{AttributeLine}
use Rattle.tag_names.specs.declared.lines.Tag.{Tag}
use Rattle.tree_rows.specs.Forest.{Forest, none, text, element, count, numbered}
use Rattle.tree_rows.specs.Rows.{rows_of, siblings}
use Rattle.tree_rows.specs.Whole.{HasRoot}
use Rattle.tree_rows.specs.declared.row.Binding.{Binding}
use Rattle.tree_rows.specs.declared.row.Row.{Row}
use Rattle.tree_rows.specs.declared.row.Content.{Content}
use Rattle.tree_rows.specs.declared.row.Content.TheVariants as contents
use Rattle.tree_building.specs.Building.{◌>>=◌, nothing, refused, text_row, element_row, with_row, with_element, fault_of, tag_by, tag_closed_by, settled_by, counted, started, lined, text_begun, text_by, ended, passed, took, finished, ended_all, after, after_all, built, is_empty, is_white}
use Rattle.tree_building.specs.Nest.{OpenElement, scope_in, closes, closed, without_first}
use Rattle.tree_building.specs.Rules.{past}
use Rattle.tree_building.specs.declared.rules.Rules.{Rules}
use Rattle.tree_building.specs.declared.pending.Pending.{Pending}
use Rattle.tree_building.specs.declared.pending.Pending.TheVariants as pending
use Rattle.tree_building.specs.declared.building.Building.{Building}
use Rattle.tree_building.specs.declared.build.Built.{Built}
use Rattle.tree_building.specs.declared.fault.TreeFault.{TreeFault}
use Rattle.tree_building.specs.declared.fault.TreeReason.TheVariants as reasons
use Rattle.tree_building.proofs.Kept.{Settles, settles, built_whole}
use Rattle.tree_building.proofs.RowCounts.{count-rows}

-- the rows have the numbers from this one on
abbrev AreNumbered : ℕ → List Row → Type 0
AreNumbered number [] = Unit {0}
AreNumbered number (row ∷ rows) = (row.number ≡ number) × AreNumbered (number + 1) rows

one_more : (number : ℕ) (rows : List Row) (row : Row) → AreNumbered number rows → row.number ≡ number + length rows → AreNumbered number (rows ++ row ∷ [])
one_more number [] row a e = (omega (arith, e), tt)
one_more number (first ∷ rows) row a e = (a.0, one_more (number + 1) rows row a.1 (omega (arith, e)))

abbrev AreBelow : List Row → Type 0
AreBelow [] = Unit {0}
AreBelow (row ∷ rows) = (2 ≤ row.depth) × AreBelow rows

below_more : (rows : List Row) (row : Row) → AreBelow rows → 2 ≤ row.depth → AreBelow (rows ++ row ∷ [])
below_more [] row b deep = (deep, tt)
below_more (first ∷ rows) row b deep = (b.0, below_more rows row b.1 deep)

below_last : (xs ys : List Row) → AreBelow (xs ++ ys) → AreBelow ys
below_last [] ys b = b
below_last (x ∷ xs) ys b = below_last xs ys b.1

abbrev IsElement : Content → Type 0
IsElement (contents.Element name) = Unit {0}
IsElement (contents.Chars chars) = ⊥

abbrev IsStart : Pending → Type 0
IsStart pending.Nothing = ⊥
IsStart (pending.Start tag item) = Unit {0}
IsStart (pending.Chars chars) = ⊥

-- nothing waits where no element is open
abbrev Waits : List OpenElement → Pending → Type 0
Waits [] p = p ≡ pending.Nothing
Waits (open_one ∷ more) p = Unit {0}

-- the root's row came first and all others stand below it, or its start tag waits
abbrev Rooted : List OpenElement → Pending → List Row → Type 0
Rooted elements p [] = (elements ≡ []) × IsStart p
Rooted elements p (row ∷ rows) = (row.depth ≡ 1) × IsElement row.content × AreBelow rows × Waits elements p

abbrev Roots : Bool → List OpenElement → Pending → List Row → Type 0
Roots false elements p rows = (rows ≡ []) × (elements ≡ []) × (p ≡ pending.Nothing)
Roots true elements p rows = Rooted elements p rows

record IsGood (b : Building) : Type 0 where
  pub next : b.next ≡ 1 + length b.rows
  pub numbers : AreNumbered 1 b.rows
  pub roots : Roots b.rooted b.nest.elements b.pending b.rows

abbrev Holds : Result Building TreeFault → Type 0
Holds (Ok b) = IsGood b
Holds (Err fault) = Unit {0}

holds_then : (r : Result Building TreeFault) (f : Building → Result Building TreeFault) → Holds r → Settles r
    → ((b : Building) → IsGood b → b.pending ≡ pending.Nothing → Holds (f b)) → Holds (r >>= f)
holds_then (Ok b) f h s step = step b h s
holds_then (Err fault) f h s step = tt

holds_unless : (t : Bool) (x y : Result Building TreeFault) → (t ≡ true → Holds x) → (t ≡ false → Holds y) → Holds (if t then x else y)
holds_unless true x y hx hy = hx refl
holds_unless false x y hx hy = hy refl

-- a row more
text_root : (rooted : Bool) (elements : List OpenElement) (chars : List ℕ) (rows : List Row) (row : Row) → Roots rooted elements (pending.Chars chars) rows
    → row.depth ≡ length elements + 1 → Roots rooted elements pending.Nothing (rows ++ row ∷ [])
text_root false elements chars rows row r d = absurd (cc r.2)
text_root true elements chars [] row r d = absurd r.1
text_root true [] chars (first ∷ rows) row r d = absurd (cc r.3)
text_root true (e ∷ es) chars (first ∷ rows) row r d = (r.0, r.1, below_more rows row r.2 (omega (arith, d)), tt)

tag_root : (rooted : Bool) (elements : List OpenElement) (e : OpenElement) (tag : Tag) (item : ℕ) (rows : List Row) (row : Row) → Roots rooted elements (pending.Start tag item) rows
    → IsElement row.content → row.depth ≡ length elements + 1 → Roots rooted (e ∷ elements) pending.Nothing (rows ++ row ∷ [])
tag_root false elements e tag item rows row r is d = absurd (cc r.2)
tag_root true elements e tag item [] row r is d = (d ∙ ap (λ (l : List OpenElement). length l + 1) r.0, is, tt, tt)
tag_root true [] e tag item (first ∷ rows) row r is d = absurd (cc r.3)
tag_root true (outer ∷ more) e tag item (first ∷ rows) row r is d = (r.0, r.1, below_more rows row r.2 (omega (arith, d)), tt)

text_good : (b : Building) (chars : List ℕ) → IsGood b → Roots b.rooted b.nest.elements (pending.Chars chars) b.rows → IsGood (with_row b (text_row b chars))
text_good b chars g r =
    let size = length-append b.rows (text_row b chars ∷ []) in
    record {
      next = omega (arith, size, g.next);
      numbers = one_more 1 b.rows (text_row b chars) g.numbers g.next;
      roots = text_root b.rooted b.nest.elements chars b.rows (text_row b chars) r refl;
    }

tag_good : (b : Building) (tag : Tag) (item : ℕ) → IsGood b → Roots b.rooted b.nest.elements (pending.Start tag item) b.rows → IsGood (with_element b tag.name (element_row b tag))
tag_good b tag item g r =
    let size = length-append b.rows (element_row b tag ∷ []) in
    record {
      next = omega (arith, size, g.next);
      numbers = one_more 1 b.rows (element_row b tag) g.numbers g.next;
      roots = tag_root b.rooted b.nest.elements _ tag item b.rows (element_row b tag) r tt refl;
    }

by_fault : (b : Building) (tag : Tag) (item : ℕ) (found : Option NameReason) → IsGood b → Roots b.rooted b.nest.elements (pending.Start tag item) b.rows → Holds (tag_by b tag item found)
by_fault b tag item (Some reason) g r = tt
by_fault b tag item None g r = tag_good b tag item g r

settled_good : (b : Building) (p : Pending) → IsGood b → Roots b.rooted b.nest.elements p b.rows → Holds (settled_by b p)
settled_good b pending.Nothing g r = g
settled_good b (pending.Start tag item) g r = by_fault b tag item (fault_of b.rules (scope_in b.nest) tag) g r
settled_good b (pending.Chars chars) g r = text_good b chars g r

-- with another thing that came last
waits : (b : Building) (p : Pending) (rooted : Bool) (taken : ℕ) → IsGood b → Roots rooted b.nest.elements p b.rows → IsGood (record b { pending = p; rooted = rooted; taken = taken })
waits b p rooted taken g r = record { next = g.next; numbers = g.numbers; roots = r }

-- the same as before, with one item more
same : (b : Building) → IsGood b → IsGood (counted b)
same b g = waits b b.pending b.rooted (b.taken + 1) g g.roots

again : (rooted : Bool) (elements : List OpenElement) (p q : Pending) (rows : List Row) → (p ≡ pending.Nothing → ⊥) → (IsStart p → IsStart q)
    → Roots rooted elements p rows → Roots rooted elements q rows
again false elements p q rows never start r = absurd (never r.2)
again true elements p q [] never start r = (r.0, start r.1)
again true [] p q (first ∷ rows) never start r = absurd (never r.3)
again true (e ∷ es) p q (first ∷ rows) never start r = (r.0, r.1, r.2, tt)

start_root : (rooted : Bool) (elements : List OpenElement) (tag : Tag) (item : ℕ) (rows : List Row) → (length elements == 0 && rooted) ≡ false
    → Roots rooted elements pending.Nothing rows → Roots true elements (pending.Start tag item) rows
start_root false elements tag item rows e r = subst (λ rows. Rooted elements (pending.Start tag item) rows) (sym r.0) (r.1, tt)
start_root true elements tag item [] e r = absurd r.1
start_root true [] tag item (first ∷ rows) e r = absurd (cc e)
start_root true (o ∷ os) tag item (first ∷ rows) e r = (r.0, r.1, r.2, tt)

started_good : (name : List ℕ) (b : Building) → IsGood b → b.pending ≡ pending.Nothing → Holds (started name b)
started_good name b g idle =
    holds_unless (length b.nest.elements == 0 && b.rooted) (refused b reasons.TwoRoots) _ (λ _. tt)
    (λ more. holds_unless (past b.rules.levels (length b.nest.elements + 1)) (refused b reasons.TooDeep) _ (λ _. tt)
    (λ _. holds_unless (past b.rules.nodes b.next) (refused b reasons.TooManyNodes) _ (λ _. tt)
    (λ few. waits b (pending.Start (record { name = name; attributes = [] }) b.taken) true (b.taken + 1) g
    (start_root b.rooted b.nest.elements (record { name = name; attributes = [] }) b.taken b.rows more (subst (λ p. Roots b.rooted b.nest.elements p b.rows) idle g.roots)))))

is_start : (tag : Tag) (item : ℕ) → pending.Start tag item ≡ pending.Nothing → ⊥
is_start tag item e = cc e

is_chars : (chars : List ℕ) → pending.Chars chars ≡ pending.Nothing → ⊥
is_chars chars e = cc e

lined_good : (b : Building) (p : Pending) (line : AttributeLine) → IsGood b → Roots b.rooted b.nest.elements p b.rows → Holds (lined b p line)
lined_good b pending.Nothing line g r = tt
lined_good b (pending.Start tag item) line g r =
    let longer : Pending = pending.Start (record tag { attributes = tag.attributes ++ line ∷ [] }) item in
    waits b longer b.rooted (b.taken + 1) g (again b.rooted b.nest.elements (pending.Start tag item) longer b.rows (is_start tag item) (λ s. s) r)
lined_good b (pending.Chars chars) line g r = tt

chars_root : (rooted : Bool) (elements : List OpenElement) (chars : List ℕ) (rows : List Row) → (length elements == 0) ≡ false
    → Roots rooted elements pending.Nothing rows → Roots rooted elements (pending.Chars chars) rows
chars_root false elements chars rows e r = absurd (cc (e, ap (λ (l : List OpenElement). length l == 0) r.1))
chars_root true elements chars [] e r = absurd r.1
chars_root true [] chars (first ∷ rows) e r = absurd (cc e)
chars_root true (o ∷ os) chars (first ∷ rows) e r = (r.0, r.1, r.2, tt)

text_begins : (own : List ℕ) (b : Building) → IsGood b → b.pending ≡ pending.Nothing → Holds (text_begun own b)
text_begins own b g idle =
    holds_unless (length b.nest.elements == 0) _ _
    (λ _. holds_unless (is_white own) (Ok (counted b)) (refused b reasons.TextOutside) (λ _. same b g) (λ _. tt))
    (λ inside. holds_unless (is_empty own) (Ok (counted b)) _ (λ _. same b g)
    (λ _. holds_unless (past b.rules.nodes b.next) (refused b reasons.TooManyNodes) _ (λ _. tt)
    (λ few. waits b (pending.Chars own) b.rooted (b.taken + 1) g
    (chars_root b.rooted b.nest.elements own b.rows inside (subst (λ p. Roots b.rooted b.nest.elements p b.rows) idle g.roots)))))

text_holds : (own : List ℕ) (b : Building) (p : Pending) → b.pending ≡ p → IsGood b → Roots b.rooted b.nest.elements p b.rows → Holds (text_by own b p)
text_holds own b pending.Nothing e g r = text_begins own b g e
text_holds own b (pending.Start tag item) e g r =
    holds_then (settled_by b (pending.Start tag item)) (text_begun own) (settled_good b (pending.Start tag item) g r) (settles b (pending.Start tag item) e)
    (λ b g idle. text_begins own b g idle)
text_holds own b (pending.Chars chars) e g r =
    waits b (pending.Chars (chars ++ own)) b.rooted (b.taken + 1) g
    (again b.rooted b.nest.elements (pending.Chars chars) (pending.Chars (chars ++ own)) b.rows (is_chars chars) (λ s. s) r)

nothing_waits : (elements : List OpenElement) → Waits elements pending.Nothing
nothing_waits [] = refl
nothing_waits (e ∷ es) = tt

close_root : (rooted : Bool) (elements : List OpenElement) (rows : List Row) → Roots rooted elements pending.Nothing rows → Roots rooted (without_first elements) pending.Nothing rows
close_root false elements rows r = (r.0, ap without_first r.1, r.2)
close_root true elements [] r = absurd r.1
close_root true elements (first ∷ rows) r = (r.0, r.1, r.2, nothing_waits (without_first elements))

ended_good : (name : List ℕ) (b : Building) → IsGood b → b.pending ≡ pending.Nothing → Holds (ended name b)
ended_good name b g idle =
    holds_unless (closes name b.nest.elements) (Ok (record (counted b) { nest = closed b.nest })) (refused b reasons.EndMismatch)
    (λ _. record {
      next = g.next;
      numbers = g.numbers;
      roots = subst (λ p. Roots b.rooted (without_first b.nest.elements) p b.rows) (sym idle)
          (close_root b.rooted b.nest.elements b.rows (subst (λ p. Roots b.rooted b.nest.elements p b.rows) idle g.roots));
    }) (λ _. tt)

passed_holds : (b : Building) (p : Pending) → b.pending ≡ p → IsGood b → Roots b.rooted b.nest.elements p b.rows → Holds (tag_closed_by b p >>= passed)
passed_holds b pending.Nothing e g r = same b g
passed_holds b (pending.Start tag item) e g r =
    holds_then (settled_by b (pending.Start tag item)) passed (settled_good b (pending.Start tag item) g r) (settles b (pending.Start tag item) e) (λ b g idle. same b g)
passed_holds b (pending.Chars chars) e g r = same b g

took_good : (b : Building) (item : Item) → IsGood b → Holds (took b item)
took_good b (items.Start name) g =
    holds_then (settled_by b b.pending) (started name) (settled_good b b.pending g g.roots) (settles b b.pending refl) (λ b g idle. started_good name b g idle)
took_good b (items.Attr name value) g = lined_good b b.pending (record { name = name; value = value }) g g.roots
took_good b (items.Chars own) g = text_holds own b b.pending refl g g.roots
took_good b (items.Close name) g =
    holds_then (settled_by b b.pending) (ended name) (settled_good b b.pending g g.roots) (settles b b.pending refl) (λ b g idle. ended_good name b g idle)
took_good b items.Instruction g = passed_holds b b.pending refl g g.roots
took_good b (items.Schema locations) g = tt
took_good b items.Document g = tt
took_good b items.Edits g = tt
took_good b items.End g = tt
took_good b items.Dot g = tt
took_good b (items.Command line) g = tt

after_good : (r : Result Building TreeFault) (item : Item) → Holds r → Holds (after r item)
after_good (Ok b) item g = took_good b item g
after_good (Err fault) item g = tt

all_good : (r : Result Building TreeFault) (its : List Item) → Holds r → Holds (after_all r its)
all_good r [] g = g
all_good r (item ∷ its) g = all_good (after r item) its (after_good r item g)

-- the rows of a root and of what is below it
abbrev HaveRoot : List Row → Type 0
HaveRoot [] = ⊥
HaveRoot (row ∷ rows) = (row.depth ≡ 1) × IsElement row.content × AreBelow rows

record IsDone (end : Built) : Type 0 where
  pub numbers : AreNumbered 1 end.rows
  pub root : HaveRoot end.rows

abbrev HoldsBuilt : Result Built TreeFault → Type 0
HoldsBuilt (Ok end) = IsDone end
HoldsBuilt (Err fault) = Unit {0}

built_unless : (t : Bool) (x y : Result Built TreeFault) → (t ≡ true → HoldsBuilt x) → HoldsBuilt y → HoldsBuilt (if t then x else y)
built_unless true x y hx hy = hx refl
built_unless false x y hx hy = hy

root_rows : (rooted : Bool) (elements : List OpenElement) (rows : List Row) → rooted ≡ true → Roots rooted elements pending.Nothing rows → HaveRoot rows
root_rows false elements rows e r = absurd (cc e)
root_rows true elements [] e r = absurd r.1
root_rows true elements (first ∷ rows) e r = (r.0, r.1, r.2)

finished_good : (r : Result Building TreeFault) → Holds r → Settles r → HoldsBuilt (r >>= finished)
finished_good (Ok b) g idle =
    built_unless (length b.nest.elements == 0) _ (refused b reasons.Unclosed)
    (λ _. built_unless b.rooted (Ok (record { rows = b.rows; next = b.next })) (refused b reasons.NoRoot)
    (λ rooted. record {
      numbers = g.numbers;
      root = root_rows b.rooted b.nest.elements b.rows rooted (subst (λ p. Roots b.rooted b.nest.elements p b.rows) idle g.roots);
    }) tt) tt
finished_good (Err fault) g idle = tt

all_done : (r : Result Building TreeFault) → Holds r → HoldsBuilt (r >>= ended_all)
all_done (Ok b) g = finished_good (settled_by b b.pending) (settled_good b b.pending g g.roots) (settles b b.pending refl)
all_done (Err fault) g = tt

nothing_good : (rules : Rules) (scope : List Binding) → IsGood (nothing rules scope)
nothing_good rules scope = record { next = refl; numbers = tt; roots = (refl, refl, refl) }

built_done : (rules : Rules) (scope : List Binding) (its : List Item) (end : Built) → built rules scope its ≡ Ok end → IsDone end
built_done rules scope its end e =
    subst HoldsBuilt e (all_done (after_all (Ok (nothing rules scope)) its) (all_good (Ok (nothing rules scope)) its (nothing_good rules scope)))

-- from the rows to the tree
parts_of : (number : ℕ) (xs ys : List Row) → AreNumbered number (xs ++ ys) → AreNumbered number xs × AreNumbered (number + length xs) ys
parts_of number [] ys a = (tt, subst (λ k. AreNumbered k ys) (omega arith) a)
parts_of number (x ∷ xs) ys a =
    let rest = parts_of (number + 1) xs ys a.1 in
    let size : number + 1 + length xs ≡ number + length (x ∷ xs) = omega arith in
    ((a.0, rest.0), subst (λ k. AreNumbered k ys) size rest.1)

children_and_next : (number depth : ℕ) (children next : Forest) → AreNumbered number (rows_of (depth + 1) children ++ rows_of depth next)
    → AreNumbered number (rows_of (depth + 1) children) × AreNumbered (number + count children) (rows_of depth next)
children_and_next number depth children next a =
    let both = parts_of number (rows_of (depth + 1) children) (rows_of depth next) a in
    (both.0, subst (λ k. AreNumbered (number + k) (rows_of depth next)) (count-rows (depth + 1) children) both.1)

numbered_of : (number depth : ℕ) (f : Forest) → AreNumbered number (rows_of depth f) → numbered number f
numbered_of number depth none a = tt
numbered_of number depth (text n chars next) a = (a.0, numbered_of (number + 1) depth next a.1)
numbered_of number depth (element n name bindings attributes children next) a =
    let both = children_and_next (number + 1) depth children next a.1 in
    (a.0, numbered_of (number + 1) (depth + 1) children both.0, numbered_of (number + 1 + count children) depth next both.1)

alone : (f : Forest) → AreBelow (rows_of 1 f) → f ≡ none
alone none b = refl
alone (text n chars next) b = absurd (omega (arith, b.0))
alone (element n name bindings attributes children next) b = absurd (omega (arith, b.0))

root_of : (f : Forest) → HaveRoot (rows_of 1 f) → AreNumbered 1 (rows_of 1 f) → HasRoot f
root_of none r a = absurd r
root_of (text n chars next) r a = absurd r.1
root_of (element n name bindings attributes children next) r a = (a.0, alone next (below_last (rows_of 2 children) (rows_of 1 next) r.2))

-- what is built has one root and such numbers
pub built_root : (rules : Rules) (scope : List Binding) (its : List Item) (end : Built) → built rules scope its ≡ Ok end → HasRoot (siblings end.rows 1) × numbered 1 (siblings end.rows 1)
built_root rules scope its end e =
    let done = built_done rules scope its end e in
    let whole = built_whole rules scope its end e in
    let f : Forest = siblings end.rows 1 in
    let numbers : AreNumbered 1 (rows_of 1 f) = subst (AreNumbered 1) whole done.numbers in
    (root_of f (subst HaveRoot whole done.root) numbers, numbered_of 1 1 f numbers)
