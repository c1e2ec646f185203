-- Whatever items come, the rows that are built are nested.
use Rattle.std.proofs.Common.{◌≡◌, ℕ, ◌+◌, ◌≤◌, List, [], ◌∷◌, ◌++◌, Bool, true, false, ◌==◌, ◌&&◌, Option, Some, None, Result, Ok, Err, length, refl, sym, ap, ◌∙◌, arith, append_assoc, append-nil, subst}
use Rattle.std.specs.Prelude.{if◌then◌else◌}
use Rattle.item_listing.specs.declared.item.Item.{Item}
use Rattle.item_listing.specs.declared.item.Item.TheVariants as items
use Rattle.tag_names.specs.declared.fault.NameReason.{NameReason}
use Rattle.tag_names.specs.declared.lines.AttributeLine.{AttributeLine}
use Rattle.tag_names.specs.declared.lines.Tag.{Tag}
use Rattle.tree_rows.specs.declared.row.Binding.{Binding}
use Rattle.tree_rows.specs.declared.row.Row.{Row}
use Rattle.tree_building.specs.Building.{◌>>=◌, nothing, refused, text_row, element_row, with_row, with_element, fault_of, tag_by, tag_closed_by, settled_by, counted, started, lined, text_begun, text_by, ended, passed, took, finished, ended_all, after, after_all, built, is_empty, is_white}
use Rattle.tree_building.specs.Nest.{OpenElement, scope_in, closes, closed, without_first}
use Rattle.tree_building.specs.Rules.{past, document_rules}
use Rattle.tree_building.specs.Shape.{AreWhole, AreSound, AreUnder, deepest_row}
use Rattle.tree_building.specs.declared.rules.Rules.{Rules}
use Rattle.tree_building.specs.declared.pending.Pending.{Pending}
use Rattle.tree_building.specs.declared.pending.Pending.TheVariants as pending
use Rattle.tree_building.specs.declared.building.Building.{Building}
use Rattle.tree_building.specs.declared.build.Built.{Built}
use Rattle.tree_building.specs.declared.fault.TreeFault.{TreeFault}
use Rattle.tree_building.specs.declared.fault.TreeReason.TheVariants as reasons
use Rattle.tree_building.proofs.Nested.{AreNested, weaker, whole-nested, nested_shallow, under_from}

-- a start tag that waits for its lines has room below the limit on depth
abbrev Room : Option ℕ → List OpenElement → Pending → Type 0
Room levels elements pending.Nothing = Unit {0}
Room levels elements (pending.Start tag item) = past levels (length elements + 1) ≡ false
Room levels elements (pending.Chars chars) = Unit {0}

-- rows may follow that begin below what is open
record IsNested (levels : Option ℕ) (b : Building) : Type 0 where
  pub rules : b.rules.levels ≡ levels
  pub joins : (more : List Row) → AreNested levels (length b.nest.elements + 1) more → AreNested levels 1 (b.rows ++ more)
  pub room : Room levels b.nest.elements b.pending

abbrev Holds : Option ℕ → Result Building TreeFault → Type 0
Holds levels (Ok b) = IsNested levels b
Holds levels (Err fault) = Unit {0}

holds_then : (levels : Option ℕ) (r : Result Building TreeFault) (f : Building → Result Building TreeFault) → Holds levels r
    → ((b : Building) → IsNested levels b → Holds levels (f b)) → Holds levels (r >>= f)
holds_then levels (Ok b) f h step = step b h
holds_then levels (Err fault) f h step = tt

holds_if : (levels : Option ℕ) (t : Bool) (x y : Result Building TreeFault) → Holds levels x → Holds levels y → Holds levels (if t then x else y)
holds_if levels true x y hx hy = hx
holds_if levels false x y hx hy = hy

holds_unless : (levels : Option ℕ) (t : Bool) (x y : Result Building TreeFault) → Holds levels x → (t ≡ false → Holds levels y) → Holds levels (if t then x else y)
holds_unless levels true x y hx hy = hx
holds_unless levels false x y hx hy = hy refl

-- a row more
row_joins : (levels : Option ℕ) (b : Building) (row : Row) → IsNested levels b → (more : List Row) → AreNested levels (length b.nest.elements + 1) (row ∷ more)
    → AreNested levels 1 ((b.rows ++ row ∷ []) ++ more)
row_joins levels b row n more h = rw (append_assoc b.rows (row ∷ []) more) (n.joins (row ∷ more) h)

text_nested : (levels : Option ℕ) (b : Building) (chars : List ℕ) → IsNested levels b → IsNested levels (with_row b (text_row b chars))
text_nested levels b chars n = record {
  rules = n.rules;
  joins = λ more h. row_joins levels b (text_row b chars) n more (omega arith, omega arith, (refl, refl), h);
  room = tt;
}

tag_nested : (levels : Option ℕ) (b : Building) (tag : Tag) → IsNested levels b → past levels (length b.nest.elements + 1) ≡ false
    → IsNested levels (with_element b tag.name (element_row b tag))
tag_nested levels b tag n shallow = record {
  rules = n.rules;
  joins = λ more h. row_joins levels b (element_row b tag) n more (
    omega arith,
    omega arith,
    shallow,
    weaker levels (length (with_element b tag.name (element_row b tag)).nest.elements + 1) (length b.nest.elements + 1 + 1) more (omega arith) h,
  );
  room = tt;
}

by_fault : (levels : Option ℕ) (b : Building) (tag : Tag) (item : ℕ) (found : Option NameReason) → IsNested levels b → past levels (length b.nest.elements + 1) ≡ false
    → Holds levels (tag_by b tag item found)
by_fault levels b tag item (Some reason) n shallow = tt
by_fault levels b tag item None n shallow = tag_nested levels b tag n shallow

settled_holds : (levels : Option ℕ) (b : Building) (p : Pending) → IsNested levels b → Room levels b.nest.elements p → Holds levels (settled_by b p)
settled_holds levels b pending.Nothing n room = n
settled_holds levels b (pending.Start tag item) n room = by_fault levels b tag item (fault_of b.rules (scope_in b.nest) tag) n room
settled_holds levels b (pending.Chars chars) n room = text_nested levels b chars n

closed_holds : (levels : Option ℕ) (b : Building) (p : Pending) → IsNested levels b → Room levels b.nest.elements p → Holds levels (tag_closed_by b p)
closed_holds levels b pending.Nothing n room = n
closed_holds levels b (pending.Start tag item) n room = by_fault levels b tag item (fault_of b.rules (scope_in b.nest) tag) n room
closed_holds levels b (pending.Chars chars) n room = n

-- with another thing that came last
waits : (levels : Option ℕ) (b : Building) (p : Pending) (rooted : Bool) (taken : ℕ) → IsNested levels b → Room levels b.nest.elements p
    → IsNested levels (record b { pending = p; rooted = rooted; taken = taken })
waits levels b p rooted taken n room = record { rules = n.rules; joins = n.joins; room = room }

started_holds : (levels : Option ℕ) (name : List ℕ) (b : Building) → IsNested levels b → Holds levels (started name b)
started_holds levels name b n =
    holds_if levels (length b.nest.elements == 0 && b.rooted) (refused b reasons.TwoRoots) _ tt
    (holds_unless levels (past b.rules.levels (length b.nest.elements + 1)) (refused b reasons.TooDeep) _ tt
    (λ shallow. holds_if levels (past b.rules.nodes b.next) (refused b reasons.TooManyNodes) _ tt
    (waits levels b (pending.Start (record { name = name; attributes = [] }) b.taken) true (b.taken + 1) n
    (ap (λ l. past l (length b.nest.elements + 1)) (sym n.rules) ∙ shallow))))

lined_holds : (levels : Option ℕ) (b : Building) (p : Pending) (line : AttributeLine) → IsNested levels b → Room levels b.nest.elements p → Holds levels (lined b p line)
lined_holds levels b pending.Nothing line n room = tt
lined_holds levels b (pending.Start tag item) line n room =
    waits levels b (pending.Start (record tag { attributes = tag.attributes ++ line ∷ [] }) item) b.rooted (b.taken + 1) n room
lined_holds levels b (pending.Chars chars) line n room = tt

text_begins : (levels : Option ℕ) (text : List ℕ) (b : Building) → IsNested levels b → Holds levels (text_begun text b)
text_begins levels text b n =
    let same = waits levels b b.pending b.rooted (b.taken + 1) n n.room in
    holds_if levels (length b.nest.elements == 0) _ _
    (holds_if levels (is_white text) (Ok (counted b)) (refused b reasons.TextOutside) same tt)
    (holds_if levels (is_empty text) (Ok (counted b)) _ same
    (holds_if levels (past b.rules.nodes b.next) (refused b reasons.TooManyNodes) _ tt (waits levels b (pending.Chars text) b.rooted (b.taken + 1) n tt)))

text_holds : (levels : Option ℕ) (text : List ℕ) (b : Building) (p : Pending) → IsNested levels b → Room levels b.nest.elements p → Holds levels (text_by text b p)
text_holds levels text b pending.Nothing n room = text_begins levels text b n
text_holds levels text b (pending.Start tag item) n room =
    holds_then levels (tag_closed_by b (pending.Start tag item)) (text_begun text) (closed_holds levels b (pending.Start tag item) n room) (λ b n. text_begins levels text b n)
text_holds levels text b (pending.Chars chars) n room = waits levels b (pending.Chars (chars ++ text)) b.rooted (b.taken + 1) n tt

fewer : (elements : List OpenElement) → length (without_first elements) ≤ length elements
fewer [] = omega arith
fewer (element ∷ elements) = omega arith

room_fewer : (levels : Option ℕ) (b : Building) → b.pending ≡ pending.Nothing → Room levels (without_first b.nest.elements) b.pending
room_fewer levels b e = subst (Room levels (without_first b.nest.elements)) (sym e) tt

-- after an end nothing waits, since it was settled
abbrev pub Settles : Result Building TreeFault → Type 0
Settles (Ok b) = b.pending ≡ pending.Nothing
Settles (Err fault) = Unit {0}

tag_settles : (b : Building) (tag : Tag) (item : ℕ) (found : Option NameReason) → Settles (tag_by b tag item found)
tag_settles b tag item (Some reason) = tt
tag_settles b tag item None = refl

pub settles : (b : Building) (p : Pending) → b.pending ≡ p → Settles (settled_by b p)
settles b pending.Nothing e = e
settles b (pending.Start tag item) e = tag_settles b tag item (fault_of b.rules (scope_in b.nest) tag)
settles b (pending.Chars chars) e = refl

ended_holds : (levels : Option ℕ) (name : List ℕ) (b : Building) → IsNested levels b → b.pending ≡ pending.Nothing → Holds levels (ended name b)
ended_holds levels name b n e =
    holds_if levels (closes name b.nest.elements) (Ok (record (counted b) { nest = closed b.nest })) (refused b reasons.EndMismatch)
    (record {
      rules = n.rules;
      joins = λ more h. n.joins more (weaker levels (length (without_first b.nest.elements) + 1) (length b.nest.elements + 1) more (omega (arith, fewer b.nest.elements)) h);
      room = room_fewer levels b e;
    }) tt

ends_after : (levels : Option ℕ) (name : List ℕ) (r : Result Building TreeFault) → Holds levels r → Settles r → Holds levels (r >>= ended name)
ends_after levels name (Ok b) h e = ended_holds levels name b h e
ends_after levels name (Err fault) h e = tt

took_holds : (levels : Option ℕ) (b : Building) (item : Item) → IsNested levels b → Holds levels (took b item)
took_holds levels b (items.Start name) n =
    holds_then levels (settled_by b b.pending) (started name) (settled_holds levels b b.pending n n.room) (λ b n. started_holds levels name b n)
took_holds levels b (items.Attr name value) n = lined_holds levels b b.pending (record { name = name; value = value }) n n.room
took_holds levels b (items.Chars text) n = text_holds levels text b b.pending n n.room
took_holds levels b (items.Close name) n =
    ends_after levels name (settled_by b b.pending) (settled_holds levels b b.pending n n.room) (settles b b.pending refl)
took_holds levels b items.Instruction n =
    holds_then levels (tag_closed_by b b.pending) passed (closed_holds levels b b.pending n n.room) (λ b n. waits levels b b.pending b.rooted (b.taken + 1) n n.room)
took_holds levels b (items.Schema locations) n = tt
took_holds levels b items.Document n = tt
took_holds levels b items.Edits n = tt
took_holds levels b items.End n = tt
took_holds levels b items.Dot n = tt
took_holds levels b (items.Command line) n = tt

after_holds : (levels : Option ℕ) (r : Result Building TreeFault) (item : Item) → Holds levels r → Holds levels (after r item)
after_holds levels (Ok b) item n = took_holds levels b item n
after_holds levels (Err fault) item n = tt

all_hold : (levels : Option ℕ) (r : Result Building TreeFault) (its : List Item) → Holds levels r → Holds levels (after_all r its)
all_hold levels r [] n = n
all_hold levels r (item ∷ its) n = all_hold levels (after r item) its (after_holds levels r item n)

abbrev HoldsBuilt : Option ℕ → Result Built TreeFault → Type 0
HoldsBuilt levels (Ok built) = AreNested levels 1 built.rows
HoldsBuilt levels (Err fault) = Unit {0}

built_if : (levels : Option ℕ) (t : Bool) (x y : Result Built TreeFault) → HoldsBuilt levels x → HoldsBuilt levels y → HoldsBuilt levels (if t then x else y)
built_if levels true x y hx hy = hx
built_if levels false x y hx hy = hy

finished_holds : (levels : Option ℕ) (r : Result Building TreeFault) → Holds levels r → HoldsBuilt levels (r >>= finished)
finished_holds levels (Ok b) n =
    built_if levels (length b.nest.elements == 0) _ (refused b reasons.Unclosed)
    (built_if levels b.rooted (Ok (record { rows = b.rows; next = b.next })) (refused b reasons.NoRoot)
    (subst (AreNested levels 1) (append-nil b.rows) (n.joins [] tt)) tt) tt
finished_holds levels (Err fault) n = tt

all_built : (levels : Option ℕ) (r : Result Building TreeFault) → Holds levels r → HoldsBuilt levels (r >>= ended_all)
all_built levels (Ok b) n = finished_holds levels (settled_by b b.pending) (settled_holds levels b b.pending n n.room)
all_built levels (Err fault) n = tt

nothing_nested : (rules : Rules) (scope : List Binding) → IsNested rules.levels (nothing rules scope)
nothing_nested rules scope = record { rules = refl; joins = λ more n. n; room = tt }

-- what is built is nested
pub built_nested : (rules : Rules) (scope : List Binding) (its : List Item) (end : Built) → built rules scope its ≡ Ok end → AreNested rules.levels 1 end.rows
built_nested rules scope its end e =
    subst (HoldsBuilt rules.levels) e (all_built rules.levels (after_all (Ok (nothing rules scope)) its) (all_hold rules.levels (Ok (nothing rules scope)) its (nothing_nested rules scope)))

pub built_whole : (rules : Rules) (scope : List Binding) (its : List Item) (end : Built) → built rules scope its ≡ Ok end → AreWhole end.rows
built_whole rules scope its end e = whole-nested rules.levels end.rows (built_nested rules scope its end e)

-- no element of a document stands deeper than 128
pub built_sound : (scope : List Binding) (its : List Item) (end : Built) → built document_rules scope its ≡ Ok end → AreSound end.rows
built_sound scope its end e = record {
  whole = built_whole document_rules scope its end e;
  shallow = nested_shallow 128 1 end.rows (built_nested document_rules scope its end e);
}

pub built_under : (rules : Rules) (scope : List Binding) (its : List Item) (end : Built) → built rules scope its ≡ Ok end → AreUnder (deepest_row 0 end.rows + 1) end.rows
built_under rules scope its end e = under_from rules.levels 1 (deepest_row 0 end.rows + 1) end.rows (built_nested rules scope its end e) (omega arith) (omega arith)
