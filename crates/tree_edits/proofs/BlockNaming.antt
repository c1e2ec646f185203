-- The elements of a block have their names, where its tags repeat nothing and have not too many attributes.
use Rattle.std.proofs.Common.{◌≡◌, ℕ, ◌+◌, List, [], ◌∷◌, ◌++◌, Bool, true, false, ◌==◌, ◌&&◌, None, Result, Ok, Err, length, refl, sym, ap, ◌∙◌, append_assoc, append-nil, subst}
use Rattle.std.specs.Prelude.{if◌then◌else◌}
use Rattle.std.specs.List.{list_any}
use Rattle.std.proofs.lemmas.Bool.{or_parts}
use Rattle.item_listing.specs.declared.item.Item.{Item}
use Rattle.item_listing.specs.declared.item.Item.TheVariants as items
use Rattle.tag_names.specs.Tags.{scope_within}
use Rattle.tag_names.specs.Faults.{name_fault}
use Rattle.tag_names.specs.declared.lines.AttributeLine.{AttributeLine}
use Rattle.tag_names.specs.declared.lines.Tag.{Tag}
use Rattle.tree_rows.specs.Forest.{Forest, none, text, element}
use Rattle.tree_rows.specs.Rows.{rows_of, siblings}
use Rattle.tree_rows.specs.Whole.{IsNamed}
use Rattle.tree_rows.specs.declared.row.Binding.{Binding}
use Rattle.tree_rows.specs.declared.row.Row.{Row}
use Rattle.tree_building.specs.Building.{◌>>=◌, nothing, refused, text_row, element_row, tag_by, tag_closed_by, settled_by, counted, started, lined, text_begun, text_by, ended, passed, took, finished, ended_all, after, after_all, built, forest_of, block, is_empty, is_white}
use Rattle.tree_building.specs.Nest.{OpenElement, scope_below, scope_in, closes, closed, without_first}
use Rattle.tree_building.specs.Rules.{past, block_rules}
use Rattle.tree_building.specs.declared.rules.Rules.{Rules}
use Rattle.tree_building.specs.declared.pending.Pending.{Pending}
use Rattle.tree_building.specs.declared.pending.Pending.TheVariants as pending
use Rattle.tree_building.specs.declared.building.Building.{Building}
use Rattle.tree_building.specs.declared.build.Built.{Built}
use Rattle.tree_building.specs.declared.fault.TreeFault.{TreeFault}
use Rattle.tree_building.specs.declared.fault.TreeReason.TheVariants as reasons
use Rattle.tree_building.proofs.Kept.{built_whole}
use Rattle.tree_building.proofs.NamedLaws.{tag_named}
use Rattle.tree_building.proofs.Trees.{HasNames}
use Rattle.tree_edits.specs.Blocks.{Placed, lines_of, tags_in, has_too_many, has_double}

-- each element has its names
abbrev pub HaveNames : Forest → Type 0
HaveNames none = Unit {0}
HaveNames (text n chars next) = HaveNames next
HaveNames (element n name bindings attributes children next) = IsNamed name bindings attributes × HaveNames children × HaveNames next

abbrev RowsHaveNames : List Row → Type 0
RowsHaveNames [] = Unit {0}
RowsHaveNames (row ∷ rows) = HasNames row.content row.bindings row.attributes × RowsHaveNames rows

rows_more : (rows : List Row) (row : Row) → RowsHaveNames rows → HasNames row.content row.bindings row.attributes → RowsHaveNames (rows ++ row ∷ [])
rows_more [] row a n = (n, tt)
rows_more (first ∷ rows) row a n = (a.0, rows_more rows row a.1 n)

rows_last : (xs ys : List Row) → RowsHaveNames (xs ++ ys) → RowsHaveNames xs × RowsHaveNames ys
rows_last [] ys a = (tt, a)
rows_last (x ∷ xs) ys a = let both = rows_last xs ys a.1 in ((a.0, both.0), both.1)

forest_names : (depth : ℕ) (f : Forest) → RowsHaveNames (rows_of depth f) → HaveNames f
forest_names depth none a = tt
forest_names depth (text n chars next) a = forest_names depth next a.1
forest_names depth (element n name bindings attributes children next) a =
    let both = rows_last (rows_of (depth + 1) children) (rows_of depth next) a.1 in
    (a.0, forest_names (depth + 1) children both.0, forest_names depth next both.1)

-- a tag repeats nothing and has not too many attributes, and so do tags
abbrev IsFine : Placed → Type 0
IsFine placed = (has_too_many placed ≡ false) × (has_double placed ≡ false)

abbrev AreFine : List Placed → Type 0
AreFine [] = Unit {0}
AreFine (placed ∷ more) = IsFine placed × AreFine more

are_fine : (tags : List Placed) → list_any has_too_many tags ≡ false → list_any has_double tags ≡ false → AreFine tags
are_fine [] many double = tt
are_fine (placed ∷ more) many double =
    let a = or_parts (has_too_many placed) (list_any has_too_many more) many in
    let b = or_parts (has_double placed) (list_any has_double more) double in
    ((a.0, b.0), are_fine more a.1 b.1)

-- the scopes around the innermost element
abbrev arounds : List Binding → List OpenElement → List (List Binding)
arounds outside [] = []
arounds outside (e ∷ es) = scope_below outside es ∷ arounds outside es

-- a tag with the lines that come next
abbrev whole_tag : Tag → List Item → Tag
whole_tag tag its = record tag { attributes = tag.attributes ++ lines_of its }

-- the tag that waits is fine with its lines, and so are those to come
abbrev WillBeFine : Building → Pending → List Item → Type 0
WillBeFine b pending.Nothing its = AreFine (tags_in (scope_in b.nest) (arounds b.nest.outer b.nest.elements) its)
WillBeFine b (pending.Start tag item) its =
    IsFine (record { scope = scope_in b.nest; tag = whole_tag tag its })
    × AreFine (tags_in (scope_within (scope_in b.nest) (whole_tag tag its)) (scope_in b.nest ∷ arounds b.nest.outer b.nest.elements) its)
WillBeFine b (pending.Chars chars) its = AreFine (tags_in (scope_in b.nest) (arounds b.nest.outer b.nest.elements) its)

record IsGood (b : Building) (p : Pending) (its : List Item) : Type 0 where
  pub rules : b.rules ≡ block_rules
  pub rows : RowsHaveNames b.rows
  pub fine : WillBeFine b p its

abbrev Holds : List Item → Result Building TreeFault → Type 0
Holds its (Ok b) = IsGood b b.pending its
Holds its (Err fault) = Unit {0}

-- what holds where nothing waits
abbrev Rests : List Item → Result Building TreeFault → Type 0
Rests its (Ok b) = (b.pending ≡ pending.Nothing) × IsGood b pending.Nothing its
Rests its (Err fault) = Unit {0}

rests_then : (its more : List Item) (r : Result Building TreeFault) (f : Building → Result Building TreeFault) → Rests its r
    → ((b : Building) → b.pending ≡ pending.Nothing → IsGood b pending.Nothing its → Holds more (f b)) → Holds more (r >>= f)
rests_then its more (Ok b) f h step = step b h.0 h.1
rests_then its more (Err fault) f h step = tt

holds_if : (its : List Item) (t : Bool) (x y : Result Building TreeFault) → Holds its x → Holds its y → Holds its (if t then x else y)
holds_if its true x y hx hy = hx
holds_if its false x y hx hy = hy

holds_unless : (its : List Item) (t : Bool) (x y : Result Building TreeFault) → (t ≡ true → Holds its x) → Holds its y → Holds its (if t then x else y)
holds_unless its true x y hx hy = hx refl
holds_unless its false x y hx hy = hy

no_lines : (tag : Tag) (its : List Item) → lines_of its ≡ [] → whole_tag tag its ≡ tag
no_lines tag its e = ap (λ l. record tag { attributes = tag.attributes ++ l }) e ∙ ap (λ l. record tag { attributes = l }) (append-nil tag.attributes)

-- what came last becomes a node
settled_rests : (b : Building) (p : Pending) (its : List Item) → b.pending ≡ p → lines_of its ≡ [] → IsGood b p its → Rests its (settled_by b p)
settled_rests b pending.Nothing its e l g = (e, g)
settled_rests b (pending.Chars chars) its e l g =
    (refl, record { rules = g.rules; rows = rows_more b.rows (text_row b chars) g.rows tt; fine = g.fine })
settled_rests b (pending.Start tag item) its e l g =
    let same = no_lines tag its l in
    let own : IsFine (record { scope = scope_in b.nest; tag = tag }) = subst (λ t. IsFine (record { scope = scope_in b.nest; tag = t })) same g.fine.0 in
    subst (λ (names : Bool). Rests its (tag_by b tag item (if names then name_fault (scope_in b.nest) tag else None))) (sym (ap (λ (r : Rules). r.names) g.rules)) (
      refl,
      record {
        rules = g.rules;
        rows = rows_more b.rows (element_row b tag) g.rows (tag_named (scope_in b.nest) tag own.1 own.0);
        fine = subst (λ t. AreFine (tags_in (scope_within (scope_in b.nest) t) (scope_in b.nest ∷ arounds b.nest.outer b.nest.elements) its)) same g.fine.1;
      },
    )

-- with another thing that came last
waits : (b : Building) (p : Pending) (rooted : Bool) (taken : ℕ) (its : List Item) → b.rules ≡ block_rules → RowsHaveNames b.rows → WillBeFine b p its
    → IsGood (record b { pending = p; rooted = rooted; taken = taken }) p its
waits b p rooted taken its r rows fine = record { rules = r; rows = rows; fine = fine }

counted_holds : (b : Building) (p : Pending) (its : List Item) → b.pending ≡ p → IsGood b p its → Holds its (Ok (counted b))
counted_holds b p its e g = subst (λ q. IsGood (counted b) q its) (sym e) (record { rules = g.rules; rows = g.rows; fine = g.fine })

started_holds : (name : List ℕ) (more : List Item) (b : Building) → IsGood b pending.Nothing (items.Start name ∷ more) → Holds more (started name b)
started_holds name more b g =
    holds_if more (length b.nest.elements == 0 && b.rooted) (refused b reasons.TwoRoots) _ tt
    (holds_if more (past b.rules.levels (length b.nest.elements + 1)) (refused b reasons.TooDeep) _ tt
    (holds_if more (past b.rules.nodes b.next) (refused b reasons.TooManyNodes) _ tt
    (waits b (pending.Start (record { name = name; attributes = [] }) b.taken) true (b.taken + 1) more g.rules g.rows (g.fine.0, g.fine.1))))

lined_holds : (name value : List ℕ) (more : List Item) (b : Building) (p : Pending) → IsGood b p (items.Attr name value ∷ more)
    → Holds more (lined b p (record { name = name; value = value }))
lined_holds name value more b pending.Nothing g = tt
lined_holds name value more b (pending.Chars chars) g = tt
lined_holds name value more b (pending.Start tag item) g =
    let line : AttributeLine = record { name = name; value = value } in
    let longer : Tag = record tag { attributes = tag.attributes ++ line ∷ [] } in
    let same : whole_tag tag (items.Attr name value ∷ more) ≡ whole_tag longer more =
    ap (λ l. record tag { attributes = l }) (sym (append_assoc tag.attributes (line ∷ []) (lines_of more))) in
    waits b (pending.Start longer item) b.rooted (b.taken + 1) more g.rules g.rows (
      subst (λ t. IsFine (record { scope = scope_in b.nest; tag = t })) same g.fine.0,
      subst (λ t. AreFine (tags_in (scope_within (scope_in b.nest) t) (scope_in b.nest ∷ arounds b.nest.outer b.nest.elements) more)) same g.fine.1,
    )

text_begins : (chars : List ℕ) (more : List Item) (b : Building) → b.pending ≡ pending.Nothing → IsGood b pending.Nothing (items.Chars chars ∷ more) → Holds more (text_begun chars b)
text_begins chars more b e g =
    let now : IsGood b pending.Nothing more = record { rules = g.rules; rows = g.rows; fine = g.fine } in
    let same = counted_holds b pending.Nothing more e now in
    holds_if more (length b.nest.elements == 0) _ _
    (holds_if more (is_white chars) (Ok (counted b)) (refused b reasons.TextOutside) same tt)
    (holds_if more (is_empty chars) (Ok (counted b)) _ same
    (holds_if more (past b.rules.nodes b.next) (refused b reasons.TooManyNodes) _ tt
    (waits b (pending.Chars chars) b.rooted (b.taken + 1) more g.rules g.rows g.fine)))

text_holds : (chars : List ℕ) (more : List Item) (b : Building) (p : Pending) → b.pending ≡ p → IsGood b p (items.Chars chars ∷ more) → Holds more (text_by chars b p)
text_holds chars more b pending.Nothing e g = text_begins chars more b e g
text_holds chars more b (pending.Start tag item) e g =
    rests_then (items.Chars chars ∷ more) more (settled_by b (pending.Start tag item)) (text_begun chars)
    (settled_rests b (pending.Start tag item) (items.Chars chars ∷ more) e refl g) (λ b e g. text_begins chars more b e g)
text_holds chars more b (pending.Chars first) e g =
    waits b (pending.Chars (first ++ chars)) b.rooted (b.taken + 1) more g.rules g.rows g.fine

close_fine : (outside : List Binding) (elements : List OpenElement) (name : List ℕ) (more : List Item) → closes name elements ≡ true
    → AreFine (tags_in (scope_below outside elements) (arounds outside elements) (items.Close name ∷ more))
    → AreFine (tags_in (scope_below outside (without_first elements)) (arounds outside (without_first elements)) more)
close_fine outside [] name more c fine = absurd (cc c)
close_fine outside (e ∷ es) name more c fine = fine

ended_holds : (name : List ℕ) (more : List Item) (b : Building) → b.pending ≡ pending.Nothing → IsGood b pending.Nothing (items.Close name ∷ more) → Holds more (ended name b)
ended_holds name more b e g =
    holds_unless more (closes name b.nest.elements) (Ok (record (counted b) { nest = closed b.nest })) (refused b reasons.EndMismatch)
    (λ c. subst (λ q. IsGood (record (counted b) { nest = closed b.nest }) q more) (sym e)
    (record { rules = g.rules; rows = g.rows; fine = close_fine b.nest.outer b.nest.elements name more c g.fine })) tt

passed_holds : (more : List Item) (b : Building) (p : Pending) → b.pending ≡ p → IsGood b p (items.Instruction ∷ more) → Holds more (tag_closed_by b p >>= passed)
passed_holds more b pending.Nothing e g = counted_holds b pending.Nothing more e (record { rules = g.rules; rows = g.rows; fine = g.fine })
passed_holds more b (pending.Chars chars) e g = counted_holds b (pending.Chars chars) more e (record { rules = g.rules; rows = g.rows; fine = g.fine })
passed_holds more b (pending.Start tag item) e g =
    rests_then (items.Instruction ∷ more) more (settled_by b (pending.Start tag item)) passed (settled_rests b (pending.Start tag item) (items.Instruction ∷ more) e refl g)
    (λ b e g. counted_holds b pending.Nothing more e (record { rules = g.rules; rows = g.rows; fine = g.fine }))

took_holds : (item : Item) (more : List Item) (b : Building) → IsGood b b.pending (item ∷ more) → Holds more (took b item)
took_holds (items.Start name) more b g =
    rests_then (items.Start name ∷ more) more (settled_by b b.pending) (started name) (settled_rests b b.pending (items.Start name ∷ more) refl refl g)
    (λ b e g. started_holds name more b g)
took_holds (items.Attr name value) more b g = lined_holds name value more b b.pending g
took_holds (items.Chars chars) more b g = text_holds chars more b b.pending refl g
took_holds (items.Close name) more b g =
    rests_then (items.Close name ∷ more) more (settled_by b b.pending) (ended name) (settled_rests b b.pending (items.Close name ∷ more) refl refl g)
    (λ b e g. ended_holds name more b e g)
took_holds items.Instruction more b g = passed_holds more b b.pending refl g
took_holds (items.Schema locations) more b g = tt
took_holds items.Document more b g = tt
took_holds items.Edits more b g = tt
took_holds items.End more b g = tt
took_holds items.Dot more b g = tt
took_holds (items.Command line) more b g = tt

after_holds : (r : Result Building TreeFault) (item : Item) (more : List Item) → Holds (item ∷ more) r → Holds more (after r item)
after_holds (Ok b) item more g = took_holds item more b g
after_holds (Err fault) item more g = tt

all_hold : (its : List Item) (r : Result Building TreeFault) → Holds its r → Holds [] (after_all r its)
all_hold [] r g = g
all_hold (item ∷ more) r g = all_hold more (after r item) (after_holds r item more g)

abbrev BuiltNames : Result Built TreeFault → Type 0
BuiltNames (Ok end) = RowsHaveNames end.rows
BuiltNames (Err fault) = Unit {0}

built_if : (t : Bool) (x y : Result Built TreeFault) → BuiltNames x → BuiltNames y → BuiltNames (if t then x else y)
built_if true x y hx hy = hx
built_if false x y hx hy = hy

finished_names : (r : Result Building TreeFault) → Rests [] r → BuiltNames (r >>= finished)
finished_names (Ok b) h =
    built_if (length b.nest.elements == 0) _ (refused b reasons.Unclosed)
    (built_if b.rooted (Ok (record { rows = b.rows; next = b.next })) (refused b reasons.NoRoot) h.1.rows tt) tt
finished_names (Err fault) h = tt

ended_names : (r : Result Building TreeFault) → Holds [] r → BuiltNames (r >>= ended_all)
ended_names (Ok b) g = finished_names (settled_by b b.pending) (settled_rests b b.pending [] refl refl g)
ended_names (Err fault) g = tt

names_of : (scope : List Binding) (its : List Item) (r : Result Built TreeFault) → built block_rules scope its ≡ r → BuiltNames r → HaveNames (forest_of r)
names_of scope its (Ok end) e names =
    forest_names 1 (siblings end.rows 1) (subst RowsHaveNames (built_whole block_rules scope its end e) names)
names_of scope its (Err fault) e names = tt

-- the elements of a block have their names
pub block_names : (scope : List Binding) (its : List Item) → list_any has_too_many (tags_in scope [] its) ≡ false → list_any has_double (tags_in scope [] its) ≡ false
    → HaveNames (block scope its)
block_names scope its many double =
    let start : IsGood (nothing block_rules scope) pending.Nothing its =
    record { rules = refl; rows = tt; fine = are_fine (tags_in scope [] its) many double } in
    names_of scope its (built block_rules scope its) refl
    (ended_names (after_all (Ok (nothing block_rules scope)) its) (all_hold its (Ok (nothing block_rules scope)) start))
