-- The elements that are built have the names of the start tags that came.
use Rattle.std.proofs.Common.{◌≡◌, ℕ, ◌+◌, List, [], ◌∷◌, ◌++◌, Bool, true, false, ◌==◌, ◌&&◌, Option, Some, None, Result, Ok, Err, length, refl, sym, ap, ◌∙◌, append_assoc, append-nil, subst}
use Rattle.std.specs.Prelude.{if◌then◌else◌}
use Rattle.std.specs.Result.{is_ok}
use Rattle.item_listing.specs.declared.item.Item.{Item}
use Rattle.item_listing.specs.declared.item.Item.TheVariants as items
use Rattle.tag_names.specs.Tags.{named, scope_within}
use Rattle.tag_names.specs.declared.fault.NameReason.{NameReason}
use Rattle.tag_names.specs.declared.lines.AttributeLine.{AttributeLine}
use Rattle.tag_names.specs.declared.lines.Tag.{Tag}
use Rattle.tag_names.specs.declared.named.Named.{Named}
use Rattle.tree_rows.specs.Forest.{Forest, none, text, element, Document}
use Rattle.tree_rows.specs.Rows.{rows_of, siblings}
use Rattle.tree_rows.specs.declared.row.Attribute.{Attribute}
use Rattle.tree_rows.specs.declared.row.Binding.{Binding}
use Rattle.tree_rows.specs.declared.row.Content.{Content}
use Rattle.tree_rows.specs.declared.row.Content.TheVariants as contents
use Rattle.tree_rows.specs.declared.row.Row.{Row}
use Rattle.tree_building.specs.Blocks.{one_element}
use Rattle.tree_building.specs.Building.{◌>>=◌, nothing, refused, text_row, element_row, with_row, with_element, fault_of, tag_by, tag_closed_by, settled_by, counted, started, lined, text_begun, text_by, ended, passed, took, finished, ended_all, after, after_all, built, document, forest_of, block, is_empty, is_white}
use Rattle.tree_building.specs.Nest.{OpenElement, scope_below, scope_in, closes, closed, without_first}
use Rattle.tree_building.specs.Rules.{past, block_rules, document_rules}
use Rattle.tree_building.specs.declared.rules.Rules.{Rules}
use Rattle.tree_building.specs.declared.pending.Pending.{Pending}
use Rattle.tree_building.specs.declared.pending.Pending.TheVariants as pending
use Rattle.tree_building.specs.declared.building.Building.{Building}
use Rattle.tree_building.specs.declared.build.Built.{Built}
use Rattle.tree_building.specs.declared.fault.TreeFault.{TreeFault}
use Rattle.tree_building.specs.declared.fault.TreeReason.TheVariants as reasons
use Rattle.tree_building.proofs.Kept.{built_whole}
use Rattle.tree_building.proofs.OneElement.{block-built}
use Rattle.tree_edits.specs.Blocks.{Placed, lines_of, tags_in}
use Rattle.tree_edits.specs.Names.{element_names, tag_names}

-- the names of the rows of elements
abbrev row_named : Content → List Binding → List Attribute → List Named
row_named (contents.Element name) bindings attributes = record { name = name; bindings = bindings; attributes = attributes } ∷ []
row_named (contents.Chars chars) bindings attributes = []

abbrev row_names : List Row → List Named
row_names [] = []
row_names (row ∷ rows) = row_named row.content row.bindings row.attributes ++ row_names rows

names-append : (xs ys : List Row) → row_names (xs ++ ys) ≡ row_names xs ++ row_names ys
names-append [] ys = refl
names-append (x ∷ xs) ys =
    ap (λ l. row_named x.content x.bindings x.attributes ++ l) (names-append xs ys)
    ∙ sym (append_assoc (row_named x.content x.bindings x.attributes) (row_names xs) (row_names ys))

rows_named : (depth : ℕ) (f : Forest) → row_names (rows_of depth f) ≡ element_names f
rows_named depth none = refl
rows_named depth (text n chars next) = rows_named depth next
rows_named depth (element n name bindings attributes children next) =
    ap (λ l. record { name = name; bindings = bindings; attributes = attributes } ∷ l)
    (names-append (rows_of (depth + 1) children) (rows_of depth next)
    ∙ ap (λ l. l ++ row_names (rows_of depth next)) (rows_named (depth + 1) children)
    ∙ ap (λ l. element_names children ++ l) (rows_named depth next))

-- the scopes around the innermost element
abbrev arounds : List Binding → List OpenElement → List (List Binding)
arounds outside [] = []
arounds outside (e ∷ es) = scope_below outside es ∷ arounds outside es

-- a tag with the lines that come next
abbrev whole_tag : Tag → List Item → Tag
whole_tag tag its = record tag { attributes = tag.attributes ++ lines_of its }

no_lines : (tag : Tag) (its : List Item) → lines_of its ≡ [] → whole_tag tag its ≡ tag
no_lines tag its e = ap (λ l. record tag { attributes = tag.attributes ++ l }) e ∙ ap (λ l. record tag { attributes = l }) (append-nil tag.attributes)

-- the names that there will be, with what came last and the items that are left
abbrev tag_first : List Binding → List (List Binding) → Tag → List Item → List Named
tag_first scope around tag its = named scope tag ∷ tag_names (tags_in (scope_within scope tag) (scope ∷ around) its)

abbrev will_name : Building → Pending → List Item → List Named
will_name b pending.Nothing its = row_names b.rows ++ tag_names (tags_in (scope_in b.nest) (arounds b.nest.outer b.nest.elements) its)
will_name b (pending.Start tag item) its = row_names b.rows ++ tag_first (scope_in b.nest) (arounds b.nest.outer b.nest.elements) (whole_tag tag its) its
will_name b (pending.Chars chars) its = row_names b.rows ++ tag_names (tags_in (scope_in b.nest) (arounds b.nest.outer b.nest.elements) its)

abbrev Holds : List Named → List Item → Result Building TreeFault → Type 0
Holds names its (Ok b) = will_name b b.pending its ≡ names
Holds names its (Err fault) = Unit {0}

-- what holds where nothing waits
abbrev Rests : List Named → List Item → Result Building TreeFault → Type 0
Rests names its (Ok b) = (b.pending ≡ pending.Nothing) × (will_name b pending.Nothing its ≡ names)
Rests names its (Err fault) = Unit {0}

rests_then : (names : List Named) (its more : List Item) (r : Result Building TreeFault) (f : Building → Result Building TreeFault) → Rests names its r
    → ((b : Building) → b.pending ≡ pending.Nothing → will_name b pending.Nothing its ≡ names → Holds names more (f b)) → Holds names more (r >>= f)
rests_then names its more (Ok b) f h step = step b h.0 h.1
rests_then names its more (Err fault) f h step = tt

holds_if : (names : List Named) (its : List Item) (t : Bool) (x y : Result Building TreeFault) → Holds names its x → Holds names its y → Holds names its (if t then x else y)
holds_if names its true x y hx hy = hx
holds_if names its false x y hx hy = hy

holds_unless : (names : List Named) (its : List Item) (t : Bool) (x y : Result Building TreeFault) → (t ≡ true → Holds names its x) → Holds names its y
    → Holds names its (if t then x else y)
holds_unless names its true x y hx hy = hx refl
holds_unless names its false x y hx hy = hy

tag_rests : (names : List Named) (b : Building) (tag : Tag) (item : ℕ) (its : List Item) (found : Option NameReason) → lines_of its ≡ []
    → will_name b (pending.Start tag item) its ≡ names → Rests names its (tag_by b tag item found)
tag_rests names b tag item its (Some reason) l g = tt
tag_rests names b tag item its None l g =
    let scope = scope_in b.nest in
    let around = arounds b.nest.outer b.nest.elements in
    let more = tag_names (tags_in (scope_within scope tag) (scope ∷ around) its) in (
      refl,
      ap (λ r. r ++ more) (names-append b.rows (element_row b tag ∷ [])) ∙ append_assoc (row_names b.rows) (named scope tag ∷ []) more
          ∙ ap (λ t. row_names b.rows ++ tag_first scope around t its) (sym (no_lines tag its l)) ∙ g,
    )

-- what came last becomes a node
settled_rests : (names : List Named) (b : Building) (p : Pending) (its : List Item) → b.pending ≡ p → lines_of its ≡ [] → will_name b p its ≡ names
    → Rests names its (settled_by b p)
settled_rests names b pending.Nothing its e l g = (e, g)
settled_rests names b (pending.Start tag item) its e l g = tag_rests names b tag item its (fault_of b.rules (scope_in b.nest) tag) l g
settled_rests names b (pending.Chars chars) its e l g =
    let more = tag_names (tags_in (scope_in b.nest) (arounds b.nest.outer b.nest.elements) its) in
    (refl, ap (λ r. r ++ more) (names-append b.rows (text_row b chars ∷ []) ∙ append-nil (row_names b.rows)) ∙ g)

counted_holds : (names : List Named) (b : Building) (p : Pending) (its : List Item) → b.pending ≡ p → will_name b p its ≡ names → Holds names its (Ok (counted b))
counted_holds names b p its e g = subst (λ q. will_name (counted b) q its ≡ names) (sym e) (again b p its g)
  where
    again : (b : Building) (p : Pending) (its : List Item) → will_name b p its ≡ names → will_name (counted b) p its ≡ names
    again b pending.Nothing its g = g
    again b (pending.Start tag item) its g = g
    again b (pending.Chars chars) its g = g

started_holds : (names : List Named) (name : List ℕ) (more : List Item) (b : Building) → will_name b pending.Nothing (items.Start name ∷ more) ≡ names
    → Holds names more (started name b)
started_holds names name more b g =
    holds_if names more (length b.nest.elements == 0 && b.rooted) (refused b reasons.TwoRoots) _ tt
    (holds_if names more (past b.rules.levels (length b.nest.elements + 1)) (refused b reasons.TooDeep) _ tt
    (holds_if names more (past b.rules.nodes b.next) (refused b reasons.TooManyNodes) _ tt g))

lined_holds : (names : List Named) (name value : List ℕ) (more : List Item) (b : Building) (p : Pending) → will_name b p (items.Attr name value ∷ more) ≡ names
    → Holds names more (lined b p (record { name = name; value = value }))
lined_holds names name value more b pending.Nothing g = tt
lined_holds names name value more b (pending.Chars chars) g = tt
lined_holds names name value more b (pending.Start tag item) g =
    let line : AttributeLine = record { name = name; value = value } in
    ap (λ l. row_names b.rows ++ tag_first (scope_in b.nest) (arounds b.nest.outer b.nest.elements) (record tag { attributes = l }) more)
    (append_assoc tag.attributes (line ∷ []) (lines_of more)) ∙ g

text_begins : (names : List Named) (chars : List ℕ) (more : List Item) (b : Building) → b.pending ≡ pending.Nothing
    → will_name b pending.Nothing (items.Chars chars ∷ more) ≡ names → Holds names more (text_begun chars b)
text_begins names chars more b e g =
    let same = counted_holds names b pending.Nothing more e g in
    holds_if names more (length b.nest.elements == 0) _ _
    (holds_if names more (is_white chars) (Ok (counted b)) (refused b reasons.TextOutside) same tt)
    (holds_if names more (is_empty chars) (Ok (counted b)) _ same
    (holds_if names more (past b.rules.nodes b.next) (refused b reasons.TooManyNodes) _ tt g))

text_holds : (names : List Named) (chars : List ℕ) (more : List Item) (b : Building) (p : Pending) → b.pending ≡ p → will_name b p (items.Chars chars ∷ more) ≡ names
    → Holds names more (text_by chars b p)
text_holds names chars more b pending.Nothing e g = text_begins names chars more b e g
text_holds names chars more b (pending.Start tag item) e g =
    rests_then names (items.Chars chars ∷ more) more (tag_by b tag item (fault_of b.rules (scope_in b.nest) tag)) (text_begun chars)
    (tag_rests names b tag item (items.Chars chars ∷ more) (fault_of b.rules (scope_in b.nest) tag) refl g) (λ b e g. text_begins names chars more b e g)
text_holds names chars more b (pending.Chars first) e g = g

close_named : (names : List Named) (rows : List Named) (outside : List Binding) (elements : List OpenElement) (name : List ℕ) (more : List Item) → closes name elements ≡ true
    → rows ++ tag_names (tags_in (scope_below outside elements) (arounds outside elements) (items.Close name ∷ more)) ≡ names
    → rows ++ tag_names (tags_in (scope_below outside (without_first elements)) (arounds outside (without_first elements)) more) ≡ names
close_named names rows outside [] name more c g = absurd (cc c)
close_named names rows outside (e ∷ es) name more c g = g

ended_holds : (names : List Named) (name : List ℕ) (more : List Item) (b : Building) → b.pending ≡ pending.Nothing
    → will_name b pending.Nothing (items.Close name ∷ more) ≡ names → Holds names more (ended name b)
ended_holds names name more b e g =
    holds_unless names more (closes name b.nest.elements) (Ok (record (counted b) { nest = closed b.nest })) (refused b reasons.EndMismatch)
    (λ c. subst (λ q. will_name (record (counted b) { nest = closed b.nest }) q more ≡ names) (sym e)
    (close_named names (row_names b.rows) b.nest.outer b.nest.elements name more c g)) tt

passed_holds : (names : List Named) (more : List Item) (b : Building) (p : Pending) → b.pending ≡ p → will_name b p (items.Instruction ∷ more) ≡ names
    → Holds names more (tag_closed_by b p >>= passed)
passed_holds names more b pending.Nothing e g = counted_holds names b pending.Nothing more e g
passed_holds names more b (pending.Chars chars) e g = counted_holds names b (pending.Chars chars) more e g
passed_holds names more b (pending.Start tag item) e g =
    rests_then names (items.Instruction ∷ more) more (tag_by b tag item (fault_of b.rules (scope_in b.nest) tag)) passed
    (tag_rests names b tag item (items.Instruction ∷ more) (fault_of b.rules (scope_in b.nest) tag) refl g)
    (λ b e g. counted_holds names b pending.Nothing more e g)

took_holds : (names : List Named) (item : Item) (more : List Item) (b : Building) → will_name b b.pending (item ∷ more) ≡ names → Holds names more (took b item)
took_holds names (items.Start name) more b g =
    rests_then names (items.Start name ∷ more) more (settled_by b b.pending) (started name) (settled_rests names b b.pending (items.Start name ∷ more) refl refl g)
    (λ b e g. started_holds names name more b g)
took_holds names (items.Attr name value) more b g = lined_holds names name value more b b.pending g
took_holds names (items.Chars chars) more b g = text_holds names chars more b b.pending refl g
took_holds names (items.Close name) more b g =
    rests_then names (items.Close name ∷ more) more (settled_by b b.pending) (ended name) (settled_rests names b b.pending (items.Close name ∷ more) refl refl g)
    (λ b e g. ended_holds names name more b e g)
took_holds names items.Instruction more b g = passed_holds names more b b.pending refl g
took_holds names (items.Schema locations) more b g = tt
took_holds names items.Document more b g = tt
took_holds names items.Edits more b g = tt
took_holds names items.End more b g = tt
took_holds names items.Dot more b g = tt
took_holds names (items.Command line) more b g = tt

after_holds : (names : List Named) (r : Result Building TreeFault) (item : Item) (more : List Item) → Holds names (item ∷ more) r → Holds names more (after r item)
after_holds names (Ok b) item more g = took_holds names item more b g
after_holds names (Err fault) item more g = tt

all_hold : (names : List Named) (its : List Item) (r : Result Building TreeFault) → Holds names its r → Holds names [] (after_all r its)
all_hold names [] r g = g
all_hold names (item ∷ more) r g = all_hold names more (after r item) (after_holds names r item more g)

abbrev Ends : List Named → Result Built TreeFault → Type 0
Ends names (Ok end) = row_names end.rows ≡ names
Ends names (Err fault) = Unit {0}

ends_if : (names : List Named) (t : Bool) (x y : Result Built TreeFault) → Ends names x → Ends names y → Ends names (if t then x else y)
ends_if names true x y hx hy = hx
ends_if names false x y hx hy = hy

finished_ends : (names : List Named) (r : Result Building TreeFault) → Rests names [] r → Ends names (r >>= finished)
finished_ends names (Ok b) h =
    ends_if names (length b.nest.elements == 0) _ (refused b reasons.Unclosed)
    (ends_if names b.rooted (Ok (record { rows = b.rows; next = b.next })) (refused b reasons.NoRoot) (sym (append-nil (row_names b.rows)) ∙ h.1) tt) tt
finished_ends names (Err fault) h = tt

ended_ends : (names : List Named) (r : Result Building TreeFault) → Holds names [] r → Ends names (r >>= ended_all)
ended_ends names (Ok b) g = finished_ends names (settled_by b b.pending) (settled_rests names b b.pending [] refl refl g)
ended_ends names (Err fault) g = tt

built_ends : (rules : Rules) (scope : List Binding) (its : List Item) → Ends (tag_names (tags_in scope [] its)) (built rules scope its)
built_ends rules scope its =
    let names = tag_names (tags_in scope [] its) in
    ended_ends names (after_all (Ok (nothing rules scope)) its) (all_hold names its (Ok (nothing rules scope)) refl)

whole_named : (rules : Rules) (scope : List Binding) (its : List Item) (end : Built) → built rules scope its ≡ Ok end → row_names end.rows ≡ tag_names (tags_in scope [] its)
    → element_names (siblings end.rows 1) ≡ tag_names (tags_in scope [] its)
whole_named rules scope its end e is =
    sym (rows_named 1 (siblings end.rows 1)) ∙ ap row_names (sym (built_whole rules scope its end e)) ∙ is

block_by : (scope : List Binding) (its : List Item) (r : Result Built TreeFault) → built block_rules scope its ≡ r → is_ok r ≡ true → Ends (tag_names (tags_in scope [] its)) r
    → element_names (forest_of r) ≡ tag_names (tags_in scope [] its)
block_by scope its (Ok end) e ok ends = whole_named block_rules scope its end e ends
block_by scope its (Err fault) e ok ends = absurd (cc ok)

-- the elements of a block have the names that its tags say
pub block_named : (scope : List Binding) (its : List Item) → one_element its ≡ true → element_names (block scope its) ≡ tag_names (tags_in scope [] its)
block_named scope its one = block_by scope its (built block_rules scope its) refl (block-built scope its ∙ one) (built_ends block_rules scope its)

document_by : (scope : List Binding) (its : List Item) (d : Document) (r : Result Built TreeFault) → built document_rules scope its ≡ r → document r ≡ Ok d
    → Ends (tag_names (tags_in scope [] its)) r → element_names d.forest ≡ tag_names (tags_in scope [] its)
document_by scope its d (Ok end) e is ends =
    let same : record { forest = siblings end.rows 1; next_free = end.next } ≡ d = cc in
    sym (ap (λ (x : Document). element_names x.forest) same) ∙ whole_named document_rules scope its end e ends
document_by scope its d (Err fault) e is ends = absurd (cc is)

-- the elements of a document have the names that the tags of its items say
pub document_named : (scope : List Binding) (its : List Item) (d : Document) → document (built document_rules scope its) ≡ Ok d
    → element_names d.forest ≡ tag_names (tags_in scope [] its)
document_named scope its d e = document_by scope its d (built document_rules scope its) refl e (built_ends document_rules scope its)
