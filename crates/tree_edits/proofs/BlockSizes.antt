-- A block has the nodes that its items begin.
use Rattle.std.proofs.Common.{◌≡◌, ℕ, ◌+◌, ◌-◌, List, [], ◌∷◌, ◌++◌, Bool, true, false, ◌==◌, ◌&&◌, Option, Some, None, Result, Ok, Err, length, refl, sym, ap, ◌∙◌, arith, subst, max}
use Rattle.std.specs.Prelude.{if◌then◌else◌}
use Rattle.std.specs.Result.{is_ok}
use Rattle.std.proofs.lemmas.Grind.{common_steps}
use Rattle.item_listing.specs.declared.item.Item.{Item}
use Rattle.item_listing.specs.declared.item.Item.TheVariants as items
use Rattle.tag_names.specs.declared.fault.NameReason.{NameReason}
use Rattle.tag_names.specs.declared.lines.Tag.{Tag}
use Rattle.tree_rows.specs.Forest.{count, deepest_of}
use Rattle.tree_rows.specs.declared.row.Binding.{Binding}
use Rattle.tree_rows.specs.declared.row.Row.{Row}
use Rattle.tree_building.specs.Blocks.{one_element}
use Rattle.tree_building.specs.Building.{◌>>=◌, nothing, refused, text_row, element_row, with_element, fault_of, tag_by, tag_closed_by, settled_by, counted, started, lined, text_begun, text_by, ended, passed, took, finished, ended_all, after, after_all, built, forest_of, block, is_empty, is_white}
use Rattle.tree_building.specs.Nest.{OpenElement, scope_in, closes, closed, without_first}
use Rattle.tree_building.specs.Rules.{past, block_rules}
use Rattle.tree_building.specs.Shape.{deepest_row}
use Rattle.tree_building.specs.declared.pending.Pending.{Pending}
use Rattle.tree_building.specs.declared.pending.Pending.TheVariants as pending
use Rattle.tree_building.specs.declared.building.Building.{Building}
use Rattle.tree_building.specs.declared.build.Built.{Built}
use Rattle.tree_building.specs.declared.fault.TreeFault.{TreeFault}
use Rattle.tree_building.specs.declared.fault.TreeReason.TheVariants as reasons
use Rattle.tree_building.proofs.Kept.{built_whole}
use Rattle.tree_building.proofs.OneElement.{block-built}
use Rattle.tree_building.proofs.RowCounts.{deepest-append}
use Rattle.tree_edits.specs.Sizes.{nodes_in, deepest_in}
use Rattle.tree_edits.proofs.Putting.{count-whole, deep-whole}

-- how many nodes there will be, and how deep the deepest element, with what came last and the items that are left
abbrev will_count : List Row → ℕ → Pending → List Item → ℕ
will_count rows around pending.Nothing its = length rows + nodes_in around false its
will_count rows around (pending.Start tag item) its = length rows + (1 + nodes_in (around + 1) false its)
will_count rows around (pending.Chars chars) its = length rows + (1 + nodes_in around true its)

abbrev will_reach : List Row → ℕ → Pending → List Item → ℕ
will_reach rows around pending.Nothing its = max (deepest_row 0 rows) (deepest_in around its)
will_reach rows around (pending.Start tag item) its = max (deepest_row 0 rows) (max (around + 1) (deepest_in (around + 1) its))
will_reach rows around (pending.Chars chars) its = max (deepest_row 0 rows) (deepest_in around its)

record Comes (n m : ℕ) (rows : List Row) (around : ℕ) (p : Pending) (its : List Item) : Type 0 where
  pub nodes : will_count rows around p its ≡ n
  pub depth : will_reach rows around p its ≡ m

abbrev Holds : ℕ → ℕ → List Item → Result Building TreeFault → Type 0
Holds n m its (Ok b) = Comes n m b.rows (length b.nest.elements) b.pending its
Holds n m its (Err fault) = Unit {0}

-- what holds where nothing waits
abbrev Rests : ℕ → ℕ → List Item → Result Building TreeFault → Type 0
Rests n m its (Ok b) = (b.pending ≡ pending.Nothing) × Comes n m b.rows (length b.nest.elements) pending.Nothing its
Rests n m its (Err fault) = Unit {0}

rests_then : (n m : ℕ) (its more : List Item) (r : Result Building TreeFault) (f : Building → Result Building TreeFault) → Rests n m its r
    → ((b : Building) → b.pending ≡ pending.Nothing → Comes n m b.rows (length b.nest.elements) pending.Nothing its → Holds n m more (f b)) → Holds n m more (r >>= f)
rests_then n m its more (Ok b) f h step = step b h.0 h.1
rests_then n m its more (Err fault) f h step = tt

holds_unless : (n m : ℕ) (its : List Item) (t : Bool) (x y : Result Building TreeFault) → (t ≡ true → Holds n m its x) → (t ≡ false → Holds n m its y)
    → Holds n m its (if t then x else y)
holds_unless n m its true x y hx hy = hx refl
holds_unless n m its false x y hx hy = hy refl

if_true : (t : Bool) (x y : ℕ) → t ≡ true → (if t then x else y) ≡ x
if_true true x y e = refl
if_true false x y e = cc

if_false : (t : Bool) (x y : ℕ) → t ≡ false → (if t then x else y) ≡ y
if_false true x y e = cc
if_false false x y e = refl

one_row : (rows : List Row) (row : Row) → length (rows ++ row ∷ []) ≡ length rows + 1
one_row rows row = grind (arith, common_steps)

one_inside : (element : OpenElement) (elements : List OpenElement) → length (element ∷ elements) ≡ length elements + 1
one_inside element elements = omega arith

-- the items do not go on with a text
abbrev Breaks : List Item → Type 0
Breaks its = (around : ℕ) → nodes_in around true its ≡ nodes_in around false its

tag_rests : (n m : ℕ) (b : Building) (tag : Tag) (item : ℕ) (its : List Item) (found : Option NameReason)
    → Comes n m b.rows (length b.nest.elements) (pending.Start tag item) its → Rests n m its (tag_by b tag item found)
tag_rests n m b tag item its (Some reason) g = tt
tag_rests n m b tag item its None g =
    let w = with_element b tag.name (element_row b tag) in
    let around : length w.nest.elements ≡ length b.nest.elements + 1 = omega arith in
    let k = nodes_in (length b.nest.elements + 1) false its in
    let d = deepest_in (length b.nest.elements + 1) its in (
      refl,
      record {
        nodes = ap (λ o. length w.rows + nodes_in o false its) around ∙ ap (λ r. r + k) (one_row b.rows (element_row b tag)) ∙ omega (arith, g.nodes);
        depth = ap (λ o. max (deepest_row 0 w.rows) (deepest_in o its)) around ∙ ap (λ r. max r d) (deepest-append 0 b.rows (element_row b tag ∷ []))
            ∙ omega (arith, g.depth);
      },
    )

-- what came last becomes a node
settled_rests : (n m : ℕ) (b : Building) (p : Pending) (its : List Item) → b.pending ≡ p → Breaks its → Comes n m b.rows (length b.nest.elements) p its
    → Rests n m its (settled_by b p)
settled_rests n m b pending.Nothing its e breaks g = (e, g)
settled_rests n m b (pending.Start tag item) its e breaks g = tag_rests n m b tag item its (fault_of b.rules (scope_in b.nest) tag) g
settled_rests n m b (pending.Chars chars) its e breaks g =
    let row = text_row b chars in
    let o = length b.nest.elements in (
      refl,
      record {
        nodes = ap (λ r. r + nodes_in o false its) (one_row b.rows row) ∙ ap (λ k. length b.rows + 1 + k) (sym (breaks o)) ∙ omega (arith, g.nodes);
        depth = ap (λ r. max r (deepest_in o its)) (deepest-append 0 b.rows (row ∷ [])) ∙ omega (arith, g.depth);
      },
    )

counted_holds : (n m : ℕ) (b : Building) (p : Pending) (its : List Item) → b.pending ≡ p → Comes n m b.rows (length b.nest.elements) p its → Holds n m its (Ok (counted b))
counted_holds n m b p its e g = subst (λ q. Comes n m b.rows (length b.nest.elements) q its) (sym e) g

started_holds : (n m : ℕ) (name : List ℕ) (more : List Item) (b : Building) → Comes n m b.rows (length b.nest.elements) pending.Nothing (items.Start name ∷ more)
    → Holds n m more (started name b)
started_holds n m name more b g =
    holds_unless n m more (length b.nest.elements == 0 && b.rooted) (refused b reasons.TwoRoots) _ (λ t. tt)
    (λ t. holds_unless n m more (past b.rules.levels (length b.nest.elements + 1)) (refused b reasons.TooDeep) _ (λ t. tt)
    (λ t. holds_unless n m more (past b.rules.nodes b.next) (refused b reasons.TooManyNodes) _ (λ t. tt)
    (λ t. record { nodes = g.nodes; depth = g.depth })))

lined_holds : (n m : ℕ) (name value : List ℕ) (more : List Item) (b : Building) (p : Pending) → Comes n m b.rows (length b.nest.elements) p (items.Attr name value ∷ more)
    → Holds n m more (lined b p (record { name = name; value = value }))
lined_holds n m name value more b pending.Nothing g = tt
lined_holds n m name value more b (pending.Chars chars) g = tt
lined_holds n m name value more b (pending.Start tag item) g = record { nodes = g.nodes; depth = g.depth }

text_begins : (n m : ℕ) (chars : List ℕ) (more : List Item) (b : Building) → b.pending ≡ pending.Nothing
    → Comes n m b.rows (length b.nest.elements) pending.Nothing (items.Chars chars ∷ more) → Holds n m more (text_begun chars b)
text_begins n m chars more b e g =
    let o = length b.nest.elements in
    let inner : ℕ = if length chars == 0 then nodes_in o false more else 1 + nodes_in o true more in
    holds_unless n m more (o == 0) _ _
    (λ t. holds_unless n m more (is_white chars) (Ok (counted b)) (refused b reasons.TextOutside)
    (λ w. counted_holds n m b pending.Nothing more e (record {
      nodes = ap (λ k. length b.rows + k) (sym (if_true (o == 0) (nodes_in o false more) inner t)) ∙ g.nodes;
      depth = g.depth;
    })) (λ w. tt))
    (λ t. let within : length b.rows + inner ≡ n = ap (λ k. length b.rows + k) (sym (if_false (o == 0) (nodes_in o false more) inner t)) ∙ g.nodes in
    holds_unless n m more (is_empty chars) (Ok (counted b)) _
    (λ w. counted_holds n m b pending.Nothing more e (record {
      nodes = ap (λ k. length b.rows + k) (sym (if_true (length chars == 0) (nodes_in o false more) (1 + nodes_in o true more) w)) ∙ within;
      depth = g.depth;
    }))
    (λ w. holds_unless n m more (past b.rules.nodes b.next) (refused b reasons.TooManyNodes) _ (λ s. tt)
    (λ s. record {
      nodes = ap (λ k. length b.rows + k) (sym (if_false (length chars == 0) (nodes_in o false more) (1 + nodes_in o true more) w)) ∙ within;
      depth = g.depth;
    })))

text_holds : (n m : ℕ) (chars : List ℕ) (more : List Item) (b : Building) (p : Pending) → b.pending ≡ p
    → Comes n m b.rows (length b.nest.elements) p (items.Chars chars ∷ more) → Holds n m more (text_by chars b p)
text_holds n m chars more b pending.Nothing e g = text_begins n m chars more b e g
text_holds n m chars more b (pending.Start tag item) e g =
    rests_then n m (items.Chars chars ∷ more) more (tag_by b tag item (fault_of b.rules (scope_in b.nest) tag)) (text_begun chars)
    (tag_rests n m b tag item (items.Chars chars ∷ more) (fault_of b.rules (scope_in b.nest) tag) g) (λ b e g. text_begins n m chars more b e g)
text_holds n m chars more b (pending.Chars first) e g = record { nodes = g.nodes; depth = g.depth }

one_less : (elements : List OpenElement) → length (without_first elements) ≡ length elements - 1
one_less [] = refl
one_less (element ∷ elements) = omega arith

ended_holds : (n m : ℕ) (name : List ℕ) (more : List Item) (b : Building) → b.pending ≡ pending.Nothing
    → Comes n m b.rows (length b.nest.elements) pending.Nothing (items.Close name ∷ more) → Holds n m more (ended name b)
ended_holds n m name more b e g =
    holds_unless n m more (closes name b.nest.elements) (Ok (record (counted b) { nest = closed b.nest })) (refused b reasons.EndMismatch)
    (λ c. subst (λ q. Comes n m b.rows (length (without_first b.nest.elements)) q more) (sym e) (record {
      nodes = ap (λ k. length b.rows + nodes_in k false more) (one_less b.nest.elements) ∙ g.nodes;
      depth = ap (λ k. max (deepest_row 0 b.rows) (deepest_in k more)) (one_less b.nest.elements) ∙ g.depth;
    })) (λ c. tt)

passed_holds : (n m : ℕ) (more : List Item) (b : Building) (p : Pending) → b.pending ≡ p
    → Comes n m b.rows (length b.nest.elements) p (items.Instruction ∷ more) → Holds n m more (tag_closed_by b p >>= passed)
passed_holds n m more b pending.Nothing e g = counted_holds n m b pending.Nothing more e (record { nodes = g.nodes; depth = g.depth })
passed_holds n m more b (pending.Chars chars) e g = counted_holds n m b (pending.Chars chars) more e (record { nodes = g.nodes; depth = g.depth })
passed_holds n m more b (pending.Start tag item) e g =
    rests_then n m (items.Instruction ∷ more) more (tag_by b tag item (fault_of b.rules (scope_in b.nest) tag)) passed
    (tag_rests n m b tag item (items.Instruction ∷ more) (fault_of b.rules (scope_in b.nest) tag) g)
    (λ b e g. counted_holds n m b pending.Nothing more e (record { nodes = g.nodes; depth = g.depth }))

took_holds : (n m : ℕ) (item : Item) (more : List Item) (b : Building) → Comes n m b.rows (length b.nest.elements) b.pending (item ∷ more) → Holds n m more (took b item)
took_holds n m (items.Start name) more b g =
    rests_then n m (items.Start name ∷ more) more (settled_by b b.pending) (started name)
    (settled_rests n m b b.pending (items.Start name ∷ more) refl (λ o. refl) g) (λ b e g. started_holds n m name more b g)
took_holds n m (items.Attr name value) more b g = lined_holds n m name value more b b.pending g
took_holds n m (items.Chars chars) more b g = text_holds n m chars more b b.pending refl g
took_holds n m (items.Close name) more b g =
    rests_then n m (items.Close name ∷ more) more (settled_by b b.pending) (ended name)
    (settled_rests n m b b.pending (items.Close name ∷ more) refl (λ o. refl) g) (λ b e g. ended_holds n m name more b e g)
took_holds n m items.Instruction more b g = passed_holds n m more b b.pending refl g
took_holds n m (items.Schema locations) more b g = tt
took_holds n m items.Document more b g = tt
took_holds n m items.Edits more b g = tt
took_holds n m items.End more b g = tt
took_holds n m items.Dot more b g = tt
took_holds n m (items.Command line) more b g = tt

after_holds : (n m : ℕ) (r : Result Building TreeFault) (item : Item) (more : List Item) → Holds n m (item ∷ more) r → Holds n m more (after r item)
after_holds n m (Ok b) item more g = took_holds n m item more b g
after_holds n m (Err fault) item more g = tt

all_hold : (n m : ℕ) (its : List Item) (r : Result Building TreeFault) → Holds n m its r → Holds n m [] (after_all r its)
all_hold n m [] r g = g
all_hold n m (item ∷ more) r g = all_hold n m more (after r item) (after_holds n m r item more g)

abbrev Ends : ℕ → ℕ → Result Built TreeFault → Type 0
Ends n m (Ok end) = (length end.rows ≡ n) × (deepest_row 0 end.rows ≡ m)
Ends n m (Err fault) = Unit {0}

ends_if : (n m : ℕ) (t : Bool) (x y : Result Built TreeFault) → Ends n m x → Ends n m y → Ends n m (if t then x else y)
ends_if n m true x y hx hy = hx
ends_if n m false x y hx hy = hy

finished_ends : (n m : ℕ) (r : Result Building TreeFault) → Rests n m [] r → Ends n m (r >>= finished)
finished_ends n m (Ok b) h =
    let k : length b.rows ≡ n = omega (arith, h.1.nodes) in
    let d : deepest_row 0 b.rows ≡ m = omega (arith, h.1.depth) in
    ends_if n m (length b.nest.elements == 0) _ (refused b reasons.Unclosed)
    (ends_if n m b.rooted (Ok (record { rows = b.rows; next = b.next })) (refused b reasons.NoRoot) (k, d) tt) tt
finished_ends n m (Err fault) h = tt

ended_ends : (n m : ℕ) (r : Result Building TreeFault) → Holds n m [] r → Ends n m (r >>= ended_all)
ended_ends n m (Ok b) g = finished_ends n m (settled_by b b.pending) (settled_rests n m b b.pending [] refl (λ o. refl) g)
ended_ends n m (Err fault) g = tt

built_ends : (scope : List Binding) (its : List Item) → Ends (nodes_in 0 false its) (deepest_in 0 its) (built block_rules scope its)
built_ends scope its =
    let n = nodes_in 0 false its in
    let m = deepest_in 0 its in
    let start : Comes n m [] 0 pending.Nothing its = record { nodes = omega arith; depth = omega arith } in
    ended_ends n m (after_all (Ok (nothing block_rules scope)) its) (all_hold n m its (Ok (nothing block_rules scope)) start)

sized : (scope : List Binding) (its : List Item) (r : Result Built TreeFault) → built block_rules scope its ≡ r → is_ok r ≡ true → Ends (nodes_in 0 false its) (deepest_in 0 its) r
    → (count (forest_of r) ≡ nodes_in 0 false its) × (deepest_of 1 (forest_of r) ≡ deepest_in 0 its)
sized scope its (Ok end) e ok ends =
    let whole = built_whole block_rules scope its end e in
    (count-whole end.rows whole ∙ ends.0, deep-whole 0 end.rows whole ∙ ends.1)
sized scope its (Err fault) e ok ends = absurd (cc ok)

-- the nodes of one element, and its depth
block_sized : (scope : List Binding) (its : List Item) → one_element its ≡ true
    → (count (block scope its) ≡ nodes_in 0 false its) × (deepest_of 1 (block scope its) ≡ deepest_in 0 its)
block_sized scope its one =
    sized scope its (built block_rules scope its) refl (block-built scope its ∙ one) (built_ends scope its)

pub block_count : (scope : List Binding) (its : List Item) → one_element its ≡ true → count (block scope its) ≡ nodes_in 0 false its
block_count scope its one = (block_sized scope its one).0

pub block_depth : (scope : List Binding) (its : List Item) → one_element its ≡ true → deepest_of 1 (block scope its) ≡ deepest_in 0 its
block_depth scope its one = (block_sized scope its one).1

-- no items are left
pub no_item : (its : List Item) → length its ≡ 0 → [] ≡ its
no_item [] e = refl
no_item (item ∷ its) e = absurd (omega (arith, e))
