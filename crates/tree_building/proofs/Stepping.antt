-- One item behind others: the builder stands behind it, or refuses it as the tests say.
use Rattle.std.proofs.Common.{◌≡◌, ◌⊎◌, inl, inr, ℕ, ◌+◌, ◌≤◌, ◌<◌, List, [], ◌∷◌, ◌++◌, Bool, true, false, not, ◌==◌, ◌&&◌, ◌||◌, Option, Some, None, Result, Ok, Err, if◌then◌else◌, length, map, refl, sym, ap, ◌∙◌, arith, nat_lt, append_assoc, append-nil, subst}
use Rattle.std.proofs.lemmas.Bool.Decides.{nat_tests}
use Rattle.item_listing.specs.declared.item.Item.{Item}
use Rattle.item_listing.specs.declared.item.Item.TheVariants as items
use Rattle.xs_names.specs.White.{is_white}
use Rattle.tag_names.specs.declared.lines.AttributeLine.{AttributeLine}
use Rattle.tag_names.specs.declared.lines.Tag.{Tag}
use Rattle.tree_rows.specs.declared.row.Binding.{Binding}
use Rattle.tree_rows.specs.declared.row.Row.{Row}
use Rattle.tree_building.specs.Building.{◌>>=◌, settled_by, started, text_begun, text_by, ended, passed, took, finished, ended_all, after_all, built, document}
use Rattle.tree_building.specs.Nest.{OpenElement, without_first, closes as closes_element}
use Rattle.tree_building.specs.Rules.{document_rules}
use Rattle.tree_building.specs.Steps.{holds_chars}
use Rattle.tree_building.specs.declared.pending.Pending.{Pending}
use Rattle.tree_building.specs.declared.pending.Pending.TheVariants as pending
use Rattle.tree_building.specs.declared.building.Building.{Building}
use Rattle.tree_building.specs.declared.build.Built.{Built}
use Rattle.tree_building.specs.declared.fault.TreeFault.{TreeFault}
use Rattle.tree_building.specs.declared.fault.TreeReason.{TreeReason}
use Rattle.tree_building.specs.declared.fault.TreeReason.TheVariants as reasons
use Rattle.tree_building.specs.Spelling.{line_item}
use Rattle.tree_building.specs.Fronts.{with_line, outer_tags, open_tags, scope_inside, have_start, end_in_tag, end_in_text, is_empty, text_after, begins_node, node_count}
use Rattle.tree_building.specs.Refusals.{Begin, closes, first_of, tests, RefusesItem, IsRefused, begin_with_line}
use Rattle.tree_building.proofs.States.{At, Outside, some_open, empty_text}
use Rattle.tree_building.proofs.FrontLaws.{open_behind, in_tag_behind, in_text_behind, start_behind, nodes_item, length_item, elements_of, element_count, lines_behind}
use Rattle.tree_building.proofs.Begun.{start, begin_inside, begin_outside, no_begin}
use Rattle.tree_building.proofs.Refusing.{WaitsTag, WaitsText, WaitsNot, Waits, waiting, Inside, Before, Stands, Answers, Settled, Settles, settles_by}

-- an item that a test refuses
pub refuses : (scope : List Binding) (front : List Item) (item : Item) (more : List Item) (b : Building) (reason : TreeReason)
    → after_all (start scope) front ≡ Ok b → Begin scope front → took b item ≡ Err (record { item = length front; reason = reason })
    → first_of (tests front item) ≡ Some reason → RefusesItem scope (front ++ (item ∷ more)) (length front) reason
refuses scope front item more b reason reached begins refused why =
    record { front = front; item = item; more = more; are = refl; at = refl; begins = begins; ends = no_begin scope front item b _ reached refused; why = why }

-- the item behind which the builder stands, what comes next, and so on, are those of the front with the item
pub stands_at : (scope : List Binding) (front : List Item) (item : Item) (rows : List Row) (elements : List OpenElement) (last : Pending) (next : ℕ)
    → At rows scope elements last next (length front + 1) ≡ At rows scope elements last next (length (front ++ item ∷ []))
stands_at scope front item rows elements last next = ap (At rows scope elements last next) (sym (length_item front item))

pub rooted_still : (front : List Item) (item : Item) → have_start front ≡ true → have_start (front ++ item ∷ []) ≡ true
rooted_still front item root = rw (start_behind front item, root) refl

-- what came last settles, and then the item is taken
pub settles_then : (scope : List Binding) (front : List Item) (item : Item) (more : List Item) (b : Building) (k : Building → Result Building TreeFault) (r : Result Building TreeFault)
    → settled_by b b.pending ≡ r → Settles scope front b r → begin_with_line (item ∷ more) ≡ false
    → ((s : Building) → settled_by b b.pending ≡ Ok s → Settled scope front b s → Answers scope front item more (k s)) → Answers scope front item more (r >>= k)
settles_then scope front item more b k (Ok s) is settles gone follows = follows s is settles
settles_then scope front item more b k (Err fault) is settles gone follows = settles (item ∷ more) gone

begins_settled : (scope : List Binding) (front : List Item) (b s : Building) → after_all (start scope) front ≡ Ok b → Settled scope front b s → Begin scope front
begins_settled scope front b s reached w =
    begin_inside scope front b w.rows (elements_of scope w.tags) w.next (length front) reached (w.settles ∙ ap Ok w.is)

-- a start
start_answers : (scope : List Binding) (front : List Item) (name : List ℕ) (more : List Item) (b : Building) (rows : List Row) (tags : List Tag) (next : ℕ)
    → after_all (start scope) front ≡ Ok b → Begin scope front → open_tags front ≡ tags → have_start front ≡ true → node_count front + 1 ≡ next → (deep full many : Bool)
    → tests front (items.Start name) ≡ (deep, reasons.TwoRoots) ∷ (full, reasons.TooDeep) ∷ (many, reasons.TooManyNodes) ∷ []
    → (let r : Result Building TreeFault = if deep then Err (record { item = length front; reason = reasons.TwoRoots })
    else (if full then Err (record { item = length front; reason = reasons.TooDeep })
    else (if many then Err (record { item = length front; reason = reasons.TooManyNodes })
    else Ok (At rows scope (elements_of scope tags) (pending.Start (record { name = name; attributes = [] }) (length front)) next (length front + 1)))) in
    took b (items.Start name) ≡ r → Answers scope front (items.Start name) more r)
start_answers scope front name more b rows tags next reached begins shown root nodes true full many tested took_is =
    refuses scope front (items.Start name) more b reasons.TwoRoots reached begins took_is (ap first_of tested)
start_answers scope front name more b rows tags next reached begins shown root nodes false true many tested took_is =
    refuses scope front (items.Start name) more b reasons.TooDeep reached begins took_is (ap first_of tested)
start_answers scope front name more b rows tags next reached begins shown root nodes false false true tested took_is =
    refuses scope front (items.Start name) more b reasons.TooManyNodes reached begins took_is (ap first_of tested)
start_answers scope front name more b rows tags next reached begins shown root nodes false false false tested took_is =
    let one = nodes_item front (items.Start name) in
    inr (record {
      rows = rows;
      tags = tags;
      last = pending.Start (record { name = name; attributes = [] }) (length front);
      next = next;
      is = stands_at scope front (items.Start name) rows (elements_of scope tags) (pending.Start (record { name = name; attributes = [] }) (length front)) next;
      root = rooted_still front (items.Start name) root;
      waits = record {
        before = front;
        are = refl;
        at = refl;
        begins = begins;
        well = ap first_of tested;
        outside = shown;
        opens = open_behind front (items.Start name) ∙ ap (λ t. record { name = name; attributes = [] } ∷ t) shown;
        in_tag = in_tag_behind front (items.Start name);
        in_text = in_text_behind front (items.Start name);
      };
      nodes = ap (λ n. n + 1) one ∙ ap (λ n. n + 1) nodes;
    })

pub start_settled : (scope : List Binding) (front : List Item) (name : List ℕ) (more : List Item) (b s : Building)
    → after_all (start scope) front ≡ Ok b → settled_by b b.pending ≡ Ok s → Settled scope front b s → Answers scope front (items.Start name) more (started name s)
start_settled scope front name more b s reached settled w =
    let elements : List OpenElement = elements_of scope w.tags in
    let depth : length (open_tags front) ≡ length elements = ap length w.opens ∙ sym (element_count scope w.tags) in
    let tested : tests front (items.Start name) ≡ ((length elements == 0) && true, reasons.TwoRoots) ∷ (nat_lt 128 (length elements + 1), reasons.TooDeep) ∷ (nat_lt 131072 w.next, reasons.TooManyNodes) ∷ [] =
    ap (λ d. ((d == 0) && have_start front, reasons.TwoRoots) ∷ (nat_lt 128 (d + 1), reasons.TooDeep) ∷ (nat_lt 131072 (node_count front + 1), reasons.TooManyNodes) ∷ []) depth
    ∙ ap (λ r. ((length elements == 0) && r, reasons.TwoRoots) ∷ (nat_lt 128 (length elements + 1), reasons.TooDeep) ∷ (nat_lt 131072 (node_count front + 1), reasons.TooManyNodes) ∷ []) w.root
    ∙ ap (λ n. ((length elements == 0) && true, reasons.TwoRoots) ∷ (nat_lt 128 (length elements + 1), reasons.TooDeep) ∷ (nat_lt 131072 n, reasons.TooManyNodes) ∷ []) w.nodes in
    subst (λ s. Answers scope front (items.Start name) more (started name s)) (sym w.is)
    (start_answers scope front name more b w.rows w.tags w.next reached (begins_settled scope front b s reached w) w.opens w.root w.nodes
    ((length elements == 0) && true) (nat_lt 128 (length elements + 1)) (nat_lt 131072 w.next) tested
    (ap (λ r. r >>= started name) settled ∙ ap (started name) w.is))

-- an end
same_closes : (scope : List Binding) (name : List ℕ) (tags : List Tag) → closes name tags ≡ closes_element name (elements_of scope tags)
same_closes scope name [] = refl
same_closes scope name (tag ∷ tags) = refl

same_outer : (scope : List Binding) (tags : List Tag) → without_first (elements_of scope tags) ≡ elements_of scope (outer_tags tags)
same_outer scope [] = refl
same_outer scope (tag ∷ tags) = refl

close_answers : (scope : List Binding) (front : List Item) (name : List ℕ) (more : List Item) (b : Building) (rows : List Row) (tags : List Tag) (next : ℕ)
    → after_all (start scope) front ≡ Ok b → Begin scope front → open_tags front ≡ tags → have_start front ≡ true → node_count front + 1 ≡ next → (meets : Bool) → closes name (open_tags front) ≡ meets
    → (let r : Result Building TreeFault = if meets then Ok (At rows scope (without_first (elements_of scope tags)) pending.Nothing next (length front + 1))
    else Err (record { item = length front; reason = reasons.EndMismatch }) in
    took b (items.Close name) ≡ r → Answers scope front (items.Close name) more r)
close_answers scope front name more b rows tags next reached begins shown root nodes false meets took_is =
    refuses scope front (items.Close name) more b reasons.EndMismatch reached begins took_is (rw meets refl)
close_answers scope front name more b rows tags next reached begins shown root nodes true meets took_is =
    let one = nodes_item front (items.Close name) in
    inr (record {
      rows = rows;
      tags = outer_tags tags;
      last = pending.Nothing;
      next = next;
      is = ap (λ e. At rows scope e pending.Nothing next (length front + 1)) (same_outer scope tags)
          ∙ stands_at scope front (items.Close name) rows (elements_of scope (outer_tags tags)) pending.Nothing next;
      root = rooted_still front (items.Close name) root;
      waits = record {
        opens = open_behind front (items.Close name) ∙ ap outer_tags shown;
        in_tag = in_tag_behind front (items.Close name);
        in_text = λ some. in_text_behind front (items.Close name);
      };
      nodes = let total = nodes in omega (arith, one, total);
    })

pub close_settled : (scope : List Binding) (front : List Item) (name : List ℕ) (more : List Item) (b s : Building)
    → after_all (start scope) front ≡ Ok b → settled_by b b.pending ≡ Ok s → Settled scope front b s → Answers scope front (items.Close name) more (ended name s)
close_settled scope front name more b s reached settled w =
    let meets : Bool = closes_element name (elements_of scope w.tags) in
    subst (λ s. Answers scope front (items.Close name) more (ended name s)) (sym w.is)
    (close_answers scope front name more b w.rows w.tags w.next reached (begins_settled scope front b s reached w) w.opens w.root w.nodes
    meets (ap (closes name) w.opens ∙ same_closes scope name w.tags) (ap (λ r. r >>= ended name) settled ∙ ap (ended name) w.is))

-- an instruction
pub pass_settled : (scope : List Binding) (front : List Item) (more : List Item) (b s : Building) → Settled scope front b s → holds_chars b.pending ≡ false
    → Answers scope front items.Instruction more (passed s)
pass_settled scope front more b s w fresh =
    let one = nodes_item front items.Instruction in
    let total = w.nodes in
    subst (λ s. Answers scope front items.Instruction more (passed s)) (sym w.is)
    (inr (record {
      rows = w.rows;
      tags = w.tags;
      last = pending.Nothing;
      next = w.next;
      is = stands_at scope front items.Instruction w.rows (elements_of scope w.tags) pending.Nothing w.next;
      root = rooted_still front items.Instruction w.root;
      waits = record {
        opens = open_behind front items.Instruction ∙ w.opens;
        in_tag = in_tag_behind front items.Instruction;
        in_text = λ some. in_text_behind front items.Instruction ∙ w.in_text some fresh;
      };
      nodes = omega (arith, one, total);
    }))

-- characters where none wait
pub no_node : (front : List Item) (chars : List ℕ) → begins_node front (items.Chars chars) ≡ false → node_count (front ++ items.Chars chars ∷ []) ≡ node_count front
no_node front chars none = nodes_item front (items.Chars chars) ∙ ap (λ b. node_count front + (if b then 1 else 0)) none ∙ omega arith

pub and_false : (a : Bool) → (a && false) ≡ false
and_false true = refl
and_false false = refl

space_answers : (scope : List Binding) (front : List Item) (own : List ℕ) (more : List Item) (b : Building) (rows : List Row) (next : ℕ)
    → after_all (start scope) front ≡ Ok b → Begin scope front → open_tags front ≡ [] → have_start front ≡ true → node_count front + 1 ≡ next → (white : Bool) → is_white own ≡ white
    → (let r : Result Building TreeFault = if white then Ok (At rows scope [] pending.Nothing next (length front + 1)) else Err (record { item = length front; reason = reasons.TextOutside }) in
    took b (items.Chars own) ≡ r → Answers scope front (items.Chars own) more r)
space_answers scope front own more b rows next reached begins shown root nodes false white took_is =
    refuses scope front (items.Chars own) more b reasons.TextOutside reached begins took_is (rw (shown, white) refl)
space_answers scope front own more b rows next reached begins shown root nodes true white took_is =
    let none : begins_node front (items.Chars own) ≡ false = rw shown refl in
    let one = no_node front own none in
    inr (record {
      rows = rows;
      tags = [];
      last = pending.Nothing;
      next = next;
      is = stands_at scope front (items.Chars own) rows [] pending.Nothing next;
      root = rooted_still front (items.Chars own) root;
      waits = record {
        opens = open_behind front (items.Chars own) ∙ shown;
        in_tag = in_tag_behind front (items.Chars own);
        in_text = λ some. absurd (omega (arith, some));
      };
      nodes = let total = nodes in omega (arith, one, total);
    })

text_answers : (scope : List Binding) (front : List Item) (c : ℕ) (cs : List ℕ) (more : List Item) (b : Building) (rows : List Row) (tag : Tag) (tags : List Tag) (next : ℕ)
    → after_all (start scope) front ≡ Ok b → Begin scope front → open_tags front ≡ tag ∷ tags → have_start front ≡ true → end_in_text front ≡ false → node_count front + 1 ≡ next
    → (many : Bool) → nat_lt 131072 next ≡ many
    → (let r : Result Building TreeFault = if many then Err (record { item = length front; reason = reasons.TooManyNodes })
    else Ok (At rows scope (elements_of scope (tag ∷ tags)) (pending.Chars (c ∷ cs)) next (length front + 1)) in
    took b (items.Chars (c ∷ cs)) ≡ r → Answers scope front (items.Chars (c ∷ cs)) more r)
text_answers scope front c cs more b rows tag tags next reached begins shown root fresh nodes true many took_is =
    let filled : is_empty (c ∷ cs) ≡ false = (let some : 1 ≤ length (c ∷ cs) = omega arith in grind (arith, nat_tests, some)) in
    let inside : (length (tag ∷ tags) == 0) ≡ false = (let some : 1 ≤ length (tag ∷ tags) = omega arith in grind (arith, nat_tests, some)) in
    refuses scope front (items.Chars (c ∷ cs)) more b reasons.TooManyNodes reached begins took_is (rw (shown, inside, filled, fresh, nodes, many) refl)
text_answers scope front c cs more b rows tag tags next reached begins shown root fresh nodes false many took_is =
    let filled : is_empty (c ∷ cs) ≡ false = (let some : 1 ≤ length (c ∷ cs) = omega arith in grind (arith, nat_tests, some)) in
    let inside : (length (tag ∷ tags) == 0) ≡ false = (let some : 1 ≤ length (tag ∷ tags) = omega arith in grind (arith, nat_tests, some)) in
    let node : begins_node front (items.Chars (c ∷ cs)) ≡ true = rw (shown, inside, filled, fresh) refl in
    let one = nodes_item front (items.Chars (c ∷ cs)) ∙ ap (λ b. node_count front + (if b then 1 else 0)) node in
    inr (record {
      rows = rows;
      tags = tag ∷ tags;
      last = pending.Chars (c ∷ cs);
      next = next;
      is = stands_at scope front (items.Chars (c ∷ cs)) rows (elements_of scope (tag ∷ tags)) (pending.Chars (c ∷ cs)) next;
      root = rooted_still front (items.Chars (c ∷ cs)) root;
      waits = record {
        opens = open_behind front (items.Chars (c ∷ cs)) ∙ shown;
        in_tag = in_tag_behind front (items.Chars (c ∷ cs));
        in_text = in_text_behind front (items.Chars (c ∷ cs)) ∙ rw filled refl;
        within = omega arith;
      };
      nodes = let total = nodes in omega (arith, one, total);
    })

empty_answers : (scope : List Binding) (front : List Item) (more : List Item) (rows : List Row) (tag : Tag) (tags : List Tag) (next : ℕ)
    → open_tags front ≡ tag ∷ tags → have_start front ≡ true → end_in_text front ≡ false → node_count front + 1 ≡ next
    → Answers scope front (items.Chars []) more (Ok (At rows scope (elements_of scope (tag ∷ tags)) pending.Nothing next (length front + 1)))
empty_answers scope front more rows tag tags next shown root fresh nodes =
    let none : begins_node front (items.Chars []) ≡ false = and_false (not (length (open_tags front) == 0)) in
    let one = no_node front [] none in
    inr (record {
      rows = rows;
      tags = tag ∷ tags;
      last = pending.Nothing;
      next = next;
      is = stands_at scope front (items.Chars []) rows (elements_of scope (tag ∷ tags)) pending.Nothing next;
      root = rooted_still front (items.Chars []) root;
      waits = record {
        opens = open_behind front (items.Chars []) ∙ shown;
        in_tag = in_tag_behind front (items.Chars []);
        in_text = λ some. in_text_behind front (items.Chars []) ∙ fresh;
      };
      nodes = let total = nodes in omega (arith, one, total);
    })

empty_begun : (rows : List Row) (scope : List Binding) (tag : Tag) (tags : List Tag) (next taken : ℕ)
    → text_begun [] (At rows scope (elements_of scope (tag ∷ tags)) pending.Nothing next taken) ≡ Ok (At rows scope (elements_of scope (tag ∷ tags)) pending.Nothing next (taken + 1))
empty_begun rows scope tag tags next taken = empty_text rows scope _ (elements_of scope tags) next taken

some_begun : (c : ℕ) (cs : List ℕ) (rows : List Row) (scope : List Binding) (tag : Tag) (tags : List Tag) (next taken : ℕ)
    → text_begun (c ∷ cs) (At rows scope (elements_of scope (tag ∷ tags)) pending.Nothing next taken)
    ≡ (if nat_lt 131072 next then Err (record { item = taken; reason = reasons.TooManyNodes }) else Ok (At rows scope (elements_of scope (tag ∷ tags)) (pending.Chars (c ∷ cs)) next (taken + 1)))
some_begun c cs rows scope tag tags next taken =
    let filled : (length (c ∷ cs) == 0) ≡ false = (let some : 1 ≤ length (c ∷ cs) = omega arith in grind (arith, nat_tests, some)) in
    rw (some_open (record { name = tag.name; scope = scope_inside scope (tag ∷ tags) }) (elements_of scope tags), filled) refl

chars_at : (scope : List Binding) (front : List Item) (own : List ℕ) (more : List Item) (b : Building) (rows : List Row) (tags : List Tag) (next : ℕ)
    → after_all (start scope) front ≡ Ok b → Begin scope front → open_tags front ≡ tags → have_start front ≡ true → (1 ≤ length tags → end_in_text front ≡ false) → node_count front + 1 ≡ next
    → took b (items.Chars own) ≡ text_begun own (At rows scope (elements_of scope tags) pending.Nothing next (length front))
    → Answers scope front (items.Chars own) more (text_begun own (At rows scope (elements_of scope tags) pending.Nothing next (length front)))
chars_at scope front own more b rows [] next reached begins shown root fresh nodes took_is =
    space_answers scope front own more b rows next reached begins shown root nodes (is_white own) refl took_is
chars_at scope front [] more b rows (tag ∷ tags) next reached begins shown root fresh nodes took_is =
    subst (Answers scope front (items.Chars []) more) (sym (empty_begun rows scope tag tags next (length front)))
    (empty_answers scope front more rows tag tags next shown root (fresh (omega arith)) nodes)
chars_at scope front (c ∷ cs) more b rows (tag ∷ tags) next reached begins shown root fresh nodes took_is =
    let same = some_begun c cs rows scope tag tags next (length front) in
    subst (Answers scope front (items.Chars (c ∷ cs)) more) (sym same)
    (text_answers scope front c cs more b rows tag tags next reached begins shown root (fresh (omega arith)) nodes (nat_lt 131072 next) refl (took_is ∙ same))

pub chars_settled : (scope : List Binding) (front : List Item) (own : List ℕ) (more : List Item) (b s : Building)
    → after_all (start scope) front ≡ Ok b → took b (items.Chars own) ≡ text_begun own s → Settled scope front b s → holds_chars b.pending ≡ false
    → Answers scope front (items.Chars own) more (text_begun own s)
chars_settled scope front own more b s reached took_is w fresh =
    subst (λ s. Answers scope front (items.Chars own) more (text_begun own s)) (sym w.is)
    (chars_at scope front own more b w.rows w.tags w.next reached (begins_settled scope front b s reached w) w.opens w.root (λ some. w.in_text some fresh) w.nodes
    (took_is ∙ ap (text_begun own) w.is))
