-- Whatever items build no document are refused as the tests say.
use Rattle.std.proofs.Common.{◌≡◌, ◌⊎◌, inl, inr, ℕ, ◌+◌, ◌≤◌, ◌<◌, List, [], ◌∷◌, ◌++◌, Bool, true, false, not, ◌==◌, ◌&&◌, Option, Some, None, Result, Ok, Err, if◌then◌else◌, length, map, refl, sym, ap, ◌∙◌, arith, nat_lt, append_assoc, append-nil, subst}
use Rattle.std.proofs.lemmas.Bool.Decides.{nat_tests}
use Rattle.item_listing.specs.declared.item.Item.{Item}
use Rattle.item_listing.specs.declared.item.Item.TheVariants as items
use Rattle.xs_names.specs.White.{is_white}
use Rattle.tag_names.specs.declared.fault.NameReason.{NameReason}
use Rattle.tag_names.specs.declared.lines.AttributeLine.{AttributeLine}
use Rattle.tag_names.specs.declared.lines.Tag.{Tag}
use Rattle.tree_rows.specs.Forest.{Document}
use Rattle.tree_rows.specs.declared.row.Binding.{Binding}
use Rattle.tree_rows.specs.declared.row.Row.{Row}
use Rattle.tree_building.specs.Building.{◌>>=◌, settled_by, started, text_begun, ended, passed, took, finished, ended_all, after_all, built, document}
use Rattle.tree_building.specs.Nest.{OpenElement}
use Rattle.tree_building.specs.Rules.{document_rules}
use Rattle.tree_building.specs.Steps.{holds_chars}
use Rattle.tree_building.specs.declared.pending.Pending.{Pending}
use Rattle.tree_building.specs.declared.pending.Pending.TheVariants as pending
use Rattle.tree_building.specs.declared.building.Building.{Building}
use Rattle.tree_building.specs.declared.build.Built.{Built}
use Rattle.tree_building.specs.declared.fault.TreeFault.{TreeFault}
use Rattle.tree_building.specs.declared.fault.TreeReason.TheVariants as reasons
use Rattle.tree_building.specs.Spelling.{line_item}
use Rattle.tree_building.specs.Fronts.{with_line, open_tags, is_start, have_start, end_in_tag, end_in_text, is_empty, text_after, begins_node, node_count}
use Rattle.tree_building.specs.Refusals.{Begin, first_of, tests, RefusesItem, RefusesEnd, IsRefused, AreListed, begin_with_line}
use Rattle.tree_building.proofs.States.{At, Outside, some_open, after_fault}
use Rattle.tree_building.proofs.FrontLaws.{open_behind, in_tag_behind, in_text_behind, start_behind, nodes_item, length_item, elements_of, element_count, lines_behind}
use Rattle.tree_building.proofs.Begun.{after_both, start, begin_inside, begin_outside}
use Rattle.tree_building.proofs.Unreading.{err_ok}
use Rattle.tree_building.proofs.Refusing.{WaitsTag, WaitsText, WaitsNot, Waits, waiting, Inside, Before, Stands, Answers, Settled, Settles, settles_by}
use Rattle.tree_building.proofs.Stepping.{refuses, stands_at, rooted_still, settles_then, start_settled, close_settled, pass_settled, chars_settled, no_node, and_false}

abbrev fault_or : {X : Type 0} → TreeFault → Result X TreeFault → TreeFault
fault_or fault (Ok x) = fault
fault_or fault (Err found) = found

same_fault : {X : Type 0} (one other : TreeFault) → ◌≡◌ {A = Result X TreeFault} (Err one) (Err other) → one ≡ other
same_fault one other e = ap (fault_or one) e

-- the state inside of the root
abbrev state : List Binding → List Item → List Row → List Tag → Pending → ℕ → Building
state scope front rows tags last next = At rows scope (elements_of scope tags) last next (length front)

-- an attribute line
line_inside : (scope : List Binding) (front : List Item) (name value : List ℕ) (more : List Item) (rows : List Row) (tags : List Tag) (last : Pending) (next : ℕ)
    → after_all (start scope) front ≡ Ok (state scope front rows tags last next) → have_start front ≡ true → Waits scope front tags last → node_count front + 1 ≡ next + waiting last
    → Answers scope front (items.Attr name value) more (took (state scope front rows tags last next) (items.Attr name value))
line_inside scope front name value more rows tags pending.Nothing next reached root w nodes =
    refuses scope front (items.Attr name value) more (state scope front rows tags pending.Nothing next) reasons.NotHere reached
    (begin_inside scope front (state scope front rows tags pending.Nothing next) rows (elements_of scope tags) next (length front) reached refl) refl (rw (w.in_tag) refl)
line_inside scope front name value more rows tags (pending.Chars chars) next reached root w nodes =
    refuses scope front (items.Attr name value) more (state scope front rows tags (pending.Chars chars) next) reasons.NotHere reached
    (begin_inside scope front (state scope front rows tags (pending.Chars chars) next) _ (elements_of scope tags) (next + 1) (length front) reached refl) refl (rw (w.in_tag) refl)
line_inside scope front name value more rows tags (pending.Start tag item) next reached root w nodes =
    let line : AttributeLine = record { name = name; value = value } in
    let one = nodes_item front (items.Attr name value) in
    inr (record {
      rows = rows;
      tags = tags;
      last = pending.Start (record tag { attributes = tag.attributes ++ line ∷ [] }) item;
      next = next;
      is = stands_at scope front (items.Attr name value) rows (elements_of scope tags) (pending.Start (record tag { attributes = tag.attributes ++ line ∷ [] }) item) next;
      root = rooted_still front (items.Attr name value) root;
      waits = record {
        before = w.before;
        are = ap (λ l. l ++ items.Attr name value ∷ []) w.are ∙ append_assoc w.before (items.Start tag.name ∷ map line_item tag.attributes) (items.Attr name value ∷ [])
            ∙ ap (λ l. w.before ++ (items.Start tag.name ∷ l)) (sym (lines_behind tag.attributes line));
        at = w.at;
        begins = w.begins;
        well = w.well;
        outside = w.outside;
        opens = open_behind front (items.Attr name value) ∙ ap (λ t. with_line t line) w.opens;
        in_tag = in_tag_behind front (items.Attr name value) ∙ w.in_tag;
        in_text = in_text_behind front (items.Attr name value);
      };
      nodes = let total = nodes in omega (arith, one, total);
    })

both_false : (a b : Bool) → (a && (b && not true)) ≡ false
both_false true true = refl
both_false true false = refl
both_false false b = refl

-- characters behind those of a text
text_goes_on : (own : List ℕ) → text_after true (items.Chars own) ≡ true
text_goes_on [] = refl
text_goes_on (c ∷ cs) = let filled : is_empty (c ∷ cs) ≡ false = (let some : 1 ≤ length (c ∷ cs) = omega arith in grind (arith, nat_tests, some)) in rw filled refl

chars_inside : (scope : List Binding) (front : List Item) (own : List ℕ) (more : List Item) (rows : List Row) (tags : List Tag) (last : Pending) (next : ℕ)
    → after_all (start scope) front ≡ Ok (state scope front rows tags last next) → have_start front ≡ true → Waits scope front tags last → node_count front + 1 ≡ next + waiting last
    → Answers scope front (items.Chars own) more (took (state scope front rows tags last next) (items.Chars own))
chars_inside scope front own more rows tags pending.Nothing next reached root w nodes =
    chars_settled scope front own more (state scope front rows tags pending.Nothing next) (state scope front rows tags pending.Nothing next) reached refl
    (settles_by scope front rows tags pending.Nothing next root w nodes) refl
chars_inside scope front own more rows tags (pending.Start tag item) next reached root w nodes =
    settles_then scope front (items.Chars own) more (state scope front rows tags (pending.Start tag item) next) (text_begun own) _ refl
    (settles_by scope front rows tags (pending.Start tag item) next root w nodes) refl
    (λ s settled is_settled. chars_settled scope front own more (state scope front rows tags (pending.Start tag item) next) s reached (ap (λ r. r >>= text_begun own) settled) is_settled refl)
chars_inside scope front own more rows tags (pending.Chars chars) next reached root w nodes =
    let none : begins_node front (items.Chars own) ≡ false = rw (w.in_text) (both_false (not (length (open_tags front) == 0)) (not (is_empty own))) in
    let one = no_node front own none in
    inr (record {
      rows = rows;
      tags = tags;
      last = pending.Chars (chars ++ own);
      next = next;
      is = stands_at scope front (items.Chars own) rows (elements_of scope tags) (pending.Chars (chars ++ own)) next;
      root = rooted_still front (items.Chars own) root;
      waits = record {
        opens = open_behind front (items.Chars own) ∙ w.opens;
        in_tag = in_tag_behind front (items.Chars own);
        in_text = in_text_behind front (items.Chars own) ∙ ap (λ t. text_after t (items.Chars own)) w.in_text ∙ text_goes_on own;
        within = w.within;
      };
      nodes = let total = nodes in omega (arith, one, total);
    })

pass_inside : (scope : List Binding) (front : List Item) (more : List Item) (rows : List Row) (tags : List Tag) (last : Pending) (next : ℕ)
    → after_all (start scope) front ≡ Ok (state scope front rows tags last next) → have_start front ≡ true → Waits scope front tags last → node_count front + 1 ≡ next + waiting last
    → Answers scope front items.Instruction more (took (state scope front rows tags last next) items.Instruction)
pass_inside scope front more rows tags pending.Nothing next reached root w nodes =
    pass_settled scope front more (state scope front rows tags pending.Nothing next) (state scope front rows tags pending.Nothing next)
    (settles_by scope front rows tags pending.Nothing next root w nodes) refl
pass_inside scope front more rows tags (pending.Start tag item) next reached root w nodes =
    settles_then scope front items.Instruction more (state scope front rows tags (pending.Start tag item) next) passed _ refl
    (settles_by scope front rows tags (pending.Start tag item) next root w nodes) refl
    (λ s settled is_settled. pass_settled scope front more (state scope front rows tags (pending.Start tag item) next) s is_settled refl)
pass_inside scope front more rows tags (pending.Chars chars) next reached root w nodes =
    let one = nodes_item front items.Instruction in
    inr (record {
      rows = rows;
      tags = tags;
      last = pending.Chars chars;
      next = next;
      is = stands_at scope front items.Instruction rows (elements_of scope tags) (pending.Chars chars) next;
      root = rooted_still front items.Instruction root;
      waits = record {
        opens = open_behind front items.Instruction ∙ w.opens;
        in_tag = in_tag_behind front items.Instruction;
        in_text = in_text_behind front items.Instruction ∙ w.in_text;
        within = w.within;
      };
      nodes = let total = nodes in omega (arith, one, total);
    })

-- the items of a listing section
abbrev IsListedItem : Item → Type 0
IsListedItem item = AreListed (item ∷ [])

step_inside : (scope : List Binding) (front : List Item) (item : Item) (more : List Item) (rows : List Row) (tags : List Tag) (last : Pending) (next : ℕ) → IsListedItem item
    → after_all (start scope) front ≡ Ok (state scope front rows tags last next) → have_start front ≡ true → Waits scope front tags last → node_count front + 1 ≡ next + waiting last
    → Answers scope front item more (took (state scope front rows tags last next) item)
step_inside scope front (items.Start name) more rows tags last next listed reached root w nodes =
    settles_then scope front (items.Start name) more (state scope front rows tags last next) (started name) _ refl (settles_by scope front rows tags last next root w nodes) refl
    (λ s settled is_settled. start_settled scope front name more (state scope front rows tags last next) s reached settled is_settled)
step_inside scope front (items.Attr name value) more rows tags last next listed reached root w nodes = line_inside scope front name value more rows tags last next reached root w nodes
step_inside scope front (items.Chars own) more rows tags last next listed reached root w nodes = chars_inside scope front own more rows tags last next reached root w nodes
step_inside scope front (items.Close name) more rows tags last next listed reached root w nodes =
    settles_then scope front (items.Close name) more (state scope front rows tags last next) (ended name) _ refl (settles_by scope front rows tags last next root w nodes) refl
    (λ s settled is_settled. close_settled scope front name more (state scope front rows tags last next) s reached settled is_settled)
step_inside scope front items.Instruction more rows tags last next listed reached root w nodes = pass_inside scope front more rows tags last next reached root w nodes
step_inside scope front (items.Schema locations) more rows tags last next listed reached root w nodes = absurd listed
step_inside scope front items.Document more rows tags last next listed reached root w nodes = absurd listed
step_inside scope front items.Edits more rows tags last next listed reached root w nodes = absurd listed
step_inside scope front items.End more rows tags last next listed reached root w nodes = absurd listed
step_inside scope front items.Dot more rows tags last next listed reached root w nodes = absurd listed
step_inside scope front (items.Command line) more rows tags last next listed reached root w nodes = absurd listed

-- before the root
abbrev outside : List Binding → List Item → Building
outside scope front = Outside [] scope false 1 (length front)

still_outside : (scope : List Binding) (front : List Item) (item : Item) → have_start front ≡ false → open_tags front ≡ [] → node_count front ≡ 0
    → is_start item ≡ false → open_tags (front ++ item ∷ []) ≡ [] → end_in_tag (front ++ item ∷ []) ≡ false → begins_node front item ≡ false
    → Before scope (front ++ item ∷ []) (Outside [] scope false 1 (length front + 1))
still_outside scope front item root opens nodes none opens_now in_tag apart = record {
  is = ap (Outside [] scope false 1) (sym (length_item front item));
  root = start_behind front item ∙ ap (λ r. if r then true else is_start item) root ∙ none;
  opens = opens_now;
  in_tag = in_tag;
  nodes = nodes_item front item ∙ ap (λ b. node_count front + (if b then 1 else 0)) apart ∙ ap (λ n. n + 0) nodes;
}

first_start : (scope : List Binding) (front : List Item) (name : List ℕ) (more : List Item) → after_all (start scope) front ≡ Ok (outside scope front)
    → have_start front ≡ false → open_tags front ≡ [] → node_count front ≡ 0 → Answers scope front (items.Start name) more (took (outside scope front) (items.Start name))
first_start scope front name more reached root opens nodes =
    let one = nodes_item front (items.Start name) in
    let total = nodes in
    inr (record {
      rows = [];
      tags = [];
      last = pending.Start (record { name = name; attributes = [] }) (length front);
      next = 1;
      is = stands_at scope front (items.Start name) [] [] (pending.Start (record { name = name; attributes = [] }) (length front)) 1;
      root = start_behind front (items.Start name) ∙ ap (λ r. if r then true else true) root;
      waits = record {
        before = front;
        are = refl;
        at = refl;
        begins = begin_outside scope front (length front) reached;
        well = rw (opens, root, nodes) refl;
        outside = opens;
        opens = open_behind front (items.Start name) ∙ ap (λ t. record { name = name; attributes = [] } ∷ t) opens;
        in_tag = in_tag_behind front (items.Start name);
        in_text = in_text_behind front (items.Start name);
      };
      nodes = omega (arith, one, total);
    })

first_space : (scope : List Binding) (front : List Item) (own : List ℕ) (more : List Item) → after_all (start scope) front ≡ Ok (outside scope front)
    → have_start front ≡ false → open_tags front ≡ [] → node_count front ≡ 0 → (white : Bool) → is_white own ≡ white
    → (let r : Result Building TreeFault = if white then Ok (Outside [] scope false 1 (length front + 1)) else Err (record { item = length front; reason = reasons.TextOutside }) in
    took (outside scope front) (items.Chars own) ≡ r → Answers scope front (items.Chars own) more r)
first_space scope front own more reached root opens nodes false white took_is =
    refuses scope front (items.Chars own) more (outside scope front) reasons.TextOutside reached (begin_outside scope front (length front) reached) took_is (rw (opens, white) refl)
first_space scope front own more reached root opens nodes true white took_is =
    inl (still_outside scope front (items.Chars own) root opens nodes refl (open_behind front (items.Chars own) ∙ opens) (in_tag_behind front (items.Chars own)) (rw opens refl))

step_before : (scope : List Binding) (front : List Item) (item : Item) (more : List Item) → IsListedItem item → after_all (start scope) front ≡ Ok (outside scope front)
    → have_start front ≡ false → open_tags front ≡ [] → end_in_tag front ≡ false → node_count front ≡ 0 → Answers scope front item more (took (outside scope front) item)
step_before scope front (items.Start name) more listed reached root opens in_tag nodes = first_start scope front name more reached root opens nodes
step_before scope front (items.Attr name value) more listed reached root opens in_tag nodes =
    refuses scope front (items.Attr name value) more (outside scope front) reasons.NotHere reached (begin_outside scope front (length front) reached) refl (rw in_tag refl)
step_before scope front (items.Chars own) more listed reached root opens in_tag nodes = first_space scope front own more reached root opens nodes (is_white own) refl refl
step_before scope front (items.Close name) more listed reached root opens in_tag nodes =
    refuses scope front (items.Close name) more (outside scope front) reasons.EndMismatch reached (begin_outside scope front (length front) reached) refl (rw opens refl)
step_before scope front items.Instruction more listed reached root opens in_tag nodes =
    inl (still_outside scope front items.Instruction root opens nodes refl (open_behind front items.Instruction ∙ opens) (in_tag_behind front items.Instruction) refl)
step_before scope front (items.Schema locations) more listed reached root opens in_tag nodes = absurd listed
step_before scope front items.Document more listed reached root opens in_tag nodes = absurd listed
step_before scope front items.Edits more listed reached root opens in_tag nodes = absurd listed
step_before scope front items.End more listed reached root opens in_tag nodes = absurd listed
step_before scope front items.Dot more listed reached root opens in_tag nodes = absurd listed
step_before scope front (items.Command line) more listed reached root opens in_tag nodes = absurd listed

step : (scope : List Binding) (front : List Item) (item : Item) (more : List Item) (b : Building) → IsListedItem item → after_all (start scope) front ≡ Ok b → Stands scope front b
    → Answers scope front item more (took b item)
step scope front item more b listed reached (inl w) =
    subst (λ b. Answers scope front item more (took b item)) (sym w.is) (step_before scope front item more listed (reached ∙ ap Ok w.is) w.root w.opens w.in_tag w.nodes)
step scope front item more b listed reached (inr w) =
    subst (λ b. Answers scope front item more (took b item)) (sym w.is) (step_inside scope front item more w.rows w.tags w.last w.next listed (reached ∙ ap Ok w.is) w.root w.waits w.nodes)

-- no item is left
ends_before : (scope : List Binding) (front : List Item) (fault : TreeFault) → after_all (start scope) front ≡ Ok (outside scope front) → have_start front ≡ false
    → ended_all (outside scope front) ≡ Err fault → IsRefused scope front fault.item fault.reason
ends_before scope front fault reached root e =
    subst (λ f. IsRefused scope front f.item f.reason) (same_fault _ _ e)
    (record { at = refl; begins = begin_outside scope front (length front) reached; why = rw root refl })

not_closed : (scope : List Binding) (front : List Item) (b s : Building) (fault : TreeFault) → after_all (start scope) front ≡ Ok b → (w : Settled scope front b s) → (tags : List Tag) → w.tags ≡ tags
    → finished (At w.rows scope (elements_of scope tags) pending.Nothing w.next (length front)) ≡ Err fault → IsRefused scope front fault.item fault.reason
not_closed scope front b s fault reached w [] tags_are e = absurd (err_ok fault _ (sym e))
not_closed scope front b s fault reached w (tag ∷ tags) tags_are e =
    let unclosed : finished (At w.rows scope (elements_of scope (tag ∷ tags)) pending.Nothing w.next (length front)) ≡ Err (record { item = length front; reason = reasons.Unclosed }) =
    rw (some_open _ (elements_of scope tags)) refl in
    let some : nat_lt 0 (length (tag ∷ tags)) ≡ true = (let one : 1 ≤ length (tag ∷ tags) = omega arith in grind (arith, nat_tests, one)) in
    subst (λ f. IsRefused scope front f.item f.reason) (same_fault _ _ (sym unclosed ∙ e))
    (record {
      at = refl;
      begins = begin_inside scope front b w.rows (elements_of scope w.tags) w.next (length front) reached (w.settles ∙ ap Ok w.is);
      why = ap (λ t. nat_lt 0 (length t)) (w.opens ∙ tags_are) ∙ some;
    })

ends_settled : (scope : List Binding) (front : List Item) (b : Building) (fault : TreeFault) (r : Result Building TreeFault) → after_all (start scope) front ≡ Ok b
    → Settles scope front b r → (r >>= finished) ≡ Err fault → IsRefused scope front fault.item fault.reason
ends_settled scope front b fault (Ok s) reached w e =
    not_closed scope front b s fault reached w w.tags refl (ap finished (sym w.is) ∙ e)
ends_settled scope front b fault (Err found) reached settles e =
    subst (λ f. IsRefused scope front f.item f.reason) (same_fault _ _ e)
    (subst (λ l. IsRefused scope l found.item found.reason) (append-nil front) (settles [] refl))

ends : (scope : List Binding) (front : List Item) (b : Building) (fault : TreeFault) → after_all (start scope) front ≡ Ok b → Stands scope front b
    → ended_all b ≡ Err fault → IsRefused scope front fault.item fault.reason
ends scope front b fault reached (inl w) e = ends_before scope front fault (reached ∙ ap Ok w.is) w.root (ap ended_all (sym w.is) ∙ e)
ends scope front b fault reached (inr w) e =
    ends_settled scope front (At w.rows scope (elements_of scope w.tags) w.last w.next (length front)) fault _ (reached ∙ ap Ok w.is)
    (settles_by scope front w.rows w.tags w.last w.next w.root w.waits w.nodes) (ap ended_all (sym w.is) ∙ e)

taken_on : (its : List Item) (scope : List Binding) (front : List Item) (item : Item) (b : Building) (fault : TreeFault) (r : Result Building TreeFault) → AreListed its
    → after_all (start scope) front ≡ Ok b → took b item ≡ r → Answers scope front item its r
    → ((b : Building) → after_all (start scope) (front ++ item ∷ []) ≡ Ok b → Stands scope (front ++ item ∷ []) b → (after_all (Ok b) its >>= ended_all) ≡ Err fault → IsRefused scope ((front ++ item ∷ []) ++ its) fault.item fault.reason)
    → (after_all r its >>= ended_all) ≡ Err fault → IsRefused scope (front ++ (item ∷ its)) fault.item fault.reason
taken_on its scope front item b fault (Ok next) listed reached took_is stands later e =
    subst (λ l. IsRefused scope l fault.item fault.reason) (append_assoc front (item ∷ []) its)
    (later next (after_both (start scope) front (item ∷ []) ∙ ap (λ r. after_all r (item ∷ [])) reached ∙ took_is) stands e)
taken_on its scope front item b fault (Err found) listed reached took_is refused later e =
    subst (λ f. IsRefused scope (front ++ (item ∷ its)) f.item f.reason) (same_fault _ _ (ap (λ r. r >>= ended_all) (sym (after_fault found its)) ∙ e)) refused

listed_first : (item : Item) (its : List Item) → AreListed (item ∷ its) → IsListedItem item
listed_first (items.Start name) its l = tt
listed_first (items.Attr name value) its l = tt
listed_first (items.Chars own) its l = tt
listed_first (items.Close name) its l = tt
listed_first items.Instruction its l = tt
listed_first (items.Schema locations) its l = l
listed_first items.Document its l = l
listed_first items.Edits its l = l
listed_first items.End its l = l
listed_first items.Dot its l = l
listed_first (items.Command line) its l = l

listed_rest : (item : Item) (its : List Item) → AreListed (item ∷ its) → AreListed its
listed_rest (items.Start name) its l = l
listed_rest (items.Attr name value) its l = l
listed_rest (items.Chars own) its l = l
listed_rest (items.Close name) its l = l
listed_rest items.Instruction its l = l
listed_rest (items.Schema locations) its l = absurd l
listed_rest items.Document its l = absurd l
listed_rest items.Edits its l = absurd l
listed_rest items.End its l = absurd l
listed_rest items.Dot its l = absurd l
listed_rest (items.Command line) its l = absurd l

-- whatever items come
refused_from : (its : List Item) (scope : List Binding) (front : List Item) (b : Building) (fault : TreeFault) → AreListed its → after_all (start scope) front ≡ Ok b → Stands scope front b
    → (after_all (Ok b) its >>= ended_all) ≡ Err fault → IsRefused scope (front ++ its) fault.item fault.reason
refused_from [] scope front b fault listed reached stands e =
    subst (λ l. IsRefused scope l fault.item fault.reason) (sym (append-nil front)) (ends scope front b fault reached stands e)
refused_from (item ∷ its) scope front b fault listed reached stands e =
    taken_on its scope front item b fault (took b item) (listed_rest item its listed) reached refl
    (step scope front item its b (listed_first item its listed) reached stands)
    (λ next reached_next stands_next later. refused_from its scope (front ++ item ∷ []) next fault (listed_rest item its listed) reached_next stands_next later) e

fault_by : (r : Result Built TreeFault) (fault : TreeFault) → document r ≡ Err fault → r ≡ Err fault
fault_by (Ok end) fault e = absurd (err_ok fault _ (sym e))
fault_by (Err found) fault e = ap Err (same_fault found fault e)

pub document_refused : (fault : TreeFault) (scope : List Binding) (its : List Item) → AreListed its → document (built document_rules scope its) ≡ Err fault → IsRefused scope its fault.item fault.reason
document_refused fault scope its listed e =
    refused_from its scope [] (Outside [] scope false 1 0) fault listed refl (inl (record { is = refl; root = refl; opens = refl; in_tag = refl; nodes = refl }))
    (fault_by (built document_rules scope its) fault e)
