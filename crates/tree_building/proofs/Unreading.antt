-- Whatever items build a document spell it.
use Rattle.std.proofs.Common.{◌≡◌, ◌≢◌, ℕ, ◌+◌, ◌-◌, ◌≤◌, List, [], ◌∷◌, ◌++◌, Bool, true, false, ◌==◌, ◌&&◌, Option, Some, None, Result, Ok, Err, if◌then◌else◌, length, map, refl, sym, ap, ◌∙◌, arith, nat_lt, append_assoc, append-nil, subst, true≢false}
use Rattle.std.proofs.lemmas.Bool.Decides.{nat_tests}
use Rattle.std.specs.Str.{bytes_eq}
use Rattle.std.proofs.lemmas.Slice.Eq.{bytes_eq-Decides}
use Rattle.item_listing.specs.declared.item.Item.{Item}
use Rattle.item_listing.specs.declared.item.Item.TheVariants as items
use Rattle.tag_names.specs.Tags.{named}
use Rattle.tag_names.specs.Faults.{name_fault}
use Rattle.tag_names.specs.declared.fault.NameReason.{NameReason}
use Rattle.tag_names.specs.declared.lines.Tag.{Tag}
use Rattle.tree_rows.specs.Forest.{Forest, none, text, element, Document, count, numbered}
use Rattle.tree_rows.specs.Rows.{rows_of, siblings}
use Rattle.tree_rows.specs.RowLaws.{siblings-all}
use Rattle.tree_rows.specs.declared.row.Binding.{Binding}
use Rattle.tree_rows.specs.declared.row.Row.{Row}
use Rattle.tree_building.specs.Building.{◌>>=◌, with_element, element_row, tag_by, started, text_begun, ended, passed, took, finished, ended_all, after_all, built, document, nothing}
use Rattle.tree_building.specs.Nest.{OpenElement, scope_below}
use Rattle.tree_building.specs.Rules.{document_rules}
use Rattle.tree_building.specs.declared.pending.Pending.{Pending}
use Rattle.tree_building.specs.declared.pending.Pending.TheVariants as pending
use Rattle.tree_building.specs.declared.building.Building.{Building}
use Rattle.tree_building.specs.declared.build.Built.{Built}
use Rattle.tree_building.specs.declared.fault.TreeFault.{TreeFault}
use Rattle.tree_building.specs.declared.fault.TreeReason.TheVariants as reasons
use Rattle.xs_names.specs.White.{is_white}
use Rattle.tree_building.specs.Spelling.{AreSpace, line_item, Spells, HasWholeTexts, IsWithinDepth, IsDocument, SpellsDocument}
use Rattle.tree_building.proofs.States.{At, Outside, tag_row, chars_row, opened_in, some_open, empty_text, after_fault}
use Rattle.tree_building.proofs.Rests.{Rest, RestIn, RestApart, RestTag, RestChars, RestText, RestFrom, rest_closed, rest_instruction, rest_empty, rest_text, rest_element, tag_ready, tag_lined, chars_ready, chars_more, chars_instruction}

-- what comes of a state when these items come
abbrev Gives : Result Building TreeFault → List Item → Built → Type 0
Gives state its end = (after_all state its >>= ended_all) ≡ Ok end

pub err_ok : {X : Type 0} (fault : TreeFault) (x : X) → Err fault ≡ Ok x → ⊥
err_ok fault x e = cc

abbrev ok_or : {X : Type 0} → X → Result X TreeFault → X
ok_or x (Ok y) = y
ok_or x (Err fault) = x

pub same_ok : {X : Type 0} (x y : X) → ◌≡◌ {A = Result X TreeFault} (Ok x) (Ok y) → x ≡ y
same_ok x y e = ap (ok_or x) e

pub fault_gives : (fault : TreeFault) (its : List Item) (end : Built) → Gives (Err fault) its end → ⊥
fault_gives fault its end g = err_ok fault end (ap (λ r. r >>= ended_all) (sym (after_fault fault its)) ∙ g)

-- a test that refuses has not held
passes : (t : Bool) (fault : TreeFault) (y : Result Building TreeFault) (its : List Item) (end : Built)
    → Gives (if t then Err fault else y) its end → (t ≡ false) × Gives y its end
passes true fault y its end g = absurd (fault_gives fault its end g)
passes false fault y its end g = (refl, g)

-- a test without which an item is refused has held
holds : (t : Bool) (fault : TreeFault) (x : Result Building TreeFault) (its : List Item) (end : Built)
    → Gives (if t then x else Err fault) its end → (t ≡ true) × Gives x its end
holds true fault x its end g = (refl, g)
holds false fault x its end g = absurd (fault_gives fault its end g)

-- the names of a tag are well
tag_passes : (b : Building) (tag : Tag) (item : ℕ) (found : Option NameReason) (next : Building → Result Building TreeFault) (its : List Item) (end : Built)
    → Gives (tag_by b tag item found >>= next) its end → (found ≡ None) × Gives (next (with_element b tag.name (element_row b tag))) its end
tag_passes b tag item (Some reason) next its end g = absurd (fault_gives _ its end g)
tag_passes b tag item None next its end g = (refl, g)

tag_ends : (b : Building) (tag : Tag) (item : ℕ) (found : Option NameReason) (end : Built)
    → (tag_by b tag item found >>= finished) ≡ Ok end → finished (with_element b tag.name (element_row b tag)) ≡ Ok end
tag_ends b tag item (Some reason) end g = absurd (err_ok _ end g)
tag_ends b tag item None end g = g

-- what waits has room
abbrev IsFine : Pending → List OpenElement → ℕ → Type 0
IsFine pending.Nothing elements next = next ≤ 131073
IsFine (pending.Start tag item) elements next = (next ≤ 131072) × (length elements + 1 ≤ 128)
IsFine (pending.Chars chars) elements next = (next ≤ 131072) × (1 ≤ length elements)

-- all that is known of the items behind the first
abbrev Known : List Item → Built → Type 0
Known its end = (rows : List Row) (outer : List Binding) (elements : List OpenElement) (p : Pending) (next taken : ℕ)
    → IsFine p elements next → Gives (Ok (At rows outer elements p next taken)) its end → RestFrom p outer elements end rows next its

not_finished : (rows : List Row) (outer : List Binding) (e : OpenElement) (elements : List OpenElement) (next taken : ℕ) (end : Built)
    → finished (At rows outer (e ∷ elements) pending.Nothing next taken) ≡ Ok end → ⊥
not_finished rows outer e elements next taken end g =
    let unclosed : finished (At rows outer (e ∷ elements) pending.Nothing next taken) ≡ Err (record { item = taken; reason = reasons.Unclosed }) = rw (some_open e elements) refl in
    err_ok _ end (sym unclosed ∙ g)

-- no item is left
none_left : (rows : List Row) (outer : List Binding) (elements : List OpenElement) (p : Pending) (next taken : ℕ) (end : Built)
    → IsFine p elements next → Gives (Ok (At rows outer elements p next taken)) [] end → RestFrom p outer elements end rows next []
none_left rows outer [] pending.Nothing next taken end fine g = (tt, sym (same_ok _ _ g))
none_left rows outer (e ∷ elements) pending.Nothing next taken end fine g = absurd (not_finished rows outer e elements next taken end g)
none_left rows outer elements (pending.Start tag item) next taken end fine g =
    absurd (not_finished (rows ++ tag_row next (length elements + 1) (named (scope_below outer elements) tag) ∷ []) outer (opened_in (scope_below outer elements) tag) elements (next + 1) taken end
    (tag_ends (At rows outer elements (pending.Start tag item) next taken) tag item _ end g))
none_left rows outer [] (pending.Chars chars) next taken end fine g = absurd (omega (arith, fine.1))
none_left rows outer (e ∷ elements) (pending.Chars chars) next taken end fine g =
    absurd (not_finished (rows ++ chars_row next (length (e ∷ elements) + 1) chars ∷ []) outer e elements (next + 1) taken end g)

few_by : (next : ℕ) → nat_lt 131072 next ≡ false → next ≤ 131072
few_by next t = grind (arith, nat_tests, t)

deep_by : (depth : ℕ) → nat_lt 128 depth ≡ false → depth ≤ 128
deep_by depth t = grind (arith, nat_tests, t)

-- an element starts inside of the root
start_known : (name : List ℕ) (its : List Item) (end : Built) → Known its end → (rows : List Row) (outer : List Binding) (e : OpenElement) (elements : List OpenElement) (next taken : ℕ)
    → Gives (started name (At rows outer (e ∷ elements) pending.Nothing next taken)) its end → RestApart e elements end rows next (items.Start name ∷ its)
start_known name its end known rows outer e elements next taken g =
    let one = passes (length (e ∷ elements) == 0 && true) _ _ its end g in
    let two = passes (nat_lt 128 (length (e ∷ elements) + 1)) _ _ its end one.1 in
    let three = passes (nat_lt 131072 next) _ _ its end two.1 in
    let deep : length (e ∷ elements) + 1 ≤ 128 = deep_by _ two.0 in
    rest_element name e elements end rows next its deep
    (known rows outer (e ∷ elements) (pending.Start (record { name = name; attributes = [] }) taken) next (taken + 1) (few_by next three.0, deep) three.1)

-- the innermost element ends
close_known : (name : List ℕ) (its : List Item) (end : Built) → Known its end → (rows : List Row) (outer : List Binding) (e : OpenElement) (elements : List OpenElement) (next taken : ℕ)
    → next ≤ 131073 → Gives (ended name (At rows outer (e ∷ elements) pending.Nothing next taken)) its end → RestApart e elements end rows next (items.Close name ∷ its)
close_known name its end known rows outer e elements next taken few g =
    let one = holds (bytes_eq e.name name) _ _ its end g in
    let same : e.name ≡ name = (bytes_eq-Decides e.name name).0 one.0 in
    subst (λ n. RestApart e elements end rows next (items.Close n ∷ its)) same
    (rest_closed e elements end rows next its few (known rows outer elements pending.Nothing next (taken + 1) few one.1))

-- characters begin inside of the root, where none wait
text_known : (own : List ℕ) (its : List Item) (end : Built) → Known its end → (rows : List Row) (outer : List Binding) (e : OpenElement) (elements : List OpenElement) (next taken : ℕ)
    → next ≤ 131073 → Gives (text_begun own (At rows outer (e ∷ elements) pending.Nothing next taken)) its end → Rest (e ∷ elements) end rows next (items.Chars own ∷ its)
text_known [] its end known rows outer e elements next taken few g =
    rest_empty e elements end rows next its (known rows outer (e ∷ elements) pending.Nothing next (taken + 1) few
    (ap (λ r. after_all r its >>= ended_all) (sym (empty_text rows outer e elements next taken)) ∙ g))
text_known (b ∷ own) its end known rows outer e elements next taken few g =
    let filled : (length (b ∷ own) == 0) ≡ false = (let some : 1 ≤ length (b ∷ own) = omega arith in grind (arith, nat_tests, some)) in
    let inside : text_begun (b ∷ own) (At rows outer (e ∷ elements) pending.Nothing next taken)
    ≡ (if nat_lt 131072 next then Err (record { item = taken; reason = reasons.TooManyNodes }) else Ok (At rows outer (e ∷ elements) (pending.Chars (b ∷ own)) next (taken + 1))) = rw (some_open e elements, filled) refl in
    let one = passes (nat_lt 131072 next) _ _ its end (ap (λ r. after_all r its >>= ended_all) (sym inside) ∙ g) in
    rest_text (b ∷ own) e elements end rows next its (λ z. cc)
    (known rows outer (e ∷ elements) (pending.Chars (b ∷ own)) next (taken + 1) (few_by next one.0, omega arith) one.1)

pass_known : (its : List Item) (end : Built) → Known its end → (rows : List Row) (outer : List Binding) (e : OpenElement) (elements : List OpenElement) (next taken : ℕ)
    → next ≤ 131073 → Gives (passed (At rows outer (e ∷ elements) pending.Nothing next taken)) its end → Rest (e ∷ elements) end rows next (items.Instruction ∷ its)
pass_known its end known rows outer e elements next taken few g =
    rest_instruction e elements end rows next its (known rows outer (e ∷ elements) pending.Nothing next (taken + 1) few g)

-- the state behind a tag, and behind a text
abbrev tagged : List Row → List Binding → List OpenElement → Tag → ℕ → List Row
tagged rows outer elements tag next = rows ++ tag_row next (length elements + 1) (named (scope_below outer elements) tag) ∷ []

abbrev texted : List Row → OpenElement → List OpenElement → List ℕ → ℕ → List Row
texted rows e elements chars next = rows ++ chars_row next (length (e ∷ elements) + 1) chars ∷ []

start_left : (name : List ℕ) (its : List Item) (end : Built) → Known its end → (rows : List Row) (outer : List Binding) (elements : List OpenElement) (p : Pending) (next taken : ℕ)
    → IsFine p elements next → Gives (Ok (At rows outer elements p next taken)) (items.Start name ∷ its) end → RestFrom p outer elements end rows next (items.Start name ∷ its)
start_left name its end known rows outer [] pending.Nothing next taken fine g = absurd (fault_gives _ its end g)
start_left name its end known rows outer (e ∷ elements) pending.Nothing next taken fine g = (start_known name its end known rows outer e elements next taken g).rest
start_left name its end known rows outer elements (pending.Start tag item) next taken fine g =
    let one = tag_passes (At rows outer elements (pending.Start tag item) next taken) tag item _ (started name) its end g in
    tag_ready tag (scope_below outer elements) elements end rows next (items.Start name ∷ its) one.0
    (start_known name its end known (tagged rows outer elements tag next) outer (opened_in (scope_below outer elements) tag) elements (next + 1) taken one.1).rest
start_left name its end known rows outer [] (pending.Chars chars) next taken fine g = absurd (omega (arith, fine.1))
start_left name its end known rows outer (e ∷ elements) (pending.Chars chars) next taken fine g =
    chars_ready chars e elements end rows next (items.Start name ∷ its) (start_known name its end known (texted rows e elements chars next) outer e elements (next + 1) taken g)

close_left : (name : List ℕ) (its : List Item) (end : Built) → Known its end → (rows : List Row) (outer : List Binding) (elements : List OpenElement) (p : Pending) (next taken : ℕ)
    → IsFine p elements next → Gives (Ok (At rows outer elements p next taken)) (items.Close name ∷ its) end → RestFrom p outer elements end rows next (items.Close name ∷ its)
close_left name its end known rows outer [] pending.Nothing next taken fine g = absurd (fault_gives _ its end g)
close_left name its end known rows outer (e ∷ elements) pending.Nothing next taken fine g = (close_known name its end known rows outer e elements next taken fine g).rest
close_left name its end known rows outer elements (pending.Start tag item) next taken fine g =
    let one = tag_passes (At rows outer elements (pending.Start tag item) next taken) tag item _ (ended name) its end g in
    tag_ready tag (scope_below outer elements) elements end rows next (items.Close name ∷ its) one.0
    (close_known name its end known (tagged rows outer elements tag next) outer (opened_in (scope_below outer elements) tag) elements (next + 1) taken (omega (arith, fine.0)) one.1).rest
close_left name its end known rows outer [] (pending.Chars chars) next taken fine g = absurd (omega (arith, fine.1))
close_left name its end known rows outer (e ∷ elements) (pending.Chars chars) next taken fine g =
    chars_ready chars e elements end rows next (items.Close name ∷ its) (close_known name its end known (texted rows e elements chars next) outer e elements (next + 1) taken (omega (arith, fine.0)) g)

space_first : (chars : List ℕ) (its : List Item) (end : Built) → Known its end → (rows : List Row) (outer : List Binding) (next taken : ℕ)
    → next ≤ 131073 → Gives (text_begun chars (At rows outer [] pending.Nothing next taken)) its end → Rest [] end rows next (items.Chars chars ∷ its)
space_first chars its end known rows outer next taken few g =
    let one = holds (is_white chars) _ _ its end g in
    let later = known rows outer [] pending.Nothing next (taken + 1) few one.1 in
    ((one.0, later.0), later.1)

chars_left : (own : List ℕ) (its : List Item) (end : Built) → Known its end → (rows : List Row) (outer : List Binding) (elements : List OpenElement) (p : Pending) (next taken : ℕ)
    → IsFine p elements next → Gives (Ok (At rows outer elements p next taken)) (items.Chars own ∷ its) end → RestFrom p outer elements end rows next (items.Chars own ∷ its)
chars_left own its end known rows outer [] pending.Nothing next taken fine g = space_first own its end known rows outer next taken fine g
chars_left own its end known rows outer (e ∷ elements) pending.Nothing next taken fine g = text_known own its end known rows outer e elements next taken fine g
chars_left own its end known rows outer elements (pending.Start tag item) next taken fine g =
    let one = tag_passes (At rows outer elements (pending.Start tag item) next taken) tag item _ (text_begun own) its end g in
    tag_ready tag (scope_below outer elements) elements end rows next (items.Chars own ∷ its) one.0
    (text_known own its end known (tagged rows outer elements tag next) outer (opened_in (scope_below outer elements) tag) elements (next + 1) taken (omega (arith, fine.0)) one.1)
chars_left own its end known rows outer [] (pending.Chars chars) next taken fine g = absurd (omega (arith, fine.1))
chars_left own its end known rows outer (e ∷ elements) (pending.Chars chars) next taken fine g =
    chars_more chars own e elements end rows next its (known rows outer (e ∷ elements) (pending.Chars (chars ++ own)) next (taken + 1) fine g)

pass_left : (its : List Item) (end : Built) → Known its end → (rows : List Row) (outer : List Binding) (elements : List OpenElement) (p : Pending) (next taken : ℕ)
    → IsFine p elements next → Gives (Ok (At rows outer elements p next taken)) (items.Instruction ∷ its) end → RestFrom p outer elements end rows next (items.Instruction ∷ its)
pass_left its end known rows outer [] pending.Nothing next taken fine g = known rows outer [] pending.Nothing next (taken + 1) fine g
pass_left its end known rows outer (e ∷ elements) pending.Nothing next taken fine g = pass_known its end known rows outer e elements next taken fine g
pass_left its end known rows outer elements (pending.Start tag item) next taken fine g =
    let one = tag_passes (At rows outer elements (pending.Start tag item) next taken) tag item _ passed its end g in
    tag_ready tag (scope_below outer elements) elements end rows next (items.Instruction ∷ its) one.0
    (pass_known its end known (tagged rows outer elements tag next) outer (opened_in (scope_below outer elements) tag) elements (next + 1) taken (omega (arith, fine.0)) one.1)
pass_left its end known rows outer [] (pending.Chars chars) next taken fine g = absurd (omega (arith, fine.1))
pass_left its end known rows outer (e ∷ elements) (pending.Chars chars) next taken fine g =
    chars_instruction chars e elements end rows next its (known rows outer (e ∷ elements) (pending.Chars chars) next (taken + 1) fine g)

line_left : (name value : List ℕ) (its : List Item) (end : Built) → Known its end → (rows : List Row) (outer : List Binding) (elements : List OpenElement) (p : Pending) (next taken : ℕ)
    → IsFine p elements next → Gives (Ok (At rows outer elements p next taken)) (items.Attr name value ∷ its) end → RestFrom p outer elements end rows next (items.Attr name value ∷ its)
line_left name value its end known rows outer elements pending.Nothing next taken fine g = absurd (fault_gives _ its end g)
line_left name value its end known rows outer elements (pending.Start tag item) next taken fine g =
    tag_lined tag (record { name = name; value = value }) (scope_below outer elements) elements end rows next its
    (known rows outer elements (pending.Start (record tag { attributes = tag.attributes ++ record { name = name; value = value } ∷ [] }) item) next (taken + 1) fine g)
line_left name value its end known rows outer elements (pending.Chars chars) next taken fine g = absurd (fault_gives _ its end g)

-- what items spell inside of the root, and behind it
pub left : (its : List Item) (end : Built) → Known its end
left [] end = λ rows outer elements p next taken fine g. none_left rows outer elements p next taken end fine g
left (items.Start name ∷ its) end = λ rows outer elements p next taken fine g. start_left name its end (left its end) rows outer elements p next taken fine g
left (items.Attr name value ∷ its) end = λ rows outer elements p next taken fine g. line_left name value its end (left its end) rows outer elements p next taken fine g
left (items.Chars own ∷ its) end = λ rows outer elements p next taken fine g. chars_left own its end (left its end) rows outer elements p next taken fine g
left (items.Close name ∷ its) end = λ rows outer elements p next taken fine g. close_left name its end (left its end) rows outer elements p next taken fine g
left (items.Instruction ∷ its) end = λ rows outer elements p next taken fine g. pass_left its end (left its end) rows outer elements p next taken fine g
left (items.Schema locations ∷ its) end = λ rows outer elements p next taken fine g. absurd (fault_gives _ its end g)
left (items.Document ∷ its) end = λ rows outer elements p next taken fine g. absurd (fault_gives _ its end g)
left (items.Edits ∷ its) end = λ rows outer elements p next taken fine g. absurd (fault_gives _ its end g)
left (items.End ∷ its) end = λ rows outer elements p next taken fine g. absurd (fault_gives _ its end g)
left (items.Dot ∷ its) end = λ rows outer elements p next taken fine g. absurd (fault_gives _ its end g)
left (items.Command line ∷ its) end = λ rows outer elements p next taken fine g. absurd (fault_gives _ its end g)

-- a document that was built, and is spelled
record IsSpelled (scope : List Binding) (its : List Item) (end : Built) : Type 0 where
  tree : Forest
  is_document : IsDocument tree
  spells : SpellsDocument tree scope its
  is_built : end ≡ record { rows = rows_of 1 tree; next = 1 + count tree }

root_known : (name : List ℕ) (its : List Item) (scope : List Binding) (taken : ℕ) (end : Built)
    → Gives (Ok (Outside [] scope false 1 taken)) (items.Start name ∷ its) end → IsSpelled scope (items.Start name ∷ its) end
root_known name its scope taken end g =
    let r : RestTag (record { name = name; attributes = [] }) scope [] end [] 1 its =
    left its end [] scope [] (pending.Start (record { name = name; attributes = [] }) taken) 1 (taken + 1) (omega arith, omega arith) g in
    let tag : Tag = record { name = name; attributes = r.lines } in
    let held : RestIn (opened_in scope tag) 2 127 (Rest [] end) (tag_row 1 1 (named scope tag) ∷ []) 2 r.more = r.inside in
    let f : Forest = element 1 (named scope tag).name (named scope tag).bindings (named scope tag).attributes held.siblings none in
    let total : 2 + count held.siblings ≡ 1 + (1 + (count held.siblings + 0)) = omega arith in
    record {
      tree = f;
      is_document = (refl, (refl, held.numbers, tt), held.texts, held.within, omega (arith, held.few));
      spells = record {
        tag = tag;
        before = [];
        inner = held.inner;
        more = held.later;
        are = ap (λ l. items.Start name ∷ l) (r.are ∙ ap (λ l. map line_item r.lines ++ l) held.are);
        front = tt;
        well = r.well;
        so = refl;
        children = held.spells;
        next = held.behind.0;
      };
      is_built = held.behind.1 ∙ ap (λ l. record { rows = tag_row 1 1 (named scope tag) ∷ l; next = 2 + count held.siblings }) (sym (append-nil (rows_of 2 held.siblings)))
          ∙ ap (λ k. record { rows = rows_of 1 f; next = k }) total;
    }

-- an item that has no characters but white space may come before the root
space_spells : (f : Forest) (scope : List Binding) (item : Item) (its : List Item) → ((before : List Item) → AreSpace before → AreSpace (item ∷ before))
    → SpellsDocument f scope its → SpellsDocument f scope (item ∷ its)
space_spells none scope item its space spells = spells
space_spells (text n chars next) scope item its space spells = spells
space_spells (element n name bindings attributes children next) scope item its space spells = record {
  tag = spells.tag;
  before = item ∷ spells.before;
  inner = spells.inner;
  more = spells.more;
  are = ap (λ l. item ∷ l) spells.are;
  front = space spells.before spells.front;
  well = spells.well;
  so = spells.so;
  children = spells.children;
  next = spells.next;
}

space_before : (scope : List Binding) (item : Item) (its : List Item) (end : Built) → ((before : List Item) → AreSpace before → AreSpace (item ∷ before))
    → IsSpelled scope its end → IsSpelled scope (item ∷ its) end
space_before scope item its end space s =
    record { tree = s.tree; is_document = s.is_document; spells = space_spells s.tree scope item its space s.spells; is_built = s.is_built }

-- what items spell, where the root has not come yet
whole : (its : List Item) (scope : List Binding) (taken : ℕ) (end : Built) → Gives (Ok (Outside [] scope false 1 taken)) its end → IsSpelled scope its end
whole [] scope taken end g = absurd (err_ok _ end g)
whole (items.Start name ∷ its) scope taken end g = root_known name its scope taken end g
whole (items.Attr name value ∷ its) scope taken end g = absurd (fault_gives _ its end g)
whole (items.Chars chars ∷ its) scope taken end g =
    let one = holds (is_white chars) _ _ its end g in
    space_before scope (items.Chars chars) its end (λ before space. (one.0, space)) (whole its scope (taken + 1) end one.1)
whole (items.Close name ∷ its) scope taken end g = absurd (fault_gives _ its end g)
whole (items.Instruction ∷ its) scope taken end g = space_before scope items.Instruction its end (λ before space. space) (whole its scope (taken + 1) end g)
whole (items.Schema locations ∷ its) scope taken end g = absurd (fault_gives _ its end g)
whole (items.Document ∷ its) scope taken end g = absurd (fault_gives _ its end g)
whole (items.Edits ∷ its) scope taken end g = absurd (fault_gives _ its end g)
whole (items.End ∷ its) scope taken end g = absurd (fault_gives _ its end g)
whole (items.Dot ∷ its) scope taken end g = absurd (fault_gives _ its end g)
whole (items.Command line ∷ its) scope taken end g = absurd (fault_gives _ its end g)

abbrev IsSpelledBy : Document → List Binding → List Item → Type 0
IsSpelledBy d scope its = IsDocument d.forest × SpellsDocument d.forest scope its × (d.next_free ≡ 1 + count d.forest)

spelled_so : (d : Document) (scope : List Binding) (its : List Item) (end : Built) → IsSpelled scope its end
    → d ≡ record { forest = siblings end.rows 1; next_free = end.next } → IsSpelledBy d scope its
spelled_so d scope its end s e =
    let same : d ≡ record { forest = s.tree; next_free = 1 + count s.tree } =
    e ∙ ap (λ b. record { forest = siblings b.rows 1; next_free = b.next }) s.is_built ∙ ap (λ f. record { forest = f; next_free = 1 + count s.tree }) (siblings-all s.tree) in
    subst (λ d. IsSpelledBy d scope its) (sym same) (s.is_document, s.spells, refl)

spelled_by : (d : Document) (scope : List Binding) (its : List Item) (r : Result Built TreeFault) → built document_rules scope its ≡ r → document r ≡ Ok d → IsSpelledBy d scope its
spelled_by d scope its (Ok end) g e = spelled_so d scope its end (whole its scope 0 end g) (sym (same_ok _ _ e))
spelled_by d scope its (Err fault) g e = absurd (err_ok fault d e)

pub document_spelled : (d : Document) (scope : List Binding) (its : List Item) → document (built document_rules scope its) ≡ Ok d → IsSpelledBy d scope its
document_spelled d scope its e = spelled_by d scope its (built document_rules scope its) refl e
