-- The items that are left, where some elements are open: what they spell, and what is built in the end.
use Rattle.std.proofs.Common.{◌≡◌, ◌≢◌, ℕ, ◌+◌, ◌-◌, ◌≤◌, List, [], ◌∷◌, ◌++◌, None, length, map, refl, sym, ap, ◌∙◌, arith, append_assoc, append-nil, subst}
use Rattle.item_listing.specs.declared.item.Item.{Item}
use Rattle.item_listing.specs.declared.item.Item.TheVariants as items
use Rattle.tag_names.specs.Tags.{named}
use Rattle.tag_names.specs.Faults.{name_fault}
use Rattle.tag_names.specs.declared.lines.AttributeLine.{AttributeLine}
use Rattle.tag_names.specs.declared.lines.Tag.{Tag}
use Rattle.tree_rows.specs.Forest.{Forest, none, text, element, count, numbered}
use Rattle.tree_rows.specs.Rows.{rows_of}
use Rattle.tree_rows.specs.declared.row.Binding.{Binding}
use Rattle.tree_rows.specs.declared.row.Row.{Row}
use Rattle.tree_building.specs.Nest.{OpenElement, scope_below}
use Rattle.tree_building.specs.declared.pending.Pending.{Pending}
use Rattle.tree_building.specs.declared.pending.Pending.TheVariants as pending
use Rattle.tree_building.specs.declared.build.Built.{Built}
use Rattle.tree_building.specs.Spelling.{AreRun, run_chars, IsRunOf, AreSpace, line_item, Spells, BeginsNoText, HasWholeTexts, IsWithinDepth}
use Rattle.tree_building.proofs.States.{tag_row, chars_row, opened_in}

-- the innermost element gets these siblings more and ends; what comes behind is outside of it
pub record RestIn (e : OpenElement) (depth levels : ℕ) (Behind : List Row → ℕ → List Item → Type 0) (rows : List Row) (next : ℕ) (its : List Item) : Type 0 where
  pub siblings : Forest
  pub inner : List Item
  pub later : List Item
  pub are : its ≡ inner ++ (items.Close e.name ∷ later)
  pub spells : Spells siblings e.scope inner
  pub numbers : numbered next siblings
  pub texts : HasWholeTexts siblings
  pub within : IsWithinDepth levels siblings
  pub few : next + count siblings ≤ 131073
  pub behind : Behind (rows ++ rows_of depth siblings) (next + count siblings) later

abbrev pub Rest : List OpenElement → Built → List Row → ℕ → List Item → Type 0
Rest [] end rows next its = AreSpace its × (end ≡ record { rows = rows; next = next })
Rest (e ∷ elements) end rows next its = RestIn e (length (e ∷ elements) + 1) (128 - length (e ∷ elements)) (Rest elements end) rows next its

-- the same where no text comes first
pub record RestApart (e : OpenElement) (elements : List OpenElement) (end : Built) (rows : List Row) (next : ℕ) (its : List Item) : Type 0 where
  pub rest : Rest (e ∷ elements) end rows next its
  pub apart : BeginsNoText rest.siblings

-- more attribute lines of a start tag come, and then what its element holds
pub record RestTag (tag : Tag) (scope : List Binding) (elements : List OpenElement) (end : Built) (rows : List Row) (next : ℕ) (its : List Item) : Type 0 where
  pub lines : List AttributeLine
  pub more : List Item
  pub are : its ≡ map line_item lines ++ more
  pub well : name_fault scope (record tag { attributes = tag.attributes ++ lines }) ≡ None
  pub inside : Rest (opened_in scope (record tag { attributes = tag.attributes ++ lines }) ∷ elements) end
      (rows ++ tag_row next (length elements + 1) (named scope (record tag { attributes = tag.attributes ++ lines })) ∷ []) (next + 1) more

-- more characters of a text come, and then what is no text
pub record RestChars (chars : List ℕ) (e : OpenElement) (elements : List OpenElement) (end : Built) (rows : List Row) (next : ℕ) (its : List Item) : Type 0 where
  pub run : List Item
  pub more : List Item
  pub are : its ≡ run ++ more
  pub is_run : AreRun run
  pub inside : RestApart e elements end (rows ++ chars_row next (length (e ∷ elements) + 1) (chars ++ run_chars run) ∷ []) (next + 1) more

abbrev pub RestText : List ℕ → List OpenElement → Built → List Row → ℕ → List Item → Type 0
RestText chars [] end rows next its = ⊥
RestText chars (e ∷ elements) end rows next its = RestChars chars e elements end rows next its

abbrev pub RestFrom : Pending → List Binding → List OpenElement → Built → List Row → ℕ → List Item → Type 0
RestFrom pending.Nothing outer elements end rows next its = Rest elements end rows next its
RestFrom (pending.Start tag item) outer elements end rows next its = RestTag tag (scope_below outer elements) elements end rows next its
RestFrom (pending.Chars chars) outer elements end rows next its = RestText chars elements end rows next its

-- the end of the innermost element
pub rest_closed : (e : OpenElement) (elements : List OpenElement) (end : Built) (rows : List Row) (next : ℕ) (its : List Item)
    → next ≤ 131073 → Rest elements end rows next its → RestApart e elements end rows next (items.Close e.name ∷ its)
rest_closed e elements end rows next its few r =
    let zero_is : next ≡ next + 0 = omega arith in
    record {
      rest = record {
        siblings = none;
        inner = [];
        later = its;
        are = refl;
        spells = record { run = tt; have = refl };
        numbers = tt;
        texts = tt;
        within = tt;
        few = omega (arith, few);
        behind = subst (λ k. Rest elements end (rows ++ []) k its) zero_is (subst (λ l. Rest elements end l next its) (sym (append-nil rows)) r);
      };
      apart = tt;
    }

-- an item that has no characters may come first
pub silent_before : (f : Forest) (scope : List Binding) (item : Item) (its : List Item)
    → ((run : List Item) → AreRun run → AreRun (item ∷ run)) → ((run : List Item) → run_chars (item ∷ run) ≡ run_chars run)
    → Spells f scope its → Spells f scope (item ∷ its)
silent_before none scope item its runs chars spells = record { run = runs its spells.run; have = chars its ∙ spells.have }
silent_before (text n own next) scope item its runs chars spells = record {
  run = item ∷ spells.run;
  more = spells.more;
  are = ap (λ l. item ∷ l) spells.are;
  is_run = record { run = runs spells.run spells.is_run.run; have = chars spells.run ∙ spells.is_run.have };
  next = spells.next;
}
silent_before (element n name bindings attributes children next) scope item its runs chars spells = record {
  tag = spells.tag;
  before = item ∷ spells.before;
  inner = spells.inner;
  more = spells.more;
  are = ap (λ l. item ∷ l) spells.are;
  front = record { run = runs spells.before spells.front.run; have = chars spells.before ∙ spells.front.have };
  well = spells.well;
  so = spells.so;
  children = spells.children;
  next = spells.next;
}

rest_silent : (e : OpenElement) (elements : List OpenElement) (end : Built) (rows : List Row) (next : ℕ) (item : Item) (its : List Item)
    → ((f : Forest) (inner : List Item) → Spells f e.scope inner → Spells f e.scope (item ∷ inner))
    → Rest (e ∷ elements) end rows next its → Rest (e ∷ elements) end rows next (item ∷ its)
rest_silent e elements end rows next item its before r = record {
  siblings = r.siblings;
  inner = item ∷ r.inner;
  later = r.later;
  are = ap (λ l. item ∷ l) r.are;
  spells = before r.siblings r.inner r.spells;
  numbers = r.numbers;
  texts = r.texts;
  within = r.within;
  few = r.few;
  behind = r.behind;
}

pub rest_instruction : (e : OpenElement) (elements : List OpenElement) (end : Built) (rows : List Row) (next : ℕ) (its : List Item)
    → Rest (e ∷ elements) end rows next its → Rest (e ∷ elements) end rows next (items.Instruction ∷ its)
rest_instruction e elements end rows next its r =
    rest_silent e elements end rows next items.Instruction its (λ f inner spells. silent_before f e.scope items.Instruction inner (λ run a. a) (λ run. refl) spells) r

pub rest_empty : (e : OpenElement) (elements : List OpenElement) (end : Built) (rows : List Row) (next : ℕ) (its : List Item)
    → Rest (e ∷ elements) end rows next its → Rest (e ∷ elements) end rows next (items.Chars [] ∷ its)
rest_empty e elements end rows next its r =
    rest_silent e elements end rows next (items.Chars []) its (λ f inner spells. silent_before f e.scope (items.Chars []) inner (λ run a. a) (λ run. refl) spells) r

-- a text
pub rest_text : (own : List ℕ) (e : OpenElement) (elements : List OpenElement) (end : Built) (rows : List Row) (next : ℕ) (its : List Item)
    → (own ≡ [] → ⊥) → RestChars own e elements end rows next its → Rest (e ∷ elements) end rows next (items.Chars own ∷ its)
rest_text [] e elements end rows next its some r = absurd (some refl)
rest_text (b ∷ own) e elements end rows next its some r =
    let depth : ℕ = length (e ∷ elements) + 1 in
    let inside : Rest (e ∷ elements) end (rows ++ chars_row next depth ((b ∷ own) ++ run_chars r.run) ∷ []) (next + 1) r.more = r.inside.rest in
    let total : next + 1 + count inside.siblings ≡ next + (1 + count inside.siblings) = omega arith in
    record {
      siblings = text next ((b ∷ own) ++ run_chars r.run) inside.siblings;
      inner = (items.Chars (b ∷ own) ∷ r.run) ++ inside.inner;
      later = inside.later;
      are = ap (λ l. items.Chars (b ∷ own) ∷ l) (r.are ∙ ap (λ l. r.run ++ l) inside.are ∙ sym (append_assoc r.run inside.inner (items.Close e.name ∷ inside.later)));
      spells = record {
        run = items.Chars (b ∷ own) ∷ r.run;
        more = inside.inner;
        are = refl;
        is_run = record { run = r.is_run; have = refl };
        next = inside.spells;
      };
      numbers = (refl, inside.numbers);
      texts = (λ z. cc, r.inside.apart, inside.texts);
      within = inside.within;
      few = omega (arith, inside.few);
      behind = subst (λ k. Rest elements end (rows ++ rows_of depth (text next ((b ∷ own) ++ run_chars r.run) inside.siblings)) k inside.later) total
          (subst (λ l. Rest elements end l (next + 1 + count inside.siblings) inside.later) (append_assoc rows (chars_row next depth ((b ∷ own) ++ run_chars r.run) ∷ []) (rows_of depth inside.siblings)) inside.behind);
    }

-- an element
pub rest_element : (name : List ℕ) (e : OpenElement) (elements : List OpenElement) (end : Built) (rows : List Row) (next : ℕ) (its : List Item)
    → length (e ∷ elements) + 1 ≤ 128
    → RestTag (record { name = name; attributes = [] }) e.scope (e ∷ elements) end rows next its → RestApart e elements end rows next (items.Start name ∷ its)
rest_element name e elements end rows next its deep r =
    let depth : ℕ = length (e ∷ elements) + 1 in
    let tag : Tag = record { name = name; attributes = r.lines } in
    let own : Row = tag_row next depth (named e.scope tag) in
    let held : RestIn (opened_in e.scope tag) (length (opened_in e.scope tag ∷ e ∷ elements) + 1) (128 - length (opened_in e.scope tag ∷ e ∷ elements)) (Rest (e ∷ elements) end) (rows ++ own ∷ []) (next + 1) r.more = r.inside in
    let after : RestIn e depth (128 - length (e ∷ elements)) (Rest elements end) ((rows ++ own ∷ []) ++ rows_of (length (opened_in e.scope tag ∷ e ∷ elements) + 1) held.siblings) (next + 1 + count held.siblings) held.later = held.behind in
    let deeper : length (opened_in e.scope tag ∷ e ∷ elements) + 1 ≡ depth + 1 = omega arith in
    let fewer : 128 - length (opened_in e.scope tag ∷ e ∷ elements) ≡ 128 - length (e ∷ elements) - 1 = omega arith in
    let total : next + 1 + count held.siblings + count after.siblings ≡ next + (1 + (count held.siblings + count after.siblings)) = omega arith in
    let f : Forest = element next (named e.scope tag).name (named e.scope tag).bindings (named e.scope tag).attributes held.siblings after.siblings in
    let rows_are : ((rows ++ own ∷ []) ++ rows_of (length (opened_in e.scope tag ∷ e ∷ elements) + 1) held.siblings) ++ rows_of depth after.siblings ≡ rows ++ rows_of depth f =
    ap (λ k. ((rows ++ own ∷ []) ++ rows_of k held.siblings) ++ rows_of depth after.siblings) deeper
    ∙ ap (λ l. l ++ rows_of depth after.siblings) (append_assoc rows (own ∷ []) (rows_of (depth + 1) held.siblings))
    ∙ append_assoc rows (own ∷ rows_of (depth + 1) held.siblings) (rows_of depth after.siblings) in
    record {
      rest = record {
        siblings = f;
        inner = items.Start name ∷ (map line_item r.lines ++ (held.inner ++ (items.Close name ∷ after.inner)));
        later = after.later;
        are = ap (λ l. items.Start name ∷ l) (r.are ∙ ap (λ l. map line_item r.lines ++ l) (held.are ∙ ap (λ l. held.inner ++ (items.Close name ∷ l)) after.are
            ∙ sym (append_assoc held.inner (items.Close name ∷ after.inner) (items.Close e.name ∷ after.later)))
            ∙ sym (append_assoc (map line_item r.lines) (held.inner ++ (items.Close name ∷ after.inner)) (items.Close e.name ∷ after.later)));
        spells = record {
          tag = tag;
          before = [];
          inner = held.inner;
          more = after.inner;
          are = refl;
          front = record { run = tt; have = refl };
          well = r.well;
          so = refl;
          children = held.spells;
          next = after.spells;
        };
        numbers = (refl, held.numbers, after.numbers);
        texts = (held.texts, after.texts);
        within = (omega (arith, deep), subst (λ k. IsWithinDepth k held.siblings) fewer held.within, after.within);
        few = omega (arith, after.few);
        behind = subst (λ k. Rest elements end (rows ++ rows_of depth f) k after.later) total
            (subst (λ l. Rest elements end l (next + 1 + count held.siblings + count after.siblings) after.later) rows_are after.behind);
      };
      apart = tt;
    }

-- no attribute line comes more
pub tag_ready : (tag : Tag) (scope : List Binding) (elements : List OpenElement) (end : Built) (rows : List Row) (next : ℕ) (its : List Item)
    → name_fault scope tag ≡ None → Rest (opened_in scope tag ∷ elements) end (rows ++ tag_row next (length elements + 1) (named scope tag) ∷ []) (next + 1) its
    → RestTag tag scope elements end rows next its
tag_ready tag scope elements end rows next its well inside =
    let same : tag ≡ record tag { attributes = tag.attributes ++ [] } = ap (λ l. record tag { attributes = l }) (sym (append-nil tag.attributes)) in
    record {
      lines = [];
      more = its;
      are = refl;
      well = subst (λ t. name_fault scope t ≡ None) same well;
      inside = subst (λ t. Rest (opened_in scope t ∷ elements) end (rows ++ tag_row next (length elements + 1) (named scope t) ∷ []) (next + 1) its) same inside;
    }

-- an attribute line more
pub tag_lined : (tag : Tag) (line : AttributeLine) (scope : List Binding) (elements : List OpenElement) (end : Built) (rows : List Row) (next : ℕ) (its : List Item)
    → RestTag (record tag { attributes = tag.attributes ++ line ∷ [] }) scope elements end rows next its → RestTag tag scope elements end rows next (line_item line ∷ its)
tag_lined tag line scope elements end rows next its r =
    let same : record tag { attributes = (tag.attributes ++ line ∷ []) ++ r.lines } ≡ record tag { attributes = tag.attributes ++ (line ∷ r.lines) } =
    ap (λ l. record tag { attributes = l }) (append_assoc tag.attributes (line ∷ []) r.lines) in
    record {
      lines = line ∷ r.lines;
      more = r.more;
      are = ap (λ l. line_item line ∷ l) r.are;
      well = subst (λ t. name_fault scope t ≡ None) same r.well;
      inside = subst (λ t. Rest (opened_in scope t ∷ elements) end (rows ++ tag_row next (length elements + 1) (named scope t) ∷ []) (next + 1) r.more) same r.inside;
    }

-- no character comes more
pub chars_ready : (chars : List ℕ) (e : OpenElement) (elements : List OpenElement) (end : Built) (rows : List Row) (next : ℕ) (its : List Item)
    → RestApart e elements end (rows ++ chars_row next (length (e ∷ elements) + 1) chars ∷ []) (next + 1) its → RestChars chars e elements end rows next its
chars_ready chars e elements end rows next its inside = record {
  run = [];
  more = its;
  are = refl;
  is_run = tt;
  inside = subst (λ cs. RestApart e elements end (rows ++ chars_row next (length (e ∷ elements) + 1) cs ∷ []) (next + 1) its) (sym (append-nil chars)) inside;
}

-- characters more
pub chars_more : (chars more : List ℕ) (e : OpenElement) (elements : List OpenElement) (end : Built) (rows : List Row) (next : ℕ) (its : List Item)
    → RestChars (chars ++ more) e elements end rows next its → RestChars chars e elements end rows next (items.Chars more ∷ its)
chars_more chars more e elements end rows next its r = record {
  run = items.Chars more ∷ r.run;
  more = r.more;
  are = ap (λ l. items.Chars more ∷ l) r.are;
  is_run = r.is_run;
  inside = subst (λ cs. RestApart e elements end (rows ++ chars_row next (length (e ∷ elements) + 1) cs ∷ []) (next + 1) r.more) (append_assoc chars more (run_chars r.run)) r.inside;
}

pub chars_instruction : (chars : List ℕ) (e : OpenElement) (elements : List OpenElement) (end : Built) (rows : List Row) (next : ℕ) (its : List Item)
    → RestChars chars e elements end rows next its → RestChars chars e elements end rows next (items.Instruction ∷ its)
chars_instruction chars e elements end rows next its r = record {
  run = items.Instruction ∷ r.run;
  more = r.more;
  are = ap (λ l. items.Instruction ∷ l) r.are;
  is_run = r.is_run;
  inside = r.inside;
}
