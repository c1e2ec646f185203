-- The items that spell a document build it.
use Rattle.std.proofs.Common.{◌≡◌, ◌⊎◌, inl, inr, ℕ, ◌+◌, ◌-◌, ◌≤◌, List, [], ◌∷◌, ◌++◌, true, false, ◌==◌, Option, Some, None, Ok, length, map, refl, sym, ap, ◌∙◌, arith, nat_lt, append_assoc, append-nil, subst}
use Rattle.std.proofs.lemmas.Bool.Decides.{nat_tests}
use Rattle.std.specs.Str.{bytes_eq}
use Rattle.item_listing.specs.declared.item.Item.{Item}
use Rattle.item_listing.specs.declared.item.Item.TheVariants as items
use Rattle.tag_names.specs.Tags.{named}
use Rattle.tag_names.specs.declared.fault.NameReason.{NameReason}
use Rattle.tag_names.specs.declared.lines.AttributeLine.{AttributeLine}
use Rattle.tag_names.specs.declared.lines.Tag.{Tag}
use Rattle.tree_rows.specs.Forest.{Forest, none, text, element, count, numbered}
use Rattle.tree_rows.specs.Rows.{rows_of}
use Rattle.tree_rows.specs.RowLaws.{siblings-all}
use Rattle.tree_rows.specs.declared.name.Expanded.{Expanded}
use Rattle.tree_rows.specs.declared.row.Attribute.{Attribute}
use Rattle.tree_rows.specs.declared.row.Binding.{Binding}
use Rattle.tree_rows.specs.declared.row.Row.{Row}
use Rattle.tree_building.specs.Building.{◌>>=◌, with_element, element_row, tag_by, settled_by, started, ended, took, ended_all, after_all, built, document, nothing}
use Rattle.tree_building.specs.Nest.{OpenElement}
use Rattle.tree_building.specs.Rules.{document_rules}
use Rattle.tree_building.specs.Steps.{holds_chars}
use Rattle.tree_building.specs.declared.pending.Pending.{Pending}
use Rattle.tree_building.specs.declared.pending.Pending.TheVariants as pending
use Rattle.tree_building.specs.declared.building.Building.{Building}
use Rattle.tree_building.specs.Spelling.{line_item, IsRunOf, AreSpace, SpellsElement, SpellsText, Spells, BeginsNoText, HasWholeTexts, IsWithinDepth, IsDocument, SpellsDocument}
use Rattle.tree_building.proofs.States.{At, Outside, tag_row, chars_row, opened_in, some_open}
use Rattle.tree_building.proofs.Runs.{silent_read, run_read, space_read}

pub same_bytes : (xs : List ℕ) → bytes_eq xs xs ≡ true
same_bytes [] = refl
same_bytes (b ∷ bytes) = let one : (b == b) ≡ true = grind (arith, nat_tests) in rw one (same_bytes bytes)

element_starts : (name : List ℕ) (rows : List Row) (outer : List Binding) (e : OpenElement) (elements : List OpenElement) (next taken : ℕ)
    → length (e ∷ elements) + 1 ≤ 128 → next ≤ 131072
    → started name (At rows outer (e ∷ elements) pending.Nothing next taken) ≡ Ok (At rows outer (e ∷ elements) (pending.Start (record { name = name; attributes = [] }) taken) next (taken + 1))
element_starts name rows outer e elements next taken deep few =
    let shallow : nat_lt 128 (length (e ∷ elements) + 1) ≡ false = grind (arith, nat_tests, deep) in
    let fits : nat_lt 131072 next ≡ false = grind (arith, nat_tests, few) in
    rw (some_open e elements, shallow, fits) refl

-- attribute lines come one by one
lines_read : (rows : List Row) (outer : List Binding) (elements : List OpenElement) (name : List ℕ) (item next taken : ℕ) (had lines : List AttributeLine) (rest : List Item)
    → (t : ℕ) × (after_all (Ok (At rows outer elements (pending.Start (record { name = name; attributes = had }) item) next taken)) (map line_item lines ++ rest)
    ≡ after_all (Ok (At rows outer elements (pending.Start (record { name = name; attributes = had ++ lines }) item) next t)) rest)
lines_read rows outer elements name item next taken had [] rest =
    (taken, ap (λ l. after_all (Ok (At rows outer elements (pending.Start (record { name = name; attributes = l }) item) next taken)) rest) (sym (append-nil had)))
lines_read rows outer elements name item next taken had (line ∷ lines) rest =
    let later = lines_read rows outer elements name item next (taken + 1) (had ++ line ∷ []) lines rest in
    (later.0, later.1 ∙ ap (λ l. after_all (Ok (At rows outer elements (pending.Start (record { name = name; attributes = l }) item) next later.0)) rest) (append_assoc had (line ∷ []) lines))

pub by_found : (b : Building) (tag : Tag) (item : ℕ) (found : Option NameReason) → found ≡ None → tag_by b tag item found ≡ Ok (with_element b tag.name (element_row b tag))
by_found b tag item (Some reason) e = cc
by_found b tag item None e = refl

-- the items of siblings, up to the end of their parent
abbrev Reads : List Item → Building → List Row → List Binding → OpenElement → List OpenElement → ℕ → ℕ → Forest → List Item → Type 0
Reads its b rows outer e elements next depth f rest =
    (t : ℕ) × (after_all (Ok b) (its ++ (items.Close e.name ∷ rest)) ≡ after_all (Ok (At (rows ++ rows_of depth f) outer elements pending.Nothing (next + count f) t)) rest)

end_read : (its : List Item) (b : Building) (rows : List Row) (outer : List Binding) (e : OpenElement) (elements : List OpenElement) (next taken depth : ℕ) (rest : List Item)
    → IsRunOf [] its → settled_by b b.pending ≡ Ok (At rows outer (e ∷ elements) pending.Nothing next taken) → Reads its b rows outer e elements next depth none rest
end_read its b rows outer e elements next taken depth rest run s =
    let silent = silent_read its (items.Close e.name ∷ rest) b rows outer e elements next taken run.run run.have s in
    let same : bytes_eq e.name e.name ≡ true = same_bytes e.name in
    let closed : ended e.name (At rows outer (e ∷ elements) pending.Nothing next silent.taken) ≡ Ok (At rows outer elements pending.Nothing next (silent.taken + 1)) = rw same refl in
    let zero_is : next ≡ next + 0 = omega arith in (
      silent.taken + 1,
      silent.goes ∙ ap (λ r. after_all (r >>= ended e.name) rest) silent.settles ∙ ap (λ r. after_all r rest) closed
          ∙ ap (λ l. after_all (Ok (At l outer elements pending.Nothing next (silent.taken + 1))) rest) (sym (append-nil rows))
          ∙ ap (λ k. after_all (Ok (At (rows ++ []) outer elements pending.Nothing k (silent.taken + 1))) rest) zero_is,
    )

-- a text and what comes next
text_read : (own : List ℕ) (run more : List Item) (b : Building) (rows : List Row) (outer : List Binding) (e : OpenElement) (elements : List OpenElement) (n next taken depth : ℕ) (later : Forest) (rest : List Item)
    → IsRunOf own run → settled_by b b.pending ≡ Ok (At rows outer (e ∷ elements) pending.Nothing next taken) → holds_chars b.pending ≡ false
    → (own ≡ [] → ⊥) → n ≡ next → next ≤ 131072 → length (e ∷ elements) + 1 ≡ depth
    → ((t : ℕ) → Reads more (At rows outer (e ∷ elements) (pending.Chars own) next t) (rows ++ chars_row next (length (e ∷ elements) + 1) own ∷ []) outer e elements (next + 1) depth later rest)
    → Reads (run ++ more) b rows outer e elements next depth (text n own later) rest
text_read own run more b rows outer e elements n next taken depth later rest is_run s fresh some same few d read =
    let one : next + 1 + count later ≡ next + (1 + count later) = omega arith in
    let came = run_read run (more ++ (items.Close e.name ∷ rest)) b rows outer e elements next taken is_run.run (λ z. some (sym is_run.have ∙ z)) few fresh s in
    let behind = read came.0 in (
      behind.0,
      ap (after_all (Ok b)) (append_assoc run more (items.Close e.name ∷ rest)) ∙ came.1
          ∙ ap (λ cs. after_all (Ok (At rows outer (e ∷ elements) (pending.Chars cs) next came.0)) (more ++ (items.Close e.name ∷ rest))) is_run.have
          ∙ behind.1
          ∙ ap (λ l. after_all (Ok (At l outer elements pending.Nothing (next + 1 + count later) behind.0)) rest)
          (append_assoc rows (chars_row next (length (e ∷ elements) + 1) own ∷ []) (rows_of depth later)
          ∙ ap (λ k. rows ++ (chars_row k (length (e ∷ elements) + 1) own ∷ rows_of depth later)) (sym same)
          ∙ ap (λ k. rows ++ (chars_row n k own ∷ rows_of depth later)) d)
          ∙ ap (λ k. after_all (Ok (At (rows ++ (chars_row n depth own ∷ rows_of depth later)) outer elements pending.Nothing k behind.0)) rest) one,
    )

spread : (n : List ℕ) (lines inner more rest : List Item)
    → (lines ++ (inner ++ (items.Close n ∷ more))) ++ rest ≡ lines ++ (inner ++ (items.Close n ∷ (more ++ rest)))
spread n lines inner more rest =
    append_assoc lines (inner ++ (items.Close n ∷ more)) rest ∙ ap (λ l. lines ++ l) (append_assoc inner (items.Close n ∷ more) rest)

-- an element, and what comes next
element_read : (tag : Tag) (before inner more : List Item) (b : Building) (rows : List Row) (outer : List Binding) (e : OpenElement) (elements : List OpenElement) (n next taken depth : ℕ)
    (name : Expanded) (bindings : List Binding) (attributes : List Attribute) (children later : Forest) (rest : List Item)
    → IsRunOf [] before → settled_by b b.pending ≡ Ok (At rows outer (e ∷ elements) pending.Nothing next taken)
    → length (e ∷ elements) + 1 ≡ depth → n ≡ next → depth ≤ 128 → next ≤ 131072
    → named e.scope tag ≡ record { name = name; bindings = bindings; attributes = attributes }
    → ((start t : ℕ) → Reads inner (At rows outer (e ∷ elements) (pending.Start tag start) next t) (rows ++ tag_row next (length (e ∷ elements) + 1) (named e.scope tag) ∷ [])
    outer (opened_in e.scope tag) (e ∷ elements) (next + 1) (depth + 1) children (more ++ (items.Close e.name ∷ rest)))
    → ((t : ℕ) → Reads more (At ((rows ++ tag_row next (length (e ∷ elements) + 1) (named e.scope tag) ∷ []) ++ rows_of (depth + 1) children) outer (e ∷ elements) pending.Nothing (next + 1 + count children) t)
    ((rows ++ tag_row next (length (e ∷ elements) + 1) (named e.scope tag) ∷ []) ++ rows_of (depth + 1) children) outer e elements (next + 1 + count children) depth later rest)
    → Reads (before ++ (items.Start tag.name ∷ (map line_item tag.attributes ++ (inner ++ (items.Close tag.name ∷ more))))) b rows outer e elements next depth (element n name bindings attributes children later) rest
element_read tag before inner more b rows outer e elements n next taken depth name bindings attributes children later rest run s d same deep few says below behind =
    let own : Row = tag_row next (length (e ∷ elements) + 1) (named e.scope tag) in
    let total : next + 1 + count children + count later ≡ next + (1 + (count children + count later)) = omega arith in
    let rest1 : List Item = more ++ (items.Close e.name ∷ rest) in
    let shown : List Item = items.Start tag.name ∷ (map line_item tag.attributes ++ (inner ++ (items.Close tag.name ∷ rest1))) in
    let silent = silent_read before shown b rows outer e elements next taken run.run run.have s in
    let came : took silent.then (items.Start tag.name) ≡ Ok (At rows outer (e ∷ elements) (pending.Start (record { name = tag.name; attributes = [] }) silent.taken) next (silent.taken + 1)) =
    ap (λ r. r >>= started tag.name) silent.settles ∙ element_starts tag.name rows outer e elements next silent.taken (omega (arith, d, deep)) few in
    let lines = lines_read rows outer (e ∷ elements) tag.name silent.taken next (silent.taken + 1) [] tag.attributes (inner ++ (items.Close tag.name ∷ rest1)) in
    let inside = below silent.taken lines.0 in
    let after = behind inside.0 in (
      after.0,
      ap (after_all (Ok b)) (append_assoc before (items.Start tag.name ∷ (map line_item tag.attributes ++ (inner ++ (items.Close tag.name ∷ more)))) (items.Close e.name ∷ rest)
          ∙ ap (λ l. before ++ (items.Start tag.name ∷ l)) (spread tag.name (map line_item tag.attributes) inner more (items.Close e.name ∷ rest)))
          ∙ silent.goes
          ∙ ap (λ r. after_all r (map line_item tag.attributes ++ (inner ++ (items.Close tag.name ∷ rest1)))) came
          ∙ lines.1 ∙ inside.1 ∙ after.1
          ∙ ap (λ l. after_all (Ok (At l outer elements pending.Nothing (next + 1 + count children + count later) after.0)) rest)
          (ap (λ l. l ++ rows_of depth later) (append_assoc rows (own ∷ []) (rows_of (depth + 1) children))
          ∙ append_assoc rows (own ∷ rows_of (depth + 1) children) (rows_of depth later)
          ∙ ap (λ k. rows ++ (tag_row k (length (e ∷ elements) + 1) (named e.scope tag) ∷ (rows_of (depth + 1) children ++ rows_of depth later))) (sym same)
          ∙ ap (λ k. rows ++ (tag_row n k (named e.scope tag) ∷ (rows_of (depth + 1) children ++ rows_of depth later))) d
          ∙ ap (λ says. rows ++ (tag_row n depth says ∷ (rows_of (depth + 1) children ++ rows_of depth later))) says)
          ∙ ap (λ k. after_all (Ok (At (rows ++ rows_of depth (element n name bindings attributes children later)) outer elements pending.Nothing k after.0)) rest) total,
    )

-- a text does not follow characters that came just before
abbrev Fresh : Pending → Forest → Type 0
Fresh p f = (holds_chars p ≡ false) ⊎ BeginsNoText f

siblings_read : (f : Forest) (its : List Item) (b : Building) (rows : List Row) (outer : List Binding) (e : OpenElement) (elements : List OpenElement) (next taken depth levels : ℕ) (rest : List Item)
    → settled_by b b.pending ≡ Ok (At rows outer (e ∷ elements) pending.Nothing next taken) → Fresh b.pending f → Spells f e.scope its
    → numbered next f → HasWholeTexts f → IsWithinDepth levels f → length (e ∷ elements) + 1 ≡ depth → depth + levels ≤ 129 → next + count f ≤ 131073
    → Reads its b rows outer e elements next depth f rest
siblings_read none its b rows outer e elements next taken depth levels rest s fresh spells numbers texts within d deep few =
    end_read its b rows outer e elements next taken depth rest spells s
siblings_read (text n own later) its b rows outer e elements next taken depth levels rest s (inr bad) spells numbers texts within d deep few = absurd bad
siblings_read (text n own later) its b rows outer e elements next taken depth levels rest s (inl fresh) spells numbers texts within d deep few =
    subst (λ its. Reads its b rows outer e elements next depth (text n own later) rest) (sym spells.are)
    (text_read own spells.run spells.more b rows outer e elements n next taken depth later rest spells.is_run s fresh texts.0 numbers.0 (omega (arith, few)) d
    (λ t. siblings_read later spells.more (At rows outer (e ∷ elements) (pending.Chars own) next t)
    (rows ++ chars_row next (length (e ∷ elements) + 1) own ∷ [])
    outer e elements (next + 1) t depth levels rest refl (inr texts.1) spells.next numbers.1 texts.2 within d deep (omega (arith, few))))
siblings_read (element n name bindings attributes children later) its b rows outer e elements next taken depth levels rest s fresh spells numbers texts within d deep few =
    let tag : Tag = spells.tag in
    let rows1 : List Row = rows ++ tag_row next (length (e ∷ elements) + 1) (named e.scope tag) ∷ [] in
    let longer : length (opened_in e.scope tag ∷ e ∷ elements) + 1 ≡ depth + 1 = omega (arith, d) in
    subst (λ its. Reads its b rows outer e elements next depth (element n name bindings attributes children later) rest) (sym spells.are)
    (element_read tag spells.before spells.inner spells.more b rows outer e elements n next taken depth name bindings attributes children later rest spells.front s d numbers.0
    (omega (arith, within.0, deep)) (omega (arith, few)) spells.so
    (λ start t. siblings_read children spells.inner (At rows outer (e ∷ elements) (pending.Start tag start) next t) rows1 outer (opened_in e.scope tag) (e ∷ elements) (next + 1) t (depth + 1) (levels - 1)
    (spells.more ++ (items.Close e.name ∷ rest)) (by_found (At rows outer (e ∷ elements) (pending.Start tag start) next t) tag start _ spells.well) (inl refl) spells.children
    numbers.1 texts.0 within.1 longer (omega (arith, within.0, deep)) (omega (arith, few)))
    (λ t. siblings_read later spells.more (At (rows1 ++ rows_of (depth + 1) children) outer (e ∷ elements) pending.Nothing (next + 1 + count children) t)
    (rows1 ++ rows_of (depth + 1) children) outer e elements (next + 1 + count children) t depth levels rest refl (inl refl) spells.next
    numbers.2 texts.1 within.2 d deep (omega (arith, few))))

-- the root
root_read : (its : List Item) (scope : List Binding) (n : ℕ) (name : Expanded) (bindings : List Binding) (attributes : List Attribute) (children : Forest)
    → SpellsElement AreSpace scope (record { name = name; bindings = bindings; attributes = attributes }) (Spells children) AreSpace its
    → n ≡ 1 → numbered 2 children → HasWholeTexts children → IsWithinDepth 127 children → 1 + count children ≤ 131072
    → built document_rules scope its ≡ Ok (record { rows = rows_of 1 (element n name bindings attributes children none); next = 2 + count children })
root_read its scope n name bindings attributes children spells same numbers texts within few =
    let tag : Tag = spells.tag in
    let own : Row = tag_row 1 1 (named scope tag) in
    let front = space_read spells.before (items.Start tag.name ∷ (map line_item tag.attributes ++ (spells.inner ++ (items.Close tag.name ∷ spells.more)))) [] scope false 1 0 spells.front in
    let lines = lines_read [] scope [] tag.name front.0 1 (front.0 + 1) [] tag.attributes (spells.inner ++ (items.Close tag.name ∷ spells.more)) in
    let b : Building = At [] scope [] (pending.Start tag front.0) 1 lines.0 in
    let inside = siblings_read children spells.inner b (own ∷ []) scope (opened_in scope tag) [] 2 lines.0 2 127 spells.more
    (by_found b tag front.0 _ spells.well) (inl refl) spells.children numbers texts within refl (omega arith) (omega (arith, few)) in
    let behind = space_read spells.more [] (own ∷ rows_of 2 children) scope true (2 + count children) inside.0 spells.next in
    ap (λ its. after_all (Ok (nothing document_rules scope)) its >>= ended_all) spells.are
    ∙ ap (λ r. r >>= ended_all) (front.1 ∙ lines.1 ∙ inside.1 ∙ ap (after_all (Ok (Outside (own ∷ rows_of 2 children) scope true (2 + count children) inside.0))) (sym (append-nil spells.more)) ∙ behind.1)
    ∙ ap (λ k. Ok (record { rows = tag_row k 1 (named scope tag) ∷ rows_of 2 children; next = 2 + count children })) (sym same)
    ∙ ap (λ says. Ok (record { rows = tag_row n 1 says ∷ rows_of 2 children; next = 2 + count children })) spells.so
    ∙ ap (λ l. Ok (record { rows = tag_row n 1 (record { name = name; bindings = bindings; attributes = attributes }) ∷ l; next = 2 + count children })) (sym (append-nil (rows_of 2 children)))

pub document_read : (f : Forest) (scope : List Binding) (its : List Item) → IsDocument f → SpellsDocument f scope its
    → document (built document_rules scope its) ≡ Ok (record { forest = f; next_free = 1 + count f })
document_read none scope its d spells = absurd d
document_read (text n chars next) scope its d spells = absurd d
document_read (element n name bindings attributes children next) scope its d spells =
    let size : 2 + count children ≡ 1 + (1 + (count children + 0)) = omega arith in
    ap document (root_read its scope n name bindings attributes children spells d.1.0 d.1.1 d.2 d.3 d.4)
    ∙ ap (λ g. Ok (record { forest = g; next_free = 2 + count children })) (siblings-all (element n name bindings attributes children none))
    ∙ ap (λ k. Ok (record { forest = element n name bindings attributes children none; next_free = k })) size
    ∙ ap (λ g. Ok (record { forest = element n name bindings attributes children g; next_free = 1 + (1 + (count children + count g)) })) (sym d.0)
