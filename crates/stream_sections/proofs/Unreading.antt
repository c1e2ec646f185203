-- A stream of which something is given is spelled so.
use Rattle.std.proofs.Common.{◌≡◌, ◌⊎◌, inl, inr, ℕ, ◌+◌, ◌≤◌, List, [], ◌∷◌, ◌++◌, nat_le, length, Bool, true, false, Option, Some, None, Result, Ok, Err, if◌then◌else◌, refl, sym, ap, ◌∙◌, subst, arith, append_assoc, append-nil}
use Rattle.std.proofs.lemmas.Bool.Decides.{nat_tests}
use Rattle.item_listing.specs.Listed as listed
use Rattle.item_listing.specs.declared.item.Item.{Item}
use Rattle.item_listing.specs.declared.item.Item.TheVariants as items
use Rattle.tag_names.specs.Scopes.{first_scope}
use Rattle.tree_rows.specs.Forest.{Document, count}
use Rattle.tree_rows.specs.declared.row.Binding.{Binding}
use Rattle.tree_building.specs.Building.{built, document, tree}
use Rattle.tree_building.specs.Rules.{document_rules}
use Rattle.tree_building.specs.declared.building.Building.{Building}
use Rattle.tree_building.specs.declared.fault.TreeFault.{TreeFault}
use Rattle.tree_building.specs.Refusals.{AreListed}
use Rattle.tree_building.specs.Spelling.{IsDocument, SpellsDocument}
use Rattle.stream_sections.specs.Lines.{is_listing, is_end, is_document, ends_schemas, may_edit, opens_block}
use Rattle.stream_sections.specs.Sections as sections
use Rattle.stream_sections.specs.Sections.{Stop, refused, Stream, schemas, unfinished, Opened, undocumented, Commands, Closing, command, closes, uncommanded, ended, unclosed, OpenBlock, OpenSection, section_begun, whole_section, misplaced, bad_tree, built_so_far, grown_by, with_tree, at_command, in_block, among_commands, in_document, in_schemas, schema_sections}
use Rattle.stream_sections.specs.Spelled.{followed, whole, SpellsTree, SpellsSchemas, Word, Nothing, Order, SpellsOrder, SpellsOrders, Follows, SpellsSection, AreSections, SpellsCheck, has_document, SpellsStream, given}
use Rattle.stream_sections.specs.declared.asked.Asked.{Asked}
use Rattle.stream_sections.specs.declared.asked.Asked.TheVariants.{Check, Assess, Session}
use Rattle.stream_sections.specs.declared.refusal.Refusal.TheVariants as refusals
use Rattle.stream_sections.specs.declared.schemas.SchemaSection.{SchemaSection}
use Rattle.stream_sections.specs.declared.schemas.TheConstants.{MOST_SCHEMAS}

-- what is built of items was spelled by them
abbrev pub Unreads : Type 0
Unreads = (d : Document) (scope : List Binding) (its : List Item) → document (built document_rules scope its) ≡ Ok d
    → IsDocument d.forest × SpellsDocument d.forest scope its × (d.next_free ≡ 1 + count d.forest)

tree_spelled : Unreads → (d : Document) (its : List Item) → AreListed its → tree its ≡ Ok d → SpellsTree d its
tree_spelled u d its l e =
    let h : IsDocument d.forest × SpellsDocument d.forest first_scope its × (d.next_free ≡ 1 + count d.forest) = u d first_scope its e in
    record { listed = l; is_document = h.0; spells = h.1; counted = h.2 }

first_listed : (it : Item) (more : List Item) → is_listing it ≡ true → AreListed more → AreListed (it ∷ more)
first_listed (items.Start name) more e h = h
first_listed (items.Attr name value) more e h = h
first_listed (items.Chars chars) more e h = h
first_listed (items.Close name) more e h = h
first_listed items.Instruction more e h = h
first_listed it more e h = cc

listed_more : (xs ys : List Item) → AreListed xs → AreListed ys → AreListed (xs ++ ys)
listed_more [] ys h k = k
listed_more (items.Start name ∷ xs) ys h k = listed_more xs ys h k
listed_more (items.Attr name value ∷ xs) ys h k = listed_more xs ys h k
listed_more (items.Chars chars ∷ xs) ys h k = listed_more xs ys h k
listed_more (items.Close name ∷ xs) ys h k = listed_more xs ys h k
listed_more (items.Instruction ∷ xs) ys h k = listed_more xs ys h k
listed_more (it ∷ xs) ys h k = absurd h

and_listed : (its : List Item) (it : Item) → AreListed its → is_listing it ≡ true → AreListed (its ++ it ∷ [])
and_listed its it h e = listed_more its (it ∷ []) h (first_listed it [] e tt)

closing_ends : (lines : ℕ) (its : List Item) → sections.closing lines (whole its) ≡ ended → its ≡ []
closing_ends lines [] e = refl
closing_ends lines (it ∷ its) e = cc

-- commands
abbrev line_of : Commands → List ℕ
line_of (command line block more) = line
line_of (closes closing) = []
line_of (uncommanded stop) = []

abbrev block_of : Commands → Option (List Item)
block_of (command line block more) = block
block_of (closes closing) = None
block_of (uncommanded stop) = None

abbrev rest_of : Commands → Commands
rest_of (command line block more) = more
rest_of (closes closing) = closes closing
rest_of (uncommanded stop) = uncommanded stop

abbrev closing_of : Commands → Closing
closing_of (command line block more) = ended
closing_of (closes closing) = closing
closing_of (uncommanded stop) = ended

abbrev ordered : List ℕ → Option (List Item) → List Order → List Order
ordered line block later = record { line = line; block = block } ∷ later

command_given : (line : List ℕ) (block : Option (List Item)) (more : Commands) (orders : List Order) → command line block more ≡ given orders
    → (later : List Order) × (orders ≡ record { line = line; block = block } ∷ later) × (more ≡ given later)
command_given line block more [] e = cc
command_given line block more (o ∷ later) e =
    (later, ap (λ l. ordered l o.block later) (sym (ap line_of e)) ∙ ap (λ b. ordered line b later) (sym (ap block_of e)), ap rest_of e)

closes_given : (closing : Closing) (orders : List Order) → closes closing ≡ given orders → (orders ≡ []) × (closing ≡ ended)
closes_given closing [] e = (refl, ap closing_of e)
closes_given closing (o ∷ later) e = cc

stop_given : (stop : Stop) (orders : List Order) → uncommanded stop ≡ given orders → ⊥
stop_given stop [] e = cc
stop_given stop (o ∷ later) e = cc

abbrev Spelt : Option OpenBlock → List Order → List Item → Type 0
Spelt None orders its = SpellsOrders orders its
Spelt (Some b) orders its =
    (block : List Item) × (behind : List Item) × (later : List Order) × (its ≡ block ++ (items.Dot ∷ behind)) × AreListed block
    × (orders ≡ record { line = b.line; block = Some (b.items ++ block) } ∷ later) × SpellsOrders later behind

module _ (line : ℕ) (its : List Item)
    (ih : (b : Option OpenBlock) (orders : List Order) → sections.commands line b (whole its) ≡ given orders → Spelt b orders its) where
  command_spelt : (r : Bool) (text : List ℕ) (orders : List Order) → opens_block text ≡ r
      → (if r then sections.commands line (Some (record { line = text; items = [] })) (whole its) else command text None (sections.commands line None (whole its))) ≡ given orders
      → SpellsOrders orders (items.Command text ∷ its)
  command_spelt true text orders opens e =
      let h : Spelt (Some (record { line = text; items = [] })) orders its = ih (Some (record { line = text; items = [] })) orders e in
      subst (λ o. SpellsOrders o (items.Command text ∷ its)) (sym h.5) (h.1, ap (λ l. items.Command text ∷ l) h.3, opens, h.4, h.6)
  command_spelt false text orders opens e =
      let h : (later : List Order) × (orders ≡ record { line = text; block = None } ∷ later) × (sections.commands line None (whole its) ≡ given later) =
      command_given text None (sections.commands line None (whole its)) orders e in
      subst (λ o. SpellsOrders o (items.Command text ∷ its)) (sym h.1) (its, refl, opens, ih None h.0 h.2)

  outside_spelt : (it : Item) (orders : List Order)
      → at_command line it (λ next. sections.commands line next (whole its)) (sections.closing line (whole its)) ≡ given orders → SpellsOrders orders (it ∷ its)
  outside_spelt (items.Command text) orders e = command_spelt (opens_block text) text orders refl e
  outside_spelt items.End orders e =
      let h : (orders ≡ []) × (sections.closing line (whole its) ≡ ended) = closes_given (sections.closing line (whole its)) orders e in
      subst (λ o. SpellsOrders o (items.End ∷ its)) (sym h.0) (its, refl, closing_ends line its h.1)
  outside_spelt it orders e = absurd (stop_given (misplaced line) orders e)

  listing_spelt : (r : Bool) (b : OpenBlock) (it : Item) (orders : List Order) → is_listing it ≡ r
      → (if r then sections.commands line (Some (record b { items = b.items ++ it ∷ [] })) (whole its) else uncommanded (misplaced line)) ≡ given orders
      → Spelt (Some b) orders (it ∷ its)
  listing_spelt true b it orders is e =
      let h : Spelt (Some (record b { items = b.items ++ it ∷ [] })) orders its = ih (Some (record b { items = b.items ++ it ∷ [] })) orders e in (
        it ∷ h.0,
        h.1,
        h.2,
        ap (λ l. it ∷ l) h.3,
        first_listed it h.0 is h.4,
        h.5 ∙ ap (λ l. ordered b.line (Some l) h.2) (append_assoc b.items (it ∷ []) h.0),
        h.6,
      )
  listing_spelt false b it orders is e = absurd (stop_given (misplaced line) orders e)

  block_spelt : (b : OpenBlock) (it : Item) (orders : List Order)
      → in_block line b it (λ next. sections.commands line next (whole its)) ≡ given orders → Spelt (Some b) orders (it ∷ its)
  block_spelt b items.Dot orders e =
      let h : (later : List Order) × (orders ≡ record { line = b.line; block = Some b.items } ∷ later) × (sections.commands line None (whole its) ≡ given later) =
      command_given b.line (Some b.items) (sections.commands line None (whole its)) orders e in
      ([], its, h.0, refl, tt, h.1 ∙ ap (λ l. ordered b.line (Some l) h.0) (sym (append-nil b.items)), ih None h.0 h.2)
  block_spelt b it orders e = listing_spelt (is_listing it) b it orders refl e

  among_spelt : (b : Option OpenBlock) (it : Item) (orders : List Order)
      → among_commands line b it (λ next. sections.commands line next (whole its)) (sections.closing line (whole its)) ≡ given orders → Spelt b orders (it ∷ its)
  among_spelt None it orders e = outside_spelt it orders e
  among_spelt (Some b) it orders e = block_spelt b it orders e

commands_spelt : (its : List Item) (lines : ℕ) (b : Option OpenBlock) (orders : List Order) → sections.commands lines b (whole its) ≡ given orders → Spelt b orders its
commands_spelt [] lines b orders e = absurd (stop_given (sections.no_end lines) orders e)
commands_spelt (it ∷ its) lines b orders e = among_spelt (lines + 1) its (λ next o. commands_spelt its (lines + 1) next o) b it orders e

-- the document
abbrev document_or : Document → Opened → Document
document_or d (sections.document x more) = x
document_or d (undocumented stop) = d

abbrev commands_or : Commands → Opened → Commands
commands_or c (sections.document x more) = more
commands_or c (undocumented stop) = c

same_document : (x d : Document) (c more : Commands) → sections.document x c ≡ sections.document d more → (x ≡ d) × (c ≡ more)
same_document x d c more e = (ap (document_or d) e, ap (commands_or more) e)

module _ (u : Unreads) (a : Asked) (start : ℕ) (d : Document) (orders : List Order) where
  abbrev SpeltOpen : List Item → List Item → Type 0
  SpeltOpen front its = (inner : List Item) × (behind : List Item) × (its ≡ inner ++ behind) × SpellsTree d (front ++ inner) × Follows a orders behind

  ending_spelt : (t : Result Document TreeFault) (front its : List Item) (word : Item) (c : Commands) → AreListed front → tree front ≡ t
      → (c ≡ given orders → Follows a orders (word ∷ its))
      → with_tree start t undocumented (λ x. sections.document x c) ≡ sections.document d (given orders) → SpeltOpen front (word ∷ its)
  ending_spelt (Ok x) front its word c l is follows e =
      let h : (x ≡ d) × (c ≡ given orders) = same_document x d c (given orders) e in
      ([], word ∷ its, refl, subst (SpellsTree d) (sym (append-nil front)) (tree_spelled u d front l (is ∙ ap Ok h.0)), follows h.1)
  ending_spelt (Err fault) front its word c l is follows e = cc

  module _ (line : ℕ) (front its : List Item) (l : AreListed front)
      (ih : (all : List Item) → AreListed all → sections.opened a start all line (whole its) ≡ sections.document d (given orders) → SpeltOpen all its) where
    edits_spelt : (r : Bool) → may_edit a ≡ r
        → (if r then with_tree start (tree front) undocumented (λ x. sections.document x (sections.commands line None (whole its))) else undocumented (misplaced line))
        ≡ sections.document d (given orders) → SpeltOpen front (items.Edits ∷ its)
    edits_spelt true may e =
        ending_spelt (tree front) front its items.Edits (sections.commands line None (whole its)) l refl
        (λ c. inr (may, (its, refl, commands_spelt its line None orders c))) e
    edits_spelt false may e = cc

    grown_spelt : (b : Result Building TreeFault) (it : Item) → is_listing it ≡ true
        → grown_by start b undocumented (sections.opened a start (front ++ it ∷ []) line (whole its)) ≡ sections.document d (given orders) → SpeltOpen front (it ∷ its)
    grown_spelt (Ok b) it is e =
        let h : SpeltOpen (front ++ it ∷ []) its = ih (front ++ it ∷ []) (and_listed front it l is) e in
        (it ∷ h.0, h.1, ap (λ q. it ∷ q) h.2, subst (SpellsTree d) (append_assoc front (it ∷ []) h.0) h.3, h.4)
    grown_spelt (Err fault) it is e = cc

    item_spelt : (r : Bool) (it : Item) → is_listing it ≡ r
        → (if r then sections.grown start (front ++ it ∷ []) undocumented (sections.opened a start (front ++ it ∷ []) line (whole its)) else undocumented (misplaced line))
        ≡ sections.document d (given orders) → SpeltOpen front (it ∷ its)
    item_spelt true it is e = grown_spelt (built_so_far (front ++ it ∷ [])) it is e
    item_spelt false it is e = cc

    open_spelt : (it : Item)
        → in_document a line start front it (λ all. sections.opened a start all line (whole its)) (sections.commands line None (whole its)) (sections.closing line (whole its))
        ≡ sections.document d (given orders) → SpeltOpen front (it ∷ its)
    open_spelt items.End e =
        ending_spelt (tree front) front its items.End (closes (sections.closing line (whole its))) l refl
        (λ c. let h : (orders ≡ []) × (sections.closing line (whole its) ≡ ended) = closes_given (sections.closing line (whole its)) orders c in
        inl (h.0, (its, refl, closing_ends line its h.1))) e
    open_spelt items.Edits e = edits_spelt (may_edit a) refl e
    open_spelt it e = item_spelt (is_listing it) it refl e

  opened_spelt : (its front : List Item) (lines : ℕ) → AreListed front
      → sections.opened a start front lines (whole its) ≡ sections.document d (given orders) → SpeltOpen front its
  opened_spelt [] front lines l e = cc
  opened_spelt (it ∷ its) front lines l e = open_spelt (lines + 1) front its l (λ all. opened_spelt its all (lines + 1)) it e

section_spelt : Unreads → (a : Asked) (lines : ℕ) (d : Document) (orders : List Order) (its : List Item)
    → sections.document_section a lines (whole its) ≡ sections.document d (given orders) → SpellsSection a d orders its
section_spelt u a lines d orders its e = opened_spelt u a lines d orders its [] lines tt e

-- schema sections
abbrev sections_or : {Rest : Type 0} → List SchemaSection → Stream Rest → List SchemaSection
sections_or all (schemas found rest) = found
sections_or all (unfinished stop) = all

abbrev rest_or : {Rest : Type 0} → Rest → Stream Rest → Rest
rest_or r (schemas found rest) = rest
rest_or r (unfinished stop) = r

same_sections : {Rest : Type 0} (found all : List SchemaSection) (rest r : Rest) → schemas found rest ≡ schemas all r → (found ≡ all) × (rest ≡ r)
same_sections found all rest r e = (ap (sections_or all) e, ap (rest_or r) e)

few_found : (n : ℕ) → nat_le MOST_SCHEMAS n ≡ false → n + 1 ≤ MOST_SCHEMAS
few_found n e = grind (arith, nat_tests, e)

length_one : (xs : List SchemaSection) (x : SchemaSection) → length (xs ++ x ∷ []) ≡ length xs + 1
length_one [] x = refl
length_one (y ∷ xs) x = let h : length (xs ++ x ∷ []) ≡ length xs + 1 = length_one xs x in omega (arith, h)

one_more : (x : SchemaSection) (more : List SchemaSection) → length (x ∷ more) ≡ length more + 1
one_more x more = omega arith

begun_by : (n k m l : ℕ) → l ≡ m + 1 → n ≡ k + 1 → n + 1 + m ≤ MOST_SCHEMAS → k + 1 + l ≤ MOST_SCHEMAS
begun_by n k m l is e h = omega (arith, is, e, h)

begun_few : (n k : ℕ) (x : SchemaSection) (more : List SchemaSection) → n ≡ k + 1 → n + 1 + length more ≤ MOST_SCHEMAS → k + 1 + length (x ∷ more) ≤ MOST_SCHEMAS
begun_few n k x more e h = begun_by n k (length more) (length (x ∷ more)) (one_more x more) e h

few_of : (x : SchemaSection) (more : List SchemaSection) → 0 + 1 + length more ≤ MOST_SCHEMAS → length (x ∷ more) ≤ MOST_SCHEMAS
few_of x more h = let e : length (x ∷ more) ≡ length more + 1 = one_more x more in omega (arith, e, h)

some_of : (x : SchemaSection) (more : List SchemaSection) → 1 ≤ length (x ∷ more)
some_of x more = let e : length (x ∷ more) ≡ length more + 1 = one_more x more in omega (arith, e)

one_few : (n : ℕ) → n + 1 ≤ MOST_SCHEMAS → n + 1 + 0 ≤ MOST_SCHEMAS
one_few n h = omega (arith, h)

module _ (u : Unreads) (a : Asked) (word : Item) {Rest : Type 0} (rest : ℕ → listed.Listed → Rest) (r : Rest) (all : List SchemaSection)
    (is_word : (it : Item) → ends_schemas a it ≡ true → it ≡ word) where
  abbrev Then : List Item → Type 0
  Then behind = (n : ℕ) × (rest n (whole behind) ≡ r)

  abbrev SpeltIn : List SchemaSection → OpenSection → List Item → Type 0
  SpeltIn done s its = (inner : List Item) × (behind : List Item) × (d : Document) × (more : List SchemaSection) × (its ≡ inner ++ behind) × SpellsTree d (s.items ++ inner)
      × (all ≡ done ++ (record { locations = s.locations; tree = d } ∷ more)) × (length done + 1 + length more ≤ MOST_SCHEMAS) × SpellsSchemas more (Word word Then) behind

  abbrev SpeltFrom : List SchemaSection → Option OpenSection → List Item → Type 0
  SpeltFrom done None its = (done ≡ []) → AreSections all × SpellsSchemas all (Word word Then) its
  SpeltFrom done (Some s) its = AreListed s.items → length done + 1 ≤ MOST_SCHEMAS → SpeltIn done s its

  module _ (line : ℕ) (done : List SchemaSection) (its : List Item)
      (ih : (found : List SchemaSection) (s : OpenSection) → schema_sections a rest line found (Some s) (whole its) ≡ schemas all r → SpeltFrom found (Some s) its) where
    begun_spelt : (t : Result Document TreeFault) (s : OpenSection) (locations : List (List ℕ)) → AreListed s.items → tree s.items ≡ t → length done + 1 + 1 ≤ MOST_SCHEMAS
        → with_tree s.start t unfinished (λ d. schema_sections a rest line (done ++ whole_section s d ∷ []) (Some (section_begun line locations)) (whole its)) ≡ schemas all r
        → SpeltIn done s (items.Schema locations ∷ its)
    begun_spelt (Ok d) s locations l is few e =
        let h : SpeltIn (done ++ whole_section s d ∷ []) (section_begun line locations) its =
        ih (done ++ whole_section s d ∷ []) (section_begun line locations) e tt (subst (λ n. n + 1 ≤ MOST_SCHEMAS) (sym (length_one done (whole_section s d))) few) in (
          [],
          items.Schema locations ∷ its,
          d,
          record { locations = locations; tree = h.2 } ∷ h.3,
          refl,
          subst (SpellsTree d) (sym (append-nil s.items)) (tree_spelled u d s.items l is),
          h.6 ∙ append_assoc done (whole_section s d ∷ []) (record { locations = locations; tree = h.2 } ∷ h.3),
          begun_few (length (done ++ whole_section s d ∷ [])) (length done) (record { locations = locations; tree = h.2 }) h.3 (length_one done (whole_section s d)) h.7,
          (h.0, h.1, ap (λ q. items.Schema locations ∷ q) h.4, h.5, h.8),
        )
    begun_spelt (Err fault) s locations l is few e = cc

    begin_spelt : (b : Bool) (s : OpenSection) (locations : List (List ℕ)) → AreListed s.items → nat_le MOST_SCHEMAS (length done + 1) ≡ b
        → (if b then unfinished (refused (record { line = line; refusal = refusals.TooManySchemas }))
        else with_tree s.start (tree s.items) unfinished
        (λ d. schema_sections a rest line (done ++ whole_section s d ∷ []) (Some (section_begun line locations)) (whole its))) ≡ schemas all r
        → SpeltIn done s (items.Schema locations ∷ its)
    begin_spelt true s locations l few e = cc
    begin_spelt false s locations l few e = begun_spelt (tree s.items) s locations l refl (few_found (length done + 1) few) e

    added_spelt : (b : Result Building TreeFault) (s : OpenSection) (it : Item) → AreListed s.items → length done + 1 ≤ MOST_SCHEMAS → is_listing it ≡ true
        → grown_by s.start b unfinished (schema_sections a rest line done (Some (record s { items = s.items ++ it ∷ [] })) (whole its)) ≡ schemas all r
        → SpeltIn done s (it ∷ its)
    added_spelt (Ok b) s it l few is e =
        let h : SpeltIn done (record s { items = s.items ++ it ∷ [] }) its = ih done (record s { items = s.items ++ it ∷ [] }) e (and_listed s.items it l is) few in
        (it ∷ h.0, h.1, h.2, h.3, ap (λ q. it ∷ q) h.4, subst (SpellsTree h.2) (append_assoc s.items (it ∷ []) h.0) h.5, h.6, h.7, h.8)
    added_spelt (Err fault) s it l few is e = cc

    finished_spelt : (t : Result Document TreeFault) (s : OpenSection) (it : Item) → AreListed s.items → tree s.items ≡ t → length done + 1 ≤ MOST_SCHEMAS → it ≡ word
        → with_tree s.start t unfinished (λ d. schemas (done ++ whole_section s d ∷ []) (rest line (whole its))) ≡ schemas all r → SpeltIn done s (it ∷ its)
    finished_spelt (Ok d) s it l is few last e =
        let h : (done ++ whole_section s d ∷ [] ≡ all) × (rest line (whole its) ≡ r) = same_sections (done ++ whole_section s d ∷ []) all (rest line (whole its)) r e in (
          [],
          it ∷ its,
          d,
          [],
          refl,
          subst (SpellsTree d) (sym (append-nil s.items)) (tree_spelled u d s.items l is),
          sym h.0,
          one_few (length done) few,
          (its, ap (λ w. w ∷ its) last, (line, h.1)),
        )
    finished_spelt (Err fault) s it l is few last e = cc

    end_spelt : (b : Bool) (s : OpenSection) (it : Item) → AreListed s.items → length done + 1 ≤ MOST_SCHEMAS → ends_schemas a it ≡ b
        → (if b then with_tree s.start (tree s.items) unfinished (λ d. schemas (done ++ whole_section s d ∷ []) (rest line (whole its))) else unfinished (misplaced line))
        ≡ schemas all r → SpeltIn done s (it ∷ its)
    end_spelt true s it l few is e = finished_spelt (tree s.items) s it l refl few (is_word it is) e
    end_spelt false s it l few is e = cc

    other_spelt : (b : Bool) (s : OpenSection) (it : Item) → AreListed s.items → length done + 1 ≤ MOST_SCHEMAS → is_listing it ≡ b
        → (if b then sections.grown s.start (s.items ++ it ∷ []) unfinished (schema_sections a rest line done (Some (record s { items = s.items ++ it ∷ [] })) (whole its))
        else (if ends_schemas a it then with_tree s.start (tree s.items) unfinished (λ d. schemas (done ++ whole_section s d ∷ []) (rest line (whole its)))
        else unfinished (misplaced line))) ≡ schemas all r
        → SpeltIn done s (it ∷ its)
    other_spelt true s it l few is e = added_spelt (built_so_far (s.items ++ it ∷ [])) s it l few is e
    other_spelt false s it l few is e = end_spelt (ends_schemas a it) s it l few refl e

    in_section_spelt : (s : OpenSection) (it : Item) → AreListed s.items → length done + 1 ≤ MOST_SCHEMAS
        → in_schemas a line done (Some s) it (λ found next. schema_sections a rest line found (Some next) (whole its)) (rest line (whole its)) ≡ schemas all r
        → SpeltIn done s (it ∷ its)
    in_section_spelt s (items.Schema locations) l few e = begin_spelt (nat_le MOST_SCHEMAS (length done + 1)) s locations l refl e
    in_section_spelt s it l few e = other_spelt (is_listing it) s it l few refl e

    never : (b c : Bool) (it : Item) → (if b then unfinished (misplaced line) else (if c then unfinished (misplaced line) else unfinished (misplaced line))) ≡ schemas all r
        → (done ≡ []) → AreSections all × SpellsSchemas all (Word word Then) (it ∷ its)
    never true c it e none = cc
    never false true it e none = cc
    never false false it e none = cc

    first_spelt : (it : Item)
        → in_schemas a line done None it (λ found next. schema_sections a rest line found (Some next) (whole its)) (rest line (whole its)) ≡ schemas all r
        → (done ≡ []) → AreSections all × SpellsSchemas all (Word word Then) (it ∷ its)
    first_spelt (items.Schema locations) e none =
        let h : SpeltIn done (section_begun line locations) its =
        ih done (section_begun line locations) e tt (subst (λ l. length l + 1 ≤ MOST_SCHEMAS) (sym none) (omega arith)) in
        let x : SchemaSection = record { locations = locations; tree = h.2 } in
        let is : all ≡ x ∷ h.3 = h.6 ∙ ap (λ l. l ++ (x ∷ h.3)) none in
        let few : 0 + 1 + length h.3 ≤ MOST_SCHEMAS = subst (λ l. length l + 1 + length h.3 ≤ MOST_SCHEMAS) none h.7 in (
          record { some = subst (λ l. 1 ≤ length l) (sym is) (some_of x h.3); few = subst (λ l. length l ≤ MOST_SCHEMAS) (sym is) (few_of x h.3 few) },
          subst (λ l. SpellsSchemas l (Word word Then) (items.Schema locations ∷ its)) (sym is) (h.0, h.1, ap (λ q. items.Schema locations ∷ q) h.4, h.5, h.8),
        )
    first_spelt it e none = never (is_listing it) (ends_schemas a it) it e none

    any_spelt : (s : Option OpenSection) (it : Item)
        → in_schemas a line done s it (λ found next. schema_sections a rest line found (Some next) (whole its)) (rest line (whole its)) ≡ schemas all r
        → SpeltFrom done s (it ∷ its)
    any_spelt None it e = first_spelt it e
    any_spelt (Some s) it e = λ l few. in_section_spelt s it l few e

  sections_spelt : (its : List Item) (lines : ℕ) (done : List SchemaSection) (s : Option OpenSection)
      → schema_sections a rest lines done s (whole its) ≡ schemas all r → SpeltFrom done s its
  sections_spelt [] lines done None e = λ none. cc
  sections_spelt [] lines done (Some s) e = λ l few. cc
  sections_spelt (it ∷ its) lines done s e =
      any_spelt (lines + 1) done its (λ found next. sections_spelt its (lines + 1) found (Some next)) s it e

ends_check : (it : Item) → ends_schemas Check it ≡ true → it ≡ items.End
ends_check items.End e = refl
ends_check it e = cc

document_word : (it : Item) → is_document it ≡ true → it ≡ items.Document
document_word items.Document e = refl
document_word it e = cc

ends_other : (a : Asked) → has_document a ≡ true → (it : Item) → ends_schemas a it ≡ true → it ≡ items.Document
ends_other Check asks it e = cc
ends_other Assess asks it e = document_word it e
ends_other Session asks it e = document_word it e

-- what follows may be said otherwise
weaker : (P Q : List Item → Type 0) (word : Item) → ((behind : List Item) → P behind → Q behind) → (all : List SchemaSection) (its : List Item)
    → SpellsSchemas all (Word word P) its → SpellsSchemas all (Word word Q) its
weaker P Q word f [] its h = (h.0, h.1, f h.0 h.2)
weaker P Q word f (s ∷ more) its h = (h.0, h.1, h.2, h.3, weaker P Q word f more h.1 h.4)

pub check_spelt : Unreads → (all : List SchemaSection) (its : List Item) → sections.schemas_alone Check (whole its) ≡ schemas all ended → SpellsCheck all its
check_spelt u all its e =
    let h : AreSections all × SpellsSchemas all (Word items.End (λ behind. (n : ℕ) × (sections.closing n (whole behind) ≡ ended))) its =
    sections_spelt u Check items.End sections.closing ended all ends_check its 0 [] None e refl in
    record {
      sections_are = h.0;
      spells = weaker (λ behind. (n : ℕ) × (sections.closing n (whole behind) ≡ ended)) Nothing items.End (λ behind k. closing_ends k.0 behind k.1) all its h.1;
    }

pub stream_spelt : Unreads → (a : Asked) (all : List SchemaSection) (d : Document) (orders : List Order) (its : List Item) → has_document a ≡ true
    → sections.with_document a (whole its) ≡ schemas all (sections.document d (given orders)) → SpellsStream a all d orders its
stream_spelt u a all d orders its asks e =
    let h : AreSections all × SpellsSchemas all (Word items.Document
    (λ behind. (n : ℕ) × (sections.document_section a n (whole behind) ≡ sections.document d (given orders)))) its =
    sections_spelt u a items.Document (sections.document_section a) (sections.document d (given orders)) all (ends_other a asks) its 0 [] None e refl in
    record {
      asks = asks;
      sections_are = h.0;
      spells = weaker (λ behind. (n : ℕ) × (sections.document_section a n (whole behind) ≡ sections.document d (given orders))) (SpellsSection a d orders)
          items.Document (λ behind k. section_spelt u a k.0 d orders behind k.1) all its h.1;
    }
