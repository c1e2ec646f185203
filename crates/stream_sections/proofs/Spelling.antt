-- What a stream that is spelled gives.
use Rattle.std.proofs.Common.{◌≡◌, ◌⊎◌, inl, inr, ℕ, ◌+◌, ◌≤◌, List, [], ◌∷◌, ◌++◌, nat_le, length, Bool, true, false, Option, Some, None, Result, Ok, Err, if◌then◌else◌, refl, sym, ap, ◌∙◌, subst, arith, append_assoc, append-nil}
use Rattle.std.proofs.lemmas.Bool.Decides.{nat_tests}
use Rattle.item_listing.specs.Listed as listed
use Rattle.item_listing.specs.declared.item.Item.{Item}
use Rattle.item_listing.specs.declared.item.Item.TheVariants as items
use Rattle.tag_names.specs.Scopes.{first_scope}
use Rattle.tree_rows.specs.Forest.{Forest, Document, count}
use Rattle.tree_rows.specs.declared.row.Binding.{Binding}
use Rattle.tree_building.specs.Building.{◌>>=◌, after, after_all, ended_all, built, document, tree}
use Rattle.tree_building.specs.Rules.{document_rules}
use Rattle.tree_building.specs.declared.building.Building.{Building}
use Rattle.tree_building.specs.declared.fault.TreeFault.{TreeFault}
use Rattle.tree_building.specs.Refusals.{AreListed}
use Rattle.tree_building.specs.Spelling.{IsDocument, SpellsDocument}
use Rattle.stream_sections.specs.Lines.{is_listing, ends_schemas, may_edit, opens_block}
use Rattle.stream_sections.specs.Sections as sections
use Rattle.stream_sections.specs.Sections.{Stop, refused, Stream, schemas, unfinished, Opened, undocumented, Commands, Closing, command, closes, uncommanded, ended, OpenBlock, OpenSection, section_begun, whole_section, misplaced, built_so_far, grown_by, with_tree, at_command, in_block, in_document, in_schemas, schema_sections, begins}
use Rattle.stream_sections.specs.Spelled.{followed, whole, SpellsTree, SpellsSchemas, Word, Nothing, Order, SpellsOrder, SpellsOrders, Follows, SpellsSection, AreSections, SpellsCheck, has_document, SpellsStream, given}
use Rattle.stream_sections.specs.declared.asked.Asked.{Asked}
use Rattle.stream_sections.specs.declared.asked.Asked.TheVariants.{Check, Assess, Session}
use Rattle.stream_sections.specs.declared.refusal.Refusal.TheVariants as refusals
use Rattle.stream_sections.specs.declared.schemas.SchemaSection.{SchemaSection}
use Rattle.stream_sections.specs.declared.schemas.TheConstants.{MOST_SCHEMAS}
use Rattle.stream_sections.proofs.Building.{all_more}

-- what spells a document builds it
abbrev pub Reads : Type 0
Reads = (f : Forest) (scope : List Binding) (its : List Item) → IsDocument f → SpellsDocument f scope its
    → document (built document_rules scope its) ≡ Ok (record { forest = f; next_free = 1 + count f })

abbrev Builds : List Item → Type 0
Builds its = (b : Building) × (built_so_far its ≡ Ok b)

err_stays : (fault : TreeFault) (its : List Item) → after_all (Err fault) its ≡ Err fault
err_stays fault [] = refl
err_stays fault (it ∷ its) = err_stays fault its

builds_by : (r : Result Building TreeFault) (d : Document) → document (r >>= ended_all) ≡ Ok d → (b : Building) × (r ≡ Ok b)
builds_by (Ok b) d e = (b, refl)
builds_by (Err fault) d e = cc

tree_builds : (its : List Item) (d : Document) → tree its ≡ Ok d → Builds its
tree_builds its d e = builds_by (built_so_far its) d e

front_by : (r : Result Building TreeFault) (its : List Item) (b : Building) → after_all r its ≡ Ok b → (x : Building) × (r ≡ Ok x)
front_by (Ok x) its b e = (x, refl)
front_by (Err fault) its b e = let stays : after_all (Err fault) its ≡ Err fault = err_stays fault its in cc

front_builds : (front more : List Item) → Builds (front ++ more) → Builds front
front_builds front more h = front_by (built_so_far front) more h.0 (sym (all_more (built_so_far []) front more) ∙ h.1)

followed_more : (its more : List Item) (end : listed.Listed) → followed (its ++ more) end ≡ followed its (followed more end)
followed_more [] more end = refl
followed_more (it ∷ its) more end = ap (listed.gives it) (followed_more its more end)

listed_first : (it : Item) (more : List Item) → AreListed (it ∷ more) → (is_listing it ≡ true) × AreListed more
listed_first (items.Start name) more h = (refl, h)
listed_first (items.Attr name value) more h = (refl, h)
listed_first (items.Chars chars) more h = (refl, h)
listed_first (items.Close name) more h = (refl, h)
listed_first items.Instruction more h = (refl, h)
listed_first it more h = absurd h

-- a block
block_by : (r : Bool) (line : ℕ) (next stop : Commands) → r ≡ true → (if r then next else stop) ≡ next
block_by true line next stop e = refl
block_by false line next stop e = cc

block_takes : (line : ℕ) (b : OpenBlock) (it : Item) (next : Option OpenBlock → Commands) → is_listing it ≡ true
    → in_block line b it next ≡ next (Some (record b { items = b.items ++ it ∷ [] }))
block_takes line b items.Dot next e = cc
block_takes line b it next e = block_by (is_listing it) line (next (Some (record b { items = b.items ++ it ∷ [] }))) (uncommanded (misplaced line)) e

block_on : (lines : ℕ) (b : OpenBlock) (its : List Item) (end : listed.Listed) → AreListed its
    → (n : ℕ) × (sections.commands lines (Some b) (followed its end) ≡ sections.commands n (Some (record b { items = b.items ++ its })) end)
block_on lines b [] end h =
    (lines, ap (λ l. sections.commands lines (Some (record b { items = l })) end) (sym (append-nil b.items)))
block_on lines b (it ∷ its) end h =
    let first : (is_listing it ≡ true) × AreListed its = listed_first it its h in
    let more : (n : ℕ) × (sections.commands (lines + 1) (Some (record b { items = b.items ++ it ∷ [] })) (followed its end)
    ≡ sections.commands n (Some (record b { items = (b.items ++ it ∷ []) ++ its })) end) = block_on (lines + 1) (record b { items = b.items ++ it ∷ [] }) its end first.1 in (
      more.0,
      block_takes (lines + 1) b it (λ next. sections.commands (lines + 1) next (followed its end)) first.0
          ∙ more.1 ∙ ap (λ l. sections.commands more.0 (Some (record b { items = l })) end) (append_assoc b.items (it ∷ []) its),
    )

-- commands
opens_as : (r : Bool) (x y : Commands) → r ≡ true → (if r then x else y) ≡ x
opens_as true x y e = refl
opens_as false x y e = cc

opens_not : (r : Bool) (x y : Commands) → r ≡ false → (if r then x else y) ≡ y
opens_not true x y e = cc
opens_not false x y e = refl

abbrev Gives : ℕ → List Item → Commands → Type 0
Gives lines its more = sections.commands lines None (whole its) ≡ more

order_given : (lines : ℕ) (line : List ℕ) (block : Option (List Item)) (Next : List Item → Type 0) (more : Commands) (its : List Item)
    → ((n : ℕ) (behind : List Item) → Next behind → Gives n behind more) → SpellsOrder line block Next its → Gives lines its (command line block more)
order_given lines line None Next more its gives h =
    subst (λ l. Gives lines l (command line None more)) (sym h.1)
    (opens_not (opens_block line) (sections.commands (lines + 1) (Some (record { line = line; items = [] })) (whole h.0))
    (command line None (sections.commands (lines + 1) None (whole h.0))) h.2
    ∙ ap (command line None) (gives (lines + 1) h.0 h.3))
order_given lines line (Some block) Next more its gives h =
    let end : listed.Listed = listed.gives items.Dot (whole h.0) in
    let on : (n : ℕ) × (sections.commands (lines + 1) (Some (record { line = line; items = [] })) (followed block end)
    ≡ sections.commands n (Some (record { line = line; items = block })) end) = block_on (lines + 1) (record { line = line; items = [] }) block end h.3 in
    subst (λ l. Gives lines l (command line (Some block) more)) (sym h.1)
    (opens_as (opens_block line) (sections.commands (lines + 1) (Some (record { line = line; items = [] })) (whole (block ++ (items.Dot ∷ h.0))))
    (command line None (sections.commands (lines + 1) None (whole (block ++ (items.Dot ∷ h.0))))) h.2
    ∙ ap (sections.commands (lines + 1) (Some (record { line = line; items = [] }))) (followed_more block (items.Dot ∷ h.0) listed.done)
    ∙ on.1
    ∙ ap (command line (Some block)) (gives (on.0 + 1) h.0 h.4))

end_closes : (lines : ℕ) (its : List Item) → Nothing its → sections.closing lines (whole its) ≡ ended
end_closes lines its e = ap (λ l. sections.closing lines (whole l)) e

pub orders_given : (orders : List Order) (lines : ℕ) (its : List Item) → SpellsOrders orders its → Gives lines its (given orders)
orders_given [] lines its h = subst (λ l. Gives lines l (closes ended)) (sym h.1) (ap closes (end_closes (lines + 1) h.0 h.2))
orders_given (o ∷ more) lines its h =
    order_given lines o.line o.block (SpellsOrders more) (given more) its (λ n behind spells. orders_given more n behind spells) h

-- the items of a tree
grown_on : {X : Type 0} (start : ℕ) (its : List Item) (stop : Stop → X) (next : X) → Builds its → grown_by start (built_so_far its) stop next ≡ next
grown_on start its stop next h = ap (λ r. grown_by start r stop next) h.1

taken_by : {X : Type 0} (r : Bool) (x y : X) → r ≡ true → (if r then x else y) ≡ x
taken_by true x y e = refl
taken_by false x y e = cc

document_takes : (a : Asked) (line start : ℕ) (its : List Item) (it : Item) (next : List Item → Opened) (edits : Commands) (close : Closing) → is_listing it ≡ true
    → in_document a line start its it next edits close ≡ sections.grown start (its ++ it ∷ []) undocumented (next (its ++ it ∷ []))
document_takes a line start its items.End next edits close e = cc
document_takes a line start its items.Edits next edits close e = cc
document_takes a line start its it next edits close e =
    taken_by (is_listing it) (sections.grown start (its ++ it ∷ []) undocumented (next (its ++ it ∷ []))) (undocumented (misplaced line)) e

document_on : (a : Asked) (start : ℕ) (front its : List Item) (lines : ℕ) (end : listed.Listed) → AreListed its → Builds (front ++ its)
    → (n : ℕ) × (sections.opened a start front lines (followed its end) ≡ sections.opened a start (front ++ its) n end)
document_on a start front [] lines end h b = (lines, ap (λ l. sections.opened a start l lines end) (sym (append-nil front)))
document_on a start front (it ∷ its) lines end h b =
    let first : (is_listing it ≡ true) × AreListed its = listed_first it its h in
    let builds : Builds ((front ++ it ∷ []) ++ its) = subst Builds (sym (append_assoc front (it ∷ []) its)) b in
    let more : (n : ℕ) × (sections.opened a start (front ++ it ∷ []) (lines + 1) (followed its end) ≡ sections.opened a start ((front ++ it ∷ []) ++ its) n end) =
    document_on a start (front ++ it ∷ []) its (lines + 1) end first.1 builds in (
      more.0,
      document_takes a (lines + 1) start front it (λ next. sections.opened a start next (lines + 1) (followed its end))
          (sections.commands (lines + 1) None (followed its end)) (sections.closing (lines + 1) (followed its end)) first.0
          ∙ grown_on start (front ++ it ∷ []) undocumented (sections.opened a start (front ++ it ∷ []) (lines + 1) (followed its end)) (front_builds (front ++ it ∷ []) its builds)
          ∙ more.1 ∙ ap (λ l. sections.opened a start l more.0 end) (append_assoc front (it ∷ []) its),
    )

abbrev numbered_to : Forest → ℕ → Result Document TreeFault
numbered_to f n = Ok (record { forest = f; next_free = n })

module _ (reads : Reads) where
  tree_given : (d : Document) (its : List Item) → SpellsTree d its → tree its ≡ Ok d
  tree_given d its h = reads d.forest first_scope its h.is_document h.spells ∙ ap (λ n. numbered_to d.forest n) (sym h.counted)

  word_follows : (a : Asked) (start n : ℕ) (inner : List Item) (d : Document) (orders : List Order) (behind : List Item) → tree inner ≡ Ok d → Follows a orders behind
      → sections.opened a start inner n (whole behind) ≡ sections.document d (given orders)
  word_follows a start n inner d orders behind e (inl h) =
      subst (λ l. sections.opened a start inner n (whole l) ≡ sections.document d (given orders)) (sym h.1.1)
      (ap (λ t. with_tree start t undocumented (λ x. sections.document x (closes (sections.closing (n + 1) (whole h.1.0))))) e
      ∙ ap (λ c. sections.document d (closes c)) (end_closes (n + 1) h.1.0 h.1.2)
      ∙ ap (λ l. sections.document d (given l)) (sym h.0))
  word_follows a start n inner d orders behind e (inr h) =
      subst (λ l. sections.opened a start inner n (whole l) ≡ sections.document d (given orders)) (sym h.1.1)
      (taken_by (may_edit a) (with_tree start (tree inner) undocumented (λ x. sections.document x (sections.commands (n + 1) None (whole h.1.0))))
      (undocumented (misplaced (n + 1))) h.0
      ∙ ap (λ t. with_tree start t undocumented (λ x. sections.document x (sections.commands (n + 1) None (whole h.1.0)))) e
      ∙ ap (sections.document d) (orders_given orders (n + 1) h.1.0 h.1.2))

  pub section_given : (a : Asked) (lines : ℕ) (d : Document) (orders : List Order) (its : List Item) → SpellsSection a d orders its
      → sections.document_section a lines (whole its) ≡ sections.document d (given orders)
  section_given a lines d orders its h =
      let e : tree h.0 ≡ Ok d = tree_given d h.0 h.3 in
      let on : (n : ℕ) × (sections.opened a lines [] lines (followed h.0 (whole h.1)) ≡ sections.opened a lines h.0 n (whole h.1)) =
      document_on a lines [] h.0 lines (whole h.1) h.3.listed (tree_builds h.0 d e) in
      ap (λ l. sections.opened a lines [] lines (whole l)) h.2 ∙ ap (sections.opened a lines [] lines) (followed_more h.0 h.1 listed.done) ∙ on.1
      ∙ word_follows a lines on.0 h.0 d orders h.1 e h.4

-- schema sections
section_takes : {Rest : Type 0} (a : Asked) (line : ℕ) (done : List SchemaSection) (s : OpenSection) (it : Item)
    (next : List SchemaSection → OpenSection → Stream Rest) (rest : Rest) → is_listing it ≡ true
    → in_schemas a line done (Some s) it next rest ≡ sections.grows line done (Some s) it next
section_takes a line done s (items.Schema locations) next rest e = cc
section_takes a line done s it next rest e =
    taken_by (is_listing it) (sections.grows line done (Some s) it next)
    (if ends_schemas a it then sections.ends line done (Some s) rest else unfinished (misplaced line)) e

section_on : {Rest : Type 0} (a : Asked) (rest : ℕ → listed.Listed → Rest) (lines : ℕ) (done : List SchemaSection) (s : OpenSection) (its : List Item) (end : listed.Listed)
    → AreListed its → Builds (s.items ++ its)
    → (n : ℕ) × (schema_sections a rest lines done (Some s) (followed its end) ≡ schema_sections a rest n done (Some (record s { items = s.items ++ its })) end)
section_on a rest lines done s [] end h b =
    (lines, ap (λ l. schema_sections a rest lines done (Some (record s { items = l })) end) (sym (append-nil s.items)))
section_on a rest lines done s (it ∷ its) end h b =
    let first : (is_listing it ≡ true) × AreListed its = listed_first it its h in
    let builds : Builds ((s.items ++ it ∷ []) ++ its) = subst Builds (sym (append_assoc s.items (it ∷ []) its)) b in
    let more : (n : ℕ) × (schema_sections a rest (lines + 1) done (Some (record s { items = s.items ++ it ∷ [] })) (followed its end)
    ≡ schema_sections a rest n done (Some (record s { items = (s.items ++ it ∷ []) ++ its })) end) =
    section_on a rest (lines + 1) done (record s { items = s.items ++ it ∷ [] }) its end first.1 builds in (
      more.0,
      section_takes a (lines + 1) done s it (λ all next. schema_sections a rest (lines + 1) all (Some next) (followed its end)) (rest (lines + 1) (followed its end)) first.0
          ∙ grown_on s.start (s.items ++ it ∷ []) unfinished (schema_sections a rest (lines + 1) done (Some (record s { items = s.items ++ it ∷ [] })) (followed its end))
          (front_builds (s.items ++ it ∷ []) its builds)
          ∙ more.1 ∙ ap (λ l. schema_sections a rest more.0 done (Some (record s { items = l })) end) (append_assoc s.items (it ∷ []) its),
    )

ends_sections : {Rest : Type 0} (line : ℕ) (done : List SchemaSection) (s : OpenSection) (d : Document) (rest : Rest) → tree s.items ≡ Ok d
    → sections.ends line done (Some s) rest ≡ schemas (done ++ whole_section s d ∷ []) rest
ends_sections line done s d rest e = ap (λ t. with_tree s.start t unfinished (λ x. schemas (done ++ whole_section s x ∷ []) rest)) e

passed_by : {Rest : Type 0} (r : Bool) (stop : Stream Rest) (start : ℕ) (t : Result Document TreeFault) (d : Document) (next : Document → Stream Rest) → r ≡ false → t ≡ Ok d
    → (if r then stop else with_tree start t unfinished next) ≡ next d
passed_by true stop start t d next e is = cc
passed_by false stop start t d next e is = ap (λ x. with_tree start x unfinished next) is

length_more : (xs : List SchemaSection) (x : SchemaSection) → length (xs ++ x ∷ []) ≡ length xs + 1
length_more [] x = refl
length_more (y ∷ xs) x = let h : length (xs ++ x ∷ []) ≡ length xs + 1 = length_more xs x in omega (arith, h)

length_cons : (x : SchemaSection) (more : List SchemaSection) → length (x ∷ more) ≡ length more + 1
length_cons x more = omega arith

few_not : (n m l : ℕ) → nat_le MOST_SCHEMAS (n + 1) ≡ true → l ≡ m + 1 → n + 1 + l ≤ MOST_SCHEMAS → ⊥
few_not n m l e is h = let small : MOST_SCHEMAS ≤ n + 1 = grind (arith, nat_tests, e) in omega (arith, small, is, h)

few_by : (n m l : ℕ) (t : Bool) → nat_le MOST_SCHEMAS (n + 1) ≡ t → l ≡ m + 1 → n + 1 + l ≤ MOST_SCHEMAS → t ≡ false
few_by n m l true e is h = absurd (few_not n m l e is h)
few_by n m l false e is h = refl

few_more : (n : ℕ) (x : SchemaSection) (more : List SchemaSection) → n + 1 + length (x ∷ more) ≤ MOST_SCHEMAS → nat_le MOST_SCHEMAS (n + 1) ≡ false
few_more n x more h = few_by n (length more) (length (x ∷ more)) (nat_le MOST_SCHEMAS (n + 1)) refl (length_cons x more) h

first_few : (x : SchemaSection) (more : List SchemaSection) → length (x ∷ more) ≤ MOST_SCHEMAS → 0 + 1 + length more ≤ MOST_SCHEMAS
first_few x more h = let e : length (x ∷ more) ≡ length more + 1 = length_cons x more in omega (arith, e, h)

fewer_by : (n k m l : ℕ) → l ≡ m + 1 → n ≡ k + 1 → k + 1 + l ≤ MOST_SCHEMAS → n + 1 + m ≤ MOST_SCHEMAS
fewer_by n k m l e is few = omega (arith, e, is, few)

fewer : (done : List SchemaSection) (x y : SchemaSection) (more : List SchemaSection) → length done + 1 + length (y ∷ more) ≤ MOST_SCHEMAS
    → length (done ++ x ∷ []) + 1 + length more ≤ MOST_SCHEMAS
fewer done x y more few =
    fewer_by (length (done ++ x ∷ [])) (length done) (length more) (length (y ∷ more)) (length_cons y more) (length_more done x) few

module _ (reads : Reads) (a : Asked) (word : Item) (Next : List Item → Type 0) {Rest : Type 0} (rest : ℕ → listed.Listed → Rest)
    (ends : (line : ℕ) (done : List SchemaSection) (s : OpenSection) (next : List SchemaSection → OpenSection → Stream Rest) (r : Rest)
    → in_schemas a line done (Some s) word next r ≡ sections.ends line done (Some s) r) where
  abbrev Given : ℕ → List SchemaSection → OpenSection → List Item → List SchemaSection → Type 0
  Given lines done s its all =
      (n : ℕ) × (behind : List Item) × (schema_sections a rest lines done (Some s) (whole its) ≡ schemas all (rest n (whole behind))) × Next behind

  sections_given : (more : List SchemaSection) (lines : ℕ) (done : List SchemaSection) (s : OpenSection) (d : Document) (its : List Item)
      → tree s.items ≡ Ok d → length done + 1 + length more ≤ MOST_SCHEMAS → SpellsSchemas more (Word word Next) its
      → Given lines done s its (done ++ whole_section s d ∷ more)
  sections_given [] lines done s d its e few h = (
    lines + 1,
    h.0,
    ap (λ l. schema_sections a rest lines done (Some s) (whole l)) h.1
        ∙ ends (lines + 1) done s (λ all next. schema_sections a rest (lines + 1) all (Some next) (whole h.0)) (rest (lines + 1) (whole h.0))
        ∙ ends_sections (lines + 1) done s d (rest (lines + 1) (whole h.0)) e,
    h.2,
  )
  sections_given (x ∷ more) lines done s d its e few h =
      let inner : List Item = h.0 in
      let behind : List Item = h.1 in
      let begun : OpenSection = section_begun (lines + 1) x.locations in
      let done1 : List SchemaSection = done ++ whole_section s d ∷ [] in
      let is : tree inner ≡ Ok x.tree = tree_given reads x.tree inner h.3 in
      let on : (n : ℕ) × (schema_sections a rest (lines + 1) done1 (Some begun) (followed inner (whole behind))
      ≡ schema_sections a rest n done1 (Some (record begun { items = inner })) (whole behind)) =
      section_on a rest (lines + 1) done1 begun inner (whole behind) h.3.listed (tree_builds inner x.tree is) in
      let later : Given on.0 done1 (record begun { items = inner }) behind (done1 ++ x ∷ more) =
      sections_given more on.0 done1 (record begun { items = inner }) x.tree behind is (fewer done (whole_section s d) x more few) h.4 in (
        later.0,
        later.1,
        ap (λ l. schema_sections a rest lines done (Some s) (whole l)) h.2
            ∙ passed_by (nat_le MOST_SCHEMAS (length done + 1)) (unfinished (refused (record { line = lines + 1; refusal = refusals.TooManySchemas }))) s.start (tree s.items) d
            (λ t. schema_sections a rest (lines + 1) (done ++ whole_section s t ∷ []) (Some begun) (whole (inner ++ behind)))
            (few_more (length done) x more few) e
            ∙ ap (schema_sections a rest (lines + 1) done1 (Some begun)) (followed_more inner behind listed.done)
            ∙ on.1 ∙ later.2 ∙ ap (λ l. schemas l (rest later.0 (whole later.1))) (append_assoc done (whole_section s d ∷ []) (x ∷ more)),
        later.3,
      )

  stream_given : (all : List SchemaSection) (its : List Item) → AreSections all → SpellsSchemas all (Word word Next) its
      → (n : ℕ) × (behind : List Item) × (schema_sections a rest 0 [] None (whole its) ≡ schemas all (rest n (whole behind))) × Next behind
  stream_given [] its are h = absurd (grind (arith, are.some))
  stream_given (x ∷ more) its are h =
      let inner : List Item = h.0 in
      let behind : List Item = h.1 in
      let begun : OpenSection = section_begun 1 x.locations in
      let is : tree inner ≡ Ok x.tree = tree_given reads x.tree inner h.3 in
      let on : (n : ℕ) × (schema_sections a rest 1 [] (Some begun) (followed inner (whole behind))
      ≡ schema_sections a rest n [] (Some (record begun { items = inner })) (whole behind)) =
      section_on a rest 1 [] begun inner (whole behind) h.3.listed (tree_builds inner x.tree is) in
      let later : Given on.0 [] (record begun { items = inner }) behind (x ∷ more) =
      sections_given more on.0 [] (record begun { items = inner }) x.tree behind is (first_few x more are.few) h.4 in (
        later.0,
        later.1,
        ap (λ l. schema_sections a rest 0 [] None (whole l)) h.2
            ∙ ap (schema_sections a rest 1 [] (Some begun)) (followed_more inner behind listed.done) ∙ on.1 ∙ later.2,
        later.3,
      )

pub check_given : Reads → (all : List SchemaSection) (its : List Item) → SpellsCheck all its → sections.schemas_alone Check (whole its) ≡ schemas all ended
check_given reads all its h =
    let found : (n : ℕ) × (behind : List Item) × (schema_sections Check sections.closing 0 [] None (whole its) ≡ schemas all (sections.closing n (whole behind))) × Nothing behind =
    stream_given reads Check items.End Nothing sections.closing (λ line done s next r. refl) all its h.sections_are h.spells in
    found.2 ∙ ap (schemas all) (end_closes found.0 found.1 found.3)

document_ends : (a : Asked) → has_document a ≡ true → ends_schemas a items.Document ≡ true
document_ends Check e = cc
document_ends Assess e = refl
document_ends Session e = refl

pub stream_read : Reads → (a : Asked) (all : List SchemaSection) (d : Document) (orders : List Order) (its : List Item) → SpellsStream a all d orders its
    → sections.with_document a (whole its) ≡ schemas all (sections.document d (given orders))
stream_read reads a all d orders its h =
    let found : (n : ℕ) × (behind : List Item) × (schema_sections a (sections.document_section a) 0 [] None (whole its)
    ≡ schemas all (sections.document_section a n (whole behind))) × SpellsSection a d orders behind =
    stream_given reads a items.Document (SpellsSection a d orders) (sections.document_section a)
    (λ line done s next r. taken_by (ends_schemas a items.Document) (sections.ends line done (Some s) r) (unfinished (misplaced line)) (document_ends a h.asks))
    all its h.sections_are h.spells in
    found.2 ∙ ap (schemas all) (section_given reads a found.0 d orders found.1 found.3)
