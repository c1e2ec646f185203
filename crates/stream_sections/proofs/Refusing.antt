-- No stream begins with items of which the last has a line refused.
use Rattle.std.proofs.Common.{◌≡◌, ℕ, ◌+◌, List, [], ◌∷◌, ◌++◌, nat_le, length, Bool, true, false, Option, Some, None, Result, Ok, Err, if◌then◌else◌, refl, sym, ap, ◌∙◌, subst}
use Rattle.item_listing.specs.Listed as listed
use Rattle.item_listing.specs.declared.item.Item.{Item}
use Rattle.item_listing.specs.declared.item.Item.TheVariants as items
use Rattle.tree_rows.specs.Forest.{Document}
use Rattle.tree_building.specs.Building.{tree}
use Rattle.tree_building.specs.declared.building.Building.{Building}
use Rattle.tree_building.specs.declared.fault.TreeFault.{TreeFault}
use Rattle.stream_sections.specs.Lines.{is_listing, ends_schemas, may_edit, opens_block}
use Rattle.stream_sections.specs.Sections as sections
use Rattle.stream_sections.specs.Sections.{Stop, refused, Stream, schemas, unfinished, Opened, undocumented, Commands, Closing, command, closes, uncommanded, ended, OpenBlock, OpenSection, section_begun, whole_section, misplaced, built_so_far, grown_by, with_tree, at_command, in_block, among_commands, in_document, in_schemas, schema_sections}
use Rattle.stream_sections.specs.Spelled.{followed, whole, so_far, Order, SpellsCheck, SpellsStream, given, stop_refusal, closing_refusal, commands_refusal, opened_refusal, stream_refusal}
use Rattle.stream_sections.specs.declared.asked.Asked.{Asked}
use Rattle.stream_sections.specs.declared.asked.Asked.TheVariants.{Check}
use Rattle.stream_sections.specs.declared.refusal.Refusal.TheVariants as refusals
use Rattle.stream_sections.specs.declared.refusal.RefusedLine.{RefusedLine}
use Rattle.stream_sections.specs.declared.schemas.SchemaSection.{SchemaSection}
use Rattle.stream_sections.specs.declared.schemas.TheConstants.{MOST_SCHEMAS}
use Rattle.stream_sections.proofs.Spelling.{Reads, check_given, stream_read}

-- where the first has this line refused, the second has
abbrev Keep : {X : Type 0} → (X → Option RefusedLine) → RefusedLine → X → X → Type 0
Keep refusal spot x y = refusal x ≡ Some spot → refusal y ≡ Some spot

closing_keeps : (spot : RefusedLine) (lines : ℕ) (its more : List Item) → Keep closing_refusal spot (sections.closing lines (so_far its)) (sections.closing lines (whole (its ++ more)))
closing_keeps spot lines [] more e = cc
closing_keeps spot lines (it ∷ its) more e = e

-- commands
either_keeps : {X : Type 0} (refusal : X → Option RefusedLine) (spot : RefusedLine) (r : Bool) (x y u v : X) → Keep refusal spot x u → Keep refusal spot y v
    → Keep refusal spot (if r then x else y) (if r then u else v)
either_keeps refusal spot true x y u v h k e = h e
either_keeps refusal spot false x y u v h k e = k e

tree_keeps : {X : Type 0} (refusal : X → Option RefusedLine) (spot : RefusedLine) (start : ℕ) (t : Result Document TreeFault) (stop : Stop → X) (x u : Document → X)
    → ((d : Document) → Keep refusal spot (x d) (u d)) → Keep refusal spot (with_tree start t stop x) (with_tree start t stop u)
tree_keeps refusal spot start (Ok d) stop x u h e = h d e
tree_keeps refusal spot start (Err fault) stop x u h e = e

grown_keeps : {X : Type 0} (refusal : X → Option RefusedLine) (spot : RefusedLine) (start : ℕ) (b : Result Building TreeFault) (stop : Stop → X) (x u : X)
    → Keep refusal spot x u → Keep refusal spot (grown_by start b stop x) (grown_by start b stop u)
grown_keeps refusal spot start (Ok b) stop x u h e = h e
grown_keeps refusal spot start (Err fault) stop x u h e = e

same_keeps : {X : Type 0} (refusal : X → Option RefusedLine) (spot : RefusedLine) (x : X) → Keep refusal spot x x
same_keeps refusal spot x e = e

module _ (spot : RefusedLine) (line : ℕ) (next later : Option OpenBlock → Commands) (close closed : Closing)
    (h : (b : Option OpenBlock) → Keep commands_refusal spot (next b) (later b)) (k : Keep closing_refusal spot close closed) where
  command_keeps : (it : Item) → Keep commands_refusal spot (at_command line it next close) (at_command line it later closed)
  command_keeps (items.Command text) e =
      either_keeps commands_refusal spot (opens_block text) (next (Some (record { line = text; items = [] }))) (command text None (next None))
      (later (Some (record { line = text; items = [] }))) (command text None (later None)) (h (Some (record { line = text; items = [] }))) (h None) e
  command_keeps items.End e = k e
  command_keeps it e = e

  block_keeps : (b : OpenBlock) (it : Item) → Keep commands_refusal spot (in_block line b it next) (in_block line b it later)
  block_keeps b items.Dot e = h None e
  block_keeps b it e =
      either_keeps commands_refusal spot (is_listing it) (next (Some (record b { items = b.items ++ it ∷ [] }))) (uncommanded (misplaced line))
      (later (Some (record b { items = b.items ++ it ∷ [] }))) (uncommanded (misplaced line)) (h (Some (record b { items = b.items ++ it ∷ [] })))
      (same_keeps commands_refusal spot (uncommanded (misplaced line))) e

  among_keeps : (b : Option OpenBlock) (it : Item) → Keep commands_refusal spot (among_commands line b it next close) (among_commands line b it later closed)
  among_keeps None it e = command_keeps it e
  among_keeps (Some b) it e = block_keeps b it e

commands_keep : (spot : RefusedLine) (more its : List Item) (lines : ℕ) (b : Option OpenBlock)
    → Keep commands_refusal spot (sections.commands lines b (so_far its)) (sections.commands lines b (whole (its ++ more)))
commands_keep spot more [] lines b e = cc
commands_keep spot more (it ∷ its) lines b e =
    among_keeps spot (lines + 1) (λ next. sections.commands (lines + 1) next (so_far its)) (λ next. sections.commands (lines + 1) next (whole (its ++ more)))
    (sections.closing (lines + 1) (so_far its)) (sections.closing (lines + 1) (whole (its ++ more)))
    (λ next. commands_keep spot more its (lines + 1) next) (closing_keeps spot (lines + 1) its more) b it e

-- the document
module _ (a : Asked) (spot : RefusedLine) (line start : ℕ) (its : List Item) (next later : List Item → Opened) (edits edited : Commands) (close closed : Closing)
    (h : (all : List Item) → Keep opened_refusal spot (next all) (later all)) (c : Keep commands_refusal spot edits edited) (k : Keep closing_refusal spot close closed) where
  document_keeps : (it : Item) → Keep opened_refusal spot (in_document a line start its it next edits close) (in_document a line start its it later edited closed)
  document_keeps items.End e =
      tree_keeps opened_refusal spot start (tree its) undocumented (λ d. sections.document d (closes close)) (λ d. sections.document d (closes closed)) (λ d. k) e
  document_keeps items.Edits e =
      either_keeps opened_refusal spot (may_edit a) (with_tree start (tree its) undocumented (λ d. sections.document d edits)) (undocumented (misplaced line))
      (with_tree start (tree its) undocumented (λ d. sections.document d edited)) (undocumented (misplaced line))
      (tree_keeps opened_refusal spot start (tree its) undocumented (λ d. sections.document d edits) (λ d. sections.document d edited) (λ d. c))
      (same_keeps opened_refusal spot (undocumented (misplaced line))) e
  document_keeps it e =
      either_keeps opened_refusal spot (is_listing it) (sections.grown start (its ++ it ∷ []) undocumented (next (its ++ it ∷ []))) (undocumented (misplaced line))
      (sections.grown start (its ++ it ∷ []) undocumented (later (its ++ it ∷ []))) (undocumented (misplaced line))
      (grown_keeps opened_refusal spot start (built_so_far (its ++ it ∷ [])) undocumented (next (its ++ it ∷ [])) (later (its ++ it ∷ [])) (h (its ++ it ∷ [])))
      (same_keeps opened_refusal spot (undocumented (misplaced line))) e

opened_keeps : (a : Asked) (spot : RefusedLine) (more : List Item) (start : ℕ) (front its : List Item) (lines : ℕ)
    → Keep opened_refusal spot (sections.opened a start front lines (so_far its)) (sections.opened a start front lines (whole (its ++ more)))
opened_keeps a spot more start front [] lines e = cc
opened_keeps a spot more start front (it ∷ its) lines e =
    document_keeps a spot (lines + 1) start front (λ all. sections.opened a start all (lines + 1) (so_far its)) (λ all. sections.opened a start all (lines + 1) (whole (its ++ more)))
    (sections.commands (lines + 1) None (so_far its)) (sections.commands (lines + 1) None (whole (its ++ more)))
    (sections.closing (lines + 1) (so_far its)) (sections.closing (lines + 1) (whole (its ++ more)))
    (λ all. opened_keeps a spot more start all its (lines + 1)) (commands_keep spot more its (lines + 1) None) (closing_keeps spot (lines + 1) its more) it e

-- schema sections
module _ {Rest : Type 0} (refusal : Rest → Option RefusedLine) (a : Asked) (spot : RefusedLine) (line : ℕ) (done : List SchemaSection)
    (next later : List SchemaSection → OpenSection → Stream Rest) (rest end : Rest)
    (h : (all : List SchemaSection) (s : OpenSection) → Keep (stream_refusal refusal) spot (next all s) (later all s)) (k : Keep refusal spot rest end) where
  begin_keeps : (s : Option OpenSection) (locations : List (List ℕ))
      → Keep (stream_refusal refusal) spot (sections.begins line locations done s next) (sections.begins line locations done s later)
  begin_keeps None locations e = h done (section_begun line locations) e
  begin_keeps (Some s) locations e =
      either_keeps (stream_refusal refusal) spot (nat_le MOST_SCHEMAS (length done + 1)) (unfinished (refused (record { line = line; refusal = refusals.TooManySchemas })))
      (with_tree s.start (tree s.items) unfinished (λ d. next (done ++ whole_section s d ∷ []) (section_begun line locations)))
      (unfinished (refused (record { line = line; refusal = refusals.TooManySchemas })))
      (with_tree s.start (tree s.items) unfinished (λ d. later (done ++ whole_section s d ∷ []) (section_begun line locations)))
      (same_keeps (stream_refusal refusal) spot (unfinished (refused (record { line = line; refusal = refusals.TooManySchemas }))))
      (tree_keeps (stream_refusal refusal) spot s.start (tree s.items) unfinished (λ d. next (done ++ whole_section s d ∷ []) (section_begun line locations))
      (λ d. later (done ++ whole_section s d ∷ []) (section_begun line locations)) (λ d. h (done ++ whole_section s d ∷ []) (section_begun line locations))) e

  grow_keeps : (s : Option OpenSection) (it : Item) → Keep (stream_refusal refusal) spot (sections.grows line done s it next) (sections.grows line done s it later)
  grow_keeps None it e = e
  grow_keeps (Some s) it e =
      grown_keeps (stream_refusal refusal) spot s.start (built_so_far (s.items ++ it ∷ [])) unfinished (next done (record s { items = s.items ++ it ∷ [] }))
      (later done (record s { items = s.items ++ it ∷ [] })) (h done (record s { items = s.items ++ it ∷ [] })) e

  end_keeps : (s : Option OpenSection) → Keep (stream_refusal refusal) spot (sections.ends line done s rest) (sections.ends line done s end)
  end_keeps None e = e
  end_keeps (Some s) e =
      tree_keeps (stream_refusal refusal) spot s.start (tree s.items) unfinished (λ d. schemas (done ++ whole_section s d ∷ []) rest)
      (λ d. schemas (done ++ whole_section s d ∷ []) end) (λ d. k) e

  schemas_keep : (s : Option OpenSection) (it : Item) → Keep (stream_refusal refusal) spot (in_schemas a line done s it next rest) (in_schemas a line done s it later end)
  schemas_keep s (items.Schema locations) e = begin_keeps s locations e
  schemas_keep s it e =
      either_keeps (stream_refusal refusal) spot (is_listing it) (sections.grows line done s it next)
      (if ends_schemas a it then sections.ends line done s rest else unfinished (misplaced line)) (sections.grows line done s it later)
      (if ends_schemas a it then sections.ends line done s end else unfinished (misplaced line)) (grow_keeps s it)
      (either_keeps (stream_refusal refusal) spot (ends_schemas a it) (sections.ends line done s rest) (unfinished (misplaced line)) (sections.ends line done s end)
      (unfinished (misplaced line)) (end_keeps s) (same_keeps (stream_refusal refusal) spot (unfinished (misplaced line)))) e

sections_keep : {Rest : Type 0} (refusal : Rest → Option RefusedLine) (a : Asked) (spot : RefusedLine) (rest : ℕ → listed.Listed → Rest) (more : List Item)
    → ((lines : ℕ) (its : List Item) → Keep refusal spot (rest lines (so_far its)) (rest lines (whole (its ++ more))))
    → (its : List Item) (lines : ℕ) (done : List SchemaSection) (s : Option OpenSection)
    → Keep (stream_refusal refusal) spot (schema_sections a rest lines done s (so_far its)) (schema_sections a rest lines done s (whole (its ++ more)))
sections_keep refusal a spot rest more k [] lines done s e = cc
sections_keep refusal a spot rest more k (it ∷ its) lines done s e =
    schemas_keep refusal a spot (lines + 1) done (λ all next. schema_sections a rest (lines + 1) all (Some next) (so_far its))
    (λ all next. schema_sections a rest (lines + 1) all (Some next) (whole (its ++ more))) (rest (lines + 1) (so_far its)) (rest (lines + 1) (whole (its ++ more)))
    (λ all next. sections_keep refusal a spot rest more k its (lines + 1) all (Some next)) (k (lines + 1) its) s it e

given_kept : (orders : List Order) → commands_refusal (given orders) ≡ None
given_kept [] = refl
given_kept (o ∷ more) = given_kept more

pub check_refused : Reads → (spot : RefusedLine) (its more : List Item) (all : List SchemaSection)
    → stream_refusal closing_refusal (sections.schemas_alone Check (so_far its)) ≡ Some spot → SpellsCheck all (its ++ more) → ⊥
check_refused reads spot its more all e h =
    let kept : stream_refusal closing_refusal (sections.schemas_alone Check (whole (its ++ more))) ≡ Some spot =
    sections_keep closing_refusal Check spot sections.closing more (λ lines its. closing_keeps spot lines its more) its 0 [] None e in
    let none : stream_refusal closing_refusal (sections.schemas_alone Check (whole (its ++ more))) ≡ None =
    ap (stream_refusal closing_refusal) (check_given reads all (its ++ more) h) in cc

pub stream_refused : Reads → (a : Asked) (spot : RefusedLine) (its more : List Item) (all : List SchemaSection) (d : Document) (orders : List Order)
    → stream_refusal opened_refusal (sections.with_document a (so_far its)) ≡ Some spot → SpellsStream a all d orders (its ++ more) → ⊥
stream_refused reads a spot its more all d orders e h =
    let kept : stream_refusal opened_refusal (sections.with_document a (whole (its ++ more))) ≡ Some spot =
    sections_keep opened_refusal a spot (sections.document_section a) more (λ lines its. opened_keeps a spot more lines [] its lines) its 0 [] None e in
    let none : stream_refusal opened_refusal (sections.with_document a (whole (its ++ more))) ≡ None =
    ap (stream_refusal opened_refusal) (stream_read reads a all d orders (its ++ more) h) ∙ given_kept orders in cc
