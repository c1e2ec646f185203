-- The items that spell a document.
use Rattle.std.specs.Prelude.{◌≡◌, ◌≢◌, ℕ, ◌+◌, ◌-◌, ◌≤◌, List, [], ◌∷◌, ◌++◌, None, map, true}
use Rattle.item_listing.specs.declared.item.Item.{Item}
use Rattle.item_listing.specs.declared.item.Item.TheVariants as items
use Rattle.xs_names.specs.White.{is_white}
use Rattle.tag_names.specs.Tags.{named, scope_within}
use Rattle.tag_names.specs.Faults.{name_fault}
use Rattle.tag_names.specs.declared.lines.AttributeLine.{AttributeLine}
use Rattle.tag_names.specs.declared.lines.Tag.{Tag}
use Rattle.tag_names.specs.declared.named.Named.{Named}
use Rattle.tree_rows.specs.declared.limits.TheConstants.{MAX_DEPTH, MAX_NODES}
use Rattle.tree_rows.specs.Forest.{Forest, none, text, element, count, numbered}
use Rattle.tree_rows.specs.declared.row.Binding.{Binding}

-- characters and processing instructions alone
abbrev pub AreRun : List Item → Type 0
AreRun [] = Unit {0}
AreRun (items.Chars chars ∷ more) = AreRun more
AreRun (items.Instruction ∷ more) = AreRun more
AreRun (item ∷ more) = ⊥

-- the characters of a run, one after another
abbrev pub run_chars : List Item → List ℕ
run_chars [] = []
run_chars (items.Chars chars ∷ more) = chars ++ run_chars more
run_chars (item ∷ more) = run_chars more

-- a run that has these characters in all: a text may come in pieces, and instructions may stand between them
pub record IsRunOf (chars : List ℕ) (its : List Item) : Type 0 where
  pub run : AreRun its
  pub have : run_chars its ≡ chars

-- white space and processing instructions alone, as they stand outside of the root
abbrev pub AreSpace : List Item → Type 0
AreSpace [] = Unit {0}
AreSpace (items.Chars chars ∷ more) = (is_white chars ≡ true) × AreSpace more
AreSpace (items.Instruction ∷ more) = AreSpace more
AreSpace (item ∷ more) = ⊥

abbrev pub line_item : AttributeLine → Item
line_item line = items.Attr line.name line.value

-- an element is spelled by a start line and attribute lines whose names are well and say this of it, by items that spell its
-- children in the scope of the tag, and by an end of the name as the start has it; some items come before, and others behind
pub record SpellsElement (Before : List Item → Type 0) (scope : List Binding) (says : Named) (Children : List Binding → List Item → Type 0) (Next : List Item → Type 0) (its : List Item) : Type 0 where
  pub tag : Tag
  pub before : List Item
  pub inner : List Item
  pub more : List Item
  pub are : its ≡ before ++ (items.Start tag.name ∷ (map line_item tag.attributes ++ (inner ++ (items.Close tag.name ∷ more))))
  pub front : Before before
  pub well : name_fault scope tag ≡ None
  pub so : named scope tag ≡ says
  pub children : Children (scope_within scope tag) inner
  pub next : Next more

-- a text is spelled by a run of its characters; other items come behind
pub record SpellsText (chars : List ℕ) (Next : List Item → Type 0) (its : List Item) : Type 0 where
  pub run : List Item
  pub more : List Item
  pub are : its ≡ run ++ more
  pub is_run : IsRunOf chars run
  pub next : Next more

-- these items spell the siblings in this scope: each text by a run, each element by its tags, and nothing else has characters
abbrev pub Spells : Forest → List Binding → List Item → Type 0
Spells none scope its = IsRunOf [] its
Spells (text number chars next) scope its = SpellsText chars (Spells next scope) its
Spells (element number name bindings attributes children next) scope its =
    SpellsElement (IsRunOf []) scope (record { name = name; bindings = bindings; attributes = attributes }) (Spells children) (Spells next scope) its

-- no text begins here
abbrev pub BeginsNoText : Forest → Type 0
BeginsNoText none = Unit {0}
BeginsNoText (text number chars next) = ⊥
BeginsNoText (element number name bindings attributes children next) = Unit {0}

-- no text is empty and no two texts are neighbours
abbrev pub HasWholeTexts : Forest → Type 0
HasWholeTexts none = Unit {0}
HasWholeTexts (text number chars next) = (chars ≢ []) × BeginsNoText next × HasWholeTexts next
HasWholeTexts (element number name bindings attributes children next) = HasWholeTexts children × HasWholeTexts next

-- no element stands deeper than so many levels
abbrev pub IsWithinDepth : ℕ → Forest → Type 0
IsWithinDepth levels none = Unit {0}
IsWithinDepth levels (text number chars next) = IsWithinDepth levels next
IsWithinDepth levels (element number name bindings attributes children next) =
    (1 ≤ levels) × IsWithinDepth (levels - 1) children × IsWithinDepth levels next

-- one root, numbers from 1 in document order, whole texts, and the limits on depth and nodes
abbrev pub IsDocument : Forest → Type 0
IsDocument none = ⊥
IsDocument (text number chars next) = ⊥
IsDocument (element number name bindings attributes children next) =
    (next ≡ none) × numbered 1 (element number name bindings attributes children none)
    × HasWholeTexts children × IsWithinDepth (MAX_DEPTH - 1) children × (1 + count children ≤ MAX_NODES)

-- these items spell the document whose root stands in this scope; outside of the root there is white space
abbrev pub SpellsDocument : Forest → List Binding → List Item → Type 0
SpellsDocument none scope its = ⊥
SpellsDocument (text number chars next) scope its = ⊥
SpellsDocument (element number name bindings attributes children next) scope its =
    SpellsElement AreSpace scope (record { name = name; bindings = bindings; attributes = attributes }) (Spells children) AreSpace its
