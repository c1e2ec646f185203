-- How many steps a change by numbers takes at most, by what governs the elements after it.
use Rattle.std.specs.Prelude.{◌≡◌, ℕ, List, [], ◌∷◌}
use Rattle.compiled_schema.specs.Usable.{set_of}
use Rattle.compiled_schema.specs.declared.compiled.Compiled.{Compiled}
use Rattle.doc_nodes.specs.Nodes.{Nodes, is_element_at}
use Rattle.doc_nodes.specs.declared.content.Content.{Content}
use Rattle.doc_nodes.specs.declared.content.Content.TheVariants as contents
use Rattle.doc_changes.specs.Held.{parent_at}
use Rattle.doc_tree.specs.declared.change.Change.{Change}
use Rattle.doc_tree.specs.declared.change.Change.TheVariants as changes
use Rattle.doc_tree.specs.declared.part.PartRow.{PartRow}
use Rattle.kept_changes.specs.from_kept_records.Fit.{head_at}
use Rattle.kept_changes.specs.from_kept_records.Slots.{pair_at}
use Rattle.kept_changes.specs.from_kept_state.KeptState.{KeptState}
use Rattle.kept_changes.specs.from_kept_judging.Judged.{again_pair}
use Rattle.kept_changes.specs.from_kept_children.Steps.{width}
use Rattle.kept_changes.specs.Steps.{TakesBelow, TakesAt, TakesName, TakesAway}

module _ (c : Compiled) (new : Nodes) (k : KeptState) where
  -- what holds this came back below the parent
  abbrev pub TakesReturn : Content → ℕ → ℕ → ℕ → Type 0
  TakesReturn (contents.Element e) parent first last = TakesBelow c new k parent (width new parent) first last
  TakesReturn (contents.Chars chars) parent first last = last ≡ first

  -- the part came back
  abbrev pub TakesPart : List PartRow → ℕ → ℕ → ℕ → Type 0
  TakesPart [] parent first last = last ≡ first
  TakesPart (row ∷ more) parent first last = TakesReturn row.content parent first last

-- a change that made these nodes of those: so many steps at most, by what is kept before it
abbrev pub TakesInverse : Compiled → Nodes → Nodes → KeptState → Change → ℕ → ℕ → Type 0
TakesInverse c old new k (changes.PutBack parent index part) first last = TakesPart c new k part parent first last
TakesInverse c old new k (changes.Take key) first last = TakesAway c new k (is_element_at old key) (parent_at old key) first last
TakesInverse c old new k (changes.Name key name) first last = TakesName c new k key (parent_at old key) first last
TakesInverse c old new k (changes.Attr key name place value) first last = TakesAt c new k key (again_pair (set_of c) (pair_at k.records.slots key) (head_at (set_of c) new key)) first last
TakesInverse c old new k (changes.Chars key chars) first last = last ≡ first
