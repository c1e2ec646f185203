-- Entries in document order, as they stand in a document.
use Rattle.std.specs.Prelude.{◌≡◌, ℕ, zero, suc, List, [], ◌∷◌, ◌++◌, length, take, drop}
use Rattle.assessment.specs.Assessment.{Entry, Assessed, nothing, entry, entries}
use Rattle.tree_assess.specs.Entries.{entry_of}
use Rattle.tree_assess.specs.declared.entry.ElementEntry.{ElementEntry}
use Rattle.forest_keys.specs.declared.entry_siblings.Parted.{Parted}

-- the first with those below it, and those behind it; the number is at least that of the entries
abbrev pub assessed_by : ℕ → List ElementEntry → Assessed
assessed_by zero es = nothing
assessed_by (suc n) [] = nothing
assessed_by (suc n) (e ∷ es) = entry (entry_of e) (assessed_by n (take e.below es)) (assessed_by n (drop e.below es))

abbrev pub assessed_of : List ElementEntry → Assessed
assessed_of es = assessed_by (length es) es

abbrev pub below_of : Assessed → Assessed
below_of nothing = nothing
below_of (entry own below next) = below

pub record IsParted (es : List ElementEntry) (p : Parted) : Type 0 where
  pub rest : List ElementEntry
  pub all : es ≡ p.own.now ∷ rest
  pub below_is : p.below.now ≡ take p.own.now.below rest
  pub behind_is : p.behind.now ≡ drop p.own.now.below rest

-- an entry with the number of those below it
pub record Sized : Type 0 where
  pub below : ℕ
  pub own : Entry

abbrev pub sized_of : ElementEntry → Sized
sized_of e = record { below = e.below; own = entry_of e }

abbrev pub flat : Assessed → List Sized
flat nothing = []
flat (entry own below next) = record { below = length (entries below); own = own } ∷ (flat below ++ flat next)
