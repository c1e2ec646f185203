-- Entries with the codes of identity constraints, from the last to the first.
use Rattle.std.specs.Prelude.{ℕ, zero, suc, List, [], ◌∷◌}
use Rattle.xs_names.specs.Names.{NameTable}
use Rattle.xs_codes.specs.declared.fault.Found.{Found}
use Rattle.xs_components.specs.Tables.{Tables}
use Rattle.xpath_subset.specs.declared.paths.IdentityPaths.{IdentityPaths}
use Rattle.identity_constraints.specs.Seen.{KeyForest, none, element}
use Rattle.identity_constraints.specs.Satisfied.{identity_codes}
use Rattle.what_is_found.specs.Identity.{seen, seen_element, has_invalid, with_more}
use Rattle.path_walk.specs.Sight.{IsNamed}
use Rattle.tree_assess.specs.Entries.{entry_of}
use Rattle.tree_assess.specs.declared.entry.ElementEntry.{ElementEntry}
use Rattle.forest_keys.specs.inside.Parsed.{assessed_of, below_of}

-- an entry has names of the table
abbrev pub IsEntryNamed : NameTable → ElementEntry → Type 0
IsEntryNamed names e = IsNamed names (seen_element (entry_of e))

module _ (names : NameTable) (t : Tables) (identities : List IdentityPaths) where
  -- the codes of the first of some siblings
  abbrev pub first_codes : KeyForest → List Found
  first_codes none = []
  first_codes (element own below next) = identity_codes names t identities own below

  -- an entry with its codes, where those behind it have theirs
  abbrev pub coded_first : ElementEntry → List ElementEntry → ElementEntry
  coded_first e rest =
      record e { element = with_more (first_codes (seen (assessed_of (e ∷ rest)))) (has_invalid (below_of (assessed_of (e ∷ rest)))) e.element }

  abbrev pub coded : List ElementEntry → List ElementEntry
  coded [] = []
  coded (e ∷ es) = coded_first e (coded es) ∷ coded es

  -- the entry of a place has its codes, where those behind it have theirs
  abbrev pub coded_at : ℕ → List ElementEntry → List ElementEntry
  coded_at n [] = []
  coded_at zero (e ∷ es) = coded_first e es ∷ es
  coded_at (suc n) (e ∷ es) = e ∷ coded_at n es

  -- so many at the front are as they were, and those behind them have their codes
  abbrev pub coded_from : ℕ → List ElementEntry → List ElementEntry
  coded_from zero es = coded es
  coded_from (suc n) [] = []
  coded_from (suc n) (e ∷ es) = e ∷ coded_from n es
