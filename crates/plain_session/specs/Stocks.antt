-- What is known of a tree.
use Rattle.std.specs.Prelude.{◌≡◌, All, map}
use Rattle.xs_names.specs.Names.{IsSound}
use Rattle.tree_rows.specs.Forest.{Document}
use Rattle.compiled_schema.specs.declared.compiled.Compiled.{Compiled}
use Rattle.compiled_schema.specs.Usable.{IsUsable, set_of}
use Rattle.tree_assess.specs.Entries.{entry_of}
use Rattle.what_is_found.specs.IsFound.{IsFound}
use Rattle.session_model.specs.Asking.{code_total}
use Rattle.session_model.specs.Reports.{IsEntryNamed}
use Rattle.plain_session.specs.declared.stock.Stock.{Stock}

-- documents may be assessed by the set, and names may be put into its table
pub record IsReady (set : Compiled) : Type 0 where
  pub usable : IsUsable set
  pub sound : IsSound set.names

-- the entries are what is found of the document, by names and types of the set, and the total is the number of their codes
pub record IsStock (set : Compiled) (d : Document) (s : Stock) : Type 0 where
  pub found_is : IsFound (set_of set) d (map entry_of s.entries.items)
  pub named : All (IsEntryNamed (set_of set)) (map entry_of s.entries.items)
  pub total_is : s.total ≡ code_total (map entry_of s.entries.items)
