-- A plain session over what it holds.
use Rattle.std.specs.Prelude.{◌≡◌, false, map}
use Rattle.compiled_schema.specs.Usable.{set_of}
use Rattle.tree_assess.specs.Entries.{entry_of}
use Rattle.session_model.specs.State.{State}
use Rattle.plain_session.specs.Stocks.{IsReady, IsStock}
use Rattle.plain_session.specs.declared.session.PlainSession.TheInside.{Inside}

abbrev pub state_of : Inside → State
state_of s = record { set = set_of s.set.value; document = s.tree; found = map entry_of s.stock.entries.items; revision = s.revision; closed = s.closed }

-- what is known is known of the present tree
pub record IsPresent (s : Inside) : Type 0 where
  pub ready : IsReady s.set.value
  pub stock : IsStock s.set.value s.tree s.stock

-- so it is while the session is not closed
abbrev pub IsUpToDate : Inside → Type 0
IsUpToDate s = s.closed ≡ false → IsPresent s
