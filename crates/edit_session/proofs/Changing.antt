-- A change by numbers that is made, and what it counts.
use Rattle.std.proofs.Common.{◌≡◌, ◌⊎◌, ℕ, ◌≤◌, Bool, sym, subst, inl, inr, arith}
use Rattle.std.specs.Prelude.{false}
use Rattle.tree_rows.specs.Forest.{Document}
use Rattle.tree_edits.specs.Inverses as law
use Rattle.compiled_schema.specs.Usable.{set_of}
use Rattle.compiled_schema.specs.declared.compiled.Compiled.{Compiled}
use Rattle.what_is_found.specs.IsFound.{IsFound}
use Rattle.session_model.specs.Spending.{Counts}
use Rattle.session_model.specs.State.{State, next_revision}
use Rattle.doc_nodes.specs.Nodes.{Nodes}
use Rattle.doc_changes.specs.Stands.{StandsFor}
use Rattle.doc_changes.proofs.Levels.{document_is}
use Rattle.doc_tree.specs.Changes.{Means}
use Rattle.doc_tree.specs.declared.change.Change.{Change}
use Rattle.kept_inverses.specs.from_kept_state.KeptState.{KeptState}
use Rattle.kept_inverses.specs.from_kept_children.Edited.{IsRightFor}
use Rattle.kept_inverses.specs.Steps.{TakesInverse}
use Rattle.kept_inverses.proofs.InverseBudget.{inverse-budgeted}
use Rattle.edit_session.specs.Changed.{IsChanged, IsReached, TakesWithin, after_change}
use Rattle.edit_session.specs.Costs.{change_cost}
use Rattle.edit_session.specs.Held.{document_in, Stands, found_by, IsPresent, state_by}
use Rattle.edit_session.proofs.Making.{stands-right}
use Rattle.edit_session.proofs.Standing.{found-now}

module _ (c : Compiled) (ns ms : Nodes) (k : KeptState) (right : IsRightFor c ns k) (change : Change) (own : law.Change) (means : Means c.names change own) (fits : law.Fits (document_in c ns) own) where
  abbrev d : Document
  d = document_in c ns

  stands : StandsFor c.names ns d
  stands = stands-right c ns k right

  abbrev IsMadeOf : ℕ → ℕ → Type 0
  IsMadeOf first last = ((ms ≡ ns) × (last ≡ first)) ⊎ (StandsFor c.names ms (law.changed d own) × TakesInverse c ns ms k change first last)

  pub stands-changed : (first last : ℕ) → IsMadeOf first last → Stands c ms
  stands-changed first last (inl same) = subst (Stands c) (sym same.0) (d, stands)
  stands-changed first last (inr made) = (law.changed d own, made.0)

  pub reached-so : (l : KeptState) → StandsFor c.names ms (law.changed d own) → IsPresent c ms l → IsReached c ns ms l own
  reached-so l made present = record { document_is = document_is c.names ms (law.changed d own) made; present = present }

  pub within-so : (revision : ℕ) (closed : Bool) (first last : ℕ) → first ≤ last → IsMadeOf first last → TakesWithin (state_by c ns k revision closed) own first last
  within-so revision closed first last le (inl same) = λ found is. let e = same.1 in record { later = le; few = omega (arith, e) }
  within-so revision closed first last le (inr made) = λ found is. record { later = le; few = inverse-budgeted c ns k d right (stands) ms change own means fits made.0 found is first last made.1 }

-- ---- a session that has made a change

module _ (c : Compiled) (ns ms : Nodes) (k l : KeptState) (own : law.Change) (reached : IsReached c ns ms l own) (revision : ℕ) (closed : Bool) where
  abbrev before : State
  before = state_by c ns k revision closed

  found-changed : IsFound (set_of c) (law.changed (document_in c ns) own) (found_by c ms l)
  found-changed = subst (λ (x : Document). IsFound (set_of c) x (found_by c ms l)) reached.document_is (found-now c ms l reached.present)

  after-is : (next : ℕ) (shut : Bool) → next ≡ next_revision revision → shut ≡ false → state_by c ms l next shut ≡ after_change before (law.changed (document_in c ns) own) (found_by c ms l)
  after-is next shut is open_now = λ i. record { set = set_of c; document = reached.document_is i; found = found_by c ms l; revision = is i; closed = open_now i }

  pub changed-so : (next : ℕ) (shut : Bool) → closed ≡ false → next ≡ next_revision revision → shut ≡ false → IsChanged before own (state_by c ms l next shut)
  changed-so next shut was is open_now = record { open_before = was; found_is = found-changed; new_is = after-is next shut is open_now }

  -- it counts no more than what is found then allows
  pub changed-spent : (next : ℕ) (shut : Bool) (first last : ℕ) → next ≡ next_revision revision → shut ≡ false → TakesWithin before own first last → Counts first last (change_cost before own (state_by c ms l next shut))
  changed-spent next shut first last is open_now within =
      subst (λ (x : State). Counts first last (change_cost before own x)) (sym (after-is next shut is open_now)) (within (found_by c ms l) (found-changed))
