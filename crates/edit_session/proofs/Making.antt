-- An edit that is made, what it counts, and one that is refused.
use Rattle.std.proofs.Common.{◌≡◌, ◌≢◌, ◌⊎◌, ℕ, ◌+◌, ◌≤◌, Bool, Result, Ok, Err, refl, sym, ap, ◌∙◌, subst, inl, inr, arith}
use Rattle.xs_names.specs.Names.{NameTable, Grown, IsSound}
use Rattle.tree_rows.specs.Forest.{Document}
use Rattle.tree_edits.specs.Refusals.{IsWhy}
use Rattle.tree_edits.specs.Tests.{edited}
use Rattle.tree_edits.specs.declared.edit.Edit.{Edit}
use Rattle.tree_edits.specs.declared.edit.EditError.{EditError}
use Rattle.tree_edits.specs.declared.edit.EditError.TheVariants as errors
use Rattle.assessment.specs.Attribution.{SchemaSet}
use Rattle.compiled_schema.specs.Usable.{set_of}
use Rattle.compiled_schema.specs.declared.compiled.Compiled.{Compiled}
use Rattle.edit_budgets.specs.Budget.{edit_budget}
use Rattle.plain_tree.proofs.Edited.{table_after}
use Rattle.what_is_found.specs.IsFound.{IsFound}
use Rattle.session_model.specs.Spending.{BreaksWithin}
use Rattle.session_model.specs.State.{State, with_names}
use Rattle.doc_nodes.specs.Nodes.{Nodes}
use Rattle.doc_changes.specs.Stands.{StandsFor}
use Rattle.doc_changes.proofs.Levels.{document_is}
use Rattle.doc_changes.proofs.Named.{has_names, stands_grown}
use Rattle.doc_edits.specs.Changes.{IsPrepared, changed}
use Rattle.doc_edits.specs.Changes as prepared
use Rattle.doc_edits.specs.declared.change.Change.{Change}
use Rattle.kept_inverses.specs.from_kept_records.Found.{SaysFound}
use Rattle.kept_inverses.specs.from_kept_state.KeptState.{KeptState}
use Rattle.kept_inverses.specs.from_kept_children.Edited.{IsRightFor}
use Rattle.kept_inverses.specs.from_kept_changes.Steps.{Takes}
use Rattle.kept_keys.specs.Keys.{IsWhole}
use Rattle.kept_inverses.proofs.Budget.{change-budgeted}
use Rattle.edit_session.specs.Costs.{edit_cost}
use Rattle.edit_session.specs.Edited.{IsReady, IsDone, IsRefused}
use Rattle.edit_session.specs.Held.{document_in, Stands, found_by, IsPresent, state_by}

pub right-whole : (c : Compiled) (ns : Nodes) (k : KeptState) → IsRightFor c ns k → IsWhole c ns k
right-whole c ns k right = record { beside = right.beside; fit = right.fit; top = right.top }

pub whole-right : (c : Compiled) (ns : Nodes) (k : KeptState) → IsWhole c ns k → IsRightFor c ns k
whole-right c ns k whole = record { beside = whole.beside; top = whole.top; fit = whole.fit }

pub stands-right : (c : Compiled) (ns : Nodes) (k : KeptState) → IsRightFor c ns k → StandsFor c.names ns (document_in c ns)
stands-right c ns k right =
    let d = right.beside.over.0 in
    let z = right.beside.over.1.stands in
    subst (StandsFor c.names ns) (sym (document_is c.names ns d z)) z

-- an error that is no want of memory is the refusal that the edit has
why-not : (end : Result Document EditError) (e : EditError) → IsWhy end e → e ≢ errors.Memory → end ≡ Err e
why-not end errors.UnknownNode w never = w
why-not end errors.NotElement w never = w
why-not end errors.NotText w never = w
why-not end errors.RootFixed w never = w
why-not end errors.BadIndex w never = w
why-not end errors.BadName w never = w
why-not end errors.UnboundPrefix w never = w
why-not end errors.ReservedName w never = w
why-not end errors.NoSuchAttribute w never = w
why-not end errors.TooManyNodes w never = w
why-not end errors.TooDeep w never = w
why-not end errors.TooManyAttributes w never = w
why-not end errors.Memory w never = absurd (never refl)
why-not end errors.DoubleAttribute w never = w

module _ (c : Compiled) (names : NameTable) (ns : Nodes) (k : KeptState) (edit : Edit) (right : IsRightFor c ns k) (grown : Grown c.names names) (sound : IsSound names) where
  abbrev new : Compiled
  new = record c { names = names }

  abbrev d : Document
  d = document_in c ns

  pub stands-grown : Stands new ns
  stands-grown = (d, stands_grown c.names names ns d grown sound (stands-right c ns k right))

  -- what is kept is right as it was, by the names that there are now
  pub present-grown : IsRightFor new ns k → SaysFound new ns k.records.slots k.root_ids d → IsPresent new ns k
  present-grown still says = record {
    whole = right-whole new ns k still;
    says = subst (SaysFound new ns k.records.slots k.root_ids) (sym (document_is names ns d (stands_grown c.names names ns d grown sound (stands-right c ns k right)))) says;
  }

  pub ready-so : (change : Change) → IsPresent new ns k → IsPrepared c.names names ns d edit change → IsReady c new ns k edit change
  ready-so change still p =
      let z = stands-right c ns k right in
      record {
        makes = p.makes;
        can = p.can;
        is_of = p.is_of;
        prepared = p;
        named = ap (λ (t : NameTable). record (set_of c) { names = t }) (p.names ∙ sym (table_after c.names d edit (changed names d change) (has_names c.names z.table ns d.forest z.nodes) p.makes));
        same_document = document_is names ns d (stands_grown c.names names ns d grown sound z);
        present = still;
      }

  pub refused-so : (e : EditError) → prepared.IsRefused c.names names ns edit e → IsRefused c new ns edit e
  refused-so e r = record {
    why = λ never. why-not (edited d edit) e (r.why d (stands-right c ns k right)) never;
    same = λ never. ap (λ (t : NameTable). record c { names = t }) (r.same never);
  }

-- ---- what is counted

pub none-counted : (s : State) (edit : Edit) (r : Result Document EditError) (n : ℕ) → BreaksWithin edit_cost s edit r n n
none-counted s edit (Ok e) n = λ found is. record { later = omega arith; few = omega arith }
none-counted s edit (Err e) n = refl

module _ (old new : Compiled) (ns ms : Nodes) (k : KeptState) (edit : Edit) (change : Change) (ready : IsReady old new ns k edit change) where
  abbrev before : Document
  before = document_in old ns

  abbrev after : Document
  after = changed new.names (document_in old ns) change

  right-ready : IsRightFor new ns k
  right-ready = whole-right new ns k ready.present.whole

  pub stands-ready : StandsFor new.names ns before
  stands-ready = subst (StandsFor new.names ns) ready.same_document (stands-right new ns k right-ready)

  abbrev IsReached : ℕ → ℕ → Type 0
  IsReached first last = ((ms ≡ ns) × (last ≡ first)) ⊎ (StandsFor new.names ms after × Takes new ns ms k change first last)

  counted-by : (revision : ℕ) (closed : Bool) (first last : ℕ) → first ≤ last → StandsFor new.names ms after → Takes new ns ms k change first last →
      BreaksWithin edit_cost (state_by old ns k revision closed) edit (Ok after) first last
  counted-by revision closed first last le stands takes = λ found is.
      let mine = subst (λ (s : SchemaSet). IsFound s after found) (sym ready.named) is in
      let few = change-budgeted new ns k before right-ready stands-ready ms edit change ready.is_of ready.can stands found mine first last takes in
      record {
        later = le;
        few = subst (λ (s : SchemaSet). last ≤ first + edit_budget s before (found_by old ns k) after found edit) ready.named few;
      }

  pub counted-so : (revision : ℕ) (closed : Bool) (first last : ℕ) → first ≤ last → IsReached first last → BreaksWithin edit_cost (state_by old ns k revision closed) edit (edited before edit) first last
  counted-so revision closed first last le (inl same) =
      subst (BreaksWithin edit_cost (state_by old ns k revision closed) edit (edited before edit) first) (sym same.1) (none-counted (state_by old ns k revision closed) edit (edited before edit) first)
  counted-so revision closed first last le (inr made) =
      subst (λ (r : Result Document EditError). BreaksWithin edit_cost (state_by old ns k revision closed) edit r first last) (sym ready.makes) (counted-by revision closed first last le made.0 made.1)

  pub stands-reached : (first last : ℕ) → IsReached first last → Stands new ms
  stands-reached first last (inl same) = subst (Stands new) (sym same.0) (before, stands-ready)
  stands-reached first last (inr made) = (after, made.0)

  -- it was made
  pub done-so : (l : KeptState) → StandsFor new.names ms after → IsPresent new ms l → IsDone old new ns ms l edit
  done-so l stands present =
      let is = sym (document_is new.names ms after stands) in
      record {
        document_is = ready.makes ∙ ap Ok is;
        set_is = ready.named ∙ ap (λ (x : Document). with_names (set_of old) x.forest) is;
        present = present;
      }
