-- What is known of a tree is what is found of it.
use Rattle.std.proofs.Common.{◌≡◌, ◌≤◌, ℕ, List, Bool, Result, Ok, Err, map, sym, ap, subst, ◌∙◌}
use Rattle.std.specs.Prelude.{All, false, OnOk}
use Rattle.xs_names.specs.Names.{NameTable}
use Rattle.tree_rows.specs.Forest.{Forest, Document}
use Rattle.tree_rows.specs.Whole.{IsTree}
use Rattle.tree_edits.specs.Tests.{edited}
use Rattle.tree_edits.specs.declared.edit.Edit.{Edit}
use Rattle.plain_tree.specs.Table.{document_table}
use Rattle.assessment.specs.Assessment.{Entry, entries}
use Rattle.assessment.specs.Attribution.{SchemaSet}
use Rattle.compiled_schema.specs.Usable.{set_of}
use Rattle.compiled_schema.specs.declared.compiled.Compiled.{Compiled}
use Rattle.tree_assess.specs.Entries.{entry_of}
use Rattle.tree_assess.specs.declared.entry.ElementEntry.{ElementEntry}
use Rattle.forest_keys.specs.Entries.{AreEntries}
use Rattle.what_is_found.specs.IsFound.{IsFound, times_found}
use Rattle.session_model.specs.Asking.{code_total}
use Rattle.session_model.specs.Reports.{IsEntryNamed}
use Rattle.session_model.specs.Applying.{IsEdited}
use Rattle.session_model.specs.State.{State, with_names, next_revision, IsOpened}
use Rattle.plain_session.specs.Held.{state_of, IsPresent, IsUpToDate}
use Rattle.plain_session.specs.Stocks.{IsReady, IsStock}
use Rattle.plain_session.specs.declared.session.PlainSession.TheInside.{Inside}
use Rattle.plain_session.specs.declared.stock.Stock.{Stock}

module _ (set : Compiled) (d : Document) (es : List ElementEntry) (are : AreEntries (set_of set) set.identities.items d.forest es) where
  pub found_by : IsReady set → IsTree d → IsFound (set_of set) d (map entry_of es)
  found_by ready tree =
      record {
        sound = ready.sound;
        named = ready.usable.named.attributes;
        tree = tree;
        identities = set.identities.items;
        read = ready.usable.identities_are;
        found = are.found;
        assessed = are.assessed;
        entries_are = are.entries_are;
      }

  pub are_named : All (IsEntryNamed (set_of set)) (entries are.found) → All (IsEntryNamed (set_of set)) (map entry_of es)
  are_named named = subst (All (IsEntryNamed (set_of set))) (sym are.entries_are) named

-- a set whose table has got the names of a document
pub set_named : {T E : Type 0} (r : Result T E) (set new : Compiled) (names : NameTable) (f : Forest) → new ≡ record set { names = names } → names ≡ document_table set.names f
    → OnOk r (set_of new ≡ with_names (set_of set) f)
set_named (Ok x) set new names f same is = ap set_of same ∙ ap (λ (t : NameTable). record (set_of set) { names = t }) is
set_named (Err e) set new names f same is = tt

-- a session that was just opened
module _ (set : SchemaSet) (new : Compiled) (d : Document) (stock : Stock) (named : set_of new ≡ with_names set d.forest) (is : IsStock new d stock) where
  found_so : IsFound (with_names set d.forest) d (map entry_of stock.entries.items)
  found_so = subst (λ (x : SchemaSet). IsFound x d (map entry_of stock.entries.items)) named is.found_is

  abbrev pub stands : ℕ → Bool → State
  stands revision closed = record { set = set_of new; document = d; found = map entry_of stock.entries.items; revision = revision; closed = closed }

  pub opened_so : IsOpened set d (stands 0 false)
  opened_so = record { found_is = found_so; new_is = λ i. record { set = named i; document = d; found = map entry_of stock.entries.items; revision = 0; closed = false } }

-- a session that has made an edit
module _ (s : Inside) (old : State) (is : state_of s ≡ old) (edit : Edit) (new : Compiled) (d : Document) (stock : Stock) where
  pub edited_so : (revision : ℕ) (closed : Bool) → s.closed ≡ false → closed ≡ false → edited s.tree edit ≡ Ok d → set_of new ≡ with_names (set_of s.set.value) d.forest
      → IsStock new d stock → revision ≡ next_revision s.revision
      → IsEdited old edit (record { set = set_of new; document = d; found = map entry_of stock.entries.items; revision = revision; closed = closed })
  edited_so revision closed before open_now made named known next =
      subst (λ (x : State). IsEdited x edit (record { set = set_of new; document = d; found = map entry_of stock.entries.items; revision = revision; closed = closed })) is
      (record {
        open_before = before;
        document_is = made;
        found_is = found_so (set_of s.set.value) new d stock named known;
        new_is = λ i. record { set = named i; document = d; found = map entry_of stock.entries.items; revision = next i; closed = open_now i };
      })

-- what a session holds is what contracts see
module _ (s : Inside) (v : State) (is : state_of s ≡ v) where
  pub entries_now : (es : List ElementEntry) → es ≡ s.stock.entries.items → map entry_of es ≡ v.found
  entries_now es e = ap (map entry_of) e ∙ ap (λ (x : State). x.found) is

  pub set_now : (set : Compiled) → set ≡ s.set.value → set_of set ≡ v.set
  set_now set same = ap set_of same ∙ ap (λ (x : State). x.set) is

  -- while it is open
  module _ (up : IsUpToDate s) (open_now : v.closed ≡ false) where
    present : IsPresent s
    present = up (ap (λ (x : State). x.closed) is ∙ open_now)

    pub found_now : IsFound v.set v.document v.found
    found_now = subst (λ (x : State). IsFound x.set x.document x.found) is present.stock.found_is

    pub named_now : (es : List ElementEntry) → es ≡ s.stock.entries.items → All (IsEntryNamed v.set) (map entry_of es)
    named_now es e =
        subst (λ (set : SchemaSet). All (IsEntryNamed set) (map entry_of es)) (ap (λ (x : State). x.set) is)
        (subst (λ (xs : List ElementEntry). All (IsEntryNamed (set_of s.set.value)) (map entry_of xs)) (sym e) present.stock.named)

    pub total_now : s.stock.total ≡ code_total v.found
    total_now = present.stock.total_is ∙ ap (λ (x : State). code_total x.found) is

    -- where each element is found once
    pub once_now : ((x : SchemaSet) (d : Document) (found : List Entry) → IsFound x d found → (key : ℕ) → times_found key found ≤ 1)
        → (es : List ElementEntry) → es ≡ s.stock.entries.items → (key : ℕ) → times_found key (map entry_of es) ≤ 1
    once_now once es e key = subst (λ (found : List Entry). times_found key found ≤ 1) (sym (entries_now es e)) (once v.set v.document v.found found_now key)
