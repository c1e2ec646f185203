-- What is kept beside the elements: the lists of their child elements, how many codes their records have, and their IDs.
use Rattle.std.specs.Prelude.{◌≡◌, ℕ, List, [], Option, None, Some}
use Rattle.std.specs.List.{flat_map}
use Rattle.identity_tables.specs.Entries.{IdEntries}
use Rattle.identity_tables.specs.Ids.{BorneAtom}
use Rattle.identity_tables.specs.Table.{IsTableOf}
use Rattle.assessment.specs.Bearings.{borne_of}
use Rattle.tree_assess.specs.Entries.{entry_of}
use Rattle.tree_assess.specs.declared.entry.ElementEntry.{ElementEntry}
use Rattle.session_model.specs.Asking.{entry_total}
use Rattle.model_lists.specs.Lists.{ListsView, IsLive}
use Rattle.model_lists.specs.declared.handle.ModelList.{ModelList}
use Rattle.kept_slots.specs.Slots.{slot_sum}
use Rattle.kept_records.specs.declared.element.KeptElement.{KeptElement}
use Rattle.kept_records.specs.Slots.{KeptSlots, kept_at}

-- what contracts see of all that is kept
pub record KeptView : Type 0 where
  pub slots : KeptSlots
  -- how many codes all records have
  pub total : ℕ
  -- the IDs and the references to them
  pub ids : IdEntries

-- how many codes the records of an element and its attributes have
abbrev pub codes_in : KeptElement → ℕ
codes_in k = entry_total (entry_of k.found)

-- the atoms of its values, with the elements that bear them where they are IDs (Structures 3.15.5)
abbrev pub atoms_of : ElementEntry → List BorneAtom
atoms_of e = borne_of (record { bearer = e.bearer; own = entry_of e })

abbrev pub atoms_in : Option KeptElement → List BorneAtom
atoms_in None = []
atoms_in (Some k) = atoms_of k.found

abbrev pub all_atoms : KeptSlots → List BorneAtom
all_atoms ks = flat_map atoms_in ks

-- what is kept in sums is that of all elements
pub record IsBooked (r : KeptView) : Type 0 where
  pub total_is : r.total ≡ slot_sum codes_in r.slots
  pub ids_are : IsTableOf r.ids (all_atoms r.slots)

-- each element has a list of its own
pub record HaveOwnLists (v : ListsView) (ks : KeptSlots) : Type 0 where
  pub apart : (m n : ℕ) (h : ModelList) → (kept_at ks m).list ≡ Some h → (kept_at ks n).list ≡ Some h → m ≡ n
  pub live : (n : ℕ) (h : ModelList) → (kept_at ks n).list ≡ Some h → IsLive v h
