-- How many child elements the elements have of which nothing is kept, or whose type is another.
use Rattle.std.specs.Prelude.{◌≡◌, ◌+◌, ℕ, Bool, false, length, slice_get, Option, None, Some, if◌then◌else◌}
use Rattle.xs_names.specs.Names.{NameTable}
use Rattle.tree_rows.specs.Forest.{Forest, none, text, element}
use Rattle.xs_components.specs.declared.common.TypeId.{TypeId}
use Rattle.elem_governing.specs.declared.pairs.Governing.{Governing}
use Rattle.assessment.specs.Local.{HasElement}
use Rattle.compiled_schema.specs.declared.compiled.Compiled.{Compiled}
use Rattle.edit_budgets.specs.Budget.{same_governing}
use Rattle.doc_nodes.specs.Nodes.{Nodes, element_children}
use Rattle.doc_changes.specs.Stands.{StandFor}
use Rattle.doc_changes.specs.Readers.{element_numbers}
use Rattle.kept_slots.specs.Slots.{at}
use Rattle.child_listing.specs.from_kept_records.KeptElement.{KeptElement}
use Rattle.child_listing.specs.from_kept_records.Slots.{KeptSlots}
use Rattle.child_listing.specs.from_kept_judging.Judged.{pair_by}

-- this is kept of an element of the type
abbrev pub is_typed : Option KeptElement → Option TypeId → Bool
is_typed None of = false
is_typed (Some k) of = same_governing k.found.governing.of of

module _ (ks : KeptSlots) (governs : ℕ → Governing) where
  -- so many child elements the elements have of which nothing is kept, or whose type is not that by which they are to be governed
  abbrev pub moved : Forest → ℕ
  moved none = 0
  moved (text number chars next) = moved next
  moved (element number name bindings attributes children next) =
      (if is_typed (at ks number) (governs number).of then 0 else length (element_numbers children)) + (moved children + moved next)

-- these siblings are those of the nodes, and by this each of their child elements, and of those below, is governed as its parent gives it
pub record AreGivenDown (c : Compiled) (ns : Nodes) (governs : ℕ → Governing) (siblings : Forest) : Type 0 where
  pub names : NameTable
  pub stand : StandFor names ns siblings
  pub given : (n place child : ℕ) → HasElement n siblings → slice_get (element_children ns n) place ≡ Some child → governs child ≡ pair_by c ns (governs n) n place child
