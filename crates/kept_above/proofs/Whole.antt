-- Something is kept of all elements, where it is of the root and of the child elements of each element of which it is.
use Rattle.std.proofs.Common.{◌≡◌, ℕ, [], true, Some, All, sym, subst}
use Rattle.std.specs.Prelude.{slice_get}
use Rattle.std.proofs.lemmas.List.Elements.{All-nil, All-cons}
use Rattle.assessment.specs.Local.{AreRead, element_numbers}
use Rattle.compiled_schema.specs.declared.compiled.Compiled.{Compiled}
use Rattle.doc_nodes.specs.Nodes.{Nodes, is_element_at, element_children}
use Rattle.doc_changes.proofs.Reading.{are_read}
use Rattle.doc_readers.proofs.Reading.{readers_are}
use Rattle.doc_readers.specs.Heads.{readers_of}
use Rattle.kept_judging.specs.from_kept_records.Slots.{IsMade}
use Rattle.kept_judging.proofs.from_kept_records.Made.{made-in}
use Rattle.kept_judging.proofs.from_kept_records.Nodes.{has-element, root-numbers}
use Rattle.kept_judging.specs.from_kept_state.Kept.{IsBeside}
use Rattle.kept_judging.specs.from_kept_state.KeptState.{KeptState}

module _ (c : Compiled) (ns : Nodes) (k : KeptState) (beside : IsBeside c ns k) (root : IsMade k.records.slots 1)
    (given : (n : ℕ) → IsMade k.records.slots n → (place child : ℕ) → slice_get (element_children ns n) place ≡ Some child → IsMade k.records.slots child) where
  read : AreRead (readers_of c.names ns) beside.over.0.forest
  read = readers_are c.names ns beside.over.0.forest (are_read c.names ns beside.over.0.forest beside.over.1.stands.nodes)

  roots : All (IsMade k.records.slots) (element_numbers beside.over.0.forest)
  roots = subst (All (IsMade k.records.slots)) (sym (root-numbers beside.over.0.forest beside.over.1.stands.tree.root)) (All-cons (IsMade k.records.slots) 1 [] root (All-nil (IsMade k.records.slots)))

  pub all-made : (n : ℕ) → is_element_at ns n ≡ true → IsMade k.records.slots n
  all-made n is = made-in c.names ns k.records.slots given beside.over.0.forest read roots n (has-element c.names ns beside.over.0 beside.over.1.stands n is)
