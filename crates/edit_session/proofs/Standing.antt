-- The document that nodes stand for by the names of a set, and what is found of it.
use Rattle.std.proofs.Common.{sym, subst}
use Rattle.tree_rows.specs.Forest.{Document}
use Rattle.compiled_schema.specs.Usable.{set_of}
use Rattle.compiled_schema.specs.declared.compiled.Compiled.{Compiled}
use Rattle.what_is_found.specs.IsFound.{IsFound}
use Rattle.doc_nodes.specs.Nodes.{Nodes}
use Rattle.doc_changes.specs.Stands.{StandsFor}
use Rattle.doc_changes.proofs.Levels.{document_is}
use Rattle.kept_inverses.specs.from_kept_records.Found.{IsOver, AreSettled, SaysFound}
use Rattle.kept_inverses.proofs.from_kept_records.Said.{is-found}
use Rattle.kept_inverses.specs.from_kept_state.KeptState.{KeptState}
use Rattle.kept_keys.specs.Keys.{IsWhole}
use Rattle.edit_session.specs.Held.{document_in, Stands, found_by, IsPresent}

module _ (c : Compiled) (ns : Nodes) where
  pub stands-now : Stands c ns → StandsFor c.names ns (document_in c ns)
  stands-now s = subst (StandsFor c.names ns) (sym (document_is c.names ns s.0 s.1)) s.1

  module _ (k : KeptState) where
    pub stands-beside : IsWhole c ns k → Stands c ns
    stands-beside whole = (whole.beside.over.0, whole.beside.over.1.stands)

    pub over-now : IsWhole c ns k → IsOver c ns k.records.slots (document_in c ns)
    over-now whole =
        let d = whole.beside.over.0 in
        let over = whole.beside.over.1 in
        subst (λ (x : Document). IsOver c ns k.records.slots x) (sym (document_is c.names ns d over.stands)) over

    pub settled : IsWhole c ns k → AreSettled c ns k.records.slots k.lists k.root_ids (document_in c ns)
    settled whole = record { over = over-now whole; top = whole.top; fit = whole.fit }

    -- what is kept is what is found of the document
    pub found-now : IsPresent c ns k → IsFound (set_of c) (document_in c ns) (found_by c ns k)
    found-now present = is-found c ns k.records.slots k.lists k.root_ids (document_in c ns) (settled present.whole) present.says

    pub present-by : IsWhole c ns k → ((d : Document) → IsOver c ns k.records.slots d → SaysFound c ns k.records.slots k.root_ids d) → IsPresent c ns k
    present-by whole says = record { whole = whole; says = says (document_in c ns) (over-now whole) }
