-- The codes of IDs are those of the values that are found.
use Rattle.std.proofs.Common.{◌≡◌, ℕ, List, sym, ap, ◌∙◌}
use Rattle.xs_codes.specs.declared.fault.Found.{Found}
use Rattle.tree_rows.specs.Forest.{Document}
use Rattle.identity_tables.specs.Ids.{BorneAtom, id_codes}
use Rattle.identity_tables.specs.Table.{IsTableOf}
use Rattle.assessment.specs.Bearings.{borne_values}
use Rattle.identity_constraints.specs.Seen.{KeyForest}
use Rattle.what_is_found.specs.Identity.{seen}
use Rattle.compiled_schema.specs.declared.compiled.Compiled.{Compiled}
use Rattle.doc_nodes.specs.Nodes.{Nodes}
use Rattle.kept_above.specs.from_kept_records.Slots.{IsMade, kept_at}
use Rattle.kept_above.specs.from_kept_records.Found.{IsOver, SaysFound, found_in}
use Rattle.kept_above.proofs.from_kept_records.Kept.{ids-are}
use Rattle.kept_above.specs.from_kept_state.KeptState.{KeptState}
use Rattle.kept_keys.specs.Keys.{IsWhole, KeepsCodes, KeepsElements, codes_at}
use Rattle.kept_keys.proofs.Whole.{borne-stays, over-before, seen-stays, settled}

-- the codes by the table that is kept
pub ids-found : (c : Compiled) (ns : Nodes) (k : KeptState) → IsWhole c ns k → (codes : List Found) → ((atoms : List BorneAtom) → IsTableOf k.records.ids atoms → codes ≡ id_codes atoms) →
    (d : Document) → IsOver c ns k.records.slots d → codes ≡ id_codes (borne_values (found_in ns k.records.slots d.forest))
ids-found c ns k whole codes are d over =
    are (borne_values (found_in ns k.records.slots d.forest)) (ids-are c ns k.records k.lists k.root_ids d (settled c ns k whole d over) whole.beside.booked)

-- they stay so, where the root gets them
module _ (c : Compiled) (ns : Nodes) (old new : KeptState) (before : IsWhole c ns old) (codes : List Found) (are : (atoms : List BorneAtom) → IsTableOf old.records.ids atoms → codes ≡ id_codes atoms)
    (keeps : KeepsCodes (record old { root_ids = codes }) new) where
  pub elements-ids : KeepsElements old new
  elements-ids = record { made = keeps.elements.made; pairs = keeps.elements.pairs }

  pub ids-after : IsWhole c ns new → (d : Document) → IsOver c ns new.records.slots d → new.root_ids ≡ id_codes (borne_values (found_in ns new.records.slots d.forest))
  ids-after after d over =
      keeps.ids
      ∙ ids-found c ns old before codes are d (over-before c ns old new before after elements-ids d over)
      ∙ ap id_codes (sym (borne-stays c ns old new before after elements-ids d over))

-- ---- all codes are those that are to be said

pub says-found : (c : Compiled) (ns : Nodes) (mid new : KeptState) → IsWhole c ns mid →
    ((d : Document) → IsOver c ns mid.records.slots d → (n : ℕ) → IsMade mid.records.slots n → (kept_at mid.records.slots n).identity ≡ codes_at c (seen (found_in ns mid.records.slots d.forest)) n) →
    IsWhole c ns new → KeepsElements mid new → ((n : ℕ) → (kept_at new.records.slots n).identity ≡ (kept_at mid.records.slots n).identity) →
    ((d : Document) → IsOver c ns new.records.slots d → new.root_ids ≡ id_codes (borne_values (found_in ns new.records.slots d.forest))) →
    (d : Document) → IsOver c ns new.records.slots d → SaysFound c ns new.records.slots new.root_ids d
says-found c ns mid new before coded after elements identity ids d over = record {
  identity = λ n made.
      identity n
      ∙ coded d (over-before c ns mid new before after elements d over) n ((elements.made n).1 made)
      ∙ ap (λ (f : KeyForest). codes_at c f n) (sym (seen-stays c ns mid new before after elements d over));
  ids = ids d over;
}
