-- What fits from the root on is the assessment.
use Rattle.std.proofs.Common.{◌≡◌, ℕ, ◌+◌, List, [], ◌++◌, Option, None, Some, refl, sym, ap, ◌∙◌}
use Rattle.std.specs.Prelude.{sum_by, cond}
use Rattle.std.proofs.lemmas.Option.{none-some}
use Rattle.std.specs.Option.{option_map}
use Rattle.xs_codes.specs.declared.fault.Found.{Found}
use Rattle.tree_rows.specs.Forest.{Document}
use Rattle.identity_tables.specs.Ids.{BorneAtom, ids, references}
use Rattle.identity_tables.specs.Table.{is_borne, is_reference, IsTableOf}
use Rattle.assessment.specs.Assessment.{Entry, entries}
use Rattle.assessment.specs.Bearings.{borne_values}
use Rattle.assessment.specs.Local.{HasElement}
use Rattle.compiled_schema.specs.declared.compiled.Compiled.{Compiled}
use Rattle.tree_assess.specs.Entries.{entry_of}
use Rattle.session_model.specs.Asking as asking
use Rattle.session_model.specs.Asking.{code_total}
use Rattle.doc_nodes.specs.Nodes.{Nodes}
use Rattle.model_lists.specs.Lists.{ListsView}
use Rattle.kept_slots.specs.Slots.{at, weigh}
use Rattle.kept_records.specs.declared.element.KeptElement.{KeptElement}
use Rattle.kept_records.specs.Slots.{KeptSlots, IsMade, kept_at}
use Rattle.kept_records.specs.Books.{KeptView, IsBooked, codes_in, all_atoms}
use Rattle.kept_records.specs.Found.{AreSettled, read_as, found_in}
use Rattle.kept_records.proofs.Made.{fit-at, read, made-elements, elements-made, bearers, root-bearer}
use Rattle.kept_records.proofs.Entries.{none-found, one-found}
use Rattle.kept_records.proofs.Sums.{kept-is, over-elements, total-of, atoms-are, count-ids, count-references}

module _ (c : Compiled) (ns : Nodes) (ks : KeptSlots) (v : ListsView) (codes : List Found) (d : Document) (a : AreSettled c ns ks v codes d) where
  numbers : (n : ℕ) → IsMade ks n → (kept_at ks n).found.number ≡ n
  numbers n made = (fit-at c ns ks v codes d a n made).gathered.number_is

  pub entry-is : (n : ℕ) → asking.entry_at n (entries (found_in ns ks d.forest)) ≡ option_map (λ (k : KeptElement). entry_of k.found) (at ks n)
  entry-is n = by (at ks n) refl
    where
      each : (m : ℕ) → HasElement m d.forest → (kept_at ks m).found.number ≡ m
      each m h = numbers m (made-elements c ns ks v codes d a m h)

      by : (o : Option KeptElement) → at ks n ≡ o → asking.entry_at n (entries (found_in ns ks d.forest)) ≡ option_map (λ (k : KeptElement). entry_of k.found) (at ks n)
      by None e =
          none-found (read_as ns ks) d.forest each n (λ h. let made = made-elements c ns ks v codes d a n h in none-some made.0 (sym e ∙ made.1))
          ∙ sym (ap (option_map (λ (k : KeptElement). entry_of k.found)) e)
      by (Some k) e =
          one-found (read_as ns ks) d.forest each n (elements-made c ns ks v codes d a n (k, e))
          ∙ ap (λ (x : KeptElement). Some (entry_of x.found)) (kept-is ks n k e)
          ∙ sym (ap (option_map (λ (k : KeptElement). entry_of k.found)) e)

  pub atoms-weigh : (w : List BorneAtom → ℕ) → w [] ≡ 0 → ((xs ys : List BorneAtom) → w (xs ++ ys) ≡ w xs + w ys) → w (all_atoms ks) ≡ w (borne_values (found_in ns ks d.forest))
  atoms-weigh w nil plus =
      atoms-are ns ks w nil plus c.names numbers (bearers c ns ks v codes d a) d.forest a.over.stands.tree.root a.over.stands.tree.differ (read c ns ks v codes d a) (made-elements c ns ks v codes d a)
      (elements-made c ns ks v codes d a) (root-bearer c ns ks v codes d a)

pub total-is : (c : Compiled) (ns : Nodes) (r : KeptView) (v : ListsView) (codes : List Found) (d : Document) → AreSettled c ns r.slots v codes d → IsBooked r →
    r.total ≡ code_total (entries (found_in ns r.slots d.forest))
total-is c ns r v codes d a booked =
    booked.total_is
    ∙ over-elements (weigh codes_in) refl r.slots d.forest (elements-made c ns r.slots v codes d a) a.over.stands.tree.differ
    ∙ total-of ns r.slots d.forest (made-elements c ns r.slots v codes d a)

pub ids-are : (c : Compiled) (ns : Nodes) (r : KeptView) (v : ListsView) (codes : List Found) (d : Document) → AreSettled c ns r.slots v codes d → IsBooked r →
    IsTableOf r.ids (borne_values (found_in ns r.slots d.forest))
ids-are c ns r v codes d a booked = record {
  ids_are = λ id bearer.
      booked.ids_are.ids_are id bearer
      ∙ atoms-weigh c ns r.slots v codes d a (λ atoms. sum_by (λ x. cond (is_borne id bearer x) 1 0) (ids atoms)) refl (count-ids id bearer);
  references_are = λ id.
      booked.ids_are.references_are id
      ∙ atoms-weigh c ns r.slots v codes d a (λ atoms. sum_by (λ x. cond (is_reference id x) 1 0) (references atoms)) refl (count-references id);
}
