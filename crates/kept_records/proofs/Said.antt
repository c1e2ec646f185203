-- What is kept, with the codes that are to be said of it, is what is found of the document.
use Rattle.std.proofs.Common.{◌≡◌, ◌⊎◌, ℕ, List, [], Bool, refl, sym, ap, ◌∙◌, inl, inr}
use Rattle.std.specs.Prelude.{◌==◌, if◌then◌else◌}
use Rattle.std.proofs.lemmas.Bool.{cases_eq, eq-eqb, ne_eqb}
use Rattle.xs_codes.specs.declared.fault.Found.{Found}
use Rattle.tree_rows.specs.Forest.{Forest, none, text, element, Document}
use Rattle.tree_rows.specs.Whole.{HasRoot}
use Rattle.assessment.specs.Assessment.{Beside, entries}
use Rattle.identity_tables.specs.Ids.{id_codes}
use Rattle.assessment.specs.Bearings.{borne_values}
use Rattle.assessment.specs.Joined.{is_root}
use Rattle.compiled_schema.specs.Usable.{set_of}
use Rattle.compiled_schema.specs.declared.compiled.Compiled.{Compiled}
use Rattle.what_is_found.specs.Identity.{beside_of}
use Rattle.what_is_found.specs.IsFound.{IsFound}
use Rattle.doc_nodes.specs.Nodes.{Nodes}
use Rattle.model_lists.specs.Lists.{ListsView}
use Rattle.kept_records.specs.Slots.{KeptSlots}
use Rattle.kept_records.specs.Found.{AreSettled, SaysKept, SaysFound, found_in}
use Rattle.kept_records.proofs.Settled.{assessed}

root-test : (f : Forest) → HasRoot f → (n : ℕ) → is_root f n ≡ (n == 1)
root-test none h n = absurd h
root-test (text number chars next) h n = absurd h
root-test (element number name bindings attributes children next) h n = elim (cases_eq n 1) [
  | inl e ↦ eq-eqb number n (h.0 ∙ sym e) ∙ sym (eq-eqb n 1 e)
  | inr other ↦ ne_eqb number n (λ e. other (sym e ∙ h.0)) ∙ sym (ne_eqb n 1 other)
]

module _ (c : Compiled) (ns : Nodes) (ks : KeptSlots) (v : ListsView) (codes : List Found) (d : Document) (a : AreSettled c ns ks v codes d) (says : SaysFound c ns ks codes d) where
  abbrev said : Beside
  said = beside_of (set_of c) c.identities.items d.forest (found_in ns ks d.forest)

  says-kept : SaysKept said ks codes
  says-kept = record {
    identity = λ n made. sym (says.identity n made);
    ids = λ n made.
        ap (λ (b : Bool). if b then id_codes (borne_values (found_in ns ks d.forest)) else []) (root-test d.forest a.over.stands.tree.root n)
        ∙ ap (λ (own : List Found). if n == 1 then own else []) (sym says.ids);
  }

  pub is-found : IsFound (set_of c) d (entries (found_in ns ks d.forest))
  is-found = record {
    sound = a.over.stands.table;
    named = a.over.usable.named.attributes;
    tree = a.over.stands.tree;
    identities = c.identities.items;
    read = a.over.usable.identities_are;
    found = found_in ns ks d.forest;
    assessed = assessed c ns ks v codes d a said says-kept;
    entries_are = refl;
  }
