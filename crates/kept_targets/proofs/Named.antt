-- The names of what identity constraints see of what is kept are those of the table.
use Rattle.std.proofs.Common.{ℕ, zero, suc, ◌≡◌, ◌<◌, List, [], ◌∷◌, Option, None, Some, length, All, refl, sym, ap, subst}
use Rattle.std.specs.Prelude.{unwrap_or}
use Rattle.std.proofs.lemmas.List.Elements.{All-nil, All-cons, All-head, All-tail}
use Rattle.simple_values.specs.declared.value.Value.{Value}
use Rattle.assess_records.specs.declared.record.AttrRecord.{AttrRecord}
use Rattle.assess_records.specs.declared.record.ElementRecord.{ElementRecord}
use Rattle.assessment_laws.specs.There.{IsThere}
use Rattle.assessment_laws.proofs.There.{attrs-there}
use Rattle.identity_constraints.specs.Seen.{KeyAttribute, KeyForest}
use Rattle.what_is_found.specs.Identity.{seen_attributes, seen_element}
use Rattle.path_walk.specs.Sight.{IsNamed, AreNamed}
use Rattle.compiled_schema.specs.declared.compiled.Compiled.{Compiled}
use Rattle.doc_nodes.specs.Nodes.{Nodes, element_children}
use Rattle.doc_changes.specs.Readers.{scope_at}
use Rattle.doc_readers.specs.Heads.{texts_named}
use Rattle.doc_readers.proofs.Showing.{name_number}
use Rattle.child_lists.specs.from_kept_records.Slots.{IsMade, blank, entry_at, pair_at}
use Rattle.child_lists.specs.from_kept_records.KeptElement.{KeptElement}
use Rattle.kept_slots.specs.Slots.{at}
use Rattle.tree_assess.specs.Entries.{entry_of}
use Rattle.child_lists.proofs.from_kept_judging.Heads.{element-kind, texts-named}
use Rattle.child_lists.specs.from_kept_state.KeptState.{KeptState}
use Rattle.kept_targets.specs.Seen.{first_seen, along, seen_to}
use Rattle.kept_targets.specs.Whole.{IsWhole}

module _ (c : Compiled) (ns : Nodes) (k : KeptState) (whole : IsWhole c ns k) where
  attrs-seen : (attrs : List AttrRecord) (values : List (Option Value)) → All (IsThere c.names c.parts) attrs → All (λ (a : KeyAttribute). a.name < length c.names.names) (seen_attributes attrs values)
  attrs-seen [] values there = All-nil (λ (a : KeyAttribute). a.name < length c.names.names)
  attrs-seen (attr ∷ attrs) [] there = All-nil (λ (a : KeyAttribute). a.name < length c.names.names)
  attrs-seen (attr ∷ attrs) (value ∷ values) there =
      All-cons (λ (a : KeyAttribute). a.name < length c.names.names) (record { name = attr.name; value = value }) (seen_attributes attrs values)
      ((All-head (IsThere c.names c.parts) attr attrs there).named) (attrs-seen attrs values (All-tail (IsThere c.names c.parts) attr attrs there))

  pub named-at : (n : ℕ) → IsMade k.records.slots n → IsNamed c.names (seen_element (entry_at k.records.slots n))
  named-at n made =
      let over = whole.beside.over in
      let usable = over.1.usable in
      let known = (whole.fit n made tt).known in
      let own = entry_at k.records.slots n in
      let attrs = attrs-there c.names c.parts usable.named.attributes usable.attribute_types.ranked usable.attribute_types.simple (pair_at k.records.slots n).of (scope_at ns n) (texts_named ns n)
      (texts-named c.names ns over.0 over.1.stands n) known.attributes known.assessed in
      record {
        name = subst (λ m. m < length c.names.names) (sym (ap (λ (r : ElementRecord). r.name) known.known.record_is))
            (name_number c.names ns over.0 over.1.stands n (element-kind ns n (over.1.only n made)));
        attributes = attrs-seen own.attrs own.attr_values (subst (All (IsThere c.names c.parts)) (sym known.attrs_are) attrs);
      }

  -- siblings and all that is seen below them
  first-named : (o : Option KeptElement) (n : ℕ) → at k.records.slots n ≡ o → (below next : KeyForest) → AreNamed c.names below → AreNamed c.names next → AreNamed c.names (first_seen o below next)
  first-named None n e below next under behind = tt
  first-named (Some own) n e below next under behind =
      let made : IsMade k.records.slots n = (own, e) in
      (subst (λ (o : Option KeptElement). IsNamed c.names (seen_element (entry_of (unwrap_or o blank).found))) e (named-at n made), (under, behind))

  along-named : (below : ℕ → KeyForest) → ((n : ℕ) → AreNamed c.names (below n)) → (ys : List ℕ) → AreNamed c.names (along k.records.slots below ys)
  along-named below under [] = tt
  along-named below under (y ∷ ys) = first-named (at k.records.slots y) y refl (below y) (along k.records.slots below ys) (under y) (along-named below under ys)

  pub down-named : (levels : ℕ) (xs : List ℕ) → AreNamed c.names (seen_to k.records.slots ns levels xs)
  down-named zero xs = tt
  down-named (suc levels) xs = along-named (λ n. seen_to k.records.slots ns levels (element_children ns n)) (λ n. down-named levels (element_children ns n)) xs
