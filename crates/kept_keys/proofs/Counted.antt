-- What is counted of targets stays right as codes alone are written.
use Rattle.std.proofs.Common.{◌≡◌, ℕ, Option, None, Some, refl, sym, ap, ◌∙◌, subst}
use Rattle.std.specs.Prelude.{unwrap_or}
use Rattle.std.specs.Option.{option_map}
use Rattle.std.proofs.lemmas.Option.{none-some}
use Rattle.simple_types.proofs.Valid.{one-outcome}
use Rattle.identity_constraints.specs.Seen.{KeyElement}
use Rattle.what_is_found.specs.Identity.{seen_element}
use Rattle.scope_targets.specs.Kin.{Kin, AreAbove, AreSeen}
use Rattle.scope_targets.specs.Targetings.{targetings_of}
use Rattle.compiled_schema.specs.Usable.{set_of}
use Rattle.compiled_schema.specs.declared.compiled.Compiled.{Compiled}
use Rattle.doc_nodes.specs.Nodes.{Nodes, element_children}
use Rattle.doc_changes.specs.Held.{parent_at}
use Rattle.doc_changes.specs.Readers.{name_at}
use Rattle.tree_assess.specs.Entries.{entry_of}
use Rattle.kept_slots.specs.Slots.{at}
use Rattle.kept_above.specs.from_kept_records.KeptElement.{KeptElement}
use Rattle.kept_above.specs.from_kept_records.Slots.{IsMade, blank, entry_at}
use Rattle.kept_above.specs.from_kept_records.Fit.{models_of}
use Rattle.kept_above.specs.from_kept_state.KeptState.{KeptState}
use Rattle.kept_targets.specs.Kept.{AreTargets, kin_of, sign_at, sign_of}
use Rattle.kept_targets.specs.declared.keys.TargetKeys.{TargetKeys}
use Rattle.kept_targets.proofs.Looking.{sign-is}
use Rattle.kept_targets.proofs.Staying.{stays-seen}
use Rattle.kept_keys.specs.Keys.{IsWhole, KeepsElements}

module _ (c : Compiled) (ns : Nodes) (old new : KeptState) (before : IsWhole c ns old) (after : IsWhole c ns new) (elements : KeepsElements old new) (keys : TargetKeys) where
  not-made : (k : KeptState) (n : ℕ) → at k.records.slots n ≡ None → ¬ IsMade k.records.slots n
  not-made k n none made = none-some made.0 (sym none ∙ made.1)

  blank-there : (k : KeptState) (n : ℕ) → ¬ IsMade k.records.slots n → at k.records.slots n ≡ None
  blank-there k n out = by (at k.records.slots n) refl
    where
      by : (o : Option KeptElement) → at k.records.slots n ≡ o → at k.records.slots n ≡ None
      by None e = e
      by (Some own) e = absurd (out (own, e))

  -- of each number the same is seen
  seen-same : (n : ℕ) → seen_element (entry_at new.records.slots n) ≡ seen_element (entry_at old.records.slots n)
  seen-same n = by (at old.records.slots n) refl
    where
      by : (o : Option KeptElement) → at old.records.slots n ≡ o → seen_element (entry_at new.records.slots n) ≡ seen_element (entry_at old.records.slots n)
      by None e =
          let none = blank-there new n (λ made. not-made old n e ((elements.made n).1 made)) in
          ap (λ (o : Option KeptElement). seen_element (entry_of (unwrap_or o blank).found)) none ∙ sym (ap (λ (o : Option KeptElement). seen_element (entry_of (unwrap_or o blank).found)) e)
      by (Some own) e =
          let made : IsMade old.records.slots n = (own, e) in
          (stays-seen (set_of c) (one-outcome c.parts) before.beside.over.1.stands.table before.beside.over.1.usable.named.attributes (models_of c) ns old.records.slots new.records.slots old.lists new.lists old.root_ids
          new.root_ids n (elements.pairs n) (before.fit n made tt) (after.fit n ((elements.made n).0 made) tt)).sight

  kin-same : kin_of ns new.records.slots ≡ kin_of ns old.records.slots
  kin-same = λ i. record { seen = λ n. seen-same n i; parent = parent_at ns; children = element_children ns }

  sign-same : (n : ℕ) → sign_at old.records.slots n ≡ sign_at new.records.slots n
  sign-same n = by (at old.records.slots n) refl
    where
      by : (o : Option KeptElement) → at old.records.slots n ≡ o → sign_at old.records.slots n ≡ sign_at new.records.slots n
      by None e = ap (option_map sign_of) e ∙ sym (ap (option_map sign_of) (blank-there new n (λ made. not-made old n e ((elements.made n).1 made))))
      by (Some own) e =
          let made : IsMade old.records.slots n = (own, e) in
          sign-is c ns old before n made ∙ ap (λ g. Some (record { name = name_at ns n; pair = g })) (sym (elements.pairs n)) ∙ sym (sign-is c ns new after n ((elements.made n).0 made))

  pub targets-again : AreTargets c ns old.records.slots keys → AreTargets c ns new.records.slots keys
  targets-again are = record {
    references = are.references;
    kept = are.kept;
    parents = λ n made. are.parents n ((elements.made n).1 made);
    alone = λ n out. are.alone n (λ made. out ((elements.made n).0 made));
    targets = λ n made above below is_above is_below.
        are.targets n ((elements.made n).1 made) above below (subst (λ (v : Kin). AreAbove v (parent_at ns n) above) kin-same is_above) (subst (λ (v : Kin). AreSeen v (element_children ns n) below) kin-same is_below)
        ∙ ap (λ (own : KeyElement). targetings_of c.names c.parts c.identities.items above own below) (sym (seen-same n));
    none = λ n out. are.none n (λ made. out ((elements.made n).0 made));
    signs = λ n. are.signs n ∙ sign-same n;
  }
