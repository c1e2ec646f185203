-- Nothing is kept.
use Rattle.std.proofs.Common.{◌≡◌, ℕ, zero, suc, List, [], Option, None, refl, sym, ap, ◌∙◌}
use Rattle.std.specs.Option.{option_map}
use Rattle.std.proofs.lemmas.Option.{none-some}
use Rattle.identity_constraints.specs.Counting.{Links}
use Rattle.key_records.specs.Tables.{AreParents, parent_in}
use Rattle.scope_targets.specs.Kept.{AreKept, parent_of, targets_of}
use Rattle.scope_targets.specs.Linked.{links_by}
use Rattle.forest_keys.specs.inside.Keyrefs.{AreReferencesOf}
use Rattle.compiled_schema.specs.declared.compiled.Compiled.{Compiled}
use Rattle.doc_nodes.specs.Nodes.{Nodes}
use Rattle.kept_slots.specs.Slots.{at}
use Rattle.child_lists.specs.from_kept_records.Slots.{IsMade}
use Rattle.kept_targets.specs.Kept.{AreTargets, sign_of}
use Rattle.kept_targets.specs.declared.keys.ElementSign.{ElementSign}
use Rattle.kept_targets.specs.declared.keys.TargetKeys.{TargetKeys}

pub none-at : {T : Type 0} (n : ℕ) → at {T = T} [] n ≡ None
none-at zero = refl
none-at (suc n) = refl

pub nothing : (n : ℕ) → ¬ IsMade [] n
nothing n made = none-some made.0 (sym (none-at n) ∙ made.1)

no-parents : (n : ℕ) → parent_in [] n ≡ None
no-parents zero = refl
no-parents (suc n) = refl

module _ (c : Compiled) (ns : Nodes) (keys : TargetKeys) (references : AreReferencesOf c.parts.constraints.parts keys.counted.references) (kept : (t : Links) → AreParents t [] → AreKept t keys.counted)
    (none : (n : ℕ) → (parent_of keys.counted n ≡ None) × (targets_of keys.counted n ≡ [])) (signs : keys.signs ≡ []) where
  pub empty-targets : AreTargets c ns [] keys
  empty-targets = record {
    references = references;
    kept = kept (links_by keys.counted.parents.items) (record {
      parents_are = λ n. (none n).0 ∙ sym (no-parents n);
      before = λ n p e. absurd (none-some p (sym (none n).0 ∙ e));
    });
    parents = λ n made. absurd (nothing n made);
    alone = λ n out. (none n).0;
    targets = λ n made. absurd (nothing n made);
    none = λ n out. (none n).1;
    signs = λ n. ap (λ (ss : List (Option ElementSign)). at ss n) signs ∙ none-at n ∙ sym (ap (option_map sign_of) (none-at n));
  }
