-- All that is found anew, by what was right before: nothing, or all of a document that has become another.
use Rattle.std.proofs.Common.{◌≡◌, ◌≢◌, ◌⊎◌, ◌++◌, ℕ, List, [], Some, true, inl, inr, subst}
use Rattle.tree_rows.specs.Forest.{Document}
use Rattle.identity_constraints.specs.Satisfied.{identity_at}
use Rattle.what_is_found.specs.Identity.{seen}
use Rattle.scope_targets.specs.Kept.{parent_of}
use Rattle.compiled_schema.specs.declared.compiled.Compiled.{Compiled}
use Rattle.doc_nodes.specs.Nodes.{Nodes, Has, Lacks, is_element_at, element_children}
use Rattle.doc_changes.specs.Held.{parent_at}
use Rattle.kept_slots.specs.Slots.{at}
use Rattle.child_lists.specs.from_kept_records.Slots.{IsMade, kept_at}
use Rattle.child_lists.specs.from_kept_records.Found.{IsOver, found_in}
use Rattle.child_lists.specs.from_kept_state.KeptState.{KeptState}
use Rattle.kept_targets.specs.Counting.{Adopts, AreScopesAbove, CanAdopt, Finds, Forgets, IsCounting}
use Rattle.kept_targets.specs.Kept.{AreTargets, IsTargetOf}
use Rattle.kept_targets.specs.Moved.{IsLookedAt, IsMarked}
use Rattle.kept_targets.specs.Touched.{IsTouching}
use Rattle.kept_targets.specs.Turned.{WereTargets, gone_of, list_of, lowest_of, own_of}
use Rattle.kept_targets.specs.Whole.{IsWhole}
use Rattle.kept_targets.specs.declared.above.Touched.{Touched}
use Rattle.kept_targets.specs.declared.keys.TargetKeys.{TargetKeys}
use Rattle.kept_targets.specs.declared.turn.Turn.{Turn}
use Rattle.kept_targets.proofs.Among.{has-either, lacks-left, lacks-right, lacks-not}
use Rattle.kept_targets.proofs.Looking.{element-of}
use Rattle.kept_targets.proofs.Opened.{all-moved, can-open, gone-open, lowest-open, scopes-open, targets-opened}
use Rattle.kept_targets.proofs.Retargeted.{can-adopt, codes-still, gone-whole, scopes-above, targets-turned}

module _ (c : Compiled) (ms : Nodes) (l : KeptState) (new : IsWhole c ms l) (keys : TargetKeys) (turn : Turn) (were : WereTargets c ms l keys turn) where
  pub lowest-there : is_element_at ms (lowest_of turn) ≡ true
  lowest-there = elim were [ inl opens ↦ lowest-open c ms l new keys turn opens | inr follows ↦ follows.turns.lowest ]

  pub counting-before : IsCounting keys
  counting-before = elim were [ inl opens ↦ opens.none.kept | inr follows ↦ follows.targets.kept ]

  pub scopes-before : AreScopesAbove keys
  scopes-before = elim were [ inl opens ↦ scopes-open c ms l new keys turn opens | inr follows ↦ scopes-above c follows.old follows.before follows.whole keys follows.targets ]

  pub gone-before : (n x : ℕ) → Has n (gone_of turn) → parent_of keys.counted x ≡ Some n → Has x (gone_of turn)
  gone-before =
      elim were [
        | inl opens ↦ gone-open c ms l new keys turn opens
        | inr follows ↦ gone-whole c follows.old ms follows.before l turn follows.whole new follows.turns keys follows.targets
      ]

  module _ (mid : TargetKeys) (forgets : Forgets keys mid (gone_of turn)) (moved : List ℕ) (own : (n : ℕ) → own_of turn ≡ Some n → IsLookedAt c.parts ms l.records.slots (at keys.signs) moved n)
      (marked : (p n : ℕ) → list_of ms turn ≡ Some p → own_of turn ≢ Some n → IsMarked c ms l p n → IsLookedAt c.parts ms l.records.slots (at keys.signs) moved n)
      (only : (m : ℕ) → Has m moved → (is_element_at ms m ≡ true) × ((own_of turn ≡ Some m) ⊎ (((p : ℕ) × (list_of ms turn ≡ Some p) × Has m (element_children ms p)) ⊎ ((p : ℕ) × (parent_at ms m ≡ Some p) × Has p moved)))) where
    pub can-adopt-all : CanAdopt ms mid moved
    can-adopt-all =
        elim were [
          | inl opens ↦ can-open c ms l new keys turn opens mid forgets moved
          | inr follows ↦ can-adopt c follows.old ms follows.before l turn follows.whole new follows.turns keys follows.targets mid forgets moved (λ n has. (only n has).0)
        ]

    module _ (none touched : Touched) (none_targets : none.targets.items ≡ []) (none_scopes : none.scopes.items ≡ []) (touching : IsTouching c ms l.records.slots keys (lowest_of turn) none touched) where
      pub targets-all : (one two last : TargetKeys) → Adopts ms l.records.slots mid one moved → Finds (IsTargetOf c ms l.records.slots) one two moved → Finds (IsTargetOf c ms l.records.slots) two last touched.targets.items → IsCounting last
          → AreTargets c ms l.records.slots last
      targets-all one two last adopts first second counting =
          elim were [
            | inl opens ↦ targets-opened c ms l new keys turn opens mid forgets moved own (λ n has. (only n has).0) none touched none_targets touching one two last adopts first second counting
            | inr follows ↦
                targets-turned c follows.old ms follows.before l turn follows.whole new follows.turns keys follows.targets mid forgets moved (λ n e is. own n e) marked only none touched none_targets none_scopes touching one two last adopts first
                second counting
          ]

      -- those whose codes can be others
      pub scopes-elements : (scopes : List ℕ) → scopes ≡ touched.scopes.items ++ moved → (n : ℕ) → Has n scopes → is_element_at ms n ≡ true
      scopes-elements scopes e n h =
          elim (has-either n touched.scopes.items moved (subst (Has n) e h)) [
            | inl k ↦ elim (touching.only_scopes n k) [ inl old ↦ absurd (subst (Has n) none_scopes old) | inr is ↦ is ]
            | inr k ↦ (only n k).0
          ]

      pub codes-rest : (scopes : List ℕ) → scopes ≡ touched.scopes.items ++ moved → (d : Document) → IsOver c ms l.records.slots d → (n : ℕ) → IsMade l.records.slots n → Lacks n scopes
          → (kept_at l.records.slots n).identity ≡ identity_at c.names c.parts c.identities.items n (seen (found_in ms l.records.slots d.forest))
      codes-rest scopes e d over n made lacks =
          let none_here = subst (Lacks n) e lacks in
          let off_moved : ¬ Has n moved = lacks-not n moved (lacks-right n touched.scopes.items moved none_here) in
          let off_scopes : ¬ Has n touched.scopes.items = lacks-not n touched.scopes.items (lacks-left n touched.scopes.items moved none_here) in
          elim were [
            | inl opens ↦ absurd (off_moved (all-moved c ms l new keys turn opens mid forgets moved own n (element-of c ms l new n made)))
            | inr follows ↦
                codes-still c follows.old ms follows.before l turn follows.whole new follows.turns keys follows.targets mid forgets moved (λ m q is. own m q) marked only none touched none_targets none_scopes touching follows.says
                follows.identity d over n made off_moved off_scopes
          ]
