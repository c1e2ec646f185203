-- Where nothing was kept, all targets are found.
use Rattle.std.proofs.Common.{◌≡◌, ◌≤◌, ℕ, zero, suc, true, List, [], Option, None, Some, inl, inr, refl, sym, ap, ◌∙◌, subst, arith}
use Rattle.std.specs.Option.{option_and_then}
use Rattle.std.specs.declared.alloc.Global.{Global}
use Rattle.std.specs.declared.vec.Vec.{Vec}
use Rattle.std.proofs.lemmas.Option.{none-some}
use Rattle.key_records.specs.Tables.{parent_in}
use Rattle.scope_targets.specs.Kept.{parent_of, targets_of}
use Rattle.forest_keys.specs.inside.Keyrefs.{AreReferencesOf}
use Rattle.key_records.specs.declared.references.References.{References}
use Rattle.compiled_schema.specs.declared.compiled.Compiled.{Compiled}
use Rattle.doc_nodes.specs.Nodes.{Nodes, Has, node, depth_by, is_element_at}
use Rattle.doc_changes.specs.Held.{parent_at}
use Rattle.kept_slots.specs.Slots.{at}
use Rattle.child_lists.specs.from_kept_forgetting.Below.{IsWithin, upwards}
use Rattle.child_lists.proofs.from_kept_forgetting.Placed.{root-alone}
use Rattle.child_lists.specs.from_kept_records.Slots.{IsMade}
use Rattle.child_lists.specs.from_kept_state.KeptState.{KeptState}
use Rattle.kept_targets.specs.Counting.{Adopts, AreScopesAbove, CanAdopt, Finds, Forgets, IsCounting}
use Rattle.kept_targets.specs.Kept.{AreTargets, IsTargetOf, sign_at}
use Rattle.kept_targets.specs.Moved.{IsLookedAt, IsLookedAt as looked}
use Rattle.kept_targets.specs.Touched.{IsTouching}
use Rattle.kept_targets.specs.Turned.{Opens, gone_of, lowest_of, own_of}
use Rattle.kept_targets.specs.Whole.{IsWhole}
use Rattle.kept_targets.specs.declared.above.Touched.{Touched}
use Rattle.kept_targets.specs.declared.keys.ElementSign.{ElementSign}
use Rattle.kept_targets.specs.declared.keys.TargetKeys.{TargetKeys}
use Rattle.kept_targets.specs.declared.turn.Turn.{Turn}
use Rattle.kept_targets.proofs.Among.{has-or-not}
use Rattle.kept_targets.proofs.Counts.{target-goes}
use Rattle.kept_targets.proofs.Emptied.{nothing}
use Rattle.kept_targets.proofs.Links.{parent-lower}
use Rattle.kept_targets.proofs.Looking.{above-there, doc, element-of, made-of, root-there, sign-is, sound}
use Rattle.kept_targets.proofs.Retargeted.{made-or-not, no-sign, no-targets}

module _ (c : Compiled) (ms : Nodes) (l : KeptState) (new : IsWhole c ms l) (keys : TargetKeys) (turn : Turn) (opens : Opens c ms keys turn) where
  no-targets-yet : (n : ℕ) → targets_of keys.counted n ≡ []
  no-targets-yet n = opens.none.none n (nothing n)

  no-parent-yet : (n : ℕ) → parent_of keys.counted n ≡ None
  no-parent-yet n = opens.none.alone n (nothing n)

  no-sign-yet : (n : ℕ) → at keys.signs n ≡ None
  no-sign-yet n = opens.none.signs n ∙ no-sign [] n (nothing n)

  pub scopes-open : AreScopesAbove keys
  scopes-open n a h = absurd (no-targets a (targets_of keys.counted n) (no-targets-yet n) h)

  pub gone-open : (n x : ℕ) → Has n (gone_of turn) → parent_of keys.counted x ≡ Some n → Has x (gone_of turn)
  gone-open n x has up = absurd (none-some n (sym (no-parent-yet x) ∙ up))

  pub lowest-open : is_element_at ms (lowest_of turn) ≡ true
  lowest-open = ap (λ (t : Turn). is_element_at ms (lowest_of t)) opens.root ∙ root-there c ms l new

  within-root : (levels n : ℕ) → is_element_at ms n ≡ true → depth_by (node ms n) ≤ levels → IsWithin ms 1 n
  within-root zero n is few = by (parent_at ms n) refl
    where
      by : (o : Option ℕ) → parent_at ms n ≡ o → IsWithin ms 1 n
      by None none = (0, ap Some (root-alone c.names ms (doc c ms l new) new.beside.over.1.stands n is none))
      by (Some p) up = let deeper = parent-lower ms (sound c ms l new) n p up in absurd (omega (arith, deeper, few))
  within-root (suc levels) n is few =
      by (parent_at ms n) refl (λ p up. within-root levels p (above-there c ms l new n p up) (let deeper = parent-lower ms (sound c ms l new) n p up in omega (arith, deeper, few)))
    where
      by : (o : Option ℕ) → parent_at ms n ≡ o → ((p : ℕ) → parent_at ms n ≡ Some p → IsWithin ms 1 p) → IsWithin ms 1 n
      by None none on = (0, ap Some (root-alone c.names ms (doc c ms l new) new.beside.over.1.stands n is none))
      by (Some p) up on = let above = on p up in (suc above.0, ap (option_and_then (upwards ms above.0)) up ∙ above.1)

  module _ (mid : TargetKeys) (forgets : Forgets keys mid (gone_of turn)) where
    no-targets-mid : (n : ℕ) → targets_of mid.counted n ≡ []
    no-targets-mid n = elim (has-or-not n (gone_of turn)) [ inl gone ↦ forgets.targets n gone | inr out ↦ forgets.other_targets n out ∙ no-targets-yet n ]

    no-parent-mid : (n : ℕ) → parent_of mid.counted n ≡ None
    no-parent-mid n = elim (has-or-not n (gone_of turn)) [ inl gone ↦ forgets.parents n gone | inr out ↦ forgets.other_parents n out ∙ no-parent-yet n ]

    no-sign-mid : (n : ℕ) → at mid.signs n ≡ None
    no-sign-mid n = elim (has-or-not n (gone_of turn)) [ inl gone ↦ forgets.signs n gone | inr out ↦ forgets.other_signs n out ∙ no-sign-yet n ]

    pub can-open : (moved : List ℕ) → CanAdopt ms mid moved
    can-open moved n has = inr (
      λ m a h e. no-targets a (targets_of mid.counted m) (no-targets-mid m) h,
      λ x up. none-some n (sym (no-parent-mid x) ∙ up),
    )

    module _ (moved : List ℕ) (own : (n : ℕ) → own_of turn ≡ Some n → IsLookedAt c.parts ms l.records.slots (at keys.signs) moved n) where
      pub all-moved : (n : ℕ) → is_element_at ms n ≡ true → Has n moved
      all-moved n is = by 1 (root-there c ms l new) (within-root (depth_by (node ms n)) n is (omega arith)) (own 1 (ap own_of opens.root))
        where
          by : (r : ℕ) → is_element_at ms r ≡ true → IsWithin ms r n → IsLookedAt c.parts ms l.records.slots (at keys.signs) moved r → Has n moved
          by r there within (looked.same x e) = absurd (some-none (sign-is c ms l new r (made-of c ms l new r there)) (sym (no-sign-yet r) ∙ e))
            where
              some-none : {x : ElementSign} → sign_at l.records.slots r ≡ Some x → None ≡ sign_at l.records.slots r → ⊥
              some-none {x = x} one other = none-some x (other ∙ one)
          by r there within (looked.steady x a b has before after steady below) = absurd (none-some a (sym (no-sign-yet r) ∙ before))
          by r there within (looked.whole x all) = all n is within

      module _ (only : (n : ℕ) → Has n moved → is_element_at ms n ≡ true) (none touched : Touched) (none_targets : none.targets.items ≡ []) (touching : IsTouching c ms l.records.slots keys (lowest_of turn) none touched)
          (one two last : TargetKeys) (adopts : Adopts ms l.records.slots mid one moved) (first : Finds (IsTargetOf c ms l.records.slots) one two moved)
          (second : Finds (IsTargetOf c ms l.records.slots) two last touched.targets.items) (counting : IsCounting last) where
        unlooked : (n : ℕ) → ¬ IsMade l.records.slots n → (¬ Has n moved) × (¬ Has n touched.targets.items)
        unlooked n out = (
          λ h. out (made-of c ms l new n (only n h)),
          λ h. elim (touching.only_targets n h) [ inl k ↦ subst (Has n) none_targets k | inr is ↦ out (made-of c ms l new n is) ],
        )

        parent-last : (n : ℕ) → parent_of last.counted n ≡ parent_of one.counted n
        parent-last n = ap (λ (v : Vec (Option ℕ) Global). parent_in v.items n) (second.parents ∙ first.parents)

        moved-made : (n : ℕ) → IsMade l.records.slots n → Has n moved
        moved-made n made = all-moved n (element-of c ms l new n made)

        pub targets-opened : AreTargets c ms l.records.slots last
        targets-opened = record {
          references = subst (λ (x : References). AreReferencesOf c.parts.constraints.parts x) (sym (second.references ∙ first.references ∙ adopts.references ∙ forgets.references)) opens.none.references;
          kept = counting;
          parents = λ n made. parent-last n ∙ adopts.parents_are n (moved-made n made);
          alone = λ n out. parent-last n ∙ adopts.other_parents n (unlooked n out).0 ∙ no-parent-mid n;
          targets = λ n made. elim (has-or-not n touched.targets.items) [
            | inl has ↦ second.here n has
            | inr off ↦ target-goes c ms l.records.slots last two n (second.others n off) (first.here n (moved-made n made))
          ];
          none = λ n out. second.others n (unlooked n out).1 ∙ first.others n (unlooked n out).0 ∙ adopts.targets n ∙ no-targets-mid n;
          signs = λ n.
              ap (λ (ss : List (Option ElementSign)). at ss n) (second.signs ∙ first.signs)
              ∙ elim (made-or-not l.records.slots n) as (λ o. at one.signs n ≡ sign_at l.records.slots n) [
                | inl made ↦ adopts.signs_are n (moved-made n made)
                | inr out ↦ adopts.other_signs n (unlooked n out).0 ∙ no-sign-mid n ∙ sym (no-sign l.records.slots n out)
              ];
        }
