-- Where a document is another than before, the targets that were found anew are all that can be others.
use Rattle.std.proofs.Common.{◌≡◌, ◌≢◌, ◌⊎◌, ℕ, Bool, true, false, List, [], ◌∷◌, Option, None, Some, inl, inr, refl, sym, ap, ◌∙◌, subst}
use Rattle.std.specs.Option.{option_map}
use Rattle.std.specs.declared.alloc.Global.{Global}
use Rattle.std.specs.declared.vec.Vec.{Vec}
use Rattle.std.proofs.lemmas.Bool.{false≢true, true≢false}
use Rattle.std.proofs.lemmas.Option.{none-some, same_Some}
use Rattle.tree_rows.specs.Forest.{Document}
use Rattle.key_records.specs.Tables.{parent_in}
use Rattle.identity_constraints.specs.Seen.{KeyElement, KeyForest}
use Rattle.identity_constraints.specs.Satisfied.{identity_at, identity_codes}
use Rattle.what_is_found.specs.Identity.{seen, seen_element}
use Rattle.scope_targets.specs.Kin.{AreAbove, AreAround, AreSeen, Leaves}
use Rattle.scope_targets.specs.Targetings.{Targeting, targetings_of}
use Rattle.scope_targets.proofs.Bare.{bare-stays}
use Rattle.scope_targets.proofs.Staying.{below-stays, targets-stay}
use Rattle.scope_targets.specs.Kept.{parent_of, targets_of}
use Rattle.forest_keys.specs.inside.Keyrefs.{AreReferencesOf}
use Rattle.compiled_schema.specs.declared.compiled.Compiled.{Compiled}
use Rattle.key_records.specs.declared.references.References.{References}
use Rattle.doc_nodes.specs.Nodes.{Nodes, Has, is_element_at, element_children}
use Rattle.doc_changes.specs.Held.{parent_at}
use Rattle.kept_slots.specs.Slots.{at}
use Rattle.child_lists.specs.from_kept_forgetting.Below.{IsWithin}
use Rattle.child_lists.proofs.from_kept_forgetting.Walks.{self-within}
use Rattle.child_lists.proofs.from_kept_records.Made.{read, elements-made, made-elements}
use Rattle.child_lists.specs.from_kept_records.KeptElement.{KeptElement}
use Rattle.child_lists.specs.from_kept_records.Slots.{KeptSlots, IsMade, entry_at, kept_at}
use Rattle.child_lists.specs.from_kept_records.Found.{IsOver, AreSettled, SaysFound, found_in}
use Rattle.child_lists.specs.from_kept_state.KeptState.{KeptState}
use Rattle.kept_targets.specs.Counting.{Adopts, AreScopesAbove, CanAdopt, Finds, Forgets, IsAtOrAbove, IsCounting, IsAtOrAbove as upward}
use Rattle.kept_targets.specs.Kept.{AreTargets, IsTargetOf, kin_of, sign_at, sign_of}
use Rattle.kept_targets.specs.Moved.{IsLookedAt, IsMarked, IsLookedAt as looked}
use Rattle.kept_targets.specs.Touched.{IsTouching, scopes_at}
use Rattle.kept_targets.specs.Turned.{Stays, Turns, gone_of, list_of, lowest_of, own_of}
use Rattle.kept_targets.specs.Whole.{IsWhole}
use Rattle.kept_targets.specs.declared.above.Touched.{Touched}
use Rattle.kept_targets.specs.declared.keys.ElementSign.{ElementSign}
use Rattle.kept_targets.specs.declared.keys.TargetKeys.{TargetKeys}
use Rattle.kept_targets.specs.declared.turn.Turn.{Turn}
use Rattle.kept_targets.proofs.Among.{has-or-not}
use Rattle.kept_targets.proofs.Around.{above-of, below-of}
use Rattle.kept_targets.proofs.Counts.{target-goes}
use Rattle.kept_targets.proofs.Coded.{IsFoundAt, found-at, no-codes}
use Rattle.kept_targets.proofs.Leaving.{IsFree, IsSteadyUp, leaves, one-of, unmoved-stays, unmoved-steady}
use Rattle.kept_targets.proofs.Looking.{above-there, all-looked, element-of, fit-of, made-of}
use Rattle.kept_targets.proofs.Scopes.{up-scopes}

-- ---- what is kept

pub made-or-not : (ks : KeptSlots) (n : ℕ) → IsMade ks n ⊎ (¬ IsMade ks n)
made-or-not ks n = by (at ks n) refl
  where
    by : (o : Option KeptElement) → at ks n ≡ o → IsMade ks n ⊎ (¬ IsMade ks n)
    by None e = inr (λ made. none-some made.0 (sym e ∙ made.1))
    by (Some own) e = inl (own, e)

pub no-sign : (ks : KeptSlots) (n : ℕ) → ¬ IsMade ks n → sign_at ks n ≡ None
no-sign ks n out = by (at ks n) refl
  where
    by : (o : Option KeptElement) → at ks n ≡ o → sign_at ks n ≡ None
    by None e = ap (option_map sign_of) e
    by (Some own) e = absurd (out (own, e))

pub no-targets : (a : Targeting) (xs : List Targeting) → xs ≡ [] → Has a xs → ⊥
no-targets a xs e h = subst (Has a) e h

-- ---- codes of one document

module _ (c : Compiled) (ns : Nodes) (k : KeptState) (whole : IsWhole c ns k) (d : Document) (over : IsOver c ns k.records.slots d) where
  settled : AreSettled c ns k.records.slots k.lists k.root_ids d
  settled = record { over = over; top = whole.top; fit = whole.fit }

  pub codes-at : (n : ℕ) → IsMade k.records.slots n → IsFoundAt c.names c.parts c.identities.items ns k.records.slots n d.forest
  codes-at n made =
      found-at c.names c.parts c.identities.items ns k.records.slots n d.forest (read c ns k.records.slots k.lists k.root_ids d settled)
      (λ m h. (fit-of c ns k whole m (made-elements c ns k.records.slots k.lists k.root_ids d settled m h)).gathered.number_is) (over.stands.tree.differ n)
      (elements-made c ns k.records.slots k.lists k.root_ids d settled n made)

-- ---- before anything is changed

module _ (c : Compiled) (ns : Nodes) (k : KeptState) (old : IsWhole c ns k) (keys : TargetKeys) (are : AreTargets c ns k.records.slots keys) where
  -- a parent that is kept is the one in the document
  pub parent-made : (x n : ℕ) → parent_of keys.counted x ≡ Some n → IsMade k.records.slots x × (parent_at ns x ≡ Some n)
  parent-made x n up =
      elim (made-or-not k.records.slots x) [
        | inl made ↦ (made, sym (are.parents x made) ∙ up)
        | inr out ↦ absurd (none-some n (sym (are.alone x out) ∙ up))
      ]

  abbrev IsUp : ℕ → ℕ → Type 0
  IsUp n p = IsMade k.records.slots p × IsAtOrAbove keys n p

  up-goes : (n p q : ℕ) → IsUp n p → parent_at ns p ≡ Some q → IsUp n q
  up-goes n p q up e = (made-of c ns k old q (above-there c ns k old p q e), upward.above p q up.1 (are.parents p up.0 ∙ e))

  pub scopes-above : AreScopesAbove keys
  scopes-above n a h =
      elim (made-or-not k.records.slots n) [
        | inl made ↦
            let is = element-of c ns k old n made in
            let above = above-of c ns k old n in
            let below = below-of c ns k old n is in
            let own = seen_element (entry_at k.records.slots n) in
            let found = subst (Has a) (are.targets n made above.0 below.0 above.1 below.1) h in
            (up-scopes c.names c.parts c.identities.items (kin_of ns k.records.slots) (IsUp n) (λ p up. (fit-of c ns k old p up.0).gathered.number_is) (up-goes n) own below.0 a (Some n) (own ∷ above.0) [] (refl, above.1)
            (λ p e. subst (IsUp n) (same_Some n p e) (made, upward.itself)) found).1
        | inr out ↦ absurd (no-targets a (targets_of keys.counted n) (are.none n out) h)
      ]

  -- what is at or above an element is an element
  pub above-made : (n s : ℕ) → IsMade k.records.slots n → IsAtOrAbove keys n s → is_element_at ns s ≡ true
  above-made n s made upward.itself = element-of c ns k old n made
  above-made n s made (upward.above p q is up) = let there = parent-made p q up in above-there c ns k old p q there.1

  pub scope-there : (n : ℕ) (a : Targeting) → Has a (targets_of keys.counted n) → is_element_at ns a.scope ≡ true
  scope-there n a h =
      elim (made-or-not k.records.slots n) [
        | inl made ↦ above-made n a.scope made (scopes-above n a h)
        | inr out ↦ absurd (no-targets a (targets_of keys.counted n) (are.none n out) h)
      ]

module _ (c : Compiled) (ns ms : Nodes) (k l : KeptState) (turn : Turn) (old : IsWhole c ns k) (new : IsWhole c ms l) (turned : Turns ns ms turn) (keys : TargetKeys) (are : AreTargets c ns k.records.slots keys) where
  not-gone : (n : ℕ) → is_element_at ms n ≡ true → ¬ Has n (gone_of turn)
  not-gone n is has = true≢false (sym is ∙ turned.away n has)

  pub gone-whole : (n x : ℕ) → Has n (gone_of turn) → parent_of keys.counted x ≡ Some n → Has x (gone_of turn)
  gone-whole n x has up = by (is_element_at ms x) refl
    where
      there : IsMade k.records.slots x × (parent_at ns x ≡ Some n)
      there = parent-made c ns k old keys are x n up

      by : (b : Bool) → is_element_at ms x ≡ b → Has x (gone_of turn)
      by true e =
          let stays : Stays ns ms x = record { before = element-of c ns k old x there.0; after = e } in
          absurd (not-gone n (above-there c ms l new x n (turned.parents x stays ∙ there.1)) has)
      by false e = turned.gone x (element-of c ns k old x there.0) e

  -- nothing was kept of what is not there, and is not gone
  not-before : (n : ℕ) → ¬ IsMade l.records.slots n → ¬ Has n (gone_of turn) → ¬ IsMade k.records.slots n
  not-before n none out made = by (is_element_at ms n) refl
    where
      by : (b : Bool) → is_element_at ms n ≡ b → ⊥
      by true e = none (made-of c ms l new n e)
      by false e = out (turned.gone n (element-of c ns k old n made) e)

  module _ (mid : TargetKeys) (forgets : Forgets keys mid (gone_of turn)) where
    pub can-adopt : (moved : List ℕ) → ((n : ℕ) → Has n moved → is_element_at ms n ≡ true) → CanAdopt ms mid moved
    can-adopt moved elements n has = by (is_element_at ns n) refl
      where
        is : is_element_at ms n ≡ true
        is = elements n has

        no-scope : is_element_at ns n ≡ false → (m : ℕ) (a : Targeting) → Has a (targets_of mid.counted m) → (a.scope ≡ n → ⊥)
        no-scope e m a h q =
            elim (has-or-not m (gone_of turn)) [
              | inl gone ↦ no-targets a (targets_of mid.counted m) (forgets.targets m gone) h
              | inr out ↦
                  let there = scope-there c ns k old keys are m a (subst (Has a) (forgets.other_targets m out) h) in
                  false≢true (sym e ∙ ap (is_element_at ns) (sym q) ∙ there)
            ]

        no-parent : is_element_at ns n ≡ false → (x : ℕ) → parent_of mid.counted x ≡ Some n → ⊥
        no-parent e x up =
            elim (has-or-not x (gone_of turn)) [
              | inl gone ↦ none-some n (sym (forgets.parents x gone) ∙ up)
              | inr out ↦
                  let there = parent-made c ns k old keys are x n (sym (forgets.other_parents x out) ∙ up) in
                  false≢true (sym e ∙ above-there c ns k old x n there.1)
            ]

        by : (b : Bool) → is_element_at ns n ≡ b
            → (parent_of mid.counted n ≡ parent_at ms n) ⊎ (((m : ℕ) (a : Targeting) → Has a (targets_of mid.counted m) → (a.scope ≡ n → ⊥)) × ((x : ℕ) → parent_of mid.counted x ≡ Some n → ⊥))
        by true e = inl (forgets.other_parents n (not-gone n is) ∙ are.parents n (made-of c ns k old n e) ∙ sym (turned.parents n (record { before = e; after = is })))
        by false e = inr (no-scope e, no-parent e)

    -- ---- all that was found anew

    module _ (moved : List ℕ) (own : (n : ℕ) → own_of turn ≡ Some n → is_element_at ms n ≡ true → IsLookedAt c.parts ms l.records.slots (at keys.signs) moved n)
        (marked : (p n : ℕ) → list_of ms turn ≡ Some p → own_of turn ≢ Some n → IsMarked c ms l p n → IsLookedAt c.parts ms l.records.slots (at keys.signs) moved n)
        (only : (m : ℕ) → Has m moved → (is_element_at ms m ≡ true) × ((own_of turn ≡ Some m) ⊎ (((p : ℕ) × (list_of ms turn ≡ Some p) × Has m (element_children ms p)) ⊎ ((p : ℕ) × (parent_at ms m ≡ Some p) × Has p moved))))
        (none touched : Touched) (none_targets : none.targets.items ≡ []) (none_scopes : none.scopes.items ≡ []) (touching : IsTouching c ms l.records.slots keys (lowest_of turn) none touched) where
      abbrev IsLeftFree : ℕ → Type 0
      IsLeftFree n = IsFree c ns ms k l turn old new turned (at keys.signs) are.signs moved own marked only n

      abbrev IsLeftSteady : ℕ → Type 0
      IsLeftSteady n = IsSteadyUp c ns ms k l turn old new turned (at keys.signs) are.signs moved own marked only n

      left : Leaves c.parts (kin_of ns k.records.slots) (kin_of ms l.records.slots) IsLeftFree IsLeftSteady
      left = leaves c ns ms k l turn old new turned (at keys.signs) are.signs moved own marked only

      kind-of : (n : ℕ) → is_element_at ms n ≡ true → Has n moved ⊎ (((¬ Has n moved) × IsWithin ms n (lowest_of turn)) ⊎ IsLeftFree n)
      kind-of = one-of c ns ms k l turn old new turned (at keys.signs) are.signs moved own marked only

      stays-of : (n : ℕ) → is_element_at ms n ≡ true → ¬ Has n moved → Stays ns ms n
      stays-of = unmoved-stays c ns ms k l turn old new turned (at keys.signs) are.signs moved own marked only

      steady-of : (n : ℕ) → Stays ns ms n → ¬ Has n moved → IsLeftSteady n
      steady-of = unmoved-steady c ns ms k l turn old new turned (at keys.signs) are.signs moved own marked only

      sign-looked : (n : ℕ) → is_element_at ms n ≡ true → ¬ Has n moved → at keys.signs n ≡ sign_at l.records.slots n
      sign-looked n is out = by n is out (all-looked c ns ms k l turn old new turned (at keys.signs) are.signs moved own marked n is)
        where
          by : (m : ℕ) → is_element_at ms m ≡ true → ¬ Has m moved → IsLookedAt c.parts ms l.records.slots (at keys.signs) moved m → at keys.signs m ≡ sign_at l.records.slots m
          by m is out (looked.same x e) = e
          by m is out (looked.steady x a b has before after steady below) = absurd (out has)
          by m is out (looked.whole x all) = absurd (out (all m is (self-within ms m)))

      around : (n : ℕ) (stays : Stays ns ms n) (above : List KeyElement) (below : KeyForest) → AreAbove (kin_of ms l.records.slots) (parent_at ms n) above → AreSeen (kin_of ms l.records.slots) (element_children ms n) below
          → AreAround (kin_of ns k.records.slots) (kin_of ms l.records.slots) n (below-of c ns k old n stays.before).0 below (above-of c ns k old n).0 above
      around n stays above below is_above is_below = record {
        below_are = (below-of c ns k old n stays.before).1;
        new_below_are = is_below;
        above_are = (above-of c ns k old n).1;
        new_above_are = is_above;
      }

      -- by what was found before
      was-target : (n : ℕ) (stays : Stays ns ms n)
          → targets_of keys.counted n ≡ targetings_of c.names c.parts c.identities.items (above-of c ns k old n).0 (seen_element (entry_at k.records.slots n)) (below-of c ns k old n stays.before).0
      was-target n stays =
          let above = above-of c ns k old n in
          let below = below-of c ns k old n stays.before in
          are.targets n (made-of c ns k old n stays.before) above.0 below.0 above.1 below.1

      -- a target of nothing still
      still-none : (n : ℕ) → Stays ns ms n → ¬ Has n moved → targets_of keys.counted n ≡ [] → IsTargetOf c ms l.records.slots keys n
      still-none n stays out bare above below is_above is_below =
          bare
          ∙ sym (bare-stays c.names c.parts c.identities.items (kin_of ns k.records.slots) (kin_of ms l.records.slots) IsLeftFree IsLeftSteady left n (steady-of n stays out) (below-of c ns k old n stays.before).0 below (above-of c ns k old n).0
          above (around n stays above below is_above is_below) (sym (was-target n stays) ∙ bare))

      -- the target that it was
      still-target : (n : ℕ) → IsLeftFree n → IsTargetOf c ms l.records.slots keys n
      still-target n free above below is_above is_below =
          let stays = free.stays in
          was-target n stays
          ∙ sym (targets-stay c.parts (kin_of ns k.records.slots) (kin_of ms l.records.slots) IsLeftFree IsLeftSteady left n free (below-of c ns k old n stays.before).0 below (above-of c ns k old n).0 above
          (around n stays above below is_above is_below) c.names c.identities.items)

      -- ---- the codes of those that are not looked at

      module _ (says : (d : Document) → IsOver c ns k.records.slots d → SaysFound c ns k.records.slots k.root_ids d) (same : (n : ℕ) → Stays ns ms n → (kept_at l.records.slots n).identity ≡ (kept_at k.records.slots n).identity)
          (d : Document) (over : IsOver c ms l.records.slots d) where
        abbrev before : Document
        before = old.beside.over.0

        abbrev over_before : IsOver c ns k.records.slots before
        over_before = old.beside.over.1

        codes-before : (n : ℕ) (stays : Stays ns ms n) → (kept_at l.records.slots n).identity
            ≡ identity_codes c.names c.parts c.identities.items (seen_element (entry_at k.records.slots n)) (codes-at c ns k old before over_before n (made-of c ns k old n stays.before)).below
        codes-before n stays =
            let made = made-of c ns k old n stays.before in
            same n stays ∙ (says before over_before).identity n made ∙ (codes-at c ns k old before over_before n made).codes

        abbrev IsRight : ℕ → Type 0
        IsRight n = (kept_at l.records.slots n).identity ≡ identity_at c.names c.parts c.identities.items n (seen (found_in ms l.records.slots d.forest))

        -- without constraints, before and after
        without : (n : ℕ) → IsMade l.records.slots n → Stays ns ms n → ¬ Has n moved → scopes_at c l.records.slots n ≡ [] → IsRight n
        without n made stays out bare =
            let constraints = ((steady-of n stays out) n (self-within ms n)).constraints in
            let found = codes-at c ms l new d over n made in
            let was = codes-at c ns k old before over_before n (made-of c ns k old n stays.before) in
            codes-before n stays
            ∙ no-codes c.names c.parts c.identities.items (seen_element (entry_at k.records.slots n)) was.below (sym constraints ∙ bare)
            ∙ sym (found.codes ∙ no-codes c.names c.parts c.identities.items (seen_element (entry_at l.records.slots n)) found.below bare)

        unseen : (n : ℕ) → IsMade l.records.slots n → IsLeftFree n → IsRight n
        unseen n made free =
            let stays = free.stays in
            let found = codes-at c ms l new d over n made in
            let was = codes-at c ns k old before over_before n (made-of c ns k old n stays.before) in
            let own = left.own n free in
            let below =
            below-stays c.parts (kin_of ns k.records.slots) (kin_of ms l.records.slots) IsLeftFree IsLeftSteady left n free was.below found.below (above-of c ns k old n).0 (above-of c ms l new n).0
            (record { below_are = was.seen_is; new_below_are = found.seen_is; above_are = (above-of c ns k old n).1; new_above_are = (above-of c ms l new n).1 }) in
            codes-before n stays ∙ (λ i. identity_codes c.names c.parts c.identities.items (sym own i) (sym below i)) ∙ sym found.codes

        pub codes-still : (n : ℕ) → IsMade l.records.slots n → ¬ Has n moved → ¬ Has n touched.scopes.items → IsRight n
        codes-still n made out off =
            let is = element-of c ms l new n made in
            elim (kind-of n is) [
              | inl has ↦ absurd (out has)
              | inr rest ↦ elim rest [
                | inl within ↦ elim (touching.scopes n within.1) [ inl has ↦ absurd (off has) | inr bare ↦ without n made (stays-of n is out) out bare ]
                | inr free ↦ unseen n made free
              ]
            ]

      -- ---- all targets

      module _ (one two last : TargetKeys) (adopts : Adopts ms l.records.slots mid one moved) (first : Finds (IsTargetOf c ms l.records.slots) one two moved)
          (second : Finds (IsTargetOf c ms l.records.slots) two last touched.targets.items) (counting : IsCounting last) where
        parent-last : (n : ℕ) → parent_of last.counted n ≡ parent_of one.counted n
        parent-last n = ap (λ (v : Vec (Option ℕ) Global). parent_in v.items n) (second.parents ∙ first.parents)

        sign-last : (n : ℕ) → at last.signs n ≡ at one.signs n
        sign-last n = ap (λ (ss : List (Option ElementSign)). at ss n) (second.signs ∙ first.signs)

        -- no element is looked at that is not there
        unlooked : (n : ℕ) → ¬ IsMade l.records.slots n → (¬ Has n moved) × (¬ Has n touched.targets.items)
        unlooked n out = (
          λ h. out (made-of c ms l new n (only n h).0),
          λ h. elim (touching.only_targets n h) [ inl k ↦ subst (Has n) none_targets k | inr is ↦ out (made-of c ms l new n is) ],
        )

        parents-are : (n : ℕ) → IsMade l.records.slots n → parent_of last.counted n ≡ parent_at ms n
        parents-are n made =
            let is = element-of c ms l new n made in
            elim (has-or-not n moved) [
              | inl has ↦ parent-last n ∙ adopts.parents_are n has
              | inr out ↦
                  let stays = stays-of n is out in
                  parent-last n ∙ adopts.other_parents n out ∙ forgets.other_parents n (not-gone n is) ∙ are.parents n (made-of c ns k old n stays.before) ∙ sym (turned.parents n stays)
            ]

        alone : (n : ℕ) → ¬ IsMade l.records.slots n → parent_of last.counted n ≡ None
        alone n out =
            parent-last n ∙ adopts.other_parents n (unlooked n out).0
            ∙ elim (has-or-not n (gone_of turn)) as (λ o. parent_of mid.counted n ≡ None) [
              | inl gone ↦ forgets.parents n gone
              | inr there ↦ forgets.other_parents n there ∙ are.alone n (not-before n out there)
            ]

        targets-are : (n : ℕ) → IsMade l.records.slots n → IsTargetOf c ms l.records.slots last n
        targets-are n made =
            let is = element-of c ms l new n made in
            elim (has-or-not n touched.targets.items) [
              | inl has ↦ second.here n has
              | inr off ↦ elim (kind-of n is) [
                | inl has ↦ target-goes c ms l.records.slots last two n (second.others n off) (first.here n has)
                | inr rest ↦ elim rest [
                  | inl within ↦ elim (touching.targets n within.1) [
                    | inl has ↦ absurd (off has)
                    | inr bare ↦ target-goes c ms l.records.slots last keys n (as-before n off within.0 is) (still-none n (stays-of n is within.0) within.0 bare)
                  ]
                  | inr free ↦ target-goes c ms l.records.slots last keys n (as-before n off free.unmoved is) (still-target n free)
                ]
              ]
            ]
          where
            as-before : (m : ℕ) → ¬ Has m touched.targets.items → ¬ Has m moved → is_element_at ms m ≡ true → targets_of last.counted m ≡ targets_of keys.counted m
            as-before m off out is = second.others m off ∙ first.others m out ∙ adopts.targets m ∙ forgets.other_targets m (not-gone m is)

        none-are : (n : ℕ) → ¬ IsMade l.records.slots n → targets_of last.counted n ≡ []
        none-are n out =
            second.others n (unlooked n out).1 ∙ first.others n (unlooked n out).0 ∙ adopts.targets n
            ∙ elim (has-or-not n (gone_of turn)) as (λ o. targets_of mid.counted n ≡ []) [
              | inl gone ↦ forgets.targets n gone
              | inr there ↦ forgets.other_targets n there ∙ are.none n (not-before n out there)
            ]

        signs-are : (n : ℕ) → at last.signs n ≡ sign_at l.records.slots n
        signs-are n =
            elim (has-or-not n moved) [
              | inl has ↦ sign-last n ∙ adopts.signs_are n has
              | inr off ↦ sign-last n ∙ adopts.other_signs n off ∙ elim (made-or-not l.records.slots n) as (λ o. at mid.signs n ≡ sign_at l.records.slots n) [
                | inl made ↦ let is = element-of c ms l new n made in forgets.other_signs n (not-gone n is) ∙ sign-looked n is off
                | inr out ↦ unsigned out
              ]
            ]
          where
            unsigned : ¬ IsMade l.records.slots n → at mid.signs n ≡ sign_at l.records.slots n
            unsigned out =
                elim (has-or-not n (gone_of turn)) as (λ o. at mid.signs n ≡ None) [
                  | inl gone ↦ forgets.signs n gone
                  | inr there ↦ forgets.other_signs n there ∙ are.signs n ∙ no-sign k.records.slots n (not-before n out there)
                ]
                ∙ sym (no-sign l.records.slots n out)

        pub targets-turned : AreTargets c ms l.records.slots last
        targets-turned = record {
          references = subst (λ (x : References). AreReferencesOf c.parts.constraints.parts x) (sym (second.references ∙ first.references ∙ adopts.references ∙ forgets.references)) are.references;
          kept = counting;
          parents = parents-are;
          alone = alone;
          targets = targets-are;
          none = none-are;
          signs = signs-are;
        }
