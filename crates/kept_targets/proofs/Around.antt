-- The elements around another, as they are seen: what is below it, and those above it.
use Rattle.std.proofs.Common.{◌≡◌, ◌-◌, ◌<◌, ◌≤◌, ℕ, zero, suc, List, [], ◌∷◌, length, Option, None, Some, true, refl, sym, ap, ◌∙◌, subst, arith}
use Rattle.std.proofs.lemmas.List.Elements.{All-nil, All-cons}
use Rattle.tree_rows.specs.declared.limits.TheConstants.{MAX_DEPTH}
use Rattle.identity_constraints.specs.Seen as keys
use Rattle.identity_constraints.specs.Seen.{KeyElement, KeyForest}
use Rattle.what_is_found.specs.Identity.{seen_element}
use Rattle.scope_targets.specs.Found.{AreNamesOf}
use Rattle.scope_targets.specs.Kin.{Kin, AreAbove, AreSeen}
use Rattle.compiled_schema.specs.declared.compiled.Compiled.{Compiled}
use Rattle.doc_nodes.specs.Nodes.{Nodes, node, depth_by, is_element_at, element_children}
use Rattle.doc_changes.specs.Held.{parent_at}
use Rattle.child_lists.specs.from_kept_records.Slots.{entry_at}
use Rattle.child_lists.specs.from_kept_state.KeptState.{KeptState}
use Rattle.child_lists.proofs.from_kept_forgetting.Depths.{root-depth}
use Rattle.child_lists.proofs.from_kept_forgetting.Placed.{root-alone}
use Rattle.kept_targets.specs.Kept.{kin_of}
use Rattle.kept_targets.specs.Seen.{seen_to}
use Rattle.kept_targets.specs.Whole.{IsWhole}
use Rattle.kept_targets.proofs.Links.{child-up, parent-lower}
use Rattle.kept_targets.proofs.Looking.{doc, made-of, sound, above-there}
use Rattle.kept_targets.proofs.Down.{seen-down}
use Rattle.kept_targets.proofs.Named.{named-at}

-- ---- there is one such

module _ (v : Kin) where
  pub above-one : (o : Option ℕ) (xs ys : List KeyElement) → AreAbove v o xs → AreAbove v o ys → xs ≡ ys
  above-one None [] [] one other = refl
  above-one None [] (y ∷ ys) one other = absurd other
  above-one None (x ∷ xs) ys one other = absurd one
  above-one (Some p) [] ys one other = absurd one
  above-one (Some p) (x ∷ xs) [] one other = absurd other
  above-one (Some p) (x ∷ xs) (y ∷ ys) one other =
      let same = one.0 ∙ sym other.0 in
      let more = above-one (v.parent p) xs ys one.1 other.1 in
      λ i. same i ∷ more i

  pub seen-one : (ns : List ℕ) (f g : KeyForest) → AreSeen v ns f → AreSeen v ns g → f ≡ g
  seen-one [] keys.none keys.none one other = refl
  seen-one [] keys.none (keys.element own below next) one other = absurd other
  seen-one [] (keys.element own below next) g one other = absurd one
  seen-one (n ∷ ns) keys.none g one other = absurd one
  seen-one (n ∷ ns) (keys.element own below next) keys.none one other = absurd other
  seen-one (n ∷ ns) (keys.element own below next) (keys.element own2 below2 next2) one other =
      let same = one.0 ∙ sym other.0 in
      let under = seen-one (v.children n) below below2 one.1.0 other.1.0 in
      let behind = seen-one ns next next2 one.1.1 other.1.1 in
      λ i. keys.element (same i) (under i) (behind i)

-- ---- there is one

module _ (c : Compiled) (ns : Nodes) (k : KeptState) (whole : IsWhole c ns k) where
  abbrev kin : Kin
  kin = kin_of ns k.records.slots

  above-to : (levels n : ℕ) → depth_by (node ns n) ≤ levels → (above : List KeyElement) × AreAbove kin (parent_at ns n) above
  above-to zero n few = by (parent_at ns n) refl
    where
      by : (o : Option ℕ) → parent_at ns n ≡ o → (above : List KeyElement) × AreAbove kin o above
      by None none = ([], tt)
      by (Some p) up = let deeper = parent-lower ns (sound c ns k whole) n p up in absurd (omega (arith, deeper, few))
  above-to (suc levels) n few =
      by (parent_at ns n) refl (λ p up. above-to levels p (let deeper = parent-lower ns (sound c ns k whole) n p up in omega (arith, deeper, few)))
    where
      by : (o : Option ℕ) → parent_at ns n ≡ o → ((p : ℕ) → parent_at ns n ≡ Some p → (above : List KeyElement) × AreAbove kin (parent_at ns p) above) → (above : List KeyElement) × AreAbove kin o above
      by None none on = ([], tt)
      by (Some p) up on = let more = on p up in (seen_element (entry_at k.records.slots p) ∷ more.0, (refl, more.1))

  pub above-of : (n : ℕ) → (above : List KeyElement) × AreAbove kin (parent_at ns n) above
  above-of n = above-to (depth_by (node ns n)) n (omega arith)

  -- an element is at a depth from 1 on
  pub deep-one : (n : ℕ) → is_element_at ns n ≡ true → 1 ≤ depth_by (node ns n)
  deep-one n is = by (parent_at ns n) refl
    where
      by : (o : Option ℕ) → parent_at ns n ≡ o → 1 ≤ depth_by (node ns n)
      by None none =
          let root = root-alone c.names ns (doc c ns k whole) whole.beside.over.1.stands n is none in
          let here : depth_by (node ns n) ≡ depth_by (node ns 1) = ap (λ (m : ℕ). depth_by (node ns m)) root in
          let one = root-depth c.names ns (doc c ns k whole) whole.beside.over.1.stands in
          omega (arith, here, one)
      by (Some p) up = let deeper = parent-lower ns (sound c ns k whole) n p up in omega (arith, deeper)

  -- with enough levels below an element
  pub seen-under : (n : ℕ) → is_element_at ns n ≡ true → AreSeen kin (element_children ns n) (seen_to k.records.slots ns (MAX_DEPTH - 1) (element_children ns n))
  seen-under n is =
      seen-down c ns k whole (MAX_DEPTH - 1) (element_children ns n) (λ x h.
      let up = child-up ns (sound c ns k whole) n x h in
      let deeper = parent-lower ns (sound c ns k whole) x n up.0 in
      let one = deep-one n is in
      (up.1, omega (arith, deeper, one)))

  pub below-of : (n : ℕ) → is_element_at ns n ≡ true → (below : KeyForest) × AreSeen kin (element_children ns n) below
  below-of n is = (seen_to k.records.slots ns (MAX_DEPTH - 1) (element_children ns n), seen-under n is)

  -- the names of those above are those of the table
  pub above-named : (o : Option ℕ) (es : List KeyElement) → ((p : ℕ) → o ≡ Some p → is_element_at ns p ≡ true) → AreAbove kin o es → AreNamesOf c.names es
  above-named None [] is are = All-nil (λ (e : KeyElement). e.name < length c.names.names)
  above-named None (e ∷ es) is are = absurd are
  above-named (Some p) [] is are = absurd are
  above-named (Some p) (e ∷ es) is are =
      All-cons (λ (e : KeyElement). e.name < length c.names.names) e es
      (subst (λ (own : KeyElement). own.name < length c.names.names) (sym are.0) (named-at c ns k whole p (made-of c ns k whole p (is p refl))).name)
      (above-named (parent_at ns p) es (λ q up. above-there c ns k whole p q up) are.1)
