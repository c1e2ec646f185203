-- A particle restricts another by one list of terms as it does by another list, where no two of their numbers are told apart by these.
use Rattle.std.proofs.Common.{◌≡◌, ◌↔◌, ℕ, zero, suc, List, Option, None, Some, slice_get, refl}
use Rattle.std.specs.Prelude.{Bool}
use Rattle.xs_components.specs.declared.common.TypeId.{TypeId}
use Rattle.particle_forms.specs.declared.extent.TotalRange.{TotalRange}
use Rattle.particle_models.specs.Trees.{Tree, Trees, leaf, group, none, member, once}
use Rattle.particle_models.specs.declared.part.Bounds.{Bounds}
use Rattle.particle_restrict.specs.Totals.{total, emptiable_members}
use Rattle.particle_restrict.specs.Occurrence.{any_number}
use Rattle.particle_restrict.specs.Terms.{IsElement, TermsRestrict}
use Rattle.particle_restrict.specs.Restricts.{count, tree_nth, GroupRestrictsLeaf, LeafRestricts, LeafRestrictsNth, Restricts, AllRestrict, NthRestricts, FormRestricts}
use Rattle.particle_restrict.specs.Codes.{leaf_case, leaf_group_case, group_leaf_case, case_of, form_case}
use Rattle.particle_restrict.specs.declared.terms.Declaration.{Declaration}
use Rattle.particle_restrict.specs.declared.terms.Space.{Space}
use Rattle.particle_restrict.specs.declared.terms.Term.{Term}
use Rattle.particle_restrict.specs.declared.terms.Term.TheVariants.{Element, Any}
use Rattle.particle_restrict.proofs.GroupLaws.{group-to}
use Rattle.derive_models.proofs.Inside.{Inside, AllInside, FormInside}

-- both are elements, or both wildcards
pub data AreOfOneKind : Option Term → Option Term → Type 0 where
  elements : (a b : Declaration) → AreOfOneKind (Some (Element a)) (Some (Element b))
  spaces : (a b : Space) → AreOfOneKind (Some (Any a)) (Some (Any b))

turned-kind : (a b : Option Term) → AreOfOneKind a b → AreOfOneKind b a
turned-kind _ _ (elements a b) = elements b a
turned-kind _ _ (spaces a b) = spaces b a

element-too : (a b : Option Term) → AreOfOneKind a b → IsElement a → IsElement b
element-too _ _ (elements a b) h = tt
element-too _ _ (spaces a b) h = h

over-leaf-too : (range : TotalRange) (E D : Tree → Type 0) (base : Bounds) (u : ℕ) → (E (leaf any_number u) → D (leaf any_number u)) →
    (a b : Option Term) → AreOfOneKind a b → GroupRestrictsLeaf range E base u a → GroupRestrictsLeaf range D base u b
over-leaf-too range E D base u to _ _ (elements a b) h = h
over-leaf-too range E D base u to _ _ (spaces a b) h = record { each = to h.each; range_ok = h.range_ok }

leaf-case-same : (a b c d : Option Term) → AreOfOneKind a b → AreOfOneKind c d → leaf_case a c ≡ leaf_case b d
leaf-case-same _ _ _ _ (elements a b) (elements c d) = refl
leaf-case-same _ _ _ _ (elements a b) (spaces c d) = refl
leaf-case-same _ _ _ _ (spaces a b) (elements c d) = refl
leaf-case-same _ _ _ _ (spaces a b) (spaces c d) = refl

leaf-group-case-same : (a b : Option Term) → AreOfOneKind a b → leaf_group_case a ≡ leaf_group_case b
leaf-group-case-same _ _ (elements a b) = refl
leaf-group-case-same _ _ (spaces a b) = refl

group-leaf-case-same : (a b : Option Term) → AreOfOneKind a b → group_leaf_case a ≡ group_leaf_case b
group-leaf-case-same _ _ (elements a b) = refl
group-leaf-case-same _ _ (spaces a b) = refl

module _ (xs ys : List Term) (derives : TypeId → TypeId → Bool) (P : ℕ → Type 0) (kinds : (n : ℕ) → P n → AreOfOneKind (slice_get xs n) (slice_get ys n))
    (same : (bounds : Bounds) (n : ℕ) (base : Bounds) (m : ℕ) → P n → P m → TermsRestrict derives bounds (slice_get xs n) base (slice_get xs m) ↔ TermsRestrict derives bounds (slice_get ys n) base (slice_get ys m)) where
  back-kinds : (n : ℕ) → P n → AreOfOneKind (slice_get ys n) (slice_get xs n)
  back-kinds n p = turned-kind (slice_get xs n) (slice_get ys n) (kinds n p)

  nth-inside : (members : Trees) (j : ℕ) → AllInside P members → Inside P (tree_nth members j)
  nth-inside none j p = tt
  nth-inside (member first rest) zero p = p.0
  nth-inside (member first rest) (suc j) p = nth-inside rest j p.1

  mutual
    leaf-same : (bounds : Bounds) (n : ℕ) → P n → (base : Tree) → Inside P base → LeafRestricts xs derives bounds n base ↔ LeafRestricts ys derives bounds n base
    leaf-same bounds n p (leaf base u) q = same bounds n base u p q
    leaf-same bounds n p (group base compositor members) q = (
      λ h. (
        element-too (slice_get xs n) (slice_get ys n) (kinds n p) h.0,
        group-to (λ i j. LeafRestrictsNth xs derives bounds n members j) (λ i j. LeafRestrictsNth ys derives bounds n members j) once base 1 (emptiable_members members)
            (λ i j l k r. (leaf-nth-same bounds n p members j q).0 r) (λ i j l k r. (leaf-nth-same bounds n p members j q).1 r) compositor compositor h.1,
      ),
      λ h. (
        element-too (slice_get ys n) (slice_get xs n) (back-kinds n p) h.0,
        group-to (λ i j. LeafRestrictsNth ys derives bounds n members j) (λ i j. LeafRestrictsNth xs derives bounds n members j) once base 1 (emptiable_members members)
            (λ i j l k r. (leaf-nth-same bounds n p members j q).1 r) (λ i j l k r. (leaf-nth-same bounds n p members j q).0 r) compositor compositor h.1,
      ),
    )

    leaf-nth-same : (bounds : Bounds) (n : ℕ) → P n → (members : Trees) (j : ℕ) → AllInside P members → LeafRestrictsNth xs derives bounds n members j ↔ LeafRestrictsNth ys derives bounds n members j
    leaf-nth-same bounds n p none j q = ((λ h. h), (λ h. h))
    leaf-nth-same bounds n p (member first rest) zero q = leaf-same bounds n p first q.0
    leaf-nth-same bounds n p (member first rest) (suc j) q = leaf-nth-same bounds n p rest j q.1

  mutual
    pub restricts-same : (derived : Tree) (base : Tree) → Inside P derived → Inside P base → Restricts xs derives derived base ↔ Restricts ys derives derived base
    restricts-same (leaf bounds n) base p q = leaf-same bounds n p base q
    restricts-same (group bounds compositor members) (leaf base u) p q = (
      λ h. over-leaf-too (total (group bounds compositor members)) (λ b. AllRestrict xs derives members b) (λ b. AllRestrict ys derives members b) base u
          (λ a. (all-same members (leaf any_number u) p q).0 a) (slice_get xs u) (slice_get ys u) (kinds u q) h,
      λ h. over-leaf-too (total (group bounds compositor members)) (λ b. AllRestrict ys derives members b) (λ b. AllRestrict xs derives members b) base u
          (λ a. (all-same members (leaf any_number u) p q).1 a) (slice_get ys u) (slice_get xs u) (back-kinds u q) h,
    )
    restricts-same (group bounds compositor members) (group base base_compositor base_members) p q = (
      λ h. group-to (λ i j. NthRestricts xs derives members i (tree_nth base_members j)) (λ i j. NthRestricts ys derives members i (tree_nth base_members j)) bounds base (count members) (emptiable_members base_members)
          (λ i j l k r. (nth-same members i (tree_nth base_members j) p (nth-inside base_members j q)).0 r)
          (λ i j l k r. (nth-same members i (tree_nth base_members j) p (nth-inside base_members j q)).1 r) compositor base_compositor h,
      λ h. group-to (λ i j. NthRestricts ys derives members i (tree_nth base_members j)) (λ i j. NthRestricts xs derives members i (tree_nth base_members j)) bounds base (count members) (emptiable_members base_members)
          (λ i j l k r. (nth-same members i (tree_nth base_members j) p (nth-inside base_members j q)).1 r)
          (λ i j l k r. (nth-same members i (tree_nth base_members j) p (nth-inside base_members j q)).0 r) compositor base_compositor h,
    )

    all-same : (members : Trees) (base : Tree) → AllInside P members → Inside P base → AllRestrict xs derives members base ↔ AllRestrict ys derives members base
    all-same none base p q = ((λ h. h), (λ h. h))
    all-same (member first rest) base p q = (
      λ h. ((restricts-same first base p.0 q).0 h.0, (all-same rest base p.1 q).0 h.1),
      λ h. ((restricts-same first base p.0 q).1 h.0, (all-same rest base p.1 q).1 h.1),
    )

    nth-same : (members : Trees) (i : ℕ) (base : Tree) → AllInside P members → Inside P base → NthRestricts xs derives members i base ↔ NthRestricts ys derives members i base
    nth-same none i base p q = ((λ h. h), (λ h. h))
    nth-same (member first rest) zero base p q = restricts-same first base p.0 q
    nth-same (member first rest) (suc i) base p q = nth-same rest i base p.1 q

  pub form-same : (derived base : Option Tree) → FormInside P derived → FormInside P base → FormRestricts xs derives derived base ↔ FormRestricts ys derives derived base
  form-same None None p q = ((λ h. h), (λ h. h))
  form-same None (Some base) p q = ((λ h. h), (λ h. h))
  form-same (Some derived) None p q = ((λ h. h), (λ h. h))
  form-same (Some derived) (Some base) p q = restricts-same derived base p q

  case-same : (derived base : Tree) → Inside P derived → Inside P base → case_of xs derived base ≡ case_of ys derived base
  case-same (leaf bounds n) (leaf base u) p q = leaf-case-same (slice_get xs n) (slice_get ys n) (slice_get xs u) (slice_get ys u) (kinds n p) (kinds u q)
  case-same (leaf bounds n) (group base compositor members) p q = leaf-group-case-same (slice_get xs n) (slice_get ys n) (kinds n p)
  case-same (group bounds compositor members) (leaf base u) p q = group-leaf-case-same (slice_get xs u) (slice_get ys u) (kinds u q)
  case-same (group bounds compositor members) (group base base_compositor base_members) p q = refl

  pub form-case-same : (derived base : Option Tree) → FormInside P derived → FormInside P base → form_case xs derived base ≡ form_case ys derived base
  form-case-same None base p q = refl
  form-case-same (Some derived) None p q = refl
  form-case-same (Some derived) (Some base) p q = case-same derived base p q
