-- Particle Valid (Restriction) (Structures 3.9.6), on particles without pointless groups.
use Rattle.std.specs.Prelude.{ℕ, zero, suc, Bool, IsTrue, List, ⊤, Option, None, Some, slice_get}
use Rattle.xs_components.specs.declared.common.TypeId.{TypeId}
use Rattle.particle_forms.specs.declared.extent.TotalRange.{TotalRange}
use Rattle.particle_models.specs.Trees.{Tree, Trees, leaf, group, none, member, once, no_tree}
use Rattle.particle_models.specs.declared.part.Bounds.{Bounds}
use Rattle.particle_restrict.specs.Totals.{total, emptiable_members, is_emptiable}
use Rattle.particle_restrict.specs.Occurrence.{IsRangeOk, any_number}
use Rattle.particle_restrict.specs.Terms.{IsElement, TermsRestrict}
use Rattle.particle_restrict.specs.Groups.{GroupRestricts}
use Rattle.particle_restrict.specs.declared.terms.Term.{Term}
use Rattle.particle_restrict.specs.declared.terms.Term.TheVariants.{Element, Any}

-- how many members there are
abbrev pub count : Trees → ℕ
count none = 0
count (member first rest) = suc (count rest)

-- the member of a place
abbrev pub tree_nth : Trees → ℕ → Tree
tree_nth none j = no_tree
tree_nth (member first rest) zero = first
tree_nth (member first rest) (suc j) = tree_nth rest j

-- rcase-NSRecurseCheckCardinality: a group over a wildcard. Each member restricts the wildcard taken any number of times, and the
-- effective total range of the group is within the wildcard's bounds. Over an element it is forbidden.
pub record IsNsRecurse (range : TotalRange) (Each : Tree → Type 0) (base : Bounds) (u : ℕ) : Type 0 where
  pub each : Each (leaf any_number u)
  pub range_ok : IsRangeOk range.least range.most base

abbrev pub GroupRestrictsLeaf : TotalRange → (Tree → Type 0) → Bounds → ℕ → Option Term → Type 0
GroupRestrictsLeaf range Each base u None = ⊥
GroupRestrictsLeaf range Each base u (Some (Element element)) = ⊥
GroupRestrictsLeaf range Each base u (Some (Any space)) = IsNsRecurse range Each base u

-- the terms by number, and which types derive from which without extension, list and union
module _ (terms : List Term) (derives : TypeId → TypeId → Bool) where
  abbrev mutual
    -- An element or a wildcard over a particle. rcase-RecurseAsIfGroup: over a group, a group of the base's compositor, with both
    -- bounds 1, that holds the element alone; a wildcard over a group is forbidden.
    pub LeafRestricts : Bounds → ℕ → Tree → Type 0
    LeafRestricts bounds t (leaf base u) = TermsRestrict derives bounds (slice_get terms t) base (slice_get terms u)
    LeafRestricts bounds t (group base compositor members) =
        IsElement (slice_get terms t) × GroupRestricts (λ i j. LeafRestrictsNth bounds t members j) once base 1 (emptiable_members members) compositor compositor

    pub LeafRestrictsNth : Bounds → ℕ → Trees → ℕ → Type 0
    LeafRestrictsNth bounds t none j = ⊥
    LeafRestrictsNth bounds t (member first rest) zero = LeafRestricts bounds t first
    LeafRestrictsNth bounds t (member first rest) (suc j) = LeafRestrictsNth bounds t rest j

  abbrev mutual
    -- The one particle restricts the other.
    pub Restricts : Tree → Tree → Type 0
    Restricts (leaf bounds t) base = LeafRestricts bounds t base
    Restricts (group bounds compositor members) (leaf base u) = GroupRestrictsLeaf (total (group bounds compositor members)) (λ b. AllRestrict members b) base u (slice_get terms u)
    Restricts (group bounds compositor members) (group base base_compositor base_members) =
        GroupRestricts (λ i j. NthRestricts members i (tree_nth base_members j)) bounds base (count members) (emptiable_members base_members) compositor base_compositor

    -- each member restricts it
    pub AllRestrict : Trees → Tree → Type 0
    AllRestrict none base = ⊤
    AllRestrict (member first rest) base = Restricts first base × AllRestrict rest base

    pub NthRestricts : Trees → ℕ → Tree → Type 0
    NthRestricts none i base = ⊥
    NthRestricts (member first rest) zero base = Restricts first base
    NthRestricts (member first rest) (suc i) base = NthRestricts rest i base

  -- A particle, or none, over one, or none: without a particle it restricts what has none, and every emptiable base.
  abbrev pub FormRestricts : Option Tree → Option Tree → Type 0
  FormRestricts None None = ⊤
  FormRestricts None (Some base) = IsTrue (is_emptiable base)
  FormRestricts (Some derived) None = ⊥
  FormRestricts (Some derived) (Some base) = Restricts derived base
