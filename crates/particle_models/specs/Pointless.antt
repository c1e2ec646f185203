-- Particles without pointless groups (Structures 3.9.6, Particle Valid (Restriction)).
use Rattle.std.specs.Prelude.{ℕ, ◌==◌, ◌&&◌, Bool, true, false, List, [], ◌∷◌, Option, None, Some, if◌then◌else◌}
use Rattle.particle_models.specs.Particles.{Particle, Particles, term, sequence, choice, all_of, occurs, none as no_particles, member as and_particles}
use Rattle.particle_models.specs.Trees.{Tree, Trees, leaf, group, none, member, joined, once}
use Rattle.particle_models.specs.declared.part.Bounds.{Bounds}
use Rattle.particle_models.specs.declared.part.Compositor.{Compositor}
use Rattle.particle_models.specs.declared.part.Compositor.TheVariants.{Sequence, Choice, All}

abbrev pub is_one : Option ℕ → Bool
is_one None = false
is_one (Some n) = n == 1

-- both bounds are 1
abbrev pub is_once : Bounds → Bool
is_once bounds = bounds.least == 1 && is_one bounds.most

-- without members, a sequence or an all is pointless, and a choice with minOccurs 0
abbrev pub is_pointless_empty : Bounds → Compositor → Bool
is_pointless_empty bounds Sequence = true
is_pointless_empty bounds Choice = bounds.least == 0
is_pointless_empty bounds All = true

-- A group, or, where it is pointless by its own members, what stands in its place: nothing where it has none, and its one member
-- where its bounds are 1.
abbrev pub unless_pointless : Bounds → Compositor → Trees → Option Tree
unless_pointless bounds compositor none = if is_pointless_empty bounds compositor then None else Some (group bounds compositor none)
unless_pointless bounds compositor (member only none) = if is_once bounds then Some only else Some (group bounds compositor (member only none))
unless_pointless bounds compositor (member first (member second rest)) = Some (group bounds compositor (member first (member second rest)))

-- a sequence stands in a sequence, a choice in a choice
abbrev pub stands_in : Compositor → Compositor → Bool
stands_in Sequence Sequence = true
stands_in Choice Choice = true
stands_in _ _ = false

-- What stands among the members of a group: a sequence with bounds 1 in a sequence is pointless, and so is a choice in a choice;
-- their members stand in their place.
abbrev pub members_by : Compositor → Option Tree → Trees
members_by compositor None = none
members_by compositor (Some (leaf bounds number)) = member (leaf bounds number) none
members_by compositor (Some (group bounds inner members)) =
    if is_once bounds && stands_in compositor inner then members else member (group bounds inner members) none

-- elements, each once
abbrev pub leaves : List ℕ → Trees
leaves [] = none
leaves (t ∷ ts) = member (leaf once t) (leaves ts)

-- A term that stands for one is this one. An element whose substitution group has other members counts as a choice of all
-- members, which has the particle's bounds.
abbrev pub term_form : Bounds → List ℕ → Option Tree
term_form bounds [] = unless_pointless bounds Choice none
term_form bounds (t ∷ []) = Some (leaf bounds t)
term_form bounds (t ∷ u ∷ ts) = unless_pointless bounds Choice (leaves (t ∷ u ∷ ts))

-- A reference to a group has its own bounds, and below it the group's own particle, both of whose bounds are 1.
abbrev pub within : Bounds → Bounds → Bounds
within outer inner = if is_once inner then outer else inner

-- which terms the particle of a number stands for
module _ (stands_for : ℕ → List ℕ) where
  abbrev mutual
    -- what a particle is with these bounds, once pointless groups are replaced by their members, the inner ones first
    pub formed : Particle → Bounds → Option Tree
    formed (term number) bounds = term_form bounds (stands_for number)
    formed (sequence members) bounds = unless_pointless bounds Sequence (gathered members Sequence)
    formed (choice members) bounds = unless_pointless bounds Choice (gathered members Choice)
    formed (all_of members) bounds = unless_pointless bounds All (gathered members All)
    formed (occurs least most part) bounds = formed part (within bounds record { least = least; most = most })

    pub gathered : Particles → Compositor → Trees
    gathered no_particles compositor = none
    gathered (and_particles first rest) compositor = joined (members_by compositor (formed first once)) (gathered rest compositor)

  -- The particle without pointless groups; none where nothing is left of it.
  abbrev pub without_pointless : Particle → Option Tree
  without_pointless particle = formed particle once
