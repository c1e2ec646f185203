-- Particles (Structures 3.9.1): how often each comes, and its term, by number, or its group of members.
use Rattle.std.specs.Prelude.{ℕ, Some}
use Rattle.particle_models.specs.declared.part.Bounds.{Bounds}
use Rattle.particle_models.specs.declared.part.Compositor.{Compositor}
use Rattle.particle_models.specs.declared.part.Compositor.TheVariants.{Choice}

mutual
  pub data Tree : Type 0 where
    leaf : (bounds : Bounds) (term : ℕ) → Tree
    group : (bounds : Bounds) (compositor : Compositor) (members : Trees) → Tree

  -- the members of a group, in order
  pub data Trees : Type 0 where
    none : Trees
    member : (first : Tree) (rest : Trees) → Trees

-- the one members, and behind them the others
abbrev pub joined : Trees → Trees → Trees
joined none others = others
joined (member first rest) others = member first (joined rest others)

-- both bounds 1
abbrev pub once : Bounds
once = record { least = 1; most = Some 1 }

-- what accepts nothing, in the place of what is not there
abbrev pub no_tree : Tree
no_tree = group once Choice none
