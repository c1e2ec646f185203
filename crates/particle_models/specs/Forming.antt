-- Parts added one after another.
use Rattle.std.specs.Prelude.{◌≡◌, ℕ, zero, suc, ◌<◌, ◌≤◌, ⊤, Bool, false, List, [], ◌∷◌, Option, None, IfSome, length, slice_index_or}
use Rattle.particle_models.specs.declared.node.Node.{Node}
use Rattle.particle_models.specs.declared.node.Node.TheVariants.{Term, Sequence, Choice, Each, Occurs}
use Rattle.particle_models.specs.Nodes.{model_in}
use Rattle.particle_models.specs.Asked.{IsAsked}
use Rattle.particle_models.specs.Trees.{Tree, Trees, none, joined, once}
use Rattle.particle_models.specs.Pointless.{formed, is_once, is_pointless_empty, members_by, within}
use Rattle.particle_models.specs.Parts.{MembersBelow, tree_in, form_in}
use Rattle.particle_models.specs.declared.part.Bounds.{Bounds}
use Rattle.particle_models.specs.declared.part.Compositor.{Compositor}
use Rattle.particle_models.specs.declared.part.Part.{Part}
use Rattle.particle_models.specs.declared.forming.Made.{Made}

-- the members of each part come before it
abbrev pub AreOrdered : List Part → Type 0
AreOrdered parts = (i : ℕ) (d : Part) → i < length parts → MembersBelow i (slice_index_or parts i d)

-- parts were added, and those before them are as they were
pub record Extends (old new : List Part) : Type 0 where
  pub ordered : AreOrdered old → AreOrdered new
  pub more : length old ≤ length new
  pub same : (k : ℕ) → k < length old → tree_in new k ≡ tree_in old k

-- the part of this number, where there is one, is this tree
pub record IsPart (old new : List Part) (form : Option Tree) (id : Option ℕ) : Type 0 where
  pub extends : Extends old new
  pub there : IfSome id (λ k. k < length new)
  pub is : form_in new id ≡ form

-- a group with so many members is pointless
abbrev pub is_pointless_with : Bounds → Compositor → ℕ → Bool
is_pointless_with bounds compositor zero = is_pointless_empty bounds compositor
is_pointless_with bounds compositor (suc zero) = is_once bounds
is_pointless_with bounds compositor (suc (suc n)) = false

-- the node of a number is a term or a group, and not an occurrence
abbrev pub IsNoOccurrence : Node → Type 0
IsNoOccurrence (Term number) = ⊤
IsNoOccurrence (Sequence members) = ⊤
IsNoOccurrence (Choice members) = ⊤
IsNoOccurrence (Each members) = ⊤
IsNoOccurrence (Occurs part least most) = ⊥

abbrev pub IsBody : List Node → ℕ → Type 0
IsBody nodes body = (d : Node) → IsNoOccurrence (slice_index_or nodes body d)

abbrev pub not_made : Made
not_made = record { body = 0; bounds = record { least = 0; most = None }; form = None }

module _ (stands_for : ℕ → List ℕ) (nodes : List Node) (asked : List Bool) where
  -- what is known of a node: under the occurrences of which body it stands, by which bounds, and, where it is asked for, the part of
  -- its form
  pub record IsMade (parts : List Part) (i : ℕ) (made : Made) : Type 0 where
    pub below : made.body ≤ i
    pub body : IsBody nodes made.body
    pub bounds : (b : Bounds) → formed stands_for (model_in nodes i) b ≡ formed stands_for (model_in nodes made.body) (within b made.bounds)
    pub there : IfSome made.form (λ k. k < length parts)
    pub form : IsAsked asked i → form_in parts made.form ≡ formed stands_for (model_in nodes i) once

  abbrev pub AreMade : List Part → List Made → Type 0
  AreMade parts made = (i : ℕ) → i < length made → IsMade parts i (slice_index_or made i not_made)

-- what stands among the members of a group of this compositor for these forms
abbrev pub gathered_of : Compositor → List (Option Tree) → Trees
gathered_of compositor [] = none
gathered_of compositor (form ∷ forms) = joined (members_by compositor form) (gathered_of compositor forms)

-- the form of what was made of a node
abbrev pub form_of : List Part → List Made → ℕ → Option Tree
form_of parts made id = form_in parts (slice_index_or made id not_made).form

-- the forms of what was made are there
abbrev pub AreThere : List Part → List Made → Type 0
AreThere parts made = (i : ℕ) → i < length made → IfSome (slice_index_or made i not_made).form (λ k. k < length parts)
