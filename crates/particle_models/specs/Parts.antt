-- Trees by parts, each over those of the parts before it.
use Rattle.std.specs.Prelude.{ℕ, ◌<◌, ⊤, List, [], ◌∷◌, ◌++◌, Option, None, Some, IfSome, length, slice_index_or, All as Each}
use Rattle.particle_models.specs.Trees.{Tree, Trees, leaf, group, none, member, no_tree}
use Rattle.particle_models.specs.declared.part.Part.{Part}
use Rattle.particle_models.specs.declared.part.Part.TheVariants.{Leaf, Group}

abbrev pub tree_at : List Tree → ℕ → Tree
tree_at trees id = slice_index_or trees id no_tree

-- the trees of these numbers, as the members of a group
abbrev pub members_at : List Tree → List ℕ → Trees
members_at trees [] = none
members_at trees (id ∷ ids) = member (tree_at trees id) (members_at trees ids)

-- the tree of a part, whose members are among these
abbrev pub tree_of : List Tree → Part → Tree
tree_of trees (Leaf bounds term) = leaf bounds term
tree_of trees (Group bounds compositor members) = group bounds compositor (members_at trees members)

-- the trees of the parts that come after these
abbrev pub trees_from : List Tree → List Part → List Tree
trees_from trees [] = trees
trees_from trees (part ∷ parts) = trees_from (trees ++ tree_of trees part ∷ []) parts

-- the tree of the part of a number
abbrev pub tree_in : List Part → ℕ → Tree
tree_in parts id = tree_at (trees_from [] parts) id

-- the tree of the part of a number, where there is one
abbrev pub form_in : List Part → Option ℕ → Option Tree
form_in parts None = None
form_in parts (Some id) = Some (tree_in parts id)

-- the members of the part come before it
abbrev pub MembersBelow : ℕ → Part → Type 0
MembersBelow bound (Leaf bounds term) = ⊤
MembersBelow bound (Group bounds compositor members) = Each (λ id. id < bound) members

-- the members of each part come before it, and the root is there
pub record IsForm (parts : List Part) (root : Option ℕ) : Type 0 where
  pub ordered : (i : ℕ) (d : Part) → i < length parts → MembersBelow i (slice_index_or parts i d)
  pub there : IfSome root (λ id. id < length parts)
