-- The nodes whose own forms are asked for.
use Rattle.std.specs.Prelude.{◌≡◌, ℕ, ◌<◌, ⊤, Bool, true, false, IsTrue, List, length, slice_index_or, All}
use Rattle.particle_models.specs.declared.node.Node.{Node}
use Rattle.particle_models.specs.declared.node.Node.TheVariants.{Term, Sequence, Choice, Each, Occurs}
use Rattle.particle_models.specs.Pointless.{is_once}

-- the form of the node of a number is asked for
abbrev pub IsAsked : List Bool → ℕ → Type 0
IsAsked asked n = IsTrue (slice_index_or asked n false)

-- What a node asks for: a group for the forms of its members, and what occurs once for that of its part. What occurs otherwise is made
-- with its own bounds.
abbrev pub Asks : List Bool → Node → Type 0
Asks asked (Term number) = ⊤
Asks asked (Sequence members) = All (IsAsked asked) members
Asks asked (Choice members) = All (IsAsked asked) members
Asks asked (Each members) = All (IsAsked asked) members
Asks asked (Occurs part least most) = is_once record { least = least; most = most } ≡ true → IsAsked asked part

-- whatever some node asks for is marked
pub record AreAsked (nodes : List Node) (asked : List Bool) : Type 0 where
  pub each : length asked ≡ length nodes
  pub asks : (i : ℕ) (d : Node) → i < length nodes → Asks asked (slice_index_or nodes i d)
