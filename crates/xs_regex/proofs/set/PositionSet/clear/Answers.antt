use Rattle.std.proofs.Common.{ℕ, vec_capacity}
use Rattle.std.specs.Prelude.{Contains}
use Rattle.xs_regex.specs.Sets.{Has}
use Rattle.xs_regex.proofs.SetLaws.{listed_cleared}
use Rattle.xs_regex.proofs.ProgramLaws.{members_within}
use Rattle.xs_regex.proofs.set.PositionSet.clear.Goals as goal

pub clear_flags-requires : goal.clear_flags-requires
clear_flags-requires c = rw c.deref.ensures.value (members_within c.self.inside.flags.items c.self.inside.members.items (vec_capacity c.self.inside.members) c.self.invariant)

pub invariant_of-self : goal.invariant_of-self
invariant_of-self c =
    listed_cleared c.self.inside.flags.items c.clear_flags.new.flags.items c.self.inside.members.items c.clear.new.self.items
    (vec_capacity c.self.inside.members) (vec_capacity c.clear.new.self) c.self.invariant
    (let P : (p : ℕ) → Contains c.self.inside.members.items p → Has c.clear_flags.new.flags.items p → ⊥ = rw c.deref.ensures.value at c.clear_flags.ensures.members in P)
    c.clear_flags.ensures.others c.clear_flags.ensures.size c.clear.ensures.items c.clear.ensures.capacity
