use Rattle.std.proofs.Common.{◌≡◌, ℕ, take}
use Rattle.std.specs.Prelude.{nat_eq}
use Rattle.std.specs.HashSet.{contains}
use Rattle.xs_components.specs.Sets.{has}
use Rattle.content_automaton.proofs.spaces.space_set.Given as goal

abbrev pub invariant-loop-space : goal.invariant-loop-space
invariant-loop-space l = (ns : ℕ) → contains nat_eq l.set ns ≡ has (take l.space-index l.listed) ns
