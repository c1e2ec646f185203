use Rattle.std.proofs.Common.{◌≡◌, ℕ, take, length}
use Rattle.std.specs.Prelude.{Contains}
use Rattle.xs_regex.specs.Sets.{Has}
use Rattle.xs_regex.proofs.set.clear_flags.Given as goal

abbrev pub invariant-loop-p : goal.invariant-loop-p
invariant-loop-p l = record {
  members : (q : ℕ) → Contains (take l.p-index l.members) q → Has l.flags.items q → ⊥;
  others : (q : ℕ) → Has l.flags.items q → Has l.initial.flags.items q;
  size : length l.flags.items ≡ length l.initial.flags.items;
}
