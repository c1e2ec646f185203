use Rattle.std.proofs.Common.{◌≡◌, ℕ, ◌↔◌, take, length}
use Rattle.std.specs.Prelude.{Contains}
use Rattle.xs_regex.specs.Sets.{Has}
use Rattle.xs_regex.proofs.program.marks.Given as goal

abbrev pub invariant-loop-p : goal.invariant-loop-p
invariant-loop-p l = record {
  members : (q : ℕ) → Has l.flags.items q ↔ Contains (take l.p-index l.numbers) q;
  size : length l.flags.items ≡ l.count;
}
