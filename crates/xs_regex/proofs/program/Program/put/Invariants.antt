use Rattle.std.proofs.Common.{◌≡◌, ℕ, ◌↔◌, ◌⊎◌, take, length}
use Rattle.std.specs.Prelude.{Contains, IsTrue}
use Rattle.xs_regex.specs.Sets.{Has}
use Rattle.xs_regex.specs.Program.{takes}
use Rattle.xs_regex.proofs.program.Program.put.Given as goal

abbrev pub invariant-loop-p : goal.invariant-loop-p
invariant-loop-p l = record {
  set : (q : ℕ) → Has l.set q ↔ (Has l.initial.set q ⊎ (Contains (take l.p-index l.positions) q × IsTrue (takes l.self q l.c)));
  size : length l.set ≡ length l.initial.set;
}
