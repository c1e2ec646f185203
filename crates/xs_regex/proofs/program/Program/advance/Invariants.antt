use Rattle.std.proofs.Common.{◌≡◌, ℕ, ◌↔◌, take, length}
use Rattle.std.specs.Prelude.{Contains, IfSome, IsTrue}
use Rattle.xs_positions.specs.Sets.{row}
use Rattle.xs_regex.specs.Sets.{Has}
use Rattle.xs_regex.specs.Program.{takes, ArePut}
use Rattle.xs_regex.proofs.ProgramLaws.{SomeIn}
use Rattle.xs_regex.proofs.program.Program.advance.Given as goal

abbrev pub invariant-loop-p : goal.invariant-loop-p
invariant-loop-p l = record {
  next : (q : ℕ) → Has l.next q ↔ SomeIn (take l.p-index l.p-items) (λ p. Contains (row l.self.positions.follow p) q) (λ p. IsTrue (takes l.self q l.c));
  size : length l.next ≡ length l.initial.next;
  done : IfSome l.done (ArePut l.self l.next l.c);
}
