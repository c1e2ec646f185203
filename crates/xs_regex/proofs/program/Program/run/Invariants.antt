use Rattle.std.proofs.Common.{◌≡◌, drop, length}
use Rattle.std.specs.Str.{chars}
use Rattle.xs_positions.specs.PositionWords.{IsWord}
use Rattle.xs_regex.specs.Program.{takes, expression_of, Waits, IsRead}
use Rattle.xs_regex.proofs.Locals.{Outcome, Whole}
use Rattle.xs_regex.proofs.program.Program.run.Given as goal

abbrev pub invariant-loop-c : goal.invariant-loop-c
invariant-loop-c l = record {
  sound : Outcome (IsWord (expression_of l.self).tree 0) (takes l.self) (Waits l.self.positions l.live l.begun) (IsRead l.self.positions l.live l.begun) (drop (length l.yielded) (chars l.text)) → Whole (IsWord (expression_of l.self).tree 0) (takes l.self) (chars l.text);
  complete : Whole (IsWord (expression_of l.self).tree 0) (takes l.self) (chars l.text) → Outcome (IsWord (expression_of l.self).tree 0) (takes l.self) (Waits l.self.positions l.live l.begun) (IsRead l.self.positions l.live l.begun) (drop (length l.yielded) (chars l.text));
  live : length l.live ≡ length l.self.positions.symbols;
  next : length l.next ≡ length l.self.positions.symbols;
}
