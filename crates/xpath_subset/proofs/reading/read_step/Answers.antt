use Rattle.std.proofs.Common.{Some, None, sym}
use Rattle.std.specs.Prelude.{codes}
use Rattle.xpath_subset.proofs.Tests.{bytes_same, bytes_other}
use Rattle.xpath_subset.proofs.Moves.{dot_step, child_step, no_step}
use Rattle.xpath_subset.proofs.reading.read_step.Goals as goal

pub returns-then-eq : goal.returns-then-eq
returns-then-eq c = dot_step c.args.scope.now c.args.text.now (bytes_same c.args.text.now (codes ".") (sym c.if-eq.ensures))

pub returns-in-Ok-Some : goal.returns-in-Ok-Some
returns-in-Ok-Some c = child_step c.args.scope.now c.args.text.now (bytes_other c.args.text.now (codes ".") c.if-eq.ensures) (Some c.in-Ok-Some.test) (rw c.in-Ok-Some.field-0-is at c.in-Ok-Some.ensures)

pub returns-in-Ok-None : goal.returns-in-Ok-None
returns-in-Ok-None c = child_step c.args.scope.now c.args.text.now (bytes_other c.args.text.now (codes ".") c.if-eq.ensures) None (rw c.in-Ok-None.field-0-is at c.in-Ok-None.ensures)

pub returns-in-Err : goal.returns-in-Err
returns-in-Err c = no_step c.args.scope.now c.args.text.now (bytes_other c.args.text.now (codes ".") c.if-eq.ensures) c.in-Err.refusal c.in-Err.ensures
