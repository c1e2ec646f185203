use Rattle.xs_positions.specs.Nodes.{tree_at}
use Rattle.xs_positions.specs.Positions.{ArePositionsOf}
use Rattle.pattern_syntax.specs.Terms.{classes_of, trees_of}
use Rattle.xs_regex.specs.declared.program.TheConstants.{MOST_POSITIONS}
use Rattle.xs_regex.proofs.Counting.{too_many}
use Rattle.xs_regex.proofs.ProgramLaws.{last_within}
use Rattle.xs_regex.proofs.program.Program.new.Goals as goal

pub marks-requires : goal.marks-requires
marks-requires c =
    let are : ArePositionsOf (tree_at c.expr.result.now c.args.root) c.in-Ok.positions = rw c.in-Ok.is at c.in_ok-positions.ensures.found in
    rw (c.last.ensures, c.count.ensures) (last_within (tree_at c.expr.result.now c.args.root) c.in-Ok.positions are)

pub returns-in-Err-clause-too_large : goal.returns-in-Err-clause-too_large
returns-in-Err-clause-too_large c =
    rw c.in-Err.is at (too_many (classes_of c.args.terms) (trees_of c.args.terms) c.args.root MOST_POSITIONS c.in_ok-positions.field-0 (rw c.expr.ensures at c.in_ok-positions.ensures.too_many))

pub returns-clause-too_large : goal.returns-clause-too_large
returns-clause-too_large c =
    rw c.in-Ok.is at (too_many (classes_of c.args.terms) (trees_of c.args.terms) c.args.root MOST_POSITIONS c.in_ok-positions.field-0 (rw c.expr.ensures at c.in_ok-positions.ensures.too_many))
