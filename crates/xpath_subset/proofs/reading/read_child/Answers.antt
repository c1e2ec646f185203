use Rattle.std.proofs.Common.{true, false, refl}
use Rattle.std.specs.Prelude.{codes}
use Rattle.xpath_subset.specs.Grammar.{child, IsTest, IsElementStep, test_meaning}
use Rattle.xpath_subset.proofs.Moves.{gives_move, after_follows, child_after, child_alone}
use Rattle.xpath_subset.proofs.reading.read_child.Goals as goal

pub returns-in-Some : goal.returns-in-Some
returns-in-Some c = gives_move (λ w. IsTest w c.in-Some.test.now) (test_meaning c.args.scope.now) (λ u. IsElementStep (child u.0 u.1) c.args.text.now) (λ u. test_meaning c.args.scope.now u.1)
    (λ w reads. ((true, w), after_follows (IsTest w) (codes "child::") c.args.text.now c.in-Some.test.now c.in-Some.ensures reads))
    (λ u reads. (u.1, child_after c.args.text.now c.in-Some.test.now c.in-Some.ensures u reads, refl)) _ c.read_test.ensures

pub returns-in-None : goal.returns-in-None
returns-in-None c = gives_move (λ w. IsTest w c.args.text.now) (test_meaning c.args.scope.now) (λ u. IsElementStep (child u.0 u.1) c.args.text.now) (λ u. test_meaning c.args.scope.now u.1)
    (λ w reads. ((false, w), reads))
    (λ u reads. (u.1, child_alone c.args.text.now c.in-None.ensures u reads, refl)) _ c.read_test-in-None.ensures
