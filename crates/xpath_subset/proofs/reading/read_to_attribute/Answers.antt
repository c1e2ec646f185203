use Rattle.std.proofs.Common.{Ok, false, map, sym, subst, List}
use Rattle.xpath_subset.specs.Grammar.{WrittenStep, WrittenTest, attribute, IsElementStep, IsTest, test_meaning, steps_meaning, way_meaning, to_attributes}
use Rattle.xpath_subset.specs.inside.Gives.{AreWritten, Gives}
use Rattle.xpath_subset.specs.inside.Trims.{trim_white}
use Rattle.xpath_subset.proofs.Ways.{gives_both}
use Rattle.xpath_subset.proofs.reading.read_to_attribute.Goals as goal

pub returns : goal.returns
returns c = subst (λ path. Gives {W = List WrittenStep × WrittenTest} (λ way. AreWritten IsElementStep way.0 (map (λ p. trim_white p.now) c.args.pieces.now) × IsTest way.1 c.args.test.now) (λ way. way_meaning c.args.scope.now c.args.anywhere way.0 (attribute false way.1)) (Ok path)) (sym c.to_attribute.ensures)
    (gives_both (λ steps. AreWritten IsElementStep steps (map (λ p. trim_white p.now) c.args.pieces.now)) (λ test. IsTest test c.args.test.now) (steps_meaning c.args.scope.now) (test_meaning c.args.scope.now) (to_attributes c.args.anywhere) c.in-Ok.steps c.in-Ok-read_test.test c.in-Ok.ensures c.in-Ok-read_test.ensures)
