use Rattle.xpath_subset.specs.inside.Lasts.{IsLastOf}
use Rattle.xpath_subset.specs.inside.Trims.{trim_white}
use Rattle.xpath_subset.proofs.Lasts.{element_last}
use Rattle.xpath_subset.proofs.Ways.{pieces_element, pieces_attribute}
use Rattle.xpath_subset.proofs.reading.read_pieces.Goals as goal

pub returns-in-Some-attribute_test : goal.returns-in-Some-attribute_test
returns-in-Some-attribute_test c = pieces_attribute (λ p. trim_white p.now) c.args.pieces.now c.in-Some.front.now c.in-Some.last.now c.in-Some.ensures.cases.0 c.trimmed.result.now c.trimmed.ensures.value c.args.scope.now c.args.anywhere (IsLastOf c.args.kind) c.in-Some-attribute_test.test.now c.in-Some-attribute_test.ensures c.read_to_attribute.result c.read_to_attribute.ensures

pub returns-in-None : goal.returns-in-None
returns-in-None c = pieces_element (λ p. trim_white p.now) c.args.pieces.now c.in-Some.front.now c.in-Some.last.now c.in-Some.ensures.cases.0 c.trimmed.result.now c.trimmed.ensures.value c.args.scope.now c.args.anywhere (IsLastOf c.args.kind) (element_last c.args.kind c.trimmed.result.now) c.in-None.ensures c.read_to_element.result c.read_to_element.ensures
