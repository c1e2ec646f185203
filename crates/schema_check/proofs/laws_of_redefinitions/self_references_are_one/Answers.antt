use Rattle.schema_check.proofs.SameLaws.{by-places, by-hidden-names, by-whole}
use Rattle.schema_check.proofs.laws_of_redefinitions.self_references_are_one.Goals as goal

pub returns : goal.returns
returns c = record {
  places = λ t inputs set originals version place composed. by-places t inputs set originals composed version place;
  hidden = λ t inputs set originals version place composed texts. by-hidden-names t inputs set originals composed texts version place;
  whole = λ t inputs set originals version original composed texts. by-whole t inputs set originals composed texts version original;
}
