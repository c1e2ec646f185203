use Rattle.elem_governing.proofs.Regoverned.{child-again, root-again}
use Rattle.elem_governing.proofs.again.pairs_are_governed_again.Goals as goal

pub returns : goal.returns
returns c = record {
  child = λ names t mode term name xsi now scope inner. child-again names t xsi now scope inner mode term name;
  root = λ names t name xsi now scope inner. root-again names t xsi now scope inner name;
}
