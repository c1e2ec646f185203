use Rattle.assessment_laws.proofs.Types.{child-kept, root-kept}
use Rattle.assessment_laws.proofs.grown_laws.governing_keeps_as_names_are_added.Goals as goal

pub returns : goal.returns
returns c = record {
  child = λ old new t mode term name xsi scope g sound named known. child-kept old new g t named sound scope known mode term name xsi;
  root = λ old new t name xsi scope g sound named known. root-kept old new g t named sound scope known name xsi;
}
