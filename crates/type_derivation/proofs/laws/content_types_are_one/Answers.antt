use Rattle.type_derivation.proofs.ContentTypeLaws.{has-content}
use Rattle.type_derivation.proofs.KindLaws.{functional}
use Rattle.type_derivation.proofs.laws.content_types_are_one.Goals as goal

pub returns : goal.returns
returns c = record { only = functional; found = λ t of ranked there. has-content t ranked of there }
