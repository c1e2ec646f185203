use Rattle.redefine_names.proofs.StayLaws.{renamed-in}
use Rattle.redefine_names.proofs.UnnamedLaws.{all-alike}
use Rattle.redefine_names.proofs.laws.names_alone_change.Goals as goal

pub returns-clause-unnamed : goal.returns-clause-unnamed
returns-clause-unnamed c = λ t reps originals. all-alike t reps originals

pub returns-clause-named : goal.returns-clause-named
returns-clause-named c = λ t reps originals named. renamed-in t reps originals named
