use Rattle.tag_names.specs.Scopes.{first_scope}
use Rattle.tree_building.proofs.Trees.{built_well}
use Rattle.tree_building.proofs.laws.documents_are_sound.Goals as goal

pub returns : goal.returns
returns c = λ its end e. built_well first_scope its end e
