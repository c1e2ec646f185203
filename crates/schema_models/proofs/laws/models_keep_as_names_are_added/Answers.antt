use Rattle.schema_models.proofs.Accepting.{same-accepts}
use Rattle.schema_models.proofs.Growing.{words-same, beginnings-same, ambivalent-same, first-same, built-kept, checked-kept}
use Rattle.schema_models.proofs.laws.models_keep_as_names_are_added.Goals as goal

pub returns-clause-accepted : goal.returns-clause-accepted
returns-clause-accepted c = λ old new t members grown named. same-accepts old new grown members named t

pub returns-clause-words : goal.returns-clause-words
returns-clause-words c = λ old new t members grown named p names. words-same old new t members grown named p names

pub returns-clause-beginnings : goal.returns-clause-beginnings
returns-clause-beginnings c = λ old new t members grown named p names. beginnings-same old new t members grown named p names

pub returns-clause-ambivalent : goal.returns-clause-ambivalent
returns-clause-ambivalent c = λ old new t members classes grown named p name. ambivalent-same old new t members grown named classes p name

pub returns-clause-first : goal.returns-clause-first
returns-clause-first c = λ old new t members classes grown named p name first. first-same old new t members grown named classes p name first

pub returns-clause-built : goal.returns-clause-built
returns-clause-built c = λ old new t members classes grown named p a. built-kept old new t members grown named classes p a

pub returns-clause-checked : goal.returns-clause-checked
returns-clause-checked c = λ old new t members classes grown named p cells_left a. checked-kept old new t members grown named classes p cells_left a
