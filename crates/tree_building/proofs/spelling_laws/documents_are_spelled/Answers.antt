use Rattle.tree_building.proofs.Reading.{document_read}
use Rattle.tree_building.proofs.Unreading.{document_spelled}
use Rattle.tree_building.proofs.Refused.{document_refused}
use Rattle.tree_building.proofs.spelling_laws.documents_are_spelled.Goals as goal

pub returns-clause-read : goal.returns-clause-read
returns-clause-read c = document_read

pub returns-clause-spelled : goal.returns-clause-spelled
returns-clause-spelled c = document_spelled

pub returns-clause-refused : goal.returns-clause-refused
returns-clause-refused c = document_refused
