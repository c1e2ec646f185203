use Rattle.stream_sections.specs.Sections as sections
use Rattle.stream_sections.proofs.Reading.{schemas_read, document_read, commands_read}
use Rattle.stream_sections.proofs.laws.readers_give_sections.Goals as goal

pub returns-clause-schemas_alone : goal.returns-clause-schemas_alone
returns-clause-schemas_alone c = λ a its. schemas_read a sections.closing its

pub returns-clause-with_document : goal.returns-clause-with_document
returns-clause-with_document c = λ a its. schemas_read a (sections.document_section a) its

pub returns-clause-document : goal.returns-clause-document
returns-clause-document c = document_read

pub returns-clause-commands : goal.returns-clause-commands
returns-clause-commands c = commands_read
