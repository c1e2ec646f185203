-- Documents of which nothing is said beside: no codes of identity constraints and none of ids.
use Rattle.std.specs.Prelude.{[]}
use Rattle.assessment.specs.Assessment.{Beside}

abbrev pub plain_beside : Beside
plain_beside = record { identity = λ number. []; ids = λ number. [] }
