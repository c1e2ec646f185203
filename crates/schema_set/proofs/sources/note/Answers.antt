use Rattle.std.proofs.Common.{◌∙◌}
use Rattle.std.specs.HashMap.{get_by_text}
use Rattle.schema_set.proofs.LocationLaws.{noted-first, noted-again}
use Rattle.schema_set.proofs.sources.note.Goals as goal

pub returns-in-Some : goal.returns-in-Some
returns-in-Some c = noted-again (get_by_text c.args.numbers.now) c.args.key.now c.args.number c.in-Some.field-0 c.in-Some.ensures

pub returns-in_ok-put-in-None : goal.returns-in_ok-put-in-None
returns-in_ok-put-in-None c = λ q.
    c.in_ok-put-in-None.ensures q ∙ noted-first (get_by_text c.args.numbers.now) c.args.key.now c.args.number c.in-None.ensures q
