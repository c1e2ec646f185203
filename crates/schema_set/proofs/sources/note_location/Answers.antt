use Rattle.std.proofs.Common.{Some, None, ap, ◌∙◌, bytes_eq, if◌then◌else◌}
use Rattle.std.specs.Option.{option_or}
use Rattle.xs_names.specs.WhiteSpace.{collapsed}
use Rattle.std.specs.HashMap.{get_by_text}
use Rattle.schema_set.proofs.sources.note_location.Goals as goal

pub returns : goal.returns
returns c = λ q.
    c.in_ok-note.ensures q
    ∙ ap (λ k. option_or (get_by_text c.args.numbers.now q) (if bytes_eq k q then Some c.args.number else None)) (c.as_str-2.ensures ∙ c.in_ok-key.ensures.value ∙ ap collapsed c.as_str.ensures)
