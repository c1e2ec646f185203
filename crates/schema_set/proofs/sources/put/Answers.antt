use Rattle.std.proofs.Common.{Some, ap, ◌∙◌, bytes_eq}
use Rattle.std.specs.Map.{update}
use Rattle.std.proofs.lemmas.Map.Text.{hash_map_updates_text}
use Rattle.std.specs.HashMap.{get_by_text}
use Rattle.schema_set.proofs.sources.put.Goals as goal

pub returns : goal.returns
returns c = λ q.
    hash_map_updates_text _ c.args.numbers.now c.insert.new.self _ c.in_ok-insert.ensures.updates q
    ∙ ap (λ t. update bytes_eq (get_by_text c.args.numbers.now) t (Some c.args.number) q) c.in_ok-text.ensures.ok
