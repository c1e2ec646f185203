use Rattle.std.proofs.Common.{Bool, sym, ap, ◌∙◌}
use Rattle.key_records.specs.Records.{own_in}
use Rattle.key_records.proofs.records.KeyRecords.own_count.Goals as goal

pub returns-then-is_referred : goal.returns-then-is_referred
returns-then-is_referred c = c.own_count.ensures ∙ ap (λ (b : Bool). own_in b c.args.self.now c.args.scope c.args.constraint c.args.tuple.now) (sym c.if-is_referred.true ∙ c.is_referred.ensures)

pub returns : goal.returns
returns c = c.own_count-2.ensures ∙ ap (λ (b : Bool). own_in b c.args.self.now c.args.scope c.args.constraint c.args.tuple.now) (sym c.if-is_referred.false ∙ c.is_referred.ensures)
