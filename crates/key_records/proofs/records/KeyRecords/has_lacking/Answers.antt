use Rattle.std.proofs.Common.{ap, ◌∙◌}
use Rattle.std.specs.Prelude.{ℕ, nat_lt}
use Rattle.key_records.specs.declared.faults.Faults.{Faults}
use Rattle.key_records.proofs.records.KeyRecords.has_lacking.Goals as goal

pub returns : goal.returns
returns c = λ t refs counted records. ap (λ (f : Faults). nat_lt 0 f.lacking) c.at.ensures ∙ ap (λ (n : ℕ). nat_lt 0 n) (records.lacking_are c.args.scope c.args.constraint)
