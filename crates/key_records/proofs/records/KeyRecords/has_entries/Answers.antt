use Rattle.std.proofs.Common.{◌≤◌, ◌↔◌, List, Bool, refl, sym, subst}
use Rattle.std.specs.Prelude.{IsTrue}
use Rattle.simple_values.specs.declared.key.Key.{Key}
use Rattle.xs_codes.specs.declared.code.Code.TheVariants.{CvcIdentityConstraint4_3}
use Rattle.key_records.specs.Records.{unmatched}
use Rattle.key_records.proofs.TargetLaws.{told-by}
use Rattle.key_records.proofs.records.KeyRecords.has_entries.Goals as goal

pub returns : goal.returns
returns c =
    subst (λ (b : Bool). IsTrue b ↔ ((tuple : List Key) × (1 ≤ unmatched c.args.self.now c.args.scope c.args.keyref tuple))) (sym c.is_some.ensures)
    (told-by c.broken.result CvcIdentityConstraint4_3 (c.broken.ensures.unseen c.args.keyref refl))
