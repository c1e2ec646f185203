use Rattle.std.proofs.Common.{◌≤◌, ◌↔◌, List, Bool, true, false, refl, sym, subst}
use Rattle.std.specs.Prelude.{IsTrue}
use Rattle.simple_values.specs.declared.key.Key.{Key}
use Rattle.xs_codes.specs.declared.code.Code.TheVariants.{CvcIdentityConstraint4_1}
use Rattle.key_records.specs.Records.{own_in}
use Rattle.key_records.proofs.TargetLaws.{told-by}
use Rattle.key_records.proofs.records.KeyRecords.has_equal.Goals as goal

pub returns-then-referred : goal.returns-then-referred
returns-then-referred c =
    subst (λ (r : Bool). IsTrue c.is_some.result ↔ ((tuple : List Key) × (2 ≤ own_in r c.args.self.now c.args.scope c.args.constraint tuple))) (sym c.if-referred.true)
    (subst (λ (b : Bool). IsTrue b ↔ ((tuple : List Key) × (2 ≤ own_in true c.args.self.now c.args.scope c.args.constraint tuple))) (sym c.is_some.ensures)
    (told-by c.broken.result CvcIdentityConstraint4_1 (c.broken.ensures.equal c.args.constraint refl)))

pub returns : goal.returns
returns c =
    subst (λ (r : Bool). IsTrue c.is_some-2.result ↔ ((tuple : List Key) × (2 ≤ own_in r c.args.self.now c.args.scope c.args.constraint tuple))) (sym c.if-referred.false)
    (subst (λ (b : Bool). IsTrue b ↔ ((tuple : List Key) × (2 ≤ own_in false c.args.self.now c.args.scope c.args.constraint tuple))) (sym c.is_some-2.ensures)
    (told-by c.broken-2.result CvcIdentityConstraint4_1 (c.broken-2.ensures.equal c.args.constraint refl)))
