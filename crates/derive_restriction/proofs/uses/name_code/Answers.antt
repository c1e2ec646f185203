use Rattle.std.proofs.Common.{Some, sym, ap, subst}
use Rattle.std.specs.Prelude.{IfOk}
use Rattle.std.specs.Option.{option_copied, option_map}
use Rattle.derive_faults.specs.TypeFaults.{IsFirstCode}
use Rattle.derive_restriction.specs.Uses.{declared, BreaksName}
use Rattle.derive_restriction.proofs.uses.name_code.Goals as goal

pub returns-in-Some-base-clause-first : goal.returns-in-Some-base-clause-first
returns-in-Some-base-clause-first c =
    let t = c.args.set.now.parts.now in
    let names = c.args.set.now.names.now in
    subst (λ o. IfOk c.both_code.result (IsFirstCode (BreaksName t names (option_copied c.args.wildcard) o (option_map declared c.args.base)))) (sym (ap (option_map declared) c.in-Some.is))
    (subst (λ o. IfOk c.both_code.result (IsFirstCode (BreaksName t names (option_copied c.args.wildcard) (Some (declared c.in-Some.own)) o))) (sym (ap (option_map declared) c.in-Some-base.is)) c.both_code.ensures.first)
