use Rattle.std.proofs.Common.{Some, sym, ap, subst}
use Rattle.std.specs.Option.{option_copied}
use Rattle.derive_faults.specs.TypeFaults.{IsFirstCode}
use Rattle.derive_restriction.specs.Wildcards.{BreaksWildcard}
use Rattle.derive_restriction.proofs.wildcards.wildcard_code.Goals as goal

pub returns-in-Some-base : goal.returns-in-Some-base
returns-in-Some-base c = record {
  first = subst (λ o. IsFirstCode (BreaksWildcard c.args.of_any_type o (option_copied c.args.base)) c.both_code.result) (sym (ap option_copied c.in-Some.is))
      (subst (λ o. IsFirstCode (BreaksWildcard c.args.of_any_type (Some c.in-Some.own.now) o) c.both_code.result) (sym (ap option_copied c.in-Some-base.is)) c.both_code.ensures.first);
}
