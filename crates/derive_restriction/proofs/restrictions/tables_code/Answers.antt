use Rattle.std.proofs.Common.{false}
use Rattle.std.specs.Option.{option_copied}
use Rattle.derive_faults.proofs.FaultLaws.{both-first}
use Rattle.derive_restriction.specs.Uses.{BreaksUses}
use Rattle.derive_restriction.specs.Wildcards.{BreaksWildcard}
use Rattle.derive_restriction.proofs.WildcardLaws.{first-like}
use Rattle.derive_restriction.proofs.restrictions.tables_code.Goals as goal

pub returns : goal.returns
returns c =
    let t = c.args.set.now.parts.now in
    let names = c.args.set.now.names.now in
    record {
      first = λ ids value also s u.
          both-first (BreaksUses t names value also) (BreaksWildcard false value.wildcard also.wildcard) c.in_ok-uses.uses c.wildcard_code-wildcard.result c.earlier.result c.earlier.ensures (c.in_ok-uses.ensures.first ids value also s u)
          (first-like false (option_copied c.wildcard.result) value.wildcard (option_copied c.wildcard-2.result) also.wildcard (c.wildcard.ensures.wildcard t ids value s) (c.wildcard-2.ensures.wildcard t ids also u) c.wildcard_code-wildcard.result c.wildcard_code-wildcard.ensures.first);
      same = c.uses_code.ensures.same;
    }
