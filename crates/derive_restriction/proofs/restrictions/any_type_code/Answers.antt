use Rattle.std.proofs.Common.{true}
use Rattle.std.specs.Option.{option_copied}
use Rattle.attr_uses.specs.Uses.{any_type_uses}
use Rattle.derive_restriction.proofs.RestrictionLaws.{any-first}
use Rattle.derive_restriction.proofs.WildcardLaws.{first-like}
use Rattle.derive_restriction.proofs.restrictions.any_type_code.Goals as goal

pub returns : goal.returns
returns c = λ ids value s u.
    let t = c.args.set.now.parts.now in
    any-first t c.args.set.now.names.now value c.wildcard_code.result
    (first-like true (option_copied c.wildcard.result) value.wildcard (option_copied c.wildcard-2.result) any_type_uses.wildcard (c.wildcard.ensures.wildcard t ids value s) (c.wildcard-2.ensures.wildcard t ids any_type_uses u) c.wildcard_code.result c.wildcard_code.ensures.first)
