use Rattle.std.proofs.Common.{rules, ◌≡◌, Some, sym, ap, ◌∙◌}
use Rattle.schema_values.specs.declared.spaces.SpaceToken.TheVariants as tokens
use Rattle.representations.proofs.LaterLaws.{space-later}
use Rattle.representations.specs.Wildcards.{token_space}
use Rattle.representations.proofs.reading.Reading.token.Goals as goal

pub returns-in_ok-ns-in-Named-clause-space : goal.returns-in_ok-ns-in-Named-clause-space
returns-in_ok-ns-in-Named-clause-space c =
    let is : c.args.token.now ≡ tokens.Named c.in-Named.space = search rules in
    let same : c.as_str.result.now ≡ c.in-Named.space = search rules in
    λ later g.
    space-later c.namespace_id.new.self (Some c.in-Named.space) c.as_str.result.now c.in_ok-ns-in-Named.ns same c.in_ok-ns-in-Named.ensures.number later g
    ∙ sym (ap (token_space later c.args.self.now.naming) is)
