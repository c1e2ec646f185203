use Rattle.std.proofs.Common.{◌++◌}
use Rattle.std.specs.Option.{option_copied}
use Rattle.tag_names.specs.Scopes.{own_of}
use Rattle.tag_names.specs.Tags.{attribute_name}
use Rattle.tag_names.proofs.SeenLaws.{name-again}
use Rattle.tag_names.proofs.seen.SeenLines.comes_again.Goals as goal

pub returns-clause-again : goal.returns-clause-again
returns-clause-again c =
    name-again c.args.self.now.names.keys c.insert.new.self.keys c.in_ok-key.key
    (attribute_name (own_of (option_copied c.args.own) ++ c.args.scope.now) c.args.name.now) c.in_ok-key.ensures
    c.in_ok-added.added c.in_ok-added.ensures.added c.in_ok-added.ensures.keys
