use Rattle.std.proofs.Common.{◌≡◌, length, reverse}
use Rattle.tag_names.specs.Scopes.{of_prefix}
use Rattle.tag_names.specs.Tables.{bindings_of}
use Rattle.tag_names.proofs.prefixes.latest_among.Given as goal

abbrev pub invariant-left : goal.invariant-left
invariant-left l = of_prefix (bindings_of (reverse l.left)) l.prefix ≡ of_prefix (bindings_of (reverse l.entries)) l.prefix

abbrev pub decreases-left : goal.decreases-left
decreases-left l = length l.left
