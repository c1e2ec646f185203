use Rattle.std.proofs.Common.{◌∙◌, sym}
use Rattle.std.specs.Option.{option_copied}
use Rattle.tag_names.specs.Scopes.{own_of}
use Rattle.tag_names.proofs.ScopeLaws.{of_prefix-found, of_prefix-absent}
use Rattle.tag_names.proofs.judged.of_prefix.Goals as goal

pub returns-in-Some : goal.returns-in-Some
returns-in-Some c = sym (of_prefix-found _ c.args.scope.now c.args.prefix.now _ c.in-Some.ensures)

pub returns-in-None : goal.returns-in-None
returns-in-None c = c.of_prefix.ensures ∙ sym (of_prefix-absent _ c.args.scope.now c.args.prefix.now c.in-None.ensures)
