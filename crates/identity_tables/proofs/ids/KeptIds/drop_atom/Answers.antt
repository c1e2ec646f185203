use Rattle.std.proofs.Common.{sym, ap, ◌∙◌}
use Rattle.simple_values.specs.declared.atom.Atom.TheVariants as atoms
use Rattle.identity_tables.proofs.Dropping.{text-counted}
use Rattle.identity_tables.proofs.ids.KeptIds.drop_atom.Goals as goal

pub drop_string-requires : goal.drop_string-requires
drop_string-requires c =
    text-counted c.args.bearer c.args.builtin c.args.atom.now c.as_str.result.now c.role_of.result (c.in-Text.is ∙ ap atoms.Text (sym c.as_str.ensures)) c.role_of.ensures
    c.args.self.now c.requires.0 c.requires.1
