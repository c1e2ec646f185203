use Rattle.std.proofs.Common.{Some, None, ap, ◌∙◌}
use Rattle.plain_tree.proofs.KindLaws.{kind_is_row}
use Rattle.plain_tree.proofs.tree.Tree.kind.Goals as goal

pub returns-in-None : goal.returns-in-None
returns-in-None c = kind_is_row c.args.node c.args.self.now.forest None c.in-None.ensures

pub returns-in-Some : goal.returns-in-Some
returns-in-Some c =
    ap Some c.kind_by.ensures ∙ kind_is_row c.args.node c.args.self.now.forest (Some (c.in-Some.row.now, c.in-Some.field-0-1.now)) c.in-Some.ensures
