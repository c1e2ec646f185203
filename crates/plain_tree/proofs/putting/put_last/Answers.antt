use Rattle.plain_tree.proofs.Adding.{node_put}
use Rattle.plain_tree.proofs.putting.put_last.Goals as goal

pub returns-clause-ok : goal.returns-clause-ok
returns-clause-ok c =
    let end = rw c.deref.ensures.value at c.end_of-end.ensures in
    node_put c.args.rows.now.items c.insert.new.self.items c.args.parent c.args.number c.args.content c.end_of-end.result c.requires.sound end c.requires.shallow
    (rw (c.new.ensures, c.new-2.ensures) at c.in_ok-insert.ensures.items)
