use Rattle.doc_nodes.specs.Nodes.{is_element_at}
use Rattle.doc_changes.specs.Readers.{name_at}
use Rattle.doc_readers.proofs.Shown.{one_named, none_named, some_more, none_more}
use Rattle.doc_readers.proofs.heads.push_name.Goals as goal

pub returns-in-None : goal.returns-in-None
returns-in-None c =
    let ns = c.args.doc.now in
    none_more (name_at ns) (is_element_at ns) c.args.names.now.items c.args.node (none_named ns c.args.node c.in-None.ensures.name)

pub returns-in_ok-push-in-Some : goal.returns-in_ok-push-in-Some
returns-in_ok-push-in-Some c =
    let ns = c.args.doc.now in
    some_more (name_at ns) (is_element_at ns) c.args.names.now.items c.push.new.self.items c.args.node c.in-Some.name
    (one_named ns c.args.node c.in-Some.name c.in-Some.ensures.name) c.in_ok-push-in-Some.ensures.items
