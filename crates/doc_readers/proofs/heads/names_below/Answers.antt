use Rattle.std.proofs.Common.{ap, ◌∙◌, [], ◌∷◌, ◌++◌, get_or, map}
use Rattle.std.specs.Prelude.{filter}
use Rattle.doc_nodes.specs.Nodes.{is_element_at}
use Rattle.doc_changes.specs.Readers.{name_at}
use Rattle.doc_readers.proofs.Shown.{more_named}
use Rattle.doc_readers.proofs.heads.names_below.Goals as goal

pub loop-child-preserved : goal.loop-child-preserved
loop-child-preserved c =
    let ns = c.args.doc.now in let children = c.deref-child-items.result.now in let i = c.loop-child.child-index in
    c.in_ok-push_name.ensures ∙ ap (λ names. names ++ map (name_at ns) (filter (is_element_at ns) (get_or children i 0 ∷ []))) c.loop-child.invariant
    ∙ more_named (name_at ns) (is_element_at ns) children i c.loop-child-test.true
