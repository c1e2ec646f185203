use Rattle.doc_changes.proofs.planting.put_tag.Goals as goal

pub returns-clause-ok : goal.returns-clause-ok
returns-clause-ok c = record { parts = c.in_ok-element.element; called = c.in_ok-element.ensures.called; inserts = c.in_ok-put.ensures.ok }
