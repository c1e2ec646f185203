use Rattle.std.proofs.Common.{◌==◌}
use Rattle.redefine_originals.specs.Versions.{Child}
use Rattle.redefine_originals.specs.inside.Entries.{child_entry}
use Rattle.redefine_originals.proofs.NamedLaws.{first-more}
use Rattle.redefine_originals.specs.inside.Numbered.{child_found}
use Rattle.redefine_originals.proofs.numbered.numbered_children.Goals as goal

pub loop-child-preserved : goal.loop-child-preserved
loop-child-preserved c = λ item.
    first-more (λ (x : Child). x.shape.item == item) child_entry c.args.children.now c.loop-child.child-index c.child-item.result
    (child_found c.loop-child.numbered item) (child_found c.note.new.self item) c.loop-child-test.true c.child-item.is (c.in_ok-note.ensures item) (c.loop-child.invariant item)
