use Rattle.std.proofs.Common.{◌≡◌, ◌++◌, ◌∙◌, map, take, take_all, Bor, ap, arith}
use Rattle.schema_shape.specs.declared.forms.Shape.{Shape}
use Rattle.redefine_originals.specs.inside.Lists.{listed}
use Rattle.redefine_originals.specs.inside.Redefines.{repeated}
use Rattle.redefine_originals.proofs.RedefineLaws.{flat-more}
use Rattle.redefine_originals.proofs.redefines.inside_each.Goals as goal

pub loop-shape-preserved : goal.loop-shape-preserved
loop-shape-preserved c = λ number.
    let old = map (λ (s : Bor Shape). s.now) (listed c.loop-shape.inside number) in
    flat-more (λ (s : Shape). repeated number (listed c.args.owners.now s.item) s) c.args.shapes.now c.loop-shape.shape-index c.shape-item.result old
    (map (λ (s : Bor Shape). s.now) (listed c.put_shape.new.inside number)) c.loop-shape-test.true c.shape-item.is
    (c.in_ok-put_shape.ensures number ∙ ap (λ os. old ++ repeated number os c.shape-item.result) c.get.ensures) (c.loop-shape.invariant number)

pub returns : goal.returns
returns c = let all : take c.loop-shape.shape-index c.args.shapes.now ≡ c.args.shapes.now = take_all _ _ (omega arith) in rw all at c.loop-shape.invariant
