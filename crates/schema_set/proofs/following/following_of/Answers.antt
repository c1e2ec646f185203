use Rattle.std.proofs.Common.{◌≡◌, take, take_all, arith}
use Rattle.schema_shape.specs.declared.forms.Shape.{Shape}
use Rattle.schema_set.specs.inside.Following.{next_of}
use Rattle.schema_set.proofs.ListLaws.{filter_map-more}
use Rattle.schema_set.proofs.following.following_of.Goals as goal

pub loop-shape-preserved : goal.loop-shape-preserved
loop-shape-preserved c =
    filter_map-more (λ (shape : Shape). next_of c.args.sources.now.available.now c.args.place shape.form) c.args.shapes.now c.loop-shape.shape-index c.shape-item.result c.loop-shape.found.items c.push_next.new.found.items c.in_ok-next.next
    c.loop-shape-test.true c.shape-item.is c.in_ok-next.ensures c.in_ok-push_next.ensures c.loop-shape.invariant

pub returns : goal.returns
returns c = let all : take c.loop-shape.shape-index c.args.shapes.now ≡ c.args.shapes.now = take_all _ _ (omega arith) in rw all at c.loop-shape.invariant
