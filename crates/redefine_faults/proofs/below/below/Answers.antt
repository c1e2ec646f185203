use Rattle.std.proofs.Common.{◌++◌, map, arith, ap, ◌∙◌}
use Rattle.std.specs.Prelude.{nat_eq}
use Rattle.std.specs.List.{flat_map}
use Rattle.std.specs.HashSet.{contains}
use Rattle.redefine_faults.proofs.BelowLaws.{spreading-seen, spreading-more, spreading-length, spreading-ended}
use Rattle.redefine_faults.proofs.below.below.Goals as goal

pub loop-item-preserved-then-not-is_new : goal.loop-item-preserved-then-not-is_new
loop-item-preserved-then-not-is_new c =
    spreading-seen c.args.numbered.now c.args.version.now c.in-Some.item (contains nat_eq c.loop-item.seen) (map (λ r. r.now) c.loop-item.found) c.pop.new.self.items
    (rw c.in-Some.ensures.items at c.loop-item.invariant) (contains nat_eq c.insert.new.self) c.in_ok-is_new.is_new c.in_ok-is_new.ensures.updates.0 c.in_ok-is_new.ensures.added c.if-not-is_new.true

pub loop-item-smaller : goal.loop-item-smaller
loop-item-smaller c =
    spreading-length c.args.numbered.now c.args.version.now c.in-Some.item (contains nat_eq c.loop-item.seen) (contains nat_eq c.insert.new.self) c.in_ok-is_new.is_new c.pop.new.self.items c.loop-item.left.items c.put_shapes.new.left.items
    c.in_ok-is_new.ensures.updates.0 c.in_ok-is_new.ensures.added c.if-not-is_new.false c.in-Some.ensures.items
    (c.in_ok-put_shapes.ensures.left ∙ ap (λ l. c.pop.new.self.items ++ flat_map (λ s. s.members) l) c.of_number.ensures)

pub loop-item-preserved : goal.loop-item-preserved
loop-item-preserved c =
    spreading-more c.args.numbered.now c.args.version.now c.in-Some.item (contains nat_eq c.loop-item.seen) (map (λ r. r.now) c.loop-item.found) c.pop.new.self.items
    (rw c.in-Some.ensures.items at c.loop-item.invariant) (contains nat_eq c.insert.new.self) (map (λ r. r.now) c.put_shapes.new.found) c.put_shapes.new.left.items c.in_ok-is_new.ensures.updates.0
    (c.in_ok-put_shapes.ensures.found ∙ ap (λ l. map (λ r. r.now) c.loop-item.found ++ l) c.of_number.ensures)
    (c.in_ok-put_shapes.ensures.left ∙ ap (λ l. c.pop.new.self.items ++ flat_map (λ s. s.members) l) c.of_number.ensures)

pub returns : goal.returns
returns c =
    spreading-ended c.args.numbered.now c.args.version.now (contains nat_eq c.loop-item.seen) (map (λ r. r.now) c.loop-item.found) c.loop-item.left.items
    (omega (arith, c.loop-item.left.ok.0, c.in_default.ensures.cases.0)) c.loop-item.invariant
