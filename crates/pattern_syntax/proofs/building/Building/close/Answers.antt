use Rattle.std.proofs.Common.{refl}
use Rattle.pattern_syntax.specs.BuiltViews.{built_of}
use Rattle.pattern_syntax.proofs.Growing.{knows_more, groups_more, knows_pushed, group_closed, groups_front, group_branches, group_pieces}
use Rattle.pattern_syntax.proofs.building.Building.close.Goals as goal

pub invariant_of-self-in-Some : goal.invariant_of-self-in-Some
invariant_of-self-in-Some c = record {
  outer_known = groups_more _ _ _ c.in_ok-group.ensures.ok c.pop.new.self.items (groups_front _ _ _ _ c.in-Some.ensures.items c.bar.new.self.outer_known);
  branches_known = knows_more _ _ _ c.in_ok-group.ensures.ok c.in-Some.around.branches.items (group_branches _ _ _ _ c.in-Some.ensures.items c.bar.new.self.outer_known);
  pieces_known = knows_pushed _ _ _ c.in_ok-group.ensures.ok c.in-Some.around.pieces.items c.push.new.self.items _ _ c.in_ok-group.ensures.id (group_pieces _ _ _ _ c.in-Some.ensures.items c.bar.new.self.outer_known) c.push.ensures.items;
}

pub returns-in_ok-push-in-Some : goal.returns-in_ok-push-in-Some
returns-in_ok-push-in-Some c = group_closed _ _ _ c.in_ok-group.ensures.ok (built_of c.args.self.now) c.bar.new.self.outer.items c.pop.new.self.items c.in-Some.around c.bar.new.self.branches.items c.bar.new.self.pieces.items c.push.new.self.items _ c.in_ok-group.ensures.id
    (rw c.deref.ensures.value refl) c.in_ok-bar.ensures c.bar.new.self.outer_known c.in-Some.ensures.items c.in_ok-push-in-Some.ensures.items
