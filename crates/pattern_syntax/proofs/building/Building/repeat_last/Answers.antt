use Rattle.std.proofs.Common.{refl}
use Rattle.pattern_syntax.proofs.Growing.{knows_more, groups_more, knows_pushed, piece_repeated, known_front}
use Rattle.pattern_syntax.proofs.building.Building.repeat_last.Goals as goal

pub invariant_of-self-in-Some : goal.invariant_of-self-in-Some
invariant_of-self-in-Some c = record {
  outer_known = groups_more _ _ _ c.in_ok-id-in-Some.ensures.ok c.args.self.now.outer.items c.args.self.now.outer_known;
  branches_known = knows_more _ _ _ c.in_ok-id-in-Some.ensures.ok c.args.self.now.branches.items c.args.self.now.branches_known;
  pieces_known = knows_pushed _ _ _ c.in_ok-id-in-Some.ensures.ok c.pop.new.self.items c.push.new.self.items _ _ c.in_ok-id-in-Some.ensures.id (known_front _ _ _ _ c.in-Some.ensures.items c.args.self.now.pieces_known) c.push.ensures.items;
}

pub returns-in_ok-push-in-Some : goal.returns-in_ok-push-in-Some
returns-in_ok-push-in-Some c = piece_repeated _ _ _ c.in_ok-id-in-Some.ensures.ok c.args.self.now.outer.items c.args.self.now.branches.items c.args.self.now.pieces.items c.pop.new.self.items c.push.new.self.items _ _ c.args.least c.args.most c.in_ok-id-in-Some.ensures.id refl
    c.args.self.now.outer_known c.args.self.now.branches_known (known_front _ _ _ _ c.in-Some.ensures.items c.args.self.now.pieces_known) c.in-Some.ensures.items c.in_ok-push-in-Some.ensures.items
