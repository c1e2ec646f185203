use Rattle.pattern_syntax.proofs.Growing.{knows_more, groups_more, knows_pushed, piece_pushed}
use Rattle.pattern_syntax.proofs.building.Building.push_class.Goals as goal

pub invariant_of-self-2 : goal.invariant_of-self-2
invariant_of-self-2 c = record {
  outer_known = groups_more _ _ _ c.in_ok-id.ensures.ok c.args.self.now.outer.items c.args.self.now.outer_known;
  branches_known = knows_more _ _ _ c.in_ok-id.ensures.ok c.args.self.now.branches.items c.args.self.now.branches_known;
  pieces_known = knows_pushed _ _ _ c.in_ok-id.ensures.ok c.args.self.now.pieces.items c.push.new.self.items _ _ c.in_ok-id.ensures.id c.args.self.now.pieces_known c.push.ensures.items;
}

pub returns : goal.returns
returns c = piece_pushed _ _ _ c.in_ok-id.ensures.ok c.args.self.now.outer.items c.args.self.now.branches.items c.args.self.now.pieces.items c.push.new.self.items _ c.in_ok-id.ensures.id c.args.self.now.outer_known c.args.self.now.branches_known c.args.self.now.pieces_known c.in_ok-push.ensures.items
