use Rattle.std.proofs.Common.{refl}
use Rattle.pattern_syntax.proofs.Growing.{groups_more, knows_pushed, branch_pushed, nothing_known}
use Rattle.pattern_syntax.proofs.building.Building.bar.Goals as goal

pub invariant_of-self-2 : goal.invariant_of-self-2
invariant_of-self-2 c = record {
  outer_known = groups_more _ _ _ c.in_ok-branch.ensures.ok c.args.self.now.outer.items c.args.self.now.outer_known;
  branches_known = knows_pushed _ _ _ c.in_ok-branch.ensures.ok c.args.self.now.branches.items c.push.new.self.items _ _ c.in_ok-branch.ensures.id c.args.self.now.branches_known c.push.ensures.items;
  pieces_known = nothing_known _ _ c.clear.ensures.items;
}

pub returns : goal.returns
returns c = branch_pushed _ _ _ c.in_ok-branch.ensures.ok c.args.self.now.outer.items c.args.self.now.branches.items c.push.new.self.items c.args.self.now.pieces.items c.clear.new.self.items _ c.in_ok-branch.ensures.id
    (rw c.deref.ensures.value refl) c.args.self.now.outer_known c.args.self.now.branches_known c.in_ok-push.ensures.items c.clear.ensures.items
