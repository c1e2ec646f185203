use Rattle.attr_uses.proofs.CallLaws.{kept-view}
use Rattle.attr_uses.proofs.maps.UseMaps.combine.Goals as goal

pub returns-in_err-top-clause-kept : goal.returns-in_err-top-clause-kept
returns-in_err-top-clause-kept c = kept-view c.self.inside.depth c.self.inside.nodes.items c.combine_under.new.nodes.items c.self.invariant.1 c.combine_under.ensures.grown c.args.self.now c.self.view_is

pub returns-clause-kept : goal.returns-clause-kept
returns-clause-kept c = kept-view c.self.inside.depth c.self.inside.nodes.items c.combine_under.new.nodes.items c.self.invariant.1 c.combine_under.ensures.grown c.args.self.now c.self.view_is
