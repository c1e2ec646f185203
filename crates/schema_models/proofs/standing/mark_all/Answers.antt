use Rattle.std.proofs.Common.{List, ℕ, subst, arith}
use Rattle.schema_models.specs.inside.Marks.{IsStandingSoFar}
use Rattle.schema_models.proofs.MarkLaws.{standing-begins, looked, standing-ends, next-there}
use Rattle.schema_models.proofs.standing.mark_all.Goals as goal

pub loop-p-init : goal.loop-p-init
loop-p-init c = standing-begins c.args.parts.now c.requires.ranked c.args.order.items c.args.marks.now c.requires.order c.requires.each c.requires.roots

pub mark_members-requires-clause-each : goal.mark_members-requires-clause-each
mark_members-requires-clause-each c = c.loop-p.invariant.count

pub mark_members-requires-clause-there : goal.mark_members-requires-clause-there
mark_members-requires-clause-there c =
    next-there c.args.parts.now c.requires.ranked c.pop.new.self.items c.in-Some.p c.loop-p.marks (subst (λ (xs : List ℕ). IsStandingSoFar c.args.parts.now xs c.loop-p.marks) c.in-Some.ensures.items c.loop-p.invariant)

pub loop-p-preserved : goal.loop-p-preserved
loop-p-preserved c =
    looked c.args.parts.now c.requires.ranked c.pop.new.self.items c.in-Some.p c.loop-p.marks (subst (λ (xs : List ℕ). IsStandingSoFar c.args.parts.now xs c.loop-p.marks) c.in-Some.ensures.items c.loop-p.invariant)
    c.mark_members.new.marks c.mark_members.ensures

pub returns : goal.returns
returns c = standing-ends c.args.parts.now c.requires.ranked c.loop-p.order.items c.loop-p.marks (omega (arith, c.in_default.ensures.cases.0, c.loop-p.order.ok.0)) c.loop-p.invariant
