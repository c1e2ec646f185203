use Rattle.std.proofs.Common.{arith}
use Rattle.derive_models.proofs.TermLaws.{spaces-more}
use Rattle.derive_models.proofs.terms.add_spaces.Goals as goal

pub loop-id-preserved : goal.loop-id-preserved
loop-id-preserved c = record {
  few = (let l = c.in-Some.ensures.there.1 in omega arith);
  terms = spaces-more c.args.parts.now c.args.flags.now c.args.terms.now.items c.loop-id.number c.in-Some.id c.in_ok-space.space c.loop-id.terms.items c.push.new.self.items
      c.in-Some.ensures.there.0 c.in_ok-space.ensures c.in_ok-push.ensures.items c.loop-id.invariant.terms;
}
