use Rattle.std.proofs.Common.{arith}
use Rattle.derive_models.proofs.TermLaws.{elements-more}
use Rattle.derive_models.proofs.elements.elements_of.Goals as goal

pub loop-id-preserved : goal.loop-id-preserved
loop-id-preserved c = record {
  few = (let l = c.in-Some.ensures.there.1 in omega arith);
  terms = elements-more c.args.parts.now c.args.names.now c.args.fixed.now c.loop-id.number c.in-Some.id c.in-Some.ensures.there c.in_ok-declaration.declaration c.in_ok-declaration.ensures
      c.loop-id.terms.items c.push.new.self.items c.in_ok-push.ensures.items c.loop-id.invariant.terms;
}
