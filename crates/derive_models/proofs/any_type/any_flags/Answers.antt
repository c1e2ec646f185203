use Rattle.std.proofs.Common.{◌∙◌, ◌<◌, arith, length, sym, subst}
use Rattle.derive_models.proofs.AnyLaws.{flags-turn, flags-all, some-all, any-there}
use Rattle.derive_models.proofs.any_type.any_flags.Goals as goal

pub mark-requires : goal.mark-requires
mark-requires c = record {
  there = some-all c.any_particle.result (λ p. p < length c.loop-id.flags.items)
      (λ p e. subst (λ n. p < n) (sym c.loop-id.invariant.flags.each) (any-there c.args.parts.now c.requires.ranked c.in-Some.id c.complex.result.now p (sym c.any_particle.ensures ∙ e)));
}

pub loop-id-preserved : goal.loop-id-preserved
loop-id-preserved c = record {
  few = (let l = c.in-Some.ensures.there.1 in omega arith);
  flags = flags-turn c.args.parts.now c.loop-id.number c.in-Some.id c.complex.result.now c.any_particle.result c.loop-id.flags.items c.mark.new.flags.items
      c.in-Some.ensures.there.0 c.complex.ensures.part c.any_particle.ensures c.loop-id.invariant.flags c.mark.ensures.marked;
}

pub returns : goal.returns
returns c = record {
  flags = flags-all c.args.parts.now c.loop-id.number c.loop-id.flags.items c.in_default.ensures.past c.loop-id.invariant.flags;
}
