use Rattle.std.proofs.Common.{length, refl, sym, ap, ◌∙◌, subst}
use Rattle.attr_uses.specs.declared.entry.UseHolder.{UseHolder}
use Rattle.attr_assess.specs.Known.{AreKnownIn, AreKnownOf}
use Rattle.attr_assess.proofs.KnownLaws.{none-of, one-of, one-longer}
use Rattle.attr_assess.proofs.known.known_of.Goals as goal

pub loop-number-init : goal.loop-number-init
loop-number-init c = record {
  known = subst (AreKnownOf c.args.parts.now c.args.in_types) (sym c.new-known.ensures) (none-of c.args.parts.now c.args.in_types);
  long = ap length c.new-known.ensures;
  same = refl;
}

pub loop-number-preserved : goal.loop-number-preserved
loop-number-preserved c =
    let t = c.args.parts.now in
    let before = c.loop-number.invariant in
    let uses = c.in_ok-uses.uses in
    record {
      known = subst (AreKnownOf t c.args.in_types) (sym c.in_ok-push.ensures.ok)
          (one-of t c.args.in_types c.loop-number.known uses c.loop-number.number before.long before.known
          (subst (λ (holder : UseHolder). AreKnownIn t holder uses) c.holder_of.ensures c.in_ok-uses.ensures.known));
      long = ap length c.in_ok-push.ensures.ok ∙ one-longer c.loop-number.known uses c.loop-number.number before.long;
      same = c.known_by.ensures.same ∙ before.same;
    }
