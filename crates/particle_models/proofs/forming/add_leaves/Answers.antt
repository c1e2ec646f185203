use Rattle.std.proofs.Common.{[], ◌∷◌, ◌<◌, length, get_or, ◌≤◌, arith, rules}
use Rattle.std.proofs.lemmas.List.Elements.{All-push, All-weaker}
use Rattle.particle_models.specs.Forming.{IsPart}
use Rattle.particle_models.proofs.GroupGrowing.{extends_then}
use Rattle.particle_models.proofs.Gathering.{leaves_more}
use Rattle.particle_models.proofs.forming.add_leaves.Goals as goal

pub loop-term-preserved : goal.loop-term-preserved
loop-term-preserved c =
    let inv = c.loop-term.invariant in
    let is = rw c.once.ensures.once at c.in_ok-id.ensures in
    let n = length c.add_part.new.parts.items in
    record {
      ordered = is.extends.ordered inv.ordered;
      extends = extends_then c.args.parts.now.items c.loop-term.parts.items c.add_part.new.parts.items inv.extends is.extends;
      below = rw c.in_ok-push.ensures.items (All-push (λ k. k < n) c.loop-term.members.items c.in_ok-id.id
          (All-weaker (λ k. k < length c.loop-term.parts.items) (λ k. k < n) (λ k l. let m = is.extends.more in omega arith) c.loop-term.members.items inv.below) is.there);
      trees = rw c.in_ok-push.ensures.items (leaves_more c.loop-term.parts.items c.add_part.new.parts.items c.loop-term.members.items c.args.terms.now c.loop-term.term-index c.in_ok-id.id
          c.loop-term-test.true is inv.below inv.trees);
    }
