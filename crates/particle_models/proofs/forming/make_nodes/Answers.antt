use Rattle.std.proofs.Common.{[], ℕ, List, ◌+◌, length, ap, sym, subst, ◌∙◌}
use Rattle.std.specs.Prelude.{slice_index_or}
use Rattle.std.proofs.lemmas.List.{length_push}
use Rattle.particle_models.specs.Forming.{IsMade}
use Rattle.particle_models.proofs.Making.{made_more}
use Rattle.particle_models.proofs.forming.make_nodes.Goals as goal

pub make_node-requires-clause-made : goal.make_node-requires-clause-made
make_node-requires-clause-made c = rw c.deref.ensures.value c.loop-number.invariant.made

pub loop-number-preserved : goal.loop-number-preserved
loop-number-preserved c =
    let inv = c.loop-number.invariant in
    let st : ℕ → List ℕ = λ n. slice_index_or c.args.source.now.stands_for.now n [] in
    let next = subst (λ i. IsMade st c.args.source.now.nodes.now c.args.source.now.asked.now c.make_node.new.parts.items i c.in_ok-next.next) (sym inv.count) c.in_ok-next.ensures.made in
    record {
      count = ap length c.in_ok-push.ensures.items ∙ (length_push c.loop-number.made.items c.in_ok-next.next ∙ ap (λ k. k + 1) inv.count);
      ordered = c.in_ok-next.ensures.extends.ordered inv.ordered;
      made = rw c.in_ok-push.ensures.items (made_more st c.args.source.now.nodes.now c.args.source.now.asked.now c.loop-number.parts.items c.make_node.new.parts.items c.loop-number.made.items c.in_ok-next.next c.in_ok-next.ensures.extends inv.made next);
    }
