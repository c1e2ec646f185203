use Rattle.std.proofs.Common.{◌∙◌, rules, slice_index, sym, subst}
use Rattle.std.proofs.lemmas.List.Sorted.{IsNonDecreasingBy-from_sort_by_key}
use Rattle.particle_forms.specs.Made.{AreAllParts}
use Rattle.particle_forms.proofs.MadeLaws.{all-permuted}
use Rattle.particle_forms.proofs.node_made.parts_by_rank.Goals as goal

pub returns : goal.returns
returns c = record {
  all = all-permuted c.args.parts.now c.args.root c.in_ok-order.order.items c.sort_by_key.new.self.items c.in_ok-sort_by_key.ensures.permutation
      (subst (AreAllParts c.args.parts.now c.args.root) (sym (c.in_ok-order.ensures.items ∙ c.as_slice.ensures.keys)) c.in_ok-found.ensures.all);
  rises = IsNonDecreasingBy-from_sort_by_key (slice_index c.args.parts.now.particles.ranks) _ c.in_ok-sort_by_key.ensures.sorted (λ a r q k. search rules);
}
