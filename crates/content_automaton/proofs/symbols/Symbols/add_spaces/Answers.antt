use Rattle.std.proofs.Common.{◌==◌, sym, ap, ◌∙◌}
use Rattle.xs_names.specs.Numbering.{with_item}
use Rattle.content_automaton.proofs.Adding.{all_more}
use Rattle.content_automaton.proofs.symbols.Symbols.add_spaces.Goals as goal

pub loop-space-preserved : goal.loop-space-preserved
loop-space-preserved c = record {
  names = c.in_ok-add_space.ensures.names ∙ c.loop-space.invariant.names;
  spaces = c.in_ok-add_space.ensures.spaces ∙ (ap (λ xs. with_item (λ a b. a == b) xs c.space-item.result) c.loop-space.invariant.spaces ∙
      sym (all_more c.args.self.now.spaces c.args.spaces.now c.loop-space.space-index c.space-item.result c.loop-space-test.true c.space-item.is));
}
