use Rattle.std.proofs.Common.{◌==◌, sym, ap, ◌∙◌}
use Rattle.xs_names.specs.Numbering.{with_item}
use Rattle.content_automaton.specs.declared.symbol_terms.Given.{Given}
use Rattle.content_automaton.proofs.Adding.{all_more_of}
use Rattle.content_automaton.proofs.symbols.Symbols.add_names.Goals as goal

pub loop-one-preserved : goal.loop-one-preserved
loop-one-preserved c = record {
  names = c.in_ok-add_name.ensures.names ∙ (ap (λ xs. with_item (λ a b. a == b) xs c.one-item.result.name) c.loop-one.invariant.names ∙
      sym (all_more_of (λ (g : Given). g.name) c.args.self.now.names c.args.given.now c.loop-one.one-index c.one-item.result c.loop-one-test.true c.one-item.is));
  spaces = c.in_ok-add_name.ensures.spaces ∙ c.loop-one.invariant.spaces;
}
