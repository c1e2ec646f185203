use Rattle.std.proofs.Common.{Some, true, get_or, ◌∙◌}
use Rattle.std.proofs.lemmas.List.{get_or_default}
use Rattle.content_models.specs.Modelled.{letter_of}
use Rattle.model_lists.proofs.Filling.{leaf-next, leaves-all}
use Rattle.model_lists.proofs.members.member_leaves.Goals as goal

pub loop-symbol-preserved : goal.loop-symbol-preserved
loop-symbol-preserved c =
    let k = c.loop-symbol.symbol-index in
    let n = get_or c.args.symbols.now k 0 in
    c.in_ok-push.ensures.items ∙
    leaf-next c.args.automaton.now (letter_of c.args.members.now) c.args.symbols.now c.requires k n c.loop-symbol.leaves.items c.is_ambivalent_symbol-marked.result c.leaf_with.result
    c.loop-symbol-test.true (get_or_default c.args.symbols.now k 0 n c.loop-symbol-test.true) c.loop-symbol.invariant c.is_ambivalent_symbol-marked.ensures
    (c.leaf_with.ensures ∙ (λ i. record { letter = Some (c.letter.ensures i); element = true; marked = c.is_ambivalent_symbol-marked.result }))

pub returns : goal.returns
returns c = leaves-all c.args.automaton.now (letter_of c.args.members.now) c.args.symbols.now c.loop-symbol.symbol-index c.loop-symbol.leaves.items c.loop-symbol.invariant c.loop-symbol-test.false
