use Rattle.std.proofs.Common.{map, drop, arith, sym, ap, ◌∙◌, ◌+◌}
use Rattle.std.specs.Option.{option_or}
use Rattle.std.proofs.lemmas.List.{drop_all}
use Rattle.attr_uses.specs.Uses.{group_uses, first_refusal}
use Rattle.attr_uses.proofs.MadeLaws.{refusal-step}
use Rattle.attr_uses.proofs.groups.first_refused.Goals as goal

pub returns-in-Some : goal.returns-in-Some
returns-in-Some c = λ t ids store all.
    ap (λ o. option_or o (first_refusal (map (group_uses t) (drop (c.loop-group.group-index + 1) c.args.named.now)))) (sym c.in-Some.is ∙ c.fault_at.ensures) ∙
    (sym (refusal-step t ids store c.args.groups.now c.args.named.now c.loop-group.group-index c.group-item.result c.loop-group-test.true c.group-item.is all) ∙ c.loop-group.invariant t ids store all)

pub loop-group-preserved : goal.loop-group-preserved
loop-group-preserved c = λ t ids store all.
    ap (λ o. option_or o (first_refusal (map (group_uses t) (drop (c.loop-group.group-index + 1) c.args.named.now)))) (sym c.in-None.is ∙ c.fault_at.ensures) ∙
    (sym (refusal-step t ids store c.args.groups.now c.args.named.now c.loop-group.group-index c.group-item.result c.loop-group-test.true c.group-item.is all) ∙ c.loop-group.invariant t ids store all)

pub returns : goal.returns
returns c = λ t ids store all.
    sym (ap (λ xs. first_refusal (map (group_uses t) xs)) (drop_all c.loop-group.group-index c.args.named.now (omega arith))) ∙ c.loop-group.invariant t ids store all
