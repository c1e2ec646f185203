use Rattle.std.proofs.Common.{rules, ◌≡◌, Some, length, ap, ◌∙◌, arith}
use Rattle.xs_positions.specs.Tree.{copies}
use Rattle.xs_positions.proofs.Parting.{copies_count, counted_copies}
use Rattle.xs_positions.proofs.Steps.{bounded_sets, once_sets}
use Rattle.xs_positions.proofs.walk.repeat.Goals as goal

pub find_copies-requires : goal.find_copies-requires
find_copies-requires c = (c.requires.0, counted_copies c.args.base _ c.requires.0 c.args.parts.items c.requires.1.parts, c.requires.1.word)

pub swap_remove-requires : goal.swap_remove-requires
swap_remove-requires c =
    let one : c.in-Some-eq1.field-0 ≡ 1 = search rules in
    let e : c.args.max ≡ Some 1 = c.in-Some-eq1.is ∙ ap Some one in
    let n : length c.args.parts.items ≡ 1 = copies_count c.args.base _ c.requires.0 c.args.parts.items c.requires.1.parts ∙ ap (copies c.args.min) e in
    omega (arith, n, c.args.parts.ok.0)

pub returns-in-Some-eq1 : goal.returns-in-Some-eq1
returns-in-Some-eq1 c = λ tree are.
    let one : c.in-Some-eq1.field-0 ≡ 1 = search rules in
    let e : c.args.max ≡ Some 1 = c.in-Some-eq1.is ∙ ap Some one in
    once_sets tree c.args.base c.args.min c.args.max c.args.parts.items c.swap_remove.result e are c.swap_remove.ensures.value

pub returns-in_ok-copies-in-Some : goal.returns-in_ok-copies-in-Some
returns-in_ok-copies-in-Some c = λ tree are.
    let joined = c.in_ok-copies-in-Some.ensures tree (counted_copies c.args.base _ tree c.args.parts.items are.parts) are.word in
    let e : length c.args.parts.items ≡ c.in-Some.field-0 = copies_count c.args.base _ tree c.args.parts.items are.parts ∙ ap (copies c.args.min) c.in-Some.is in
    let j = rw e at joined in
    bounded_sets tree c.args.base c.args.min c.in-Some.field-0 c.args.max c.in_ok-copies-in-Some.copies.whole c.within.result c.in_ok-copies-in-Some.copies.ends
    c.in-Some.is are.rounds are.word j.sets j.ends j.ends_rise c.within.ensures.sets
