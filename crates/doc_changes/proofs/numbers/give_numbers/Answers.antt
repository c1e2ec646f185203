use Rattle.std.proofs.Common.{◌<◌, refl, subst, arith}
use Rattle.doc_changes.proofs.Placing.{one_more}
use Rattle.doc_changes.proofs.numbers.give_numbers.Goals as goal

pub numbers-init : goal.numbers-init
numbers-init c = record { more = omega arith; within = c.requires; same = λ m. refl }

pub numbers-preserved : goal.numbers-preserved
numbers-preserved c =
    one_more c.args.links.now c.numbers.links c.add_number.new.self c.args.until c.numbers.invariant (subst (λ n. n < c.args.until) c.next_free.ensures.next c.numbers-test.true) c.in_ok-add_number.ensures.ok
