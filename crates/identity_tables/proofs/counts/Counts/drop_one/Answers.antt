use Rattle.std.proofs.Common.{◌-◌, ◌≤◌, sym, ◌∙◌, ap, unwrap_or, arith}
use Rattle.identity_tables.proofs.Tally.{tallied_without, tallied_less}
use Rattle.identity_tables.proofs.counts.Counts.drop_one.Goals as goal

pub invariant_of-self : goal.invariant_of-self
invariant_of-self g c =
    tallied_without g.K.PartialEq.eq c.self.inside.counts c.remove.new.self (g.K.PartialEq.eq c.args.key.now) c.self.inside.total (sym c.count_in.ensures ∙ c.if-count_in-eq1.true) c.remove.ensures.entries c.remove.ensures.unique c.self.invariant

pub invariant_of-self-in-Some : goal.invariant_of-self-in-Some
invariant_of-self-in-Some g c =
    let found = sym c.in-Some.ensures.value in
    let count = c.count_in.ensures ∙ ap (λ o. unwrap_or o 0) found in
    let not_one = c.if-count_in-eq1.false in
    let some = rw (← c.self.view_is) at c.requires in
    let present = c.count_in.ensures in
    tallied_less g.K.PartialEq.eq c.self.inside.counts _ (g.K.PartialEq.eq c.args.key.now) c.self.inside.total c.in-Some.count.now found (let many : 2 ≤ c.in-Some.count.now = grind arith in many) (c.get_mut.follows.holds (c.in-Some.count.now - 1)) c.self.invariant

pub returns-then-count_in-eq1-clause-sound : goal.returns-then-count_in-eq1-clause-sound
returns-then-count_in-eq1-clause-sound g c =
    (tallied_without g.K.PartialEq.eq c.self.inside.counts c.remove.new.self (g.K.PartialEq.eq c.args.key.now) c.self.inside.total (sym c.count_in.ensures ∙ c.if-count_in-eq1.true) c.remove.ensures.entries c.remove.ensures.unique c.self.invariant).counts_are

pub returns-in-Some-clause-sound : goal.returns-in-Some-clause-sound
returns-in-Some-clause-sound g c =
    let found = sym c.in-Some.ensures.value in
    let count = c.count_in.ensures ∙ ap (λ o. unwrap_or o 0) found in
    let not_one = c.if-count_in-eq1.false in
    let some = rw (← c.self.view_is) at c.requires in
    let present = c.count_in.ensures in
    (tallied_less g.K.PartialEq.eq c.self.inside.counts _ (g.K.PartialEq.eq c.args.key.now) c.self.inside.total c.in-Some.count.now found (let many : 2 ≤ c.in-Some.count.now = grind arith in many) (c.get_mut.follows.holds (c.in-Some.count.now - 1)) c.self.invariant).counts_are
