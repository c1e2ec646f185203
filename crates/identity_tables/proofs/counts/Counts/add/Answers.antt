use Rattle.std.proofs.Common.{arith, sym, ◌∙◌, ap, unwrap_or}
use Rattle.std.proofs.lemmas.Map.Steps.{lookup-le-sum}
use Rattle.identity_tables.proofs.Tally.{tallied_more}
use Rattle.identity_tables.proofs.counts.Counts.add.Goals as goal

pub overflow_add-before : goal.overflow_add-before
overflow_add-before g c =
    let few = lookup-le-sum (g.K.PartialEq.eq c.args.key) c.self.inside.counts.entries in
    let total = c.self.invariant.total_is in
    omega arith

pub invariant_of-self-2 : goal.invariant_of-self-2
invariant_of-self-2 g c =
    let e = c.in_ok-insert.ensures in
    tallied_more g.K.PartialEq.eq c.self.inside.counts c.insert.new.self c.args.key c.self.inside.total c.count_in-before.result c.in_ok-insert.field-0 e.old (c.count_in-before.ensures ∙ ap (λ o. unwrap_or o 0) (sym e.old)) e.entries e.unique c.self.invariant

pub returns-clause-sound : goal.returns-clause-sound
returns-clause-sound g c =
    let e = c.in_ok-insert.ensures in
    (tallied_more g.K.PartialEq.eq c.self.inside.counts c.insert.new.self c.args.key c.self.inside.total c.count_in-before.result c.in_ok-insert.field-0 e.old (c.count_in-before.ensures ∙ ap (λ o. unwrap_or o 0) (sym e.old)) e.entries e.unique c.self.invariant).counts_are
