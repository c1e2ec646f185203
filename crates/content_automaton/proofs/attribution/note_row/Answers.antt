use Rattle.std.proofs.Common.{ℕ, ◌+◌, sym, subst, ◌∙◌, set, get_or, arith}
use Rattle.std.proofs.lemmas.List.{length-set}
use Rattle.content_automaton.specs.declared.rows.Entry.{Entry}
use Rattle.content_automaton.specs.declared.attribution.Attribution.{Attribution}
use Rattle.content_automaton.proofs.Noting.{AreNotedUpTo, entries_more, all_noted}
use Rattle.content_automaton.proofs.attribution.note_row.Goals as goal

pub loop-entry-preserved : goal.loop-entry-preserved
loop-entry-preserved c =
    let i : ℕ = c.loop-entry.entry-index in
    let d : Entry = record { symbol = 0; class = 0 } in
    record {
      noted = subst (λ (z : Attribution). AreNotedUpTo c.args.list.now.items (set c.loop-entry.list.items (get_or c.args.row.now i d).symbol z) c.args.term c.args.row.now (i + 1)) (sym c.with.ensures)
          (entries_more c.args.list.now.items c.loop-entry.list.items c.args.term c.args.row.now i d c.index.result.now c.loop-entry.invariant.noted c.loop-entry-test.true
          (let l = c.requires i d c.loop-entry-test.true in let k = c.loop-entry.invariant.count in omega arith) c.index.ensures);
      count = length-set c.loop-entry.list.items (get_or c.args.row.now i d).symbol c.with.result ∙ c.loop-entry.invariant.count;
    }

pub returns-clause-noted : goal.returns-clause-noted
returns-clause-noted c = all_noted c.args.list.now.items c.loop-entry.list.items c.args.term c.args.row.now c.loop-entry.entry-index c.loop-entry.invariant.noted c.loop-entry-test.false
