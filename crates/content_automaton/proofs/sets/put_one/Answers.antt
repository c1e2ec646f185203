use Rattle.std.proofs.Common.{true, false, sym, ◌∙◌}
use Rattle.std.proofs.lemmas.List.{length-set, get_or_default}
use Rattle.content_automaton.proofs.Marking.{listed_there, listed_new, listed_more}
use Rattle.content_automaton.proofs.sets.put_one.Goals as goal

pub returns-then-index-clause-members : goal.returns-then-index-clause-members
returns-then-index-clause-members c = listed_there c.args.flags.now.items c.args.list.now.items c.args.number c.requires.listed
    (get_or_default c.args.flags.now.items c.args.number false c.index.result.now c.requires.fits ∙ (sym c.index.ensures ∙ c.if-index.true))

pub returns-clause-members : goal.returns-clause-members
returns-clause-members c = listed_new c.args.flags.now.items c.args.list.now.items c.args.number c.requires.listed c.push.new.self.items c.in_ok-push.ensures.items

pub returns-clause-listed : goal.returns-clause-listed
returns-clause-listed c =
    listed_more c.args.flags.now.items c.args.list.now.items c.args.number c.requires.listed c.push.new.self.items c.in_ok-push.ensures.items c.requires.fits
