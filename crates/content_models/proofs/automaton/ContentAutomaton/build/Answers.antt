use Rattle.content_models.proofs.AllLaws.{limited-none}
use Rattle.content_models.proofs.automaton.ContentAutomaton.build.Goals as goal

pub build_states-requires-clause-no_all : goal.build_states-requires-clause-no_all
build_states-requires-clause-no_all c = limited-none c.args.source.parts.now c.args.p c.in-None.ensures.none c.requires.limited
