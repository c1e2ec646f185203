use Rattle.type_derivation.proofs.GrowLaws.{ranked-last}
use Rattle.type_derivation.proofs.adding.add_ranked.Goals as goal

pub returns-clause-table : goal.returns-clause-table
returns-clause-table c =
    ranked-last c.args.parts.now c.add_particle.new.self c.rank_particle.new.self c.args.part c.in_ok-id.id c.args.rank c.requires.alike c.in_ok-id.ensures.number c.in_ok-id.ensures.table c.rank_particle.ensures.ranked
