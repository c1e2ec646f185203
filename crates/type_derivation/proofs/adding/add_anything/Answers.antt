use Rattle.std.proofs.Common.{◌≡◌, ◌+◌, length, Some}
use Rattle.type_derivation.specs.Particles.{IsAnything}
use Rattle.type_derivation.specs.Filled.{with_particle}
use Rattle.type_derivation.specs.inside.Filling.{Adds}
use Rattle.type_derivation.proofs.GrowLaws.{if-two, adds-any, is-anything}
use Rattle.type_derivation.proofs.FilledLaws.{on-ok, if-ok, alone-is, behind-one}
use Rattle.type_derivation.proofs.adding.add_anything.Goals as goal

pub returns-clause-anything : goal.returns-clause-anything
returns-clause-anything c =
    let t1 = c.add_particle.new.self in
    if-two c.add_ranked.result (λ id. id ≡ length t1.particles.parts) (λ _. c.add_ranked.new.parts ≡ with_particle t1 c.in_ok-part.part c.in_ok-rank.rank) (λ id. IsAnything c.add_ranked.new.parts c.args.at id)
    (λ id number table. is-anything c.args.parts.now t1 c.add_ranked.new.parts c.args.at c.in_ok-any.any id c.in_ok-rank.rank c.anything.result c.in_ok-part.part c.requires.ranked c.in_ok-any.ensures.number
    c.in_ok-any.ensures.table c.anything.ensures c.rank_above.ensures.alike c.in_ok-rank.ensures.above c.in_ok-part.ensures number table)
    c.add_ranked.ensures.number c.add_ranked.ensures.table

pub returns-clause-added : goal.returns-clause-added
returns-clause-added c =
    let t1 = c.add_particle.new.self in
    if-two c.add_ranked.result (λ id. id ≡ length t1.particles.parts) (λ _. c.add_ranked.new.parts ≡ with_particle t1 c.in_ok-part.part c.in_ok-rank.rank) (λ id. Adds c.args.parts.now c.add_ranked.new.parts (Some id))
    (λ id number table. adds-any c.args.parts.now t1 c.add_ranked.new.parts c.args.at c.in_ok-any.any id c.in_ok-rank.rank c.anything.result c.in_ok-part.part c.requires.ranked c.in_ok-any.ensures.number
    c.in_ok-any.ensures.table c.anything.ensures c.rank_above.ensures.alike c.in_ok-rank.ensures.above c.in_ok-part.ensures number table)
    c.add_ranked.ensures.number c.add_ranked.ensures.table

pub returns-clause-number : goal.returns-clause-number
returns-clause-number c =
    let t1 = c.add_particle.new.self in
    if-ok c.add_ranked.result (λ id. id ≡ length t1.particles.parts) (λ id. id ≡ length c.args.parts.now.particles.parts + 1)
    (λ id is. behind-one c.args.parts.now t1 c.anything.result id c.in_ok-any.ensures.table is) c.add_ranked.ensures.number

pub returns-clause-filled : goal.returns-clause-filled
returns-clause-filled c =
    on-ok c.add_ranked.result
    (alone-is c.args.parts.now c.add_particle.new.self c.add_ranked.new.parts c.args.at c.in_ok-any.any c.in_ok-rank.rank c.anything.result c.in_ok-part.part c.in_ok-any.ensures.number c.in_ok-any.ensures.table
    c.anything.ensures c.in_ok-rank.ensures.least c.in_ok-part.ensures)
    c.add_ranked.ensures.table
