use Rattle.std.proofs.Common.{◌≡◌, ◌<◌, length, Some, slice_index, arith}
use Rattle.type_derivation.specs.Filled.{with_particle}
use Rattle.type_derivation.specs.inside.Filling.{Adds}
use Rattle.type_derivation.proofs.GrowLaws.{if-two, adds-pair}
use Rattle.type_derivation.proofs.FilledLaws.{on-ok, sequence-is}
use Rattle.type_derivation.proofs.adding.add_sequence.Goals as goal

pub returns-clause-added : goal.returns-clause-added
returns-clause-added c =
    let t = c.args.parts.now in
    let low_f : slice_index t.particles.ranks c.args.first < c.max.result = omega (arith, c.in_ok-above_first.ensures.above, c.max.ensures) in
    let low_s : slice_index t.particles.ranks c.args.second < c.max.result = omega (arith, c.in_ok-above_second.ensures.above, c.max.ensures) in
    if-two c.add_ranked.result (λ id. id ≡ length t.particles.parts) (λ _. c.add_ranked.new.parts ≡ with_particle t c.in_ok-part.part c.max.result) (λ id. Adds t c.add_ranked.new.parts (Some id))
    (λ id number table. adds-pair t c.add_ranked.new.parts c.args.at c.args.first c.args.second c.max.result id c.in_ok-part.part c.rank_above.ensures.alike c.requires.ranked
    c.requires.first c.requires.second low_f low_s c.in_ok-part.ensures number table)
    c.add_ranked.ensures.number c.add_ranked.ensures.table

pub returns-clause-filled : goal.returns-clause-filled
returns-clause-filled c =
    on-ok c.add_ranked.result
    (sequence-is c.args.parts.now c.add_ranked.new.parts c.args.at c.args.first c.args.second c.max.result c.in_ok-above_first.above_first c.in_ok-above_second.above_second c.in_ok-part.part c.in_ok-part.ensures
    c.in_ok-above_first.ensures.least c.in_ok-above_second.ensures.least c.max.ensures)
    c.add_ranked.ensures.table
