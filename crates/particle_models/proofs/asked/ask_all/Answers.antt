use Rattle.std.proofs.Common.{ℕ, ◌<◌, true, length, get_or, ◌∙◌, arith}
use Rattle.std.proofs.lemmas.List.{length-set}
use Rattle.particle_models.proofs.Asking.{asked_kept, asked_more, asked_done}
use Rattle.particle_models.proofs.asked.ask_all.Goals as goal

pub loop-member-preserved : goal.loop-member-preserved
loop-member-preserved c =
    let i = c.loop-member.member-index in
    let m = get_or c.args.members.now i 0 in
    let there : m < length c.loop-member.asked.items = let b = c.requires i 0 c.loop-member-test.true in let k = c.loop-member.invariant.count in omega arith in
    record {
      asks = asked_more c.loop-member.asked.items c.args.members.now i c.loop-member-test.true there c.loop-member.invariant.asks;
      kept = λ n h. asked_kept c.loop-member.asked.items m there n (c.loop-member.invariant.kept n h);
      count = length-set c.loop-member.asked.items m true ∙ c.loop-member.invariant.count;
    }

pub returns-clause-asks : goal.returns-clause-asks
returns-clause-asks c = asked_done c.loop-member.asked.items c.args.members.now c.loop-member.member-index c.loop-member-test.false c.loop-member.invariant.asks
