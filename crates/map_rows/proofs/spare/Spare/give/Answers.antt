use Rattle.std.proofs.Common.{◌≡◌, ◌+◌, max, subst, arith}
use Rattle.map_rows.specs.Places.{ChangesOnly, number, link_of, start_of}
use Rattle.map_rows.proofs.Chains.{AreSpare_give, first_fits}
use Rattle.map_rows.proofs.spare.Spare.give.Goals as goal

pub write_link-requires-clause-next : goal.write_link-requires-clause-next
write_link-requires-clause-next c = λ x e. (first_fits _ _ c.requires.0 c.args.self.now x c.requires.1 e).1

pub returns-clause-spare : goal.returns-clause-spare
returns-clause-spare c = λ marks a live.
    let stride = max c.args.width 2 in
    let new = c.write_link.new.blocks in
    let p = c.find-place.result in
    let only = subst (λ k. ChangesOnly c.args.blocks.now new k (start_of stride c.args.row) 2) c.find-place.ensures.block (subst (λ k. ChangesOnly c.args.blocks.now new p.block k 2) c.find-place.ensures.start c.write_link.ensures.frame) in
    let told = subst (λ k. link_of (number new k (start_of stride c.args.row)) (number new k (start_of stride c.args.row + 1)) ≡ c.args.self.now.free) c.find-place.ensures.block
    (subst (λ k. link_of (number new p.block k) (number new p.block (k + 1)) ≡ c.args.self.now.free) c.find-place.ensures.start c.write_link.ensures.link) in
    AreSpare_give c.args.blocks.now new stride c.args.row marks c.args.self.now a only (omega arith) live c.requires.3 told
