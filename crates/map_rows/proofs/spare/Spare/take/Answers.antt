use Rattle.std.proofs.Common.{◌+◌, ◌∙◌, max, ap}
use Rattle.map_rows.specs.Places.{number, link_of, block_of}
use Rattle.map_rows.proofs.Chains.{Takes_chain, first_fits}
use Rattle.map_rows.proofs.spare.Spare.take.Goals as goal

pub find-requires : goal.find-requires
find-requires c =
    let bs = c.args.blocks.now.items in
    let stride = max c.args.width 2 in
    rw c.deref-in-Some.ensures.value (first_fits bs stride c.requires.0 c.args.self.now c.in-Some.row c.requires.1 c.in-Some.is).0.0

pub returns-in-Some-clause-ok : goal.returns-in-Some-clause-ok
returns-in-Some-clause-ok c = λ marks a.
    let bs = c.args.blocks.now.items in
    let stride = max c.args.width 2 in
    let p = c.find.result in
    let told = c.read_link-self.ensures ∙ ap (λ l. link_of (number l p.block p.start) (number l p.block (p.start + 1))) c.deref.ensures.value
    ∙ ap (λ k. link_of (number bs k p.start) (number bs k (p.start + 1))) c.find.ensures.block
    ∙ ap (λ k. link_of (number bs (block_of c.in-Some.row) k) (number bs (block_of c.in-Some.row) (k + 1))) c.find.ensures.start in
    Takes_chain bs stride marks c.args.self.now c.read_link-self.result c.in-Some.row a c.in-Some.is told
