use Rattle.std.proofs.Common.{◌≡◌, ◌+◌, ◌*◌, ◌<◌, ◌∷◌, ◌++◌, [], ◌∙◌, length, max, List, replicate, ap, subst, sym, arith}
use Rattle.map_rows.specs.Piece.{Piece}
use Rattle.map_rows.specs.Free.{Takes}
use Rattle.map_rows.proofs.Taking.{Takes_new}
use Rattle.map_rows.proofs.spare.Spare.take_new.Goals as goal

pub returns-clause-ok : goal.returns-clause-ok
returns-clause-ok c = λ marks a.
    let bs = c.args.blocks.now.items in
    let sp = c.args.self.now in
    let stride = max c.args.width 2 in
    let p = c.in_ok-zeros.field-0 in
    let few : length bs < 4194303 = (let e = c.len.ensures in let o = c.args.blocks.now.ok.0 in let l = c.if-len-ge-MOST_BLOCKS.false in omega (arith, e, o, l)) in
    let z = c.in_ok-zeros.ensures ∙ ap (λ k. replicate (sp.next_rows * k) 0) c.stride.ensures in
    let items : c.push.new.self.items ≡ bs ++ p ∷ [] = c.in_ok-push.ensures.items in
    subst (λ k. Takes bs c.push.new.self.items stride marks (record { free = sp.free; unused = record { start = k * 1024 + 1; end = k * 1024 + sp.next_rows }; next_rows = c.min-self.result }) (k * 1024)) (sym (c.len-2.ensures ∙ c.args.blocks.now.ok.0))
    (subst (λ (new : List Piece). Takes bs new stride marks (record { free = sp.free; unused = record { start = length bs * 1024 + 1; end = length bs * 1024 + sp.next_rows }; next_rows = c.min-self.result }) (length bs * 1024)) (sym items)
    (Takes_new bs p stride marks sp c.min-self.result a few z c.min-self.ensures))
