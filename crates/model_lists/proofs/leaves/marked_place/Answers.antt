use Rattle.std.proofs.Common.{◌≡◌, ◌+◌, Some, sym, ap, ◌∙◌, arith}
use Rattle.model_lists.proofs.Marking.{is-at, marked-none, marked-some}
use Rattle.model_lists.proofs.leaves.marked_place.Goals as goal

pub returns-in_err-item : goal.returns-in_err-item
returns-in_err-item g c = rw c.from_residual.ensures (λ xs e. marked-none xs 0 c.args.number (c.in_err-item.ensures xs e))

pub place_of-requires : goal.place_of-requires
place_of-requires g c =
    let q = c.requires in
    let m = marked-some q.0 0 c.args.number c.in_ok-item.item (c.in_ok-item.ensures q.0 q.1) in
    (c.args.list, m.0, q.0, is-at c.args.seqs.now c.args.list m.0 c.in_ok-item.item q.0 q.1 m.2)

pub returns : goal.returns
returns g c = λ xs e.
    let m = marked-some xs 0 c.args.number c.in_ok-item.item (c.in_ok-item.ensures xs e) in
    let from_first : m.0 ≡ 0 + m.0 = omega arith in
    ap Some (c.place_of.ensures.place c.args.list m.0 xs (is-at c.args.seqs.now c.args.list m.0 c.in_ok-item.item xs e m.2) ∙ from_first) ∙ sym m.1
