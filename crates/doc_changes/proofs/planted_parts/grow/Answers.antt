use Rattle.std.proofs.Common.{◌≡◌, ℕ, ◌≤◌, length, sym, ap, ◌∙◌, subst, arith}
use Rattle.doc_nodes.specs.Nodes.{node, IsSound}
use Rattle.doc_changes.specs.inside.Growing.{numbered_by, before, one_of, CanPlant, Planted}
use Rattle.doc_changes.proofs.Placing.{can_grown, within_grown, grown, on_err}
use Rattle.doc_changes.proofs.planted_parts.grow.Goals as goal

pub give_numbers-requires : goal.give_numbers-requires
give_numbers-requires c = let n = c.requires.can.numbers in omega (arith, n)

pub put_one-requires-clause-can : goal.put_one-requires-clause-can
put_one-requires-clause-can c =
    let g = c.in_ok-give_numbers.ensures in let f = one_of c.args.row.now c.args.children in
    subst (λ k. CanPlant c.give_numbers.new.links c.args.spot.parent (numbered_by k f)) (sym c.next_free-first.ensures.next)
    (can_grown c.args.links.now c.give_numbers.new.links c.args.spot.parent c.args.spot.place c.args.until f c.requires.can g.nodes g.size g.sound)

pub put_one-requires-clause-within : goal.put_one-requires-clause-within
put_one-requires-clause-within c =
    let g = c.in_ok-give_numbers.ensures in
    within_grown c.args.links.now c.give_numbers.new.links c.args.spot.parent c.args.spot.place c.args.until (one_of c.args.row.now c.args.children) c.requires.can g.nodes g.size g.sound

pub returns-in_err-put_one-clause-more : goal.returns-in_err-put_one-clause-more
returns-in_err-put_one-clause-more c = subst (λ ns. length c.args.links.now ≤ length ns) (sym c.in_err-put_one.ensures.err) c.in_ok-give_numbers.ensures.more

pub returns-in_err-put_one-clause-same : goal.returns-in_err-put_one-clause-same
returns-in_err-put_one-clause-same c =
    let same : (m : ℕ) → node c.put_one.new.links m ≡ node c.args.links.now m = λ m. ap (λ ns. node ns m) c.in_err-put_one.ensures.err ∙ c.in_ok-give_numbers.ensures.nodes m in on_err _ same

pub returns-in_err-put_one-clause-sound : goal.returns-in_err-put_one-clause-sound
returns-in_err-put_one-clause-sound c = subst IsSound (sym c.in_err-put_one.ensures.err) c.in_ok-give_numbers.ensures.sound

pub returns-clause-plants : goal.returns-clause-plants
returns-clause-plants c =
    let g = c.in_ok-give_numbers.ensures in let f = one_of c.args.row.now c.args.children in
    grown c.args.links.now c.give_numbers.new.links c.args.spot.parent c.args.spot.place c.args.until f c.requires.can g.nodes g.size g.sound c.put_one.new.names c.put_one.new.links
    (subst (λ k. Planted c.put_one.new.names c.give_numbers.new.links c.put_one.new.links c.args.spot.parent (before c.args.spot.place) (numbered_by k f)) c.next_free-first.ensures.next c.in_ok-put_one.ensures.planted)

pub returns-clause-more : goal.returns-clause-more
returns-clause-more c = let a = c.in_ok-put_one.ensures.planted.size in let b = c.in_ok-give_numbers.ensures.more in omega (arith, a, b)

pub returns-clause-sound : goal.returns-clause-sound
returns-clause-sound c = c.in_ok-put_one.ensures.planted.sound
