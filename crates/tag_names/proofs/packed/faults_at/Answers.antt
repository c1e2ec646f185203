use Rattle.std.proofs.Common.{◌+◌, ◌++◌, map, drop, sym, ap, ◌∙◌, arith}
use Rattle.std.proofs.lemmas.List.{drop_more, drop_all}
use Rattle.std.specs.Option.{option_copied}
use Rattle.tag_names.specs.Packed.{line_at}
use Rattle.tag_names.specs.Scopes.{own_of}
use Rattle.tag_names.specs.Seen.{faults_with}
use Rattle.tag_names.proofs.packed.faults_at.Goals as goal

pub loop-spot-preserved : goal.loop-spot-preserved
loop-spot-preserved c =
    let scope = own_of (option_copied c.args.own) ++ c.args.scope.now in
    let text = c.args.text.now in
    let spots = c.args.spots.now in
    let i = c.loop-spot.spot-index in
    c.in_ok-take_at.ensures (map (line_at text) (drop (i + 1) spots))
    ∙ ap (λ left. faults_with scope c.loop-spot.seen (map (line_at text) left)) (sym (drop_more spots i _ c.loop-spot-test.true)) ∙ c.loop-spot.invariant

pub returns : goal.returns
returns c =
    let scope = own_of (option_copied c.args.own) ++ c.args.scope.now in
    let text = c.args.text.now in
    let spots = c.args.spots.now in
    let i = c.loop-spot.spot-index in
    c.faults.ensures scope
    ∙ ap (λ left. faults_with scope c.loop-spot.seen (map (line_at text) left)) (sym (drop_all i spots (omega (arith, c.loop-spot-test.false)))) ∙ c.loop-spot.invariant
