use Rattle.std.proofs.Common.{◌++◌, ◌∷◌, [], false, get_or, refl, ap, ◌∙◌}
use Rattle.xs_positions.specs.declared.measures.Measure.{Measure}
use Rattle.xs_positions.specs.declared.sets.Part.{Part}
use Rattle.xs_positions.proofs.Walking.{measured_at}
use Rattle.xs_positions.proofs.Tasks.{builds_one}
use Rattle.xs_positions.proofs.walk.Walk.build.Goals as goal

pub returns : goal.returns
returns c =
    let ns = c.args.nodes.now in
    let k : Measure = get_or c.args.measures.now c.index.result (record { size = 0; nullable = false; inhabited = false }) in
    let m = measured_at ns c.args.measures.now c.args.id c.index.result (record { size = 0; nullable = false; inhabited = false }) c.requires.measured c.requires.ready.known c.index.ensures in
    let p : Part = c.in_ok-part.part in
    let part : Part = record { first = p.first; last = p.last; follow = p.follow; useful = p.useful; loops = p.loops; nullable = k.nullable } in
    builds_one ns c.args.id c.args.base c.args.below c.args.self.now _ k part m c.requires.ready.fits c.in_ok-part.ensures refl
    (c.in_ok-push.ensures.items ∙ ap (λ l. l ++ part ∷ []) c.in_ok-parts.ensures.items) refl refl
