use Rattle.std.proofs.Common.{Bool, ◌++◌, [], map, if◌then◌else◌, sym, ap, ◌∙◌, append-nil}
use Rattle.path_walk.specs.inside.Walk.{reached}
use Rattle.scope_targets.specs.Found.{targeting_of}
use Rattle.scope_targets.specs.Targetings.{targeting_for}
use Rattle.scope_targets.proofs.targetings.add_first.Goals as goal

pub returns-then-is_among : goal.returns-then-is_among
returns-then-is_among g c = λ own below next is.
    let set = c.args.set.now in
    let r = reached c.args.from.now.way.now own below in
    let old = map targeting_of c.args.found.now.items in
    sym (append-nil old)
    ∙ ap (λ (b : Bool). old ++ (if b then [] else targeting_for set.names.now set.parts.now set.identities.now c.args.from.now.scope c.args.constraints.0 r)) (sym (sym c.is_among.ensures ∙ c.if-is_among.true))

pub returns : goal.returns
returns g c = λ own below next is.
    let set = c.args.set.now in
    let r = reached c.args.from.now.way.now own below in
    c.in_ok-add_target.ensures own below next is
    ∙ ap (λ (b : Bool). map targeting_of c.args.found.now.items ++ (if b then [] else targeting_for set.names.now set.parts.now set.identities.now c.args.from.now.scope c.args.constraints.0 r)) (sym (sym c.is_among.ensures ∙ c.if-is_among.false))
