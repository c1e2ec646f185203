use Rattle.std.proofs.Common.{◌∷◌, ◌++◌, ap, ◌∙◌}
use Rattle.std.specs.Option.{option_copied}
use Rattle.tag_names.specs.Packed.{line_at}
use Rattle.tag_names.specs.Scopes.{own_of}
use Rattle.tag_names.specs.Seen.{faults_with}
use Rattle.tag_names.proofs.packed.take_at.Goals as goal

pub returns : goal.returns
returns c more =
    let scope = own_of (option_copied c.args.own) ++ c.args.scope.now in
    let value = (line_at c.args.text.now c.args.spot.now).value in
    c.in_ok-take.ensures value more ∙ ap (λ name. faults_with scope c.args.seen.now (record { name = name; value = value } ∷ more)) c.name_at.ensures
