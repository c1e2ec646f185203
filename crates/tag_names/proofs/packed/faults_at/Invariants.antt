use Rattle.std.proofs.Common.{◌≡◌, ◌++◌, map, drop}
use Rattle.std.specs.Option.{option_copied}
use Rattle.tag_names.specs.Packed.{line_at}
use Rattle.tag_names.specs.Scopes.{own_of}
use Rattle.tag_names.specs.Seen.{faults_with, line_faults}
use Rattle.tag_names.proofs.packed.faults_at.Given as goal

abbrev pub invariant-loop-spot : goal.invariant-loop-spot
invariant-loop-spot l =
    faults_with (own_of (option_copied l.own) ++ l.scope) l.seen (map (line_at l.text) (drop l.spot-index l.spots))
    ≡ line_faults (own_of (option_copied l.own) ++ l.scope) (map (line_at l.text) l.spots)
