use Rattle.std.proofs.Common.{ap, refl}
use Rattle.edit_history.specs.Turns.{turn}
use Rattle.edit_history.specs.declared.touch.Key.TheVariants.{Node, List as Children}
use Rattle.edit_history.proofs.Tables.{both_sides, noted_all, IsTouchedAt, at_some, at_none}
use Rattle.edit_history.proofs.turns.Turns.note.Goals as goal
use Rattle.edit_history.proofs.turns.Turns.note.Goals.{in-Some, in_default}

pub returns-in-Some-list-clause-log : goal.returns-in-Some-list-clause-log
returns-in-Some-list-clause-log c =
    let old = c.args.self.now.touches in
    let mid = c.match-keys.self.touches in
    let new = c.touch-in-Some-list.new.self.touches in
    let keys = c.args.keys.now in
    let node : IsTouchedAt old mid Node c.args.author c.args.revision keys.node =
    elim c.match-keys.branch [
      | in-Some w ↦ at_some old mid Node c.args.author c.args.revision keys.node w.in-Some.node w.in-Some.is (rw w.self-is w.touch.ensures.touches)
      | in_default w ↦ at_none old mid Node c.args.author c.args.revision keys.node w.in_default.is (ap (λ t. t.touches) w.self-is)
    ] in
    let list = at_some mid new Children c.args.author c.args.revision keys.list c.in-Some-list.list c.in-Some-list.is c.touch-in-Some-list.ensures.touches in
    noted_all old new (turn c.args.revision c.args.author keys) (both_sides old mid new c.args.author c.args.revision keys node list) c.requires.later

pub returns-in_default-list-clause-log : goal.returns-in_default-list-clause-log
returns-in_default-list-clause-log c =
    let old = c.args.self.now.touches in
    let mid = c.match-keys.self.touches in
    let keys = c.args.keys.now in
    let node : IsTouchedAt old mid Node c.args.author c.args.revision keys.node =
    elim c.match-keys.branch [
      | in-Some w ↦ at_some old mid Node c.args.author c.args.revision keys.node w.in-Some.node w.in-Some.is (rw w.self-is w.touch.ensures.touches)
      | in_default w ↦ at_none old mid Node c.args.author c.args.revision keys.node w.in_default.is (ap (λ t. t.touches) w.self-is)
    ] in
    let list = at_none mid mid Children c.args.author c.args.revision keys.list c.in_default-list.is refl in
    noted_all old mid (turn c.args.revision c.args.author keys) (both_sides old mid mid c.args.author c.args.revision keys node list) c.requires.later
