use Rattle.std.proofs.Common.{◌<◌, subst, Some}
use Rattle.std.specs.Option.{option_map}
use Rattle.std.proofs.lemmas.List.{length-map}
use Rattle.kept_slots.proofs.Reading.{seen-set}
use Rattle.kept_slots.proofs.slots.Slots.put.Goals as goal

pub returns-clause-change : goal.returns-clause-change
returns-clause-change g c =
    let within = rw (← c.self.view_is) at c.requires in
    let lt = subst (λ n. c.args.number < n) (length-map c.self.inside.slots.items (option_map (λ kept. kept.value))) within in
    rw (← c.self.view_is, c.replace.ensures.after) (seen-set (λ kept. kept.value) c.self.inside.slots.items c.args.number (Some c.args.kept) lt)
