use Rattle.std.proofs.Common.{◌≡◌, ◌∙◌, sym, subst, true}
use Rattle.std.specs.Prelude.{nat_eq}
use Rattle.std.specs.List.{list_any}
use Rattle.particle_models.proofs.Entering.{when_ok}
use Rattle.particle_forms.proofs.MadeLaws.{inserted}
use Rattle.schema_models.proofs.FoundLaws.{visit-again, visit-never, visit-always}
use Rattle.schema_models.proofs.found.visit.Goals as goal

pub returns-then-contains : goal.returns-then-contains
returns-then-contains c =
    visit-again c.args.parts.now c.requires.ranked c.args.id c.args.found.now.keys c.args.todo.now.items
    (subst (λ n. list_any (nat_eq n) c.args.found.now.keys ≡ true) c.number.ensures (sym c.contains.ensures ∙ c.if-contains.true))

pub returns-then-is_never : goal.returns-then-is_never
returns-then-is_never c =
    visit-never c.args.parts.now c.requires.ranked c.args.id c.args.found.now.keys c.args.todo.now.items _ c.particle.ensures.part c.insert.new.self.keys
    (inserted c.args.found.now.keys c.insert.new.self.keys c.number.result c.number-2.result c.args.id c.contains.result c.number.ensures c.number-2.ensures c.contains.ensures c.if-contains.false c.in_ok-insert.ensures.keys)
    (sym c.is_never.ensures ∙ c.if-is_never.true)

pub returns : goal.returns
returns c =
    when_ok c.push_parts.result _ _ c.push_parts.ensures
    (λ f. visit-always c.args.parts.now c.requires.ranked c.args.id c.args.found.now.keys c.args.todo.now.items _ c.particle.ensures.part c.insert.new.self.keys
    (inserted c.args.found.now.keys c.insert.new.self.keys c.number.result c.number-2.result c.args.id c.contains.result c.number.ensures c.number-2.ensures c.contains.ensures c.if-contains.false c.in_ok-insert.ensures.keys)
    (sym c.is_never.ensures ∙ c.if-is_never.false) c.push_parts.new.todo.items f)
