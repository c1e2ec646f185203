use Rattle.std.proofs.Common.{◌≡◌, ◌∙◌, sym, subst, true}
use Rattle.std.specs.Prelude.{nat_eq}
use Rattle.std.specs.List.{list_any}
use Rattle.particle_models.proofs.Entering.{when_ok}
use Rattle.particle_forms.proofs.MadeLaws.{visits-again, visits-new, inserted}
use Rattle.particle_forms.proofs.node_made.visit.Goals as goal

pub returns-then-contains : goal.returns-then-contains
returns-then-contains c =
    visits-again c.args.parts.now c.requires.ranked c.args.id c.args.found.now.keys c.args.todo.now.items
    (subst (λ n. list_any (nat_eq n) c.args.found.now.keys ≡ true) c.number.ensures (sym c.contains.ensures ∙ c.if-contains.true))

pub returns : goal.returns
returns c =
    when_ok c.push_parts.result _ _ c.push_parts.ensures
    (λ f. visits-new c.args.parts.now c.requires.ranked c.args.id c.args.found.now.keys c.args.todo.now.items c.insert.new.self.keys c.push_parts.new.todo.items
    (inserted c.args.found.now.keys c.insert.new.self.keys c.number.result c.number-2.result c.args.id c.contains.result c.number.ensures c.number-2.ensures c.contains.ensures c.if-contains.false c.in_ok-insert.ensures.keys) f)
