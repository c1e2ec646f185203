use Rattle.std.proofs.Common.{◌∙◌, ap, ◌++◌, ◌∷◌, [], arith}
use Rattle.schema_models.proofs.FoundLaws.{meeting-first, popped-there, meeting-more, meeting-less, meeting-all}
use Rattle.schema_models.proofs.found.find_parts.Goals as goal

pub loop-id-init : goal.loop-id-init
loop-id-init c = meeting-first c.args.parts.now c.requires.ranked c.args.root c.requires.there _ _ c.new-found.ensures.empty (c.in_ok-push.ensures.items ∙ ap (λ xs. xs ++ c.args.root ∷ []) c.new-todo.ensures.items)

pub visit-requires-clause-there : goal.visit-requires-clause-there
visit-requires-clause-there c = popped-there c.args.parts.now c.requires.ranked c.args.root c.in-Some.id c.loop-id.found.keys c.loop-id.found.keys c.loop-id.todo.items c.pop.new.self.items c.loop-id.todo.items c.loop-id.invariant c.in-Some.ensures.items

pub loop-id-smaller : goal.loop-id-smaller
loop-id-smaller c =
    meeting-less c.args.parts.now c.requires.ranked c.args.root c.in-Some.id c.loop-id.found.keys c.visit.new.found.keys c.loop-id.todo.items c.pop.new.self.items c.visit.new.todo.items c.loop-id.invariant c.in-Some.ensures.items c.in_ok-visit.ensures

pub loop-id-preserved : goal.loop-id-preserved
loop-id-preserved c =
    meeting-more c.args.parts.now c.requires.ranked c.args.root c.in-Some.id c.loop-id.found.keys c.visit.new.found.keys c.loop-id.todo.items c.pop.new.self.items c.visit.new.todo.items c.loop-id.invariant c.in-Some.ensures.items c.in_ok-visit.ensures

pub returns : goal.returns
returns c = meeting-all c.args.parts.now c.requires.ranked c.args.root c.loop-id.found.keys c.loop-id.todo.items (omega (arith, c.in_default.ensures.cases.0, c.loop-id.todo.ok.0)) c.loop-id.invariant
