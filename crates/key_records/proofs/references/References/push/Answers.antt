use Rattle.std.proofs.Common.{◌∷◌, ◌++◌, [], ℕ, List, Option, Some, refl, ap, ◌∙◌}
use Rattle.key_records.specs.declared.references.References.{References}
use Rattle.key_records.proofs.ReferenceLaws.{pushed-other, pushed-keyref}
use Rattle.key_records.proofs.references.References.push.Goals as goal

pub returns-in_default-clause-sound : goal.returns-in_default-clause-sound
returns-in_default-clause-sound c = pushed-other c.args.self.now (record c.args.self.now { keys = c.push.new.self }) c.requires c.in_ok-push.ensures.items (λ k. refl)

pub returns-clause-sound : goal.returns-clause-sound
returns-clause-sound c =
    let middle = c.add_keyref.new.self in
    let new : References = record middle { keys = c.push-2.new.self } in
    pushed-keyref c.args.self.now middle new c.in-Some.found c.len-number.result c.requires (c.len-number.ensures ∙ c.args.self.now.keys.ok.0) c.if-number-ge-MOST.false c.if-found-ge-MOST.false c.in_ok-add_keyref.ensures.keyrefs
    (c.in_ok-push-2.ensures.items ∙ ap (λ (xs : List (Option ℕ)). xs ++ Some c.in-Some.found ∷ []) c.in_ok-add_keyref.ensures.same) (λ k. refl)
