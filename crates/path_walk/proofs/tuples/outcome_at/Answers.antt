use Rattle.std.proofs.Common.{◌≡◌, ◌∷◌, ◌++◌, [], List, map, sym, ap, subst, ◌∙◌, append_assoc, append-nil}
use Rattle.std.proofs.lemmas.List.{map-append}
use Rattle.xpath_subset.specs.declared.path.Path.{Path}
use Rattle.identity_constraints.specs.Targets.{FieldNode, field_nodes}
use Rattle.path_walk.specs.inside.Walk.{reached}
use Rattle.path_walk.specs.inside.Extended.{AreFieldsOf}
use Rattle.path_walk.proofs.Looking.{no_items}
use Rattle.path_walk.proofs.Extending.{outcome_of_fields}
use Rattle.path_walk.proofs.tuples.outcome_at.Goals as goal

pub fields-preserved : goal.fields-preserved
fields-preserved g c =
    let names = c.args.set.now.names.now in
    let t = c.args.set.now.parts.now in
    let inv = c.fields.invariant in
    let field = c.in-Some.field.now in
    record {
      done = inv.done ++ field ∷ [];
      all = inv.all ∙ ap (λ xs. inv.done ++ xs) c.in-Some.ensures.cases.0 ∙ sym (append_assoc inv.done (field ∷ []) c.in-Some.more.now);
      outcome_is = λ own below next is.
          let nodes = λ (f : List Path). field_nodes names f (reached [] own below) in
          subst (λ (fs : List (List FieldNode)). AreFieldsOf t fs c.add.new.self) (sym (map-append nodes inv.done (field ∷ [])))
          (c.in_ok-add.ensures t (map nodes inv.done) (nodes field) (c.in_ok-nodes.ensures own below next is) (inv.outcome_is own below next is));
    }

pub returns : goal.returns
returns g c = λ own below next is.
    let names = c.args.set.now.names.now in
    let t = c.args.set.now.parts.now in
    let inv = c.fields.invariant in
    let nodes = λ (f : List Path). field_nodes names f (reached [] own below) in
    let all : c.args.fields.now ≡ inv.done = inv.all ∙ ap (λ xs. inv.done ++ xs) (no_items c.fields.left.now c.in_default.ensures.cases) ∙ append-nil inv.done in
    outcome_of_fields t (map nodes c.args.fields.now) c.fields.outcome
    (subst (λ (fs : List (List Path)). AreFieldsOf t (map nodes fs) c.fields.outcome) (sym all) (inv.outcome_is own below next is))
