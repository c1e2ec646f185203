use Rattle.std.proofs.Common.{◌||◌, ap, ◌∙◌, sym}
use Rattle.std.specs.List.{list_any}
use Rattle.std.proofs.lemmas.Result.{on_ok_weaker}
use Rattle.identity_constraints.specs.Targets.{is_misused, is_nillable}
use Rattle.path_walk.specs.declared.nodes.FieldNodes.{FieldNodes}
use Rattle.path_walk.specs.inside.Extended.{extended}
use Rattle.path_walk.proofs.Extending.{sequence_more, any_more}
use Rattle.path_walk.proofs.tuples.TargetOutcome.add.Goals as goal

pub returns : goal.returns
returns c =
    on_ok_weaker c.extend.result
    (λ e t fields nodes sums is.
    let key = ap (λ (n : FieldNodes). n.key) sums in
    let misused = ap (λ (n : FieldNodes). n.misused) sums in
    let nillable = ap (λ (n : FieldNodes). n.nillable) sums in
    record {
      tuple_is = e ∙ (λ i. extended (is.tuple_is i) (key i)) ∙ sym (sequence_more fields nodes);
      misused_is = c.either-misused.ensures ∙ (λ i. is.misused_is i || misused i) ∙ sym (any_more (is_misused t) fields nodes);
      nillable_is = c.either-nillable.ensures ∙ (λ i. is.nillable_is i || nillable i) ∙ sym (any_more (list_any (is_nillable t)) fields nodes);
    })
    c.extend.ensures
