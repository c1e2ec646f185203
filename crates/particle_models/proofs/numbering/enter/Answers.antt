use Rattle.std.proofs.Common.{◌∙◌, sym, ap, refl, length}
use Rattle.particle_models.specs.Numbering.{State, outcome, all_entered}
use Rattle.particle_models.proofs.Walking.{none_entered, weight_less, term_fits, term_entered, each_entered, sequence_entered, choice_entered, sequence_weight, choice_weight, some_copy, occurs_entered, occurs_weight}
use Rattle.particle_models.proofs.Entering.{flag_read, empty_bound, on_ok, when_ok, sequence_within, choice_within}
use Rattle.particle_models.proofs.numbering.enter.Goals as goal

pub bounds-empty-id : goal.bounds-empty-id
bounds-empty-id c = empty_bound c.args.nodes.now c.args.empty.now c.args.id c.requires.empty c.requires.id

pub returns-then-empty-id-clause-outcome : goal.returns-then-empty-id-clause-outcome
returns-then-empty-id-clause-outcome c =
    ap (outcome c.args.nodes.now c.args.todo.now.items) (sym (none_entered c.args.nodes.now c.args.id c.args.todo.now.items c.args.numbering.now
    (flag_read c.args.nodes.now c.args.empty.now c.args.id _ _ c.requires.empty c.requires.id c.if-empty-id.true)))

pub returns-then-empty-id-clause-weight : goal.returns-then-empty-id-clause-weight
returns-then-empty-id-clause-weight c = weight_less c.args.nodes.now c.args.id c.args.todo.now.items c.args.numbering.now

pub add_term-requires : goal.add_term-requires
add_term-requires c =
    term_fits c.args.nodes.now c.args.id c.args.todo.now.items c.args.numbering.now c.index-nodes-id.result c.requires.ordered c.requires.id c.index-nodes-id.is _ c.in-Term.is c.requires.fits

pub overflow_sub-more : goal.overflow_sub-more
overflow_sub-more c =
    rw (c.unwrap_or-more.ensures, c.max.ensures) (some_copy c.args.nodes.now c.args.id c.args.todo.now.items c.args.numbering.now c.index-nodes-id.result c.requires.ordered c.requires.id c.index-nodes-id.is _ _ _ c.in-Occurs.is
    (flag_read c.args.nodes.now c.args.empty.now c.args.id _ _ c.requires.empty c.requires.id c.if-empty-id.false))

pub returns-in-Term-clause-outcome : goal.returns-in-Term-clause-outcome
returns-in-Term-clause-outcome c =
    when_ok c.add_term.result _ _ c.add_term.ensures
    (λ e. ap (outcome c.args.nodes.now c.args.todo.now.items) (e ∙ sym (term_entered c.args.nodes.now c.args.id c.args.todo.now.items c.args.numbering.now c.index-nodes-id.result c.requires.ordered c.requires.id c.index-nodes-id.is _ c.in-Term.is)))

pub returns-in-Term-clause-weight : goal.returns-in-Term-clause-weight
returns-in-Term-clause-weight c = on_ok c.add_term.result _ (weight_less c.args.nodes.now c.args.id c.args.todo.now.items c.args.numbering.now)

pub returns-in-Sequence-clause-todo : goal.returns-in-Sequence-clause-todo
returns-in-Sequence-clause-todo c =
    when_ok c.push_members.result _ _ c.push_members.ensures.within
    (λ f. f c.args.nodes.now (sequence_within c.args.nodes.now c.args.id c.index-nodes-id.result c.requires.ordered c.requires.id c.index-nodes-id.is _ _ c.in-Sequence.is c.as_slice.ensures) c.requires.todo)

pub returns-in-Sequence-clause-outcome : goal.returns-in-Sequence-clause-outcome
returns-in-Sequence-clause-outcome c =
    when_ok c.push_members.result _ _ c.push_members.ensures.outcome
    (λ f. f c.args.nodes.now c.args.numbering.now ∙ ap (outcome c.args.nodes.now c.args.todo.now.items) (ap (λ ms. all_entered c.args.nodes.now ms c.args.numbering.now) c.as_slice.ensures ∙
    sequence_entered c.args.nodes.now c.args.id c.args.todo.now.items c.args.numbering.now c.index-nodes-id.result c.requires.ordered c.requires.id c.index-nodes-id.is _ c.in-Sequence.is))

pub returns-in-Sequence-clause-weight : goal.returns-in-Sequence-clause-weight
returns-in-Sequence-clause-weight c =
    when_ok c.push_members.result _ _ c.push_members.ensures.weight
    (λ f. rw (f c.args.nodes.now, c.as_slice.ensures) (sequence_weight c.args.nodes.now c.args.id c.args.todo.now.items c.args.numbering.now c.index-nodes-id.result c.requires.ordered c.requires.id c.index-nodes-id.is _ c.in-Sequence.is))

pub returns-in-Choice-clause-todo : goal.returns-in-Choice-clause-todo
returns-in-Choice-clause-todo c =
    when_ok c.push_members-in-Choice.result _ _ c.push_members-in-Choice.ensures.within
    (λ f. f c.args.nodes.now (choice_within c.args.nodes.now c.args.id c.index-nodes-id.result c.requires.ordered c.requires.id c.index-nodes-id.is _ _ c.in-Choice.is c.as_slice-in-Choice.ensures) c.requires.todo)

pub returns-in-Choice-clause-outcome : goal.returns-in-Choice-clause-outcome
returns-in-Choice-clause-outcome c =
    when_ok c.push_members-in-Choice.result _ _ c.push_members-in-Choice.ensures.outcome
    (λ f. f c.args.nodes.now c.args.numbering.now ∙ ap (outcome c.args.nodes.now c.args.todo.now.items) (ap (λ ms. all_entered c.args.nodes.now ms c.args.numbering.now) c.as_slice-in-Choice.ensures ∙
    choice_entered c.args.nodes.now c.args.id c.args.todo.now.items c.args.numbering.now c.index-nodes-id.result c.requires.ordered c.requires.id c.index-nodes-id.is _ c.in-Choice.is))

pub returns-in-Choice-clause-weight : goal.returns-in-Choice-clause-weight
returns-in-Choice-clause-weight c =
    when_ok c.push_members-in-Choice.result _ _ c.push_members-in-Choice.ensures.weight
    (λ f. rw (f c.args.nodes.now, c.as_slice-in-Choice.ensures) (choice_weight c.args.nodes.now c.args.id c.args.todo.now.items c.args.numbering.now c.index-nodes-id.result c.requires.ordered c.requires.id c.index-nodes-id.is _ c.in-Choice.is))

pub returns-in-Each-clause-outcome : goal.returns-in-Each-clause-outcome
returns-in-Each-clause-outcome c =
    ap (outcome c.args.nodes.now c.args.todo.now.items) (sym (each_entered c.args.nodes.now c.args.id c.args.todo.now.items c.args.numbering.now c.index-nodes-id.result c.requires.ordered c.requires.id c.index-nodes-id.is _ c.in-Each.is))

pub returns-in-Each-clause-weight : goal.returns-in-Each-clause-weight
returns-in-Each-clause-weight c = weight_less c.args.nodes.now c.args.id c.args.todo.now.items c.args.numbering.now

pub returns-in_ok-push-in-Occurs-2-clause-outcome : goal.returns-in_ok-push-in-Occurs-2-clause-outcome
returns-in_ok-push-in-Occurs-2-clause-outcome c =
    occurs_entered c.args.nodes.now c.args.id c.args.todo.now.items c.args.numbering.now c.index-nodes-id.result c.requires.ordered c.requires.id c.index-nodes-id.is _ _ _ _ _ _ _ c.in-Occurs.is
    (flag_read c.args.nodes.now c.args.empty.now c.args.id _ _ c.requires.empty c.requires.id c.if-empty-id.false)
    (rw (c.unwrap_or-more.ensures, c.max.ensures) refl) (c.len.ensures ∙ (c.numbering.inside.numbers.ok.0 ∙ ap (λ s. length (State.numbers s)) c.numbering.view_is)) c.in_ok-push-in-Occurs.ensures.items c.in_ok-push-in-Occurs-2.ensures.items

pub returns-in_ok-push-in-Occurs-2-clause-weight : goal.returns-in_ok-push-in-Occurs-2-clause-weight
returns-in_ok-push-in-Occurs-2-clause-weight c =
    occurs_weight c.args.nodes.now c.args.id c.args.todo.now.items c.args.numbering.now c.index-nodes-id.result c.requires.ordered c.requires.id c.index-nodes-id.is _ _ _ _ _ _ _ c.in-Occurs.is
    c.in_ok-push-in-Occurs.ensures.items c.in_ok-push-in-Occurs-2.ensures.items
