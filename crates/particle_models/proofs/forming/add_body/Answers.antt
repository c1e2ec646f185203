use Rattle.std.proofs.Common.{[], ℕ, List, sym, ap, ◌∙◌}
use Rattle.std.specs.Prelude.{IfOk, slice_index_or}
use Rattle.particle_models.specs.Nodes.{model_in}
use Rattle.particle_models.specs.declared.node.Node.TheVariants as node
use Rattle.particle_models.specs.Pointless.{formed}
use Rattle.particle_models.specs.Forming.{IsPart}
use Rattle.particle_models.specs.declared.part.Compositor.TheVariants as compositor
use Rattle.particle_models.proofs.Asking.{asks_read}
use Rattle.particle_models.proofs.Making.{model_read, parts_read, grouped}
use Rattle.particle_models.proofs.forming.add_body.Goals as goal

pub returns-in-Term : goal.returns-in-Term
returns-in-Term c =
    let st : ℕ → List ℕ = λ n. slice_index_or c.args.source.now.stands_for.now n [] in
    let is = model_read c.args.source.now.nodes.now c.args.body c.index-source-body.result c.requires.nodes c.requires.there c.index-source-body.is (node.Term c.in-Term.particle) (c.index-source-body.is ∙ c.in-Term.is) in
    rw (ap (λ p. formed st p c.args.bounds) is) (rw c.terms_of.ensures at c.add_term.ensures)

pub returns-in_ok-below-in-Sequence : goal.returns-in_ok-below-in-Sequence
returns-in_ok-below-in-Sequence c =
    let st : ℕ → List ℕ = λ n. slice_index_or c.args.source.now.stands_for.now n [] in
    let n = node.Sequence c.in-Sequence.members in
    let is = model_read c.args.source.now.nodes.now c.args.body c.index-source-body.result c.requires.nodes c.requires.there c.index-source-body.is n (c.index-source-body.is ∙ c.in-Sequence.is) in
    let low = parts_read c.args.source.now.nodes.now c.args.body c.index-source-body.result c.requires.nodes c.requires.there c.index-source-body.is n (c.index-source-body.is ∙ c.in-Sequence.is) in
    let asks = asks_read c.args.source.now.nodes.now c.args.source.now.asked.now c.args.body c.index-source-body.result c.requires.asked c.requires.there c.index-source-body.is n (c.index-source-body.is ∙ c.in-Sequence.is) in
    let trees = rw (c.deref.ensures.value, c.as_slice.ensures) at c.in_ok-below-in-Sequence.ensures.trees in
    rw (ap (λ p. formed st p c.args.bounds) is ∙ grouped st c.args.source.now.nodes.now c.args.source.now.asked.now c.args.parts.now.items c.args.made.now compositor.Sequence c.args.bounds c.args.body c.in-Sequence.members c.in_ok-below-in-Sequence.below.items
    c.requires.made c.requires.below low asks trees) c.add_group.ensures

pub returns-in_ok-below-in-Choice : goal.returns-in_ok-below-in-Choice
returns-in_ok-below-in-Choice c =
    let st : ℕ → List ℕ = λ n. slice_index_or c.args.source.now.stands_for.now n [] in
    let n = node.Choice c.in-Choice.members in
    let is = model_read c.args.source.now.nodes.now c.args.body c.index-source-body.result c.requires.nodes c.requires.there c.index-source-body.is n (c.index-source-body.is ∙ c.in-Choice.is) in
    let low = parts_read c.args.source.now.nodes.now c.args.body c.index-source-body.result c.requires.nodes c.requires.there c.index-source-body.is n (c.index-source-body.is ∙ c.in-Choice.is) in
    let asks = asks_read c.args.source.now.nodes.now c.args.source.now.asked.now c.args.body c.index-source-body.result c.requires.asked c.requires.there c.index-source-body.is n (c.index-source-body.is ∙ c.in-Choice.is) in
    let trees = rw (c.deref-in-Choice.ensures.value, c.as_slice-in-Choice.ensures) at c.in_ok-below-in-Choice.ensures.trees in
    rw (ap (λ p. formed st p c.args.bounds) is ∙ grouped st c.args.source.now.nodes.now c.args.source.now.asked.now c.args.parts.now.items c.args.made.now compositor.Choice c.args.bounds c.args.body c.in-Choice.members c.in_ok-below-in-Choice.below.items
    c.requires.made c.requires.below low asks trees) c.add_group-in-Choice.ensures

pub returns-in_ok-below-in-Each : goal.returns-in_ok-below-in-Each
returns-in_ok-below-in-Each c =
    let st : ℕ → List ℕ = λ n. slice_index_or c.args.source.now.stands_for.now n [] in
    let n = node.Each c.in-Each.members in
    let is = model_read c.args.source.now.nodes.now c.args.body c.index-source-body.result c.requires.nodes c.requires.there c.index-source-body.is n (c.index-source-body.is ∙ c.in-Each.is) in
    let low = parts_read c.args.source.now.nodes.now c.args.body c.index-source-body.result c.requires.nodes c.requires.there c.index-source-body.is n (c.index-source-body.is ∙ c.in-Each.is) in
    let asks = asks_read c.args.source.now.nodes.now c.args.source.now.asked.now c.args.body c.index-source-body.result c.requires.asked c.requires.there c.index-source-body.is n (c.index-source-body.is ∙ c.in-Each.is) in
    let trees = rw (c.deref-in-Each.ensures.value, c.as_slice-in-Each.ensures) at c.in_ok-below-in-Each.ensures.trees in
    rw (ap (λ p. formed st p c.args.bounds) is ∙ grouped st c.args.source.now.nodes.now c.args.source.now.asked.now c.args.parts.now.items c.args.made.now compositor.All c.args.bounds c.args.body c.in-Each.members c.in_ok-below-in-Each.below.items
    c.requires.made c.requires.below low asks trees) c.add_group-in-Each.ensures
