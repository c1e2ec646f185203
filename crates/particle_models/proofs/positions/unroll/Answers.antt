use Rattle.std.proofs.Common.{arith}
use Rattle.particle_models.specs.Nodes.{model_in}
use Rattle.particle_models.specs.Unrolled.{positions_of}
use Rattle.particle_models.specs.Sharing.{inhabited_of}
use Rattle.particle_models.proofs.Rooting.{ids_count, root_size, root_tree, too_many_is, few_is, not_too_many, terms_fit}
use Rattle.particle_models.proofs.Outcome.{is_unrolled, numbers_count}
use Rattle.particle_models.proofs.positions.unroll.Goals as goal

pub index-root_id-requires : goal.index-root_id-requires
index-root_id-requires c =
    let n = ids_count (inhabited_of c.args.inhabited.now) c.args.nodes.now c.in_ok-shared.shared.expr c.in_ok-shared.shared.ids.items c.in_ok-shared.ensures.trees in
    let m = c.in_ok-shared.shared.ids.ok.0 in let l = c.requires.root in omega arith

pub find_positions-requires : goal.find_positions-requires
find_positions-requires c =
    let n = ids_count (inhabited_of c.args.inhabited.now) c.args.nodes.now c.in_ok-shared.shared.expr c.in_ok-shared.shared.ids.items c.in_ok-shared.ensures.trees in
    rw c.index-root_id.ensures (c.in_ok-shared.ensures.ids c.args.root _ (let l = c.requires.root in omega arith))

pub returns-in-Err-clause-too_many : goal.returns-in-Err-clause-too_many
returns-in-Err-clause-too_many c =
    too_many_is c.in_ok-positions.field-0 c.in-Err.error _ (positions_of (model_in c.args.nodes.now c.args.root)) c.in-Err.is c.in_ok-positions.ensures.too_many
    (root_size (inhabited_of c.args.inhabited.now) c.args.nodes.now c.in_ok-shared.shared.expr c.in_ok-shared.shared.ids.items c.in_ok-shared.ensures.trees c.args.root _ c.requires.root c.index-root_id.ensures)

pub number_terms-requires-clause-fits : goal.number_terms-requires-clause-fits
number_terms-requires-clause-fits c =
    terms_fit (model_in c.args.nodes.now c.args.root) (few_is c.in_ok-positions.field-0 c.in-Ok.positions _ (positions_of (model_in c.args.nodes.now c.args.root)) c.in-Ok.is c.in_ok-positions.ensures.too_many
    (root_size (inhabited_of c.args.inhabited.now) c.args.nodes.now c.in_ok-shared.shared.expr c.in_ok-shared.shared.ids.items c.in_ok-shared.ensures.trees c.args.root _ c.requires.root c.index-root_id.ensures))

pub invariant_of-result : goal.invariant_of-result
invariant_of-result c =
    numbers_count (inhabited_of c.args.inhabited.now) (model_in c.args.nodes.now c.args.root) _ c.in-Ok.positions
    (root_tree (inhabited_of c.args.inhabited.now) c.args.nodes.now c.in_ok-shared.shared.expr c.in_ok-shared.shared.ids.items c.in_ok-shared.ensures.trees c.args.root _ c.requires.root c.index-root_id.ensures)
    (rw c.in-Ok.is at c.in_ok-positions.ensures.found) c.numbering.inside.numbers.items c.numbering.inside.terms.items c.in_ok-numbering.numbering c.numbering.view_is c.in_ok-numbering.ensures

pub returns-clause-unrolled : goal.returns-clause-unrolled
returns-clause-unrolled c =
    is_unrolled (inhabited_of c.args.inhabited.now) (model_in c.args.nodes.now c.args.root) _ c.in-Ok.positions
    (root_tree (inhabited_of c.args.inhabited.now) c.args.nodes.now c.in_ok-shared.shared.expr c.in_ok-shared.shared.ids.items c.in_ok-shared.ensures.trees c.args.root _ c.requires.root c.index-root_id.ensures)
    (rw c.in-Ok.is at c.in_ok-positions.ensures.found) c.numbering.inside.numbers.items c.numbering.inside.terms.items c.in_ok-numbering.numbering c.numbering.view_is c.in_ok-numbering.ensures

pub returns-clause-too_many : goal.returns-clause-too_many
returns-clause-too_many c =
    not_too_many (positions_of (model_in c.args.nodes.now c.args.root)) (few_is c.in_ok-positions.field-0 c.in-Ok.positions _ (positions_of (model_in c.args.nodes.now c.args.root)) c.in-Ok.is c.in_ok-positions.ensures.too_many
    (root_size (inhabited_of c.args.inhabited.now) c.args.nodes.now c.in_ok-shared.shared.expr c.in_ok-shared.shared.ids.items c.in_ok-shared.ensures.trees c.args.root _ c.requires.root c.index-root_id.ensures))
