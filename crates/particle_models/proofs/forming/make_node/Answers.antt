use Rattle.std.proofs.Common.{◌∙◌, [], ℕ, List, ◌<◌, length, arith}
use Rattle.std.specs.Prelude.{slice_index_or}
use Rattle.particle_models.specs.declared.node.Node.TheVariants as node
use Rattle.particle_models.specs.Forming.{not_made}
use Rattle.particle_models.proofs.Asking.{asks_read}
use Rattle.particle_models.proofs.Making.{model_read, parts_read, form_made, occurrence_made, occurrence_left}
use Rattle.particle_models.proofs.forming.make_node.Goals as goal

pub form_with-requires-clause-body : goal.form_with-requires-clause-body
form_with-requires-clause-body c =
    let n = node.Occurs c.in-Occurs.part c.in-Occurs.least c.in-Occurs.most in
    let below = parts_read c.args.source.now.nodes.now c.args.number c.index-source-number.result c.requires.nodes c.requires.there c.index-source-number.is n (c.index-source-number.is ∙ c.in-Occurs.is) in
    let low : c.in-Occurs.part < length c.args.made.now = let e = c.requires.number in omega arith in
    (c.requires.made c.in-Occurs.part low).body

pub form_with-requires-clause-once : goal.form_with-requires-clause-once
form_with-requires-clause-once c =
    let st : ℕ → List ℕ = λ n. slice_index_or c.args.source.now.stands_for.now n [] in
    let n = node.Occurs c.in-Occurs.part c.in-Occurs.least c.in-Occurs.most in
    let below = parts_read c.args.source.now.nodes.now c.args.number c.index-source-number.result c.requires.nodes c.requires.there c.index-source-number.is n (c.index-source-number.is ∙ c.in-Occurs.is) in
    let asks = asks_read c.args.source.now.nodes.now c.args.source.now.asked.now c.args.number c.index-source-number.result c.requires.asked c.requires.there c.index-source-number.is n (c.index-source-number.is ∙ c.in-Occurs.is) in
    let low : c.in-Occurs.part < length c.args.made.now = let e = c.requires.number in omega arith in
    rw c.around-bounds.ensures (form_made st c.args.source.now.nodes.now c.args.source.now.asked.now c.args.parts.now.items c.in-Occurs.part (record { least = c.in-Occurs.least; most = c.in-Occurs.most })
    (slice_index_or c.args.made.now c.in-Occurs.part not_made) (c.requires.made c.in-Occurs.part low) asks)

pub returns-in_ok-form-in-Occurs-clause-made : goal.returns-in_ok-form-in-Occurs-clause-made
returns-in_ok-form-in-Occurs-clause-made c =
    let st : ℕ → List ℕ = λ n. slice_index_or c.args.source.now.stands_for.now n [] in
    let n = node.Occurs c.in-Occurs.part c.in-Occurs.least c.in-Occurs.most in
    let is = model_read c.args.source.now.nodes.now c.args.number c.index-source-number.result c.requires.nodes c.requires.there c.index-source-number.is n (c.index-source-number.is ∙ c.in-Occurs.is) in
    let below = parts_read c.args.source.now.nodes.now c.args.number c.index-source-number.result c.requires.nodes c.requires.there c.index-source-number.is n (c.index-source-number.is ∙ c.in-Occurs.is) in
    let low : c.in-Occurs.part < length c.args.made.now = let e = c.requires.number in omega arith in
    rw c.around-bounds.ensures (occurrence_made st c.args.source.now.nodes.now c.args.source.now.asked.now c.args.parts.now.items c.args.number c.in-Occurs.part (record { least = c.in-Occurs.least; most = c.in-Occurs.most })
    (slice_index_or c.args.made.now c.in-Occurs.part not_made) below (c.requires.made c.in-Occurs.part low) is c.form_with.new.parts.items c.in_ok-form-in-Occurs.form (rw c.around-bounds.ensures at c.in_ok-form-in-Occurs.ensures))

pub returns-else-source-number-clause-made : goal.returns-else-source-number-clause-made
returns-else-source-number-clause-made c =
    let st : ℕ → List ℕ = λ n. slice_index_or c.args.source.now.stands_for.now n [] in
    let n = node.Occurs c.in-Occurs.part c.in-Occurs.least c.in-Occurs.most in
    let is = model_read c.args.source.now.nodes.now c.args.number c.index-source-number.result c.requires.nodes c.requires.there c.index-source-number.is n (c.index-source-number.is ∙ c.in-Occurs.is) in
    let below = parts_read c.args.source.now.nodes.now c.args.number c.index-source-number.result c.requires.nodes c.requires.there c.index-source-number.is n (c.index-source-number.is ∙ c.in-Occurs.is) in
    let low : c.in-Occurs.part < length c.args.made.now = let e = c.requires.number in omega arith in
    rw c.around-bounds.ensures (occurrence_left st c.args.source.now.nodes.now c.args.source.now.asked.now c.args.parts.now.items c.args.number c.in-Occurs.part (record { least = c.in-Occurs.least; most = c.in-Occurs.most })
    (slice_index_or c.args.made.now c.in-Occurs.part not_made) below (c.requires.made c.in-Occurs.part low) is c.if-source-number.false)
