use Rattle.std.proofs.Common.{[], ◌∙◌, ap, slice_index_or}
use Rattle.particle_models.specs.Nodes.{model_in}
use Rattle.particle_forms.specs.Models.{model_of}
use Rattle.particle_models.specs.Parts.{form_in}
use Rattle.derive_models.specs.Standing.{stands_for}
use Rattle.derive_models.proofs.FormLaws.{form-moved}
use Rattle.derive_models.proofs.forms.particle_form.Goals as goal

pub returns-clause-tree : goal.returns-clause-tree
returns-clause-tree c = λ members are.
    form-moved (λ n. slice_index_or c.args.stands_for.now n []) (stands_for c.args.parts.now members) are (λ form. form_in form.parts.items form.root)
    (model_in c.deref.result.now c.in_ok-model.model.root) (model_of c.args.parts.now c.args.p)
    (ap (λ ns. model_in ns c.in_ok-model.model.root) c.deref.ensures.value ∙ c.in_ok-model.ensures.model)
    c.without_pointless.result c.without_pointless.ensures.tree
