use Rattle.std.proofs.Common.{◌≡◌, ◌∙◌, ℕ, List, sym, ap, subst, false, slice_index_or}
use Rattle.std.specs.Prelude.{All, Contains, IsSome, nat_eq}
use Rattle.std.specs.HashMap.{get}
use Rattle.std.proofs.lemmas.List.Elements.{All-contains}
use Rattle.particle_models.specs.Nodes.{model_in}
use Rattle.particle_models.specs.Sharing.{inhabited_of}
use Rattle.particle_forms.specs.Models.{model_of}
use Rattle.particle_forms.specs.Made.{parts_of, number_at}
use Rattle.particle_forms.proofs.NodeLaws.{known-at}
use Rattle.particle_forms.proofs.UnrollLaws.{unrolled-moved}
use Rattle.particle_forms.proofs.unrolling.unroll_by.Goals as goal

pub nodes_of-requires-clause-closed : goal.nodes_of-requires-clause-closed
nodes_of-requires-clause-closed c =
    subst (λ (ids : List ℕ). (id : ℕ) → Contains ids id → All (Contains ids) (parts_of c.args.parts.now id)) (sym c.deref.ensures.value) c.in_ok-order.ensures.all.closed

pub returns-clause-unrolled : goal.returns-clause-unrolled
returns-clause-unrolled c = λ flags same.
    let number = get nat_eq c.in_ok-made.made.numbers in
    let found = All-contains (λ id. IsSome (get nat_eq c.in_ok-made.made.numbers id)) c.deref.result.now c.args.p c.in_ok-made.ensures.known
    (subst (λ (ids : List ℕ). Contains ids c.args.p) (sym c.deref.ensures.value) c.in_ok-order.ensures.all.itself) in
    let known = known-at c.args.parts.now (get nat_eq c.in_ok-made.made.numbers) c.in_ok-made.made.nodes.items c.in_ok-made.ensures.right c.args.p found in
    let model : model_in c.deref-2.result.now c.number_of-root.result ≡ model_of c.args.parts.now c.args.p =
    ap (model_in c.deref-2.result.now) c.number_of-root.ensures ∙ (ap (λ ns. model_in ns (number_at (get nat_eq c.in_ok-made.made.numbers) c.args.p)) c.deref-2.ensures.value ∙ known.1) in
    unrolled-moved (inhabited_of c.deref-3.result.now) flags (λ id. ap (λ fs. slice_index_or fs id false) (c.deref-3.ensures.value ∙ c.inhabited.view_is) ∙ same id)
    (model_in c.deref-2.result.now c.number_of-root.result) (model_of c.args.parts.now c.args.p) model c.unroll.result c.unroll.ensures.unrolled
