use Rattle.std.proofs.Common.{ℕ, List, sym, subst}
use Rattle.std.specs.Prelude.{All, Contains}
use Rattle.particle_forms.specs.Made.{parts_of}
use Rattle.particle_forms.proofs.model.model_nodes.Goals as goal

pub nodes_of-requires-clause-closed : goal.nodes_of-requires-clause-closed
nodes_of-requires-clause-closed c =
    subst (λ (ids : List ℕ). (id : ℕ) → Contains ids id → All (Contains ids) (parts_of c.args.parts.now id)) (sym c.deref.ensures.value) c.in_ok-order.ensures.all.closed
