-- The flags of nodes, as the walk reads them.
use Rattle.std.proofs.Common.{◌≡◌, ℕ, ◌<◌, Bool, List, [], map, length, get_or, sym, ap, ◌∙◌, arith}
use Rattle.std.specs.Prelude.{Result, Ok, Err, OnOk, All}
use Rattle.std.proofs.lemmas.List.{get_or-map, length-map}
use Rattle.particle_models.specs.Particles.{choice, none}
use Rattle.particle_models.specs.Nodes.{models_from, model_in, PartsBelow, IsOrdered}
use Rattle.particle_models.specs.Numbering.{has_no_terms}
use Rattle.particle_models.specs.declared.node.Node.{Node}
use Rattle.particle_models.specs.declared.node.Node.TheVariants.{Sequence, Choice}
use Rattle.particle_models.proofs.Growing.{length-models_of_all}

pub empty_bound : (nodes : List Node) (empty : List Bool) (id : ℕ) → empty ≡ map has_no_terms (models_from [] nodes) → id < length nodes → id < length empty
empty_bound nodes empty id e l =
    let a = ap length e in let b = length-map (models_from [] nodes) has_no_terms in let c = length-models_of_all nodes in omega arith

pub flag_read : (nodes : List Node) (empty : List Bool) (id : ℕ) (b d : Bool) → empty ≡ map has_no_terms (models_from [] nodes) → id < length nodes → get_or empty id d ≡ b → has_no_terms (model_in nodes id) ≡ b
flag_read nodes empty id b d e l h =
    let c = length-models_of_all nodes in
    sym (get_or-map has_no_terms (models_from [] nodes) id (choice none) d (omega arith)) ∙ (sym (ap (λ fs. get_or fs id d) e) ∙ h)

pub on_ok : {A E : Type 0} (r : Result A E) (P : Type 0) → P → OnOk r P
on_ok (Ok x) P p = p
on_ok (Err e) P p = tt

pub when_ok : {A E : Type 0} (r : Result A E) (P Q : Type 0) → OnOk r P → (P → Q) → OnOk r Q
when_ok (Ok x) P Q p f = f p
when_ok (Err e) P Q p f = tt

module _ (nodes : List Node) (id : ℕ) (node : Node) (ordered : IsOrdered nodes) (l : id < length nodes) (is : node ≡ get_or nodes id node) where
  parts : (other : Node) → node ≡ other → PartsBelow id other
  parts other e = let b = ordered id node l in let k : get_or nodes id node ≡ other = sym is ∙ e in rw k at b

  weaker : (members slice : List ℕ) → slice ≡ members → All (λ m. m < id) members → All (λ m. m < length nodes) slice
  weaker members slice e below k d b = let c : k < length members = (let a = ap length e in omega arith) in rw e (let x = below k d c in omega arith)

  pub sequence_within : (members slice : List ℕ) → node ≡ Sequence members → slice ≡ members → All (λ m. m < length nodes) slice
  sequence_within members slice e same = weaker members slice same (parts (Sequence members) e)

  pub choice_within : (members slice : List ℕ) → node ≡ Choice members → slice ≡ members → All (λ m. m < length nodes) slice
  choice_within members slice e same = weaker members slice same (parts (Choice members) e)
