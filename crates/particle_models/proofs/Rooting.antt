-- The expression and the terms of the node that is unrolled.
use Rattle.std.proofs.Common.{◌≡◌, ℕ, zero, suc, ◌*◌, ◌<◌, ◌≤◌, ◌^◌, ◌↔◌, None, Some, max, Bool, true, false, List, [], ◌∷◌, ◌++◌, map, length, get_or, refl, sym, ap, ◌∙◌, inl, inr, arith}
use Rattle.std.specs.Prelude.{Result, Ok, Err, IsErr}
use Rattle.std.proofs.Math.Nat.{mul-le-mul_right}
use Rattle.std.proofs.lemmas.Bool.{false≢true, cases_lt}
use Rattle.std.proofs.lemmas.List.{length-map, get_or-map, map-append}
use Rattle.xs_positions.specs.Tree.{Tree, nothing, size}
use Rattle.xs_positions.specs.Nodes.{tree_at}
use Rattle.particle_models.specs.Particles.{Particle, Particles, Place, Path, term, sequence, choice, all_of, occurs, none, member}
use Rattle.particle_models.specs.Unrolled.{places, places_in, count, count_in, positions_of, positions_in}
use Rattle.particle_models.specs.Nodes.{models_from, model_in}
use Rattle.particle_models.specs.Sharing.{shared, terms_of, terms_in}
use Rattle.particle_models.specs.declared.node.Node.{Node}
use Rattle.particle_models.proofs.Growing.{length-models_of_all}
use Rattle.particle_models.proofs.Walking.{length_terms}
use Rattle.particle_models.proofs.Alike.{shared_size}

-- each term that has copies has at least one
mutual
  copied : (p : Particle) → count p ≤ positions_of p
  copied (term number) = omega arith
  copied (sequence members) = copied_in members
  copied (choice members) = copied_in members
  copied (all_of members) = omega arith
  copied (occurs least None part) =
      let a = copied part in let b : 1 * positions_of part ≤ max least 1 * positions_of part = mul-le-mul_right (positions_of part) (let c : 1 ≤ max least 1 = omega arith in c) in omega arith
  copied (occurs least (Some zero) part) = omega arith
  copied (occurs least (Some (suc most)) part) =
      let a = copied part in let b : 1 * positions_of part ≤ suc most * positions_of part = mul-le-mul_right (positions_of part) (let c : 1 ≤ suc most = omega arith in c) in omega arith

  copied_in : (ps : Particles) → count_in ps ≤ positions_in ps
  copied_in none = omega arith
  copied_in (member first rest) = let a = copied first in let b = copied_in rest in omega arith

pub terms_fit : (p : Particle) → positions_of p ≤ 2048 → length (terms_of p) < 2 ^ 32
terms_fit p l = let a = copied p in let b = length_terms p in omega arith

both : (a b c d : List ℕ) → a ≡ c → b ≡ d → a ++ b ≡ c ++ d
both a b c d e f = ap (λ x. x ++ b) e ∙ ap (λ x. c ++ x) f

-- the terms are those of the places
mutual
  pub terms_are : (p : Particle) (path : Path) → terms_of p ≡ map (λ (place : Place). place.number) (places p path)
  terms_are (term number) path = refl
  terms_are (sequence members) path = terms_are_in members path 0
  terms_are (choice members) path = terms_are_in members path 0
  terms_are (all_of members) path = refl
  terms_are (occurs least None part) path = terms_are part path
  terms_are (occurs least (Some zero) part) path = refl
  terms_are (occurs least (Some (suc most)) part) path = terms_are part path

  terms_are_in : (ps : Particles) (path : Path) (i : ℕ) → terms_in ps ≡ map (λ (place : Place). place.number) (places_in ps path i)
  terms_are_in none path i = refl
  terms_are_in (member first rest) path i =
      both (terms_of first) (terms_in rest) _ _ (terms_are first (path ++ i ∷ [])) (terms_are_in rest path (suc i)) ∙
      sym (map-append (λ (place : Place). place.number) (places first (path ++ i ∷ [])) (places_in rest path (suc i)))

module _ (inhabited : ℕ → Bool) (nodes : List Node) (trees : List Tree) (ids : List ℕ) (same : map (tree_at trees) ids ≡ map (shared inhabited) (models_from [] nodes)) where
  pub ids_count : length ids ≡ length nodes
  ids_count =
      let a = ap length same in let b = length-map ids (tree_at trees) in let c = length-map (models_from [] nodes) (shared inhabited) in let d = length-models_of_all nodes in omega arith

  module _ (root id : ℕ) (l : root < length nodes) (is : id ≡ get_or ids root id) where
    pub root_tree : tree_at trees id ≡ shared inhabited (model_in nodes root)
    root_tree =
        let n = ids_count in let d = length-models_of_all nodes in
        ap (tree_at trees) is ∙ (sym (get_or-map (tree_at trees) ids root id nothing (omega arith)) ∙ (ap (λ ts. get_or ts root nothing) same ∙
        get_or-map (shared inhabited) (models_from [] nodes) root (choice none) nothing (omega arith)))

    pub root_size : size (tree_at trees id) ≡ positions_of (model_in nodes root)
    root_size = ap size root_tree ∙ shared_size inhabited (model_in nodes root)

pub too_many_is : {A E : Type 0} (r : Result A E) (e : E) (size count : ℕ) → r ≡ Err e → IsErr r ↔ (2048 < size) → size ≡ count → (true ≡ true → 2048 < count) × (2048 < count → true ≡ true)
too_many_is r e size count is h same = ((λ x. rw (← same) (h.0 (rw is refl))), (λ x. refl))

pub few_is : {A E : Type 0} (r : Result A E) (x : A) (size count : ℕ) → r ≡ Ok x → IsErr r ↔ (2048 < size) → size ≡ count → count ≤ 2048
few_is r x size count is h same = let n : (2048 < size → ⊥) = (λ l. let y : false ≡ true = rw is at (h.1 l) in false≢true y) in few size count n same
  where
    few : (size count : ℕ) → (2048 < size → ⊥) → size ≡ count → count ≤ 2048
    few size count n e = elim (cases_lt 2048 size) [
      | inl l ↦ absurd (n l)
      | inr l ↦ omega arith
    ]

pub not_too_many : (count : ℕ) → count ≤ 2048 → (false ≡ true → 2048 < count) × (2048 < count → false ≡ true)
not_too_many count l = ((λ e. absurd (false≢true e)), (λ m. absurd (omega arith)))
