-- What a model is unrolled to.
use Rattle.std.proofs.Common.{◌≡◌, ℕ, Bool, List, [], length, ap, subst, ◌∙◌, arith}
use Rattle.xs_positions.specs.Tree.{Tree}
use Rattle.xs_positions.specs.Positions.{Table, ArePositionsOf}
use Rattle.particle_models.specs.Particles.{Particle}
use Rattle.particle_models.specs.Sharing.{shared, numbers_of, terms_of}
use Rattle.particle_models.specs.Numbering.{State}
use Rattle.particle_models.specs.Model.{UnrolledModel, IsUnrolled}
use Rattle.particle_models.proofs.Alike.{renumbered, alike}
use Rattle.particle_models.proofs.Rooting.{terms_are}

module _ (inhabited : ℕ → Bool) (p : Particle) (tree : Tree) (table : Table) (is : tree ≡ shared inhabited p) (are : ArePositionsOf tree table)
    (numbers terms : List ℕ) (numbering : State) (inside : (let s : State = record { numbers = numbers; terms = terms } in s) ≡ numbering)
    (done : numbering ≡ record { numbers = numbers_of p 0; terms = terms_of p }) where
  numbers_are : numbers ≡ numbers_of p 0
  numbers_are = ap (λ s. State.numbers s) (inside ∙ done)

  positions : ArePositionsOf (shared inhabited p) table
  positions = subst (λ (t : Tree). ArePositionsOf t table) is are

  pub is_unrolled : IsUnrolled inhabited p (let u : UnrolledModel = record { terms = terms; table = record table { symbols = numbers } } in u)
  is_unrolled = record {
    terms = ap (λ s. State.terms s) (inside ∙ done) ∙ terms_are p [];
    positions = renumbered inhabited p table positions numbers numbers_are;
  }

  pub numbers_count : length numbers ≡ length table.symbols
  numbers_count =
      let a = (renumbered inhabited p table positions numbers numbers_are).count in let b = positions.count in let c = (alike inhabited p 0).sizes in omega arith
